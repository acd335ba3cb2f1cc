use Rattle.std.proofs.Common.{List, ℕ, inr, sym, subst}
use Rattle.edn_reader.specs.Grammar.{ElementModel}
use Rattle.edn_reader.specs.Lent.{piece_of}
use Rattle.tower_file.specs.Located.{pairs_under, IsAtKey, IsInValue}
use Rattle.tower_file.proofs.Locating.{at_once, at_other}
use Rattle.tower_file.proofs.locate.in_register.Goals as goal

pub returns-in-Once : goal.returns-in-Once
returns-in-Once c =
    let m = c.in-Some.ensures.some in
    let IsIn = IsInValue c.args.first c.args.registers.now c.args.fault in
    inr (
      m.0,
      m.1,
      subst (λ (key : List ℕ). IsAtKey IsIn (piece_of c.args.element.now) (pairs_under key m.0) (piece_of c.in_value.result)) c.key_of-key.ensures
          (at_once IsIn (piece_of c.args.element.now) (pairs_under c.key_of-key.result.now m.0) c.field.result c.in-Once.value (piece_of c.in_value.result) c.in-Once.is (c.field.ensures.values m.0 m.2) c.in_value.ensures),
    )

pub returns-in-Absent : goal.returns-in-Absent
returns-in-Absent c =
    let m = c.in-Some.ensures.some in
    let IsIn = IsInValue c.args.first c.args.registers.now c.args.fault in
    let whole = piece_of c.args.element.now in
    let found = at_other IsIn whole (pairs_under c.key_of-key.result.now m.0) c.field.result c.in-Absent.is (c.field.ensures.values m.0 m.2) in
    inr (
      m.0,
      m.1,
      subst (λ (key : List ℕ). IsAtKey IsIn whole (pairs_under key m.0) (piece_of c.at_key.result)) c.key_of-key.ensures
          (subst (λ (wrong : ElementModel). IsAtKey IsIn whole (pairs_under c.key_of-key.result.now m.0) wrong) (sym (c.at_key.ensures m.0 m.2)) found),
    )
