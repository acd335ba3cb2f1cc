use Rattle.std.proofs.Common.{◌≡◌, ℕ, List, Option, [], ◌∷◌, map, subst, rules}
use Rattle.jepsen_form.specs.declared.item.MomentField.TheVariants.{Index}
use Rattle.tower_file.specs.Alone.{alone_tower}
use Rattle.tower_file.specs.Contents.{TowerModel}
use Rattle.feeders.specs.Readers.{AreReadOf}
use Rattle.logs.specs.Run.{IsRun}
use Rattle.check_command.proofs.Alone.{Says, audited_as_read}
use Rattle.check_command.proofs.one_register.audit_trace.Goals as goal

pub returns-clause-audit : goal.returns-clause-audit
returns-clause-audit g c =
    let closed = c.in-Ok-run.run'.closed in
    let logs = c.in-Ok-run.run'.logs.items in
    let left = g.S.Read.remaining c.args.reader in
    let fed = c.in-Ok-run.ensures.run in
    let says : Says closed logs c.verdict_of-audit.result = record {
      kind = c.verdict_of-audit.ensures.kind;
      holds = c.verdict_of-audit.ensures.holds;
      operations = c.verdict_of-audit.ensures.operations;
      refused = c.verdict_of-audit.ensures.refused;
      broken = c.verdict_of-audit.ensures.broken;
    } in
    let tower_is : c.in-Some.tower ≡ alone_tower = search rules in
    let alone : map g.S.Read.remaining c.push_reserved.new.self.items ≡ left ∷ [] = search rules in
    let read : AreReadOf (left ∷ []) logs fed.0 = subst (λ (l : List (Option (List ℕ))). AreReadOf l logs fed.0) alone fed.1 in
    let run : IsRun alone_tower Index 1 fed.0 closed logs = subst (λ (t : TowerModel). IsRun t Index 1 fed.0 closed logs) tower_is fed.2 in
    audited_as_read c.what_is_present_after_all_edits.ensures c.texts_decide_nothing.ensures.reply c.texts_decide_nothing.ensures.standing c.texts_decide_nothing.ensures.alike left fed.0 closed logs c.verdict_of-audit.result read run says
