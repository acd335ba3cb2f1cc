use Rattle.std.proofs.Common.{◌≡◌, ◌+◌, ◌++◌, ℕ, IfSome, Option, Some, length, subst, take}
use Rattle.places.specs.Copied.{IsGiving}
use Rattle.places.proofs.Copied.{comes_next, counted_on, has_kept, has_read, uncounted}
use Rattle.places.proofs.copying.CopyingRead.read.Goals as goal

pub invariant_of-self : goal.invariant_of-self
invariant_of-self g c =
    has_kept g.B.Originals.texts c.self.inside.number c.self.inside.given (g.S.Read.remaining c.self.inside.reader) (g.S.Read.remaining c.read.new.self) c.self.invariant
    c.in_err-count.ensures.bytes

pub keep-self-inside-requires : goal.keep-self-inside-requires
keep-self-inside-requires g c =
    let giving = subst (λ (given : Option ℕ). IsGiving g.B.Originals.texts c.self.inside.number given (g.S.Read.remaining c.self.inside.reader)) c.in-Some.is c.self.invariant in
    record {
      next = comes_next g.B.Originals.texts c.self.inside.number c.in-Some.given (take c.in_ok-count.count c.read.new.buf) c.is_end-ended.result (g.S.Read.remaining c.self.inside.reader) (g.S.Read.remaining c.read.new.self)
          giving c.in_ok-count.ensures.bytes.0 (λ ended. let end = c.is_end-ended.ensures ended in c.in_ok-count.ensures.bytes.1 end.0 end.1);
    }

pub invariant_of-self-in-Some : goal.invariant_of-self-in-Some
invariant_of-self-in-Some g c =
    let giving = subst (λ (given : Option ℕ). IsGiving g.B.Originals.texts c.self.inside.number given (g.S.Read.remaining c.self.inside.reader)) c.in-Some.is c.self.invariant in
    let many : IfSome c.keep-self-inside.result (λ many. many ≡ c.in-Some.given + length (take c.in_ok-count.count c.read.new.buf)) = search in
    has_read g.B.Originals.texts c.self.inside.number (Some c.in-Some.given) c.keep-self-inside.result (take c.in_ok-count.count c.read.new.buf) (g.S.Read.remaining c.self.inside.reader) (g.S.Read.remaining c.read.new.self)
    giving c.in_ok-count.ensures.bytes.0 (counted_on c.in-Some.given c.keep-self-inside.result (take c.in_ok-count.count c.read.new.buf) many)

pub invariant_of-self-in_default : goal.invariant_of-self-in_default
invariant_of-self-in_default g c =
    has_read g.B.Originals.texts c.self.inside.number c.self.inside.given c.self.inside.given (take c.in_ok-count.count c.read.new.buf) (g.S.Read.remaining c.self.inside.reader) (g.S.Read.remaining c.read.new.self)
    c.self.invariant c.in_ok-count.ensures.bytes.0 (λ before was. uncounted c.self.inside.given (λ many. length (before ++ take c.in_ok-count.count c.read.new.buf) ≡ many) c.in_default.not-Some)
