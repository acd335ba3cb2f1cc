use Rattle.std.proofs.Common.{rules, ◌≡◌, ℕ, length, subst}
use Rattle.places.specs.Copied.{IsCopyOf}
use Rattle.places.proofs.Copied.{one_more}
use Rattle.places.proofs.copying.Copies.into_kept.Goals as goal

pub loop-copy-preserved : goal.loop-copy-preserved
loop-copy-preserved g c =
    let one = c.in_ok-kept_of.field-0 in
    let number : c.len.result ≡ length c.loop-copy.kept.items = search rules in
    record {
      copies = one_more g.B.Originals.texts c.loop-copy.kept.items one c.push.new.self.items c.loop-copy.invariant.copies (subst (λ (number : ℕ). IsCopyOf g.B.Originals.texts number one.bytes.items one.ended) number c.in_ok-kept_of.ensures) c.in_ok-push.ensures.items;
      many = search rules;
    }
