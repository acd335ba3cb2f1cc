use Rattle.std.proofs.Common.{◌≡◌, ◌+◌, ◌*◌, ◌-◌, drop, get_or, sym, ◌∙◌, arith, cond, Some, None, ap}
use Rattle.edn_reader.specs.Integer.{is_suffix, digits_after}
use Rattle.edn_reader.proofs.Stretches.{from_index}
use Rattle.edn_reader.proofs.Integers.{digits_go, digits_stop, digits_past, digits_grow, digits_done}
use Rattle.edn_reader.proofs.integer.digits.Goals as goal
use Rattle.edn_reader.proofs.integer.digits.Goals.{then-loop-at-test+else-is_digit, else-loop-at-test}

pub returns-then-value-gt-TENTH : goal.returns-then-value-gt-TENTH
returns-then-value-gt-TENTH c n e =
    let xs = c.args.bytes.now in
    let i = c.loop-at.at in
    let further : digits_after (10 * c.loop-at.value + (get_or xs i 0 - 48)) (drop (i + 1) xs) ≡ Some n =
    sym (digits_go xs i c.loop-at.value c.loop-at-test.true (sym c.is_digit.ensures ∙ c.if-is_digit.true)) ∙ c.loop-at.invariant.same ∙ e in
    omega (arith, digits_grow (drop (i + 1) xs) (10 * c.loop-at.value + (get_or xs i 0 - 48)) n further)

pub returns-then-is_suffix : goal.returns-then-is_suffix
returns-then-is_suffix c =
    let xs = c.args.bytes.now in
    let i = c.loop-at.at in
    let stopped : digits_after c.loop-at.value (drop i xs) ≡ cond (is_suffix (drop i xs)) (Some c.loop-at.value) None =
    elim c.loop-at-test.branch [
      | then-loop-at-test+else-is_digit w ↦ digits_stop xs i c.loop-at.value w.loop-at-test.true (sym w.is_digit.ensures ∙ w.if-is_digit.false)
      | else-loop-at-test w ↦ digits_past xs i c.loop-at.value w.loop-at-test.false
    ] in
    sym c.loop-at.invariant.same ∙ digits_done xs i c.loop-at.value c.is_suffix.result (c.is_suffix.ensures ∙ ap is_suffix (from_index xs i)) c.if-is_suffix.true stopped
