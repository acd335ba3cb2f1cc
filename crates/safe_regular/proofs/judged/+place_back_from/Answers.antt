use Rattle.std.proofs.Common.{◌-◌, ◌<◌, false, length, arith}
use Rattle.safe_regular.specs.declared.judged.JudgedRead.{JudgedRead}
use Rattle.safe_regular.proofs.Rows.{at_default, from_one_before, place_here}
use Rattle.safe_regular.proofs.judged.+place_back_from.Goals as goal

abbrev spare : JudgedRead
spare = record { end = record { 0 = 0 }; id = record { feeder = 0; event = 0 }; wrong = false }

pub returns-then-rows-at-clause-place : goal.returns-then-rows-at-clause-place
returns-then-rows-at-clause-place t c up from =
    place_here c.args.number c.args.rows.now c.args.at c.requires.within up from (λ d some.
    let within = c.requires.within in
    let lt : c.args.at - 1 < length c.args.rows.now = omega (arith, within, some) in
    let same = at_default c.args.rows.now (c.args.at - 1) spare d lt in
    let less = c.if-rows-at.true in
    omega (arith, same, less))

pub returns-clause-place : goal.returns-clause-place
returns-clause-place t c up from =
    let within = c.requires.within in
    let not = c.if-at-eq0.false in
    let some : 0 < c.args.at = omega (arith, not) in
    let lt : c.args.at - 1 < length c.args.rows.now = omega (arith, within, some) in
    c.place_back_from.ensures.place up (from_one_before c.args.number c.args.rows.now c.args.at some (λ d.
    let same = at_default c.args.rows.now (c.args.at - 1) spare d lt in
    let up_to = c.if-rows-at.false in
    omega (arith, same, up_to)) from)
