use Rattle.std.proofs.Common.{◌<◌, length, string_bytes, arith}
use Rattle.report.specs.Listing.{tower_lines}
use Rattle.report.proofs.Listings.{one_more}
use Rattle.report.proofs.listing.tower_text.Goals as goal

pub loop-number-preserved : goal.loop-number-preserved
loop-number-preserved c =
    let tower = c.args.tower.now in
    let within : c.loop-number.number < length tower.registers = omega (arith, c.loop-number-test.true, c.len-number-end.ensures.length) in
    record {
      number = omega (arith, within);
      lines = one_more tower.levels c.loop-number.number tower.registers (string_bytes c.loop-number.text) (string_bytes c.push_register.new.text) (tower_lines tower) within c.in_ok-push_register.ensures c.loop-number.invariant.lines;
    }
