use Rattle.std.proofs.Common.{◌≡◌, true, false, rules}
use Rattle.zones.proofs.zone_in.zone_in.Goals as goal

pub returns-then-is_written : goal.returns-then-is_written
returns-then-is_written c ops value are =
    let h : c.is_written.result ≡ true = search rules in
    record {
      zone = c.zone_of.ensures ops value are;
      none = λ n. absurd (cc);
      some = λ n. (c.is_written.ensures ops value are).0 h;
    }

pub returns-else-is_written : goal.returns-else-is_written
returns-else-is_written c ops value are =
    let h : c.is_written.result ≡ false = search rules in
    record {
      zone = tt;
      none = λ n present. absurd (let t : c.is_written.result ≡ true = (c.is_written.ensures ops value are).1 present in cc);
      some = λ n. absurd (cc);
    }
