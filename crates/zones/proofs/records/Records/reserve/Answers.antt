use Rattle.std.proofs.Common.{refl}
use Rattle.zones.specs.declared.records.Records.{Records}
use Rattle.zones.proofs.Recorded.{records_kept}
use Rattle.zones.proofs.records.Records.reserve.Goals as goal

pub returns-in_err-reserve-clause-records : goal.returns-in_err-reserve-clause-records
returns-in_err-reserve-clause-records c ops =
    let changed : Records = record { of_nil = c.args.self.now.of_nil; of_numbers = c.reserve.new.self } in
    records_kept ops c.args.self.now changed refl c.reserve.ensures.entries.2

pub returns-clause-records : goal.returns-clause-records
returns-clause-records c ops =
    let changed : Records = record { of_nil = c.args.self.now.of_nil; of_numbers = c.reserve.new.self } in
    records_kept ops c.args.self.now changed refl c.reserve.ensures.entries.2
