use Rattle.std.proofs.Common.{◌+◌, refl, arith}
use Rattle.edn_reader.specs.declared.flat.FlatMap.{FlatMap}
use Rattle.edn_reader.proofs.FlatMaps.{map_first}
use Rattle.edn_reader.proofs.flat.FlatMap.open.Goals as goal

pub returns : goal.returns
returns c =
    let core = c.in_ok-core.core in
    let found = c.in_ok-core.ensures in
    let map : FlatMap = record { bytes = c.args.bytes; base = c.args.base; start = c.white_end-start.result; core = core; at = core + 1 } in
    (map_first map c.requires c.white_end-start.ensures.end found.0 (omega (arith, found.1, c.if-core-bytes.false)) c.if-bytes-core-ne123.false refl, (refl, refl))
