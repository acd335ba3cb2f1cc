use Rattle.edn_reader.proofs.FlatMaps.{value_of_vector, value_of_word}
use Rattle.edn_reader.proofs.flat.value_end.Goals as goal

pub returns-then-bytes-at-eq91 : goal.returns-then-bytes-at-eq91
returns-then-bytes-at-eq91 c = value_of_vector c.args.bytes.now c.args.at c.in_ok-end.end c.if-at-bytes.true c.if-bytes-at-eq91.true c.in_ok-end.ensures

pub returns : goal.returns
returns c = value_of_word c.args.bytes.now c.args.at c.in_ok-end-2.end c.in_ok-end-2.ensures
