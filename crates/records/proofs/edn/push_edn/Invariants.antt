-- the tokens so far and those that are left are the record's
use Rattle.std.proofs.Common.{◌≡◌, ◌++◌, drop, string_bytes, false}
use Rattle.records.specs.Symbol.{symbols_of}
use Rattle.records.specs.Edn.{edn_from}
use Rattle.records.proofs.edn.push_edn.Given as goal

abbrev pub invariant-loop-token : goal.invariant-loop-token
invariant-loop-token l = string_bytes l.text ++ edn_from l.ended (symbols_of (drop l.token-index l.tokens)) ≡ string_bytes l.fn.text ++ edn_from false (symbols_of l.fn.tokens)
