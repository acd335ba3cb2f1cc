-- the tokens so far and those that are left are the record's
use Rattle.std.proofs.Common.{◌≡◌, ◌++◌, drop, map}
use Rattle.records.specs.Symbol.{symbols_of}
use Rattle.records.specs.Json.{json_token}
use Rattle.records.proofs.in_json.with_json.Given as goal

abbrev pub invariant-loop-token : goal.invariant-loop-token
invariant-loop-token l = record {
  before : l.writer.before ≡ l.fn.text.items;
  tokens : l.writer.tokens ++ map json_token (symbols_of (drop l.token-index l.tokens)) ≡ map json_token (symbols_of l.fn.tokens);
}
