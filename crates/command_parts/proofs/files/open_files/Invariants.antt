-- the readers so far are those of the names so far, and there is room for the others
use Rattle.std.proofs.Common.{◌≡◌, ◌≤◌, ℕ, List, Some, map, length, take, vec_len, vec_capacity}
use Rattle.command_parts.specs.Files.{AreHeld}
use Rattle.command_parts.proofs.files.open_files.Given as goal

abbrev pub invariant-loop-name : goal.invariant-loop-name
invariant-loop-name g l = record {
  held : (known : List (List ℕ)) → AreHeld (g.F.Files.held l.fn.files) (map (λ name. name.now) l.names) known → map g.F.Reader.Read.remaining l.readers.items ≡ map (λ text. Some text) (take l.name-index known);
  stays : g.F.Files.held l.files ≡ g.F.Files.held l.fn.files;
  many : vec_len l.readers ≡ l.name-index;
  room : length l.names ≤ vec_capacity l.readers;
}
