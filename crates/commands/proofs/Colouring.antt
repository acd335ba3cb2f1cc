-- What was printed, written in colours.
use Rattle.std.proofs.Common.{◌≡◌, ℕ, List, [], Option, Some, subst}
use Rattle.std.specs.Io.KnownBytes.{Appends}
use Rattle.clap.specs.Words.{Text}
use Rattle.colours.specs.Painted.{IsPainted}
use Rattle.words.specs.Words.{Asked}
use Rattle.commands.specs.Run.{IsCarriedOut, IsInColours}

-- a command was carried out over an output that was empty, and that was painted and written
pub in_colours : (command : Asked) (files : Text → Option (List ℕ)) (input : Option (List ℕ)) (status : ℕ) (begun text painted : List ℕ) (old new : Option (List ℕ))
    → begun ≡ [] → IsCarriedOut command files input status (Some begun) (Some text) → IsPainted text painted → Appends old new painted
    → IsInColours command files input status old new
in_colours command files input status begun text painted old new empty carried_out paints written = record {
  text = text;
  carried_out = subst (λ (first : List ℕ). IsCarriedOut command files input status (Some first) (Some text)) empty carried_out;
  painted = painted;
  paints = paints;
  written = written;
}
