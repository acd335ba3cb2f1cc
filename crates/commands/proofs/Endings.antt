-- An output that is as it was has whole notices, whatever was asked for.
use Rattle.std.proofs.Common.{◌≡◌, inl, ℕ, List, Option, Some, None}
use Rattle.std.specs.Prelude.{IfSome}
use Rattle.clap.specs.Words.{Text}
use Rattle.words.specs.Words.{Asked, Safe, Check, Watch, Show, Lint, Keys, Tower, Explain, Version, Manual, Completion}
use Rattle.commands.specs.Run.{WritesWhole}

pub as_before : (command : Asked) (files : Text → Option (List ℕ)) (old new : Option (List ℕ)) → new ≡ old → WritesWhole command files old new
as_before (Watch watch) files old new same = inl same
as_before (Safe name) files old new same = tt
as_before (Check check) files old new same = tt
as_before (Show show) files old new same = tt
as_before (Lint lint) files old new same = tt
as_before (Keys keys) files old new same = tt
as_before (Tower name) files old new same = tt
as_before (Explain code colours) files old new same = tt
as_before Version files old new same = tt
as_before Manual files old new same = tt
as_before (Completion shell) files old new same = tt

-- an output that is as it was has whole notices, whatever was asked for
pub untouched : (found : Option Asked) (files : Text → Option (List ℕ)) (old new : Option (List ℕ)) → new ≡ old → IfSome found (λ command. WritesWhole command files old new)
untouched None files old new same = tt
untouched (Some command) files old new same = as_before command files old new same
