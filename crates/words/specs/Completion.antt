-- The shells whose words can be completed, and the script for each.
use Rattle.std.specs.Prelude.{ℕ, List, Option, Some, None, codes, if◌then◌else◌}
use Rattle.std.specs.Str.{bytes_eq}
use Rattle.words.specs.declared.completion.Shell.{Shell}
use Rattle.words.specs.declared.completion.Shell.TheVariants.{Bash, Zsh, Fish}
use Rattle.words.specs.declared.completion.TheConstants.{BASH, ZSH, FISH}

-- the shell of this name, or none
abbrev pub shell_named : List ℕ → Option Shell
shell_named name =
    if bytes_eq name (codes "bash") then Some Bash
    else (if bytes_eq name (codes "zsh") then Some Zsh
    else (if bytes_eq name (codes "fish") then Some Fish else None))

-- the script that completes the words of the command line in a shell
abbrev pub script_for : Shell → List ℕ
script_for Bash = BASH.now
script_for Zsh = ZSH.now
script_for Fish = FISH.now
