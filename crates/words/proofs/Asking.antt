-- What words ask for, of words that are written out and of names that are no options.
use Rattle.std.proofs.Common.{◌≡◌, ◌==◌, ◌||◌, ℕ, Bool, true, false, not, [], ◌∷◌, ◌++◌, length, negsuc, Some, None, refl, sym, subst, arith, codes}
use Rattle.std.proofs.lemmas.Bool.{eqb-true}
use Rattle.clap.proofs.OnLiterals.{clap_on_literals}
use Rattle.clap.specs.Words.{Text, takes}
use Rattle.jepsen_form.specs.declared.item.MomentField.TheVariants.{Index, Time}
use Rattle.intervals.specs.declared.claim.Initial.TheVariants.{Known, Unknown}
use Rattle.intervals.specs.declared.claim.Kind.TheVariants.{Regular, Atomic}
use Rattle.intervals.specs.declared.claim.Kind.TheVariants as kinds
use Rattle.intervals.specs.declared.operation.Value.TheVariants.{Nil, Int}
use Rattle.words.specs.declared.check.ReportForm.TheVariants.{Report, Summary, Json, Edn, GitHub, Junit, Trace}
use Rattle.words.specs.declared.colour.ColourWord.TheVariants as colours
use Rattle.words.specs.declared.completion.Shell.TheVariants.{Bash, Zsh, Fish}
use Rattle.words.specs.declared.lint.LintForm.TheVariants as lint_forms
use Rattle.words.specs.declared.show.Picture.TheVariants as pictures
use Rattle.words.specs.declared.show.ThemeWord.TheVariants.{Auto, Dark}
use Rattle.words.specs.declared.watch.LineForm.TheVariants as line_forms
use Rattle.words.specs.Words.{Check, Completion, Explain, Keys, Lint, Manual, OfFile, OfTraces, Safe, Show, Tower, Version, Watch, asked, command_line, is_no_option, no_demand}

pub input : (program : Text) → asked (program ∷ codes "safe" ∷ []) ≡ Some (Safe None)
unfolding clap_on_literals
input program = refl

pub alone : (program : Text) → asked (program ∷ []) ≡ None
unfolding clap_on_literals
alone program = refl

pub any_trace : (program name : Text) → asked (program ∷ codes "safe" ∷ codes "--" ∷ name ∷ []) ≡ Some (Safe (Some name))
unfolding clap_on_literals
any_trace program name = refl

pub any_tower : (program name : Text) → asked (program ∷ codes "tower" ∷ codes "--" ∷ name ∷ []) ≡ Some (Tower name)
unfolding clap_on_literals
any_tower program name = refl

pub other : (program : Text) → asked (program ∷ codes "list" ∷ []) ≡ None
unfolding clap_on_literals
other program = refl

pub help : (program : Text) → asked (program ∷ codes "--help" ∷ []) ≡ None
unfolding clap_on_literals
help program = refl

pub no_file : (program : Text) → asked (program ∷ codes "tower" ∷ []) ≡ None
unfolding clap_on_literals
no_file program = refl

pub list : (program : Text) → asked (program ∷ codes "explain" ∷ []) ≡ Some (Explain None colours.Auto)
unfolding clap_on_literals
list program = refl

pub version : (program : Text) → asked (program ∷ codes "version" ∷ []) ≡ Some Version
unfolding clap_on_literals
version program = refl

pub version_option : (program : Text) → asked (program ∷ codes "--version" ∷ []) ≡ Some Version
unfolding clap_on_literals
version_option program = refl

pub version_letter : (program : Text) → asked (program ∷ codes "-V" ∷ []) ≡ Some Version
unfolding clap_on_literals
version_letter program = refl

pub manual : (program : Text) → asked (program ∷ codes "manual" ∷ []) ≡ Some Manual
unfolding clap_on_literals
manual program = refl

pub bash : (program : Text) → asked (program ∷ codes "completion" ∷ codes "bash" ∷ []) ≡ Some (Completion Bash)
unfolding clap_on_literals
bash program = refl

pub zsh : (program : Text) → asked (program ∷ codes "completion" ∷ codes "zsh" ∷ []) ≡ Some (Completion Zsh)
unfolding clap_on_literals
zsh program = refl

pub fish : (program : Text) → asked (program ∷ codes "completion" ∷ codes "fish" ∷ []) ≡ Some (Completion Fish)
unfolding clap_on_literals
fish program = refl

pub nothing : asked [] ≡ None
unfolding clap_on_literals
nothing = refl

pub refused : (takes command_line (codes "regaudit" ∷ codes "safe" ∷ codes "a" ∷ codes "b" ∷ []) ≡ false) × (takes command_line (codes "regaudit" ∷ codes "safe" ∷ codes "-x" ∷ []) ≡ false)
    × (takes command_line (codes "regaudit" ∷ codes "tower" ∷ []) ≡ false) × (takes command_line (codes "regaudit" ∷ codes "help" ∷ []) ≡ false) × (takes command_line (codes "regaudit" ∷ []) ≡ false)
unfolding clap_on_literals
refused = (refl, refl, refl, refl, refl)

pub taken : (takes command_line (codes "regaudit" ∷ codes "safe" ∷ []) ≡ true)
    × (takes command_line (codes "regaudit" ∷ codes "safe" ∷ codes "a" ∷ []) ≡ true)
    × (takes command_line (codes "regaudit" ∷ codes "tower" ∷ codes "a" ∷ []) ≡ true)
    × (takes command_line (codes "regaudit" ∷ codes "tower" ∷ codes "--" ∷ codes "-x" ∷ []) ≡ true)
    × (takes command_line (codes "regaudit" ∷ codes "check" ∷ codes "--tower=t" ∷ codes "--shards=64" ∷ codes "a" ∷ codes "b" ∷ []) ≡ true)
unfolding clap_on_literals
taken = (refl, refl, refl, refl, refl)

pub plain_check : (program : Text) → asked (program ∷ codes "check" ∷ codes "--tower" ∷ codes "t" ∷ codes "a" ∷ [])
    ≡ Some (Check (record { tower = OfFile (codes "t"); shards = 1; moments = Index; order = None; form = Report; only_failing = false; demand = no_demand; traces = codes "a" ∷ [] }))
unfolding clap_on_literals
plain_check program = refl

pub whole_check : (program : Text) → asked (program ∷ codes "check" ∷ codes "--tower" ∷ codes "t" ∷ codes "--shards" ∷ codes "64" ∷ codes "--moment" ∷ codes "time" ∷ codes "--order" ∷ codes "x" ∷ codes "--as" ∷ codes "summary" ∷ codes "--least" ∷ codes "7" ∷ codes "--least-each" ∷ codes "1" ∷ codes "--doubt" ∷ codes "3" ∷ codes "a" ∷ [])
    ≡ Some (Check (record { tower = OfFile (codes "t"); shards = 64; moments = Time; order = Some (codes "x"); form = Summary; only_failing = false; demand = record { least = 7; least_each = 1; doubt = 3 }; traces = codes "a" ∷ [] }))
unfolding clap_on_literals
whole_check program = refl

pub two_traces : (program : Text) → asked (program ∷ codes "check" ∷ codes "--tower" ∷ codes "t" ∷ codes "a" ∷ codes "b" ∷ [])
    ≡ Some (Check (record { tower = OfFile (codes "t"); shards = 1; moments = Index; order = None; form = Report; only_failing = false; demand = no_demand; traces = codes "a" ∷ codes "b" ∷ [] }))
unfolding clap_on_literals
two_traces program = refl

pub between_traces : (program : Text) → asked (program ∷ codes "check" ∷ codes "a" ∷ codes "--shards=+2" ∷ codes "b" ∷ codes "--tower=t" ∷ codes "--moment=index" ∷ codes "a" ∷ [])
    ≡ Some (Check (record { tower = OfFile (codes "t"); shards = 2; moments = Index; order = None; form = Report; only_failing = false; demand = no_demand; traces = codes "a" ∷ codes "b" ∷ codes "a" ∷ [] }))
unfolding clap_on_literals
between_traces program = refl

pub json_check : (program : Text) → asked (program ∷ codes "check" ∷ codes "--tower=t" ∷ codes "--as=json" ∷ codes "a" ∷ [])
    ≡ Some (Check (record { tower = OfFile (codes "t"); shards = 1; moments = Index; order = None; form = Json; only_failing = false; demand = no_demand; traces = codes "a" ∷ [] }))
unfolding clap_on_literals
json_check program = refl

pub edn_check : (program : Text) → asked (program ∷ codes "check" ∷ codes "--tower=t" ∷ codes "--as" ∷ codes "edn" ∷ codes "a" ∷ [])
    ≡ Some (Check (record { tower = OfFile (codes "t"); shards = 1; moments = Index; order = None; form = Edn; only_failing = false; demand = no_demand; traces = codes "a" ∷ [] }))
unfolding clap_on_literals
edn_check program = refl

pub ci_check : (program : Text) → (asked (program ∷ codes "check" ∷ codes "--tower=t" ∷ codes "--as=github" ∷ codes "a" ∷ []) ≡ Some (Check (record { tower = OfFile (codes "t"); shards = 1; moments = Index; order = None; form = GitHub; only_failing = false; demand = no_demand; traces = codes "a" ∷ [] })))
    × (asked (program ∷ codes "check" ∷ codes "--tower=t" ∷ codes "--as=junit" ∷ codes "a" ∷ []) ≡ Some (Check (record { tower = OfFile (codes "t"); shards = 1; moments = Index; order = None; form = Junit; only_failing = false; demand = no_demand; traces = codes "a" ∷ [] })))
unfolding clap_on_literals
ci_check program = (refl, refl)

pub trace_check : (program : Text) → asked (program ∷ codes "check" ∷ codes "--tower=t" ∷ codes "--as=trace" ∷ codes "a" ∷ [])
    ≡ Some (Check (record { tower = OfFile (codes "t"); shards = 1; moments = Index; order = None; form = Trace; only_failing = false; demand = no_demand; traces = codes "a" ∷ [] }))
unfolding clap_on_literals
trace_check program = refl

pub failing_check : (program : Text) → asked (program ∷ codes "check" ∷ codes "--tower=t" ∷ codes "--as=json" ∷ codes "--only" ∷ codes "failing" ∷ codes "a" ∷ [])
    ≡ Some (Check (record { tower = OfFile (codes "t"); shards = 1; moments = Index; order = None; form = Json; only_failing = true; demand = no_demand; traces = codes "a" ∷ [] }))
unfolding clap_on_literals
failing_check program = refl

pub whole_records : (program : Text) → asked (program ∷ codes "check" ∷ codes "--tower" ∷ codes "t" ∷ codes "--shards" ∷ codes "64" ∷ codes "--moment" ∷ codes "time" ∷ codes "--order" ∷ codes "x" ∷ codes "--as" ∷ codes "edn" ∷ codes "--only" ∷ codes "failing" ∷ codes "--least" ∷ codes "7" ∷ codes "--least-each" ∷ codes "1" ∷ codes "--doubt" ∷ codes "3" ∷ codes "a" ∷ [])
    ≡ Some (Check (record { tower = OfFile (codes "t"); shards = 64; moments = Time; order = Some (codes "x"); form = Edn; only_failing = true; demand = record { least = 7; least_each = 1; doubt = 3 }; traces = codes "a" ∷ [] }))
unfolding clap_on_literals
whole_records program = refl

pub any_names : (program tower order trace : Text) → asked (program ∷ codes "check" ∷ (codes "--tower=" ++ tower) ∷ (codes "--order=" ++ order) ∷ codes "--" ∷ trace ∷ [])
    ≡ Some (Check (record { tower = OfFile tower; shards = 1; moments = Index; order = Some order; form = Report; only_failing = false; demand = no_demand; traces = trace ∷ [] }))
unfolding clap_on_literals
any_names program tower order trace = refl

pub no_check : (program : Text) → asked (program ∷ codes "check" ∷ []) ≡ None
unfolding clap_on_literals
no_check program = refl

pub two_towers : (program : Text) → (asked (program ∷ codes "check" ∷ codes "--tower=t" ∷ codes "--each=atomic" ∷ codes "a" ∷ []) ≡ None)
    × (asked (program ∷ codes "lint" ∷ codes "--tower=t" ∷ codes "--each=atomic" ∷ codes "a" ∷ []) ≡ None)
unfolding clap_on_literals
two_towers program = (refl, refl)

pub no_kind : (program : Text) → asked (program ∷ codes "check" ∷ codes "--each=linear" ∷ codes "a" ∷ []) ≡ None
unfolding clap_on_literals
no_kind program = refl

pub each_check : (program : Text) → (asked (program ∷ codes "check" ∷ codes "a" ∷ []) ≡ Some (Check (record { tower = OfTraces Atomic; shards = 1; moments = Index; order = None; form = Report; only_failing = false; demand = no_demand; traces = codes "a" ∷ [] })))
    × (asked (program ∷ codes "check" ∷ codes "--each" ∷ codes "regular" ∷ codes "a" ∷ []) ≡ Some (Check (record { tower = OfTraces Regular; shards = 1; moments = Index; order = None; form = Report; only_failing = false; demand = no_demand; traces = codes "a" ∷ [] })))
unfolding clap_on_literals
each_check program = (refl, refl)

pub no_trace : (program : Text) → asked (program ∷ codes "check" ∷ codes "--tower" ∷ codes "t" ∷ []) ≡ None
unfolding clap_on_literals
no_trace program = refl

pub no_moment : (program : Text) → asked (program ∷ codes "check" ∷ codes "--tower" ∷ codes "t" ∷ codes "--moment" ∷ codes "now" ∷ codes "a" ∷ []) ≡ None
unfolding clap_on_literals
no_moment program = refl

pub no_form : (program : Text) → asked (program ∷ codes "check" ∷ codes "--tower" ∷ codes "t" ∷ codes "--as" ∷ codes "html" ∷ codes "a" ∷ []) ≡ None
unfolding clap_on_literals
no_form program = refl

pub no_only : (program : Text) → asked (program ∷ codes "check" ∷ codes "--tower=t" ∷ codes "--as=json" ∷ codes "--only=all" ∷ codes "a" ∷ []) ≡ None
unfolding clap_on_literals
no_only program = refl

pub no_records : (program : Text) → (asked (program ∷ codes "check" ∷ codes "--tower=t" ∷ codes "--only=failing" ∷ codes "a" ∷ []) ≡ None)
    × (asked (program ∷ codes "check" ∷ codes "--tower=t" ∷ codes "--as=text" ∷ codes "--only=failing" ∷ codes "a" ∷ []) ≡ None)
    × (asked (program ∷ codes "check" ∷ codes "--tower=t" ∷ codes "--as=summary" ∷ codes "--only=failing" ∷ codes "a" ∷ []) ≡ None)
    × (asked (program ∷ codes "check" ∷ codes "--tower=t" ∷ codes "--as=github" ∷ codes "--only=failing" ∷ codes "a" ∷ []) ≡ None)
    × (asked (program ∷ codes "check" ∷ codes "--tower=t" ∷ codes "--as=junit" ∷ codes "--only=failing" ∷ codes "a" ∷ []) ≡ None)
    × (asked (program ∷ codes "check" ∷ codes "--tower=t" ∷ codes "--as=trace" ∷ codes "--only=failing" ∷ codes "a" ∷ []) ≡ None)
unfolding clap_on_literals
no_records program = (refl, refl, refl, refl, refl, refl)

pub no_shell : (program : Text) → asked (program ∷ codes "completion" ∷ codes "csh" ∷ []) ≡ None
unfolding clap_on_literals
no_shell program = refl

pub plain_watch : (program : Text) → asked (program ∷ codes "watch" ∷ codes "--tower" ∷ codes "t" ∷ codes "a" ∷ [])
    ≡ Some (Watch (record { tower = OfFile (codes "t"); shards = 1; moments = Index; form = line_forms.Text; until_fail = false; settle = 0; demand = no_demand; traces = codes "a" ∷ [] }))
unfolding clap_on_literals
plain_watch program = refl

pub whole_watch : (program : Text) → asked (program ∷ codes "watch" ∷ codes "--tower=t" ∷ codes "--moment" ∷ codes "time" ∷ codes "--shards" ∷ codes "64" ∷ codes "--as" ∷ codes "json" ∷ codes "--until-fail" ∷ codes "--settle" ∷ codes "7" ∷ codes "--least" ∷ codes "5" ∷ codes "--least-each" ∷ codes "2" ∷ codes "--doubt" ∷ codes "0" ∷ codes "a" ∷ codes "b" ∷ [])
    ≡ Some (Watch (record { tower = OfFile (codes "t"); shards = 64; moments = Time; form = line_forms.Json; until_fail = true; settle = 7; demand = record { least = 5; least_each = 2; doubt = 0 }; traces = codes "a" ∷ codes "b" ∷ [] }))
unfolding clap_on_literals
whole_watch program = refl

pub any_names_to_watch : (program tower trace : Text) → asked (program ∷ codes "watch" ∷ (codes "--tower=" ++ tower) ∷ codes "--" ∷ trace ∷ [])
    ≡ Some (Watch (record { tower = OfFile tower; shards = 1; moments = Index; form = line_forms.Text; until_fail = false; settle = 0; demand = no_demand; traces = trace ∷ [] }))
unfolding clap_on_literals
any_names_to_watch program tower trace = refl

pub each_watch : (program : Text) → (asked (program ∷ codes "watch" ∷ codes "a" ∷ []) ≡ Some (Watch (record { tower = OfTraces Atomic; shards = 1; moments = Index; form = line_forms.Text; until_fail = false; settle = 0; demand = no_demand; traces = codes "a" ∷ [] })))
    × (asked (program ∷ codes "watch" ∷ codes "--each=safe" ∷ codes "a" ∷ []) ≡ Some (Watch (record { tower = OfTraces kinds.Safe; shards = 1; moments = Index; form = line_forms.Text; until_fail = false; settle = 0; demand = no_demand; traces = codes "a" ∷ [] })))
unfolding clap_on_literals
each_watch program = (refl, refl)

pub no_trace_to_watch : (program : Text) → asked (program ∷ codes "watch" ∷ codes "--tower" ∷ codes "t" ∷ []) ≡ None
unfolding clap_on_literals
no_trace_to_watch program = refl

pub no_moment_to_watch : (program : Text) → asked (program ∷ codes "watch" ∷ codes "--tower=t" ∷ codes "--moment=now" ∷ codes "a" ∷ []) ≡ None
unfolding clap_on_literals
no_moment_to_watch program = refl

pub no_line_form : (program : Text) → (asked (program ∷ codes "watch" ∷ codes "--tower=t" ∷ codes "--as=summary" ∷ codes "a" ∷ []) ≡ None)
    × (asked (program ∷ codes "watch" ∷ codes "--tower=t" ∷ codes "--as=edn" ∷ codes "a" ∷ []) ≡ None)
unfolding clap_on_literals
no_line_form program = (refl, refl)

pub refused_shards_to_watch : (takes command_line (codes "regaudit" ∷ codes "watch" ∷ codes "--tower=t" ∷ codes "--shards=0" ∷ codes "a" ∷ []) ≡ false)
    × (takes command_line (codes "regaudit" ∷ codes "watch" ∷ codes "--tower=t" ∷ codes "--shards=65" ∷ codes "a" ∷ []) ≡ false)
unfolding clap_on_literals
refused_shards_to_watch = (refl, refl)

pub refused_settle : (takes command_line (codes "regaudit" ∷ codes "watch" ∷ codes "--tower=t" ∷ codes "--settle=x" ∷ codes "a" ∷ []) ≡ false)
    × (takes command_line (codes "regaudit" ∷ codes "watch" ∷ codes "--tower=t" ∷ codes "--settle=18446744073709551616" ∷ codes "a" ∷ []) ≡ false)
unfolding clap_on_literals
refused_settle = (refl, refl)

pub taken_watch : takes command_line (codes "regaudit" ∷ codes "watch" ∷ codes "--tower=t" ∷ codes "--shards=64" ∷ codes "--until-fail" ∷ codes "--settle=+18446744073709551615" ∷ codes "a" ∷ codes "b" ∷ []) ≡ true
unfolding clap_on_literals
taken_watch = refl

pub plain_show : (program : Text) → asked (program ∷ codes "show" ∷ codes "--tower" ∷ codes "t" ∷ codes "a" ∷ [])
    ≡ Some (Show (record { tower = OfFile (codes "t"); moments = Index; register = None; picture = pictures.Text; around = 3; all = false; width = None; theme = Auto; colours = colours.Auto; demand = no_demand; traces = codes "a" ∷ [] }))
unfolding clap_on_literals
plain_show program = refl

pub whole_show : (program : Text) → asked (program ∷ codes "show" ∷ codes "--tower=t" ∷ codes "--moment" ∷ codes "time" ∷ codes "--register" ∷ codes "x" ∷ codes "--html" ∷ codes "--around" ∷ codes "0" ∷ codes "--all" ∷ codes "--width" ∷ codes "72" ∷ codes "--theme" ∷ codes "dark" ∷ codes "--least" ∷ codes "5" ∷ codes "--least-each" ∷ codes "2" ∷ codes "--doubt" ∷ codes "255" ∷ codes "a" ∷ codes "b" ∷ [])
    ≡ Some (Show (record { tower = OfFile (codes "t"); moments = Time; register = Some (codes "x"); picture = pictures.Html; around = 0; all = true; width = Some 72; theme = Dark; colours = colours.Never; demand = record { least = 5; least_each = 2; doubt = 255 }; traces = codes "a" ∷ codes "b" ∷ [] }))
unfolding clap_on_literals
whole_show program = refl

pub svg : (program : Text) → asked (program ∷ codes "show" ∷ codes "--tower=t" ∷ codes "--svg" ∷ codes "a" ∷ [])
    ≡ Some (Show (record { tower = OfFile (codes "t"); moments = Index; register = None; picture = pictures.Svg; around = 3; all = false; width = None; theme = Auto; colours = colours.Never; demand = no_demand; traces = codes "a" ∷ [] }))
unfolding clap_on_literals
svg program = refl

pub ascii : (program : Text) → asked (program ∷ codes "show" ∷ codes "a" ∷ codes "--ascii" ∷ codes "--tower=t" ∷ [])
    ≡ Some (Show (record { tower = OfFile (codes "t"); moments = Index; register = None; picture = pictures.Ascii; around = 3; all = false; width = None; theme = Auto; colours = colours.Auto; demand = no_demand; traces = codes "a" ∷ [] }))
unfolding clap_on_literals
ascii program = refl

pub any_names_to_show : (program tower register trace : Text) → asked (program ∷ codes "show" ∷ (codes "--tower=" ++ tower) ∷ (codes "--register=" ++ register) ∷ codes "--" ∷ trace ∷ [])
    ≡ Some (Show (record { tower = OfFile tower; moments = Index; register = Some register; picture = pictures.Text; around = 3; all = false; width = None; theme = Auto; colours = colours.Auto; demand = no_demand; traces = trace ∷ [] }))
unfolding clap_on_literals
any_names_to_show program tower register trace = refl

pub two_pictures : (program : Text) → (asked (program ∷ codes "show" ∷ codes "--tower=t" ∷ codes "--svg" ∷ codes "--html" ∷ codes "a" ∷ []) ≡ None)
    × (asked (program ∷ codes "show" ∷ codes "--tower=t" ∷ codes "--svg" ∷ codes "--ascii" ∷ codes "a" ∷ []) ≡ None)
    × (asked (program ∷ codes "show" ∷ codes "--tower=t" ∷ codes "--ascii" ∷ codes "--html" ∷ codes "a" ∷ []) ≡ None)
unfolding clap_on_literals
two_pictures program = (refl, refl, refl)

pub three_pictures : (program : Text) → asked (program ∷ codes "show" ∷ codes "--tower=t" ∷ codes "--svg" ∷ codes "--html" ∷ codes "--ascii" ∷ codes "a" ∷ []) ≡ None
unfolding clap_on_literals
three_pictures program = refl

pub each_show : (program : Text) → (asked (program ∷ codes "show" ∷ codes "a" ∷ []) ≡ Some (Show (record { tower = OfTraces Atomic; moments = Index; register = None; picture = pictures.Text; around = 3; all = false; width = None; theme = Auto; colours = colours.Auto; demand = no_demand; traces = codes "a" ∷ [] })))
    × (asked (program ∷ codes "show" ∷ codes "--each=regular" ∷ codes "a" ∷ []) ≡ Some (Show (record { tower = OfTraces Regular; moments = Index; register = None; picture = pictures.Text; around = 3; all = false; width = None; theme = Auto; colours = colours.Auto; demand = no_demand; traces = codes "a" ∷ [] })))
unfolding clap_on_literals
each_show program = (refl, refl)

pub coloured_shows : (program : Text) → (asked (program ∷ codes "show" ∷ codes "--colour=always" ∷ codes "a" ∷ []) ≡ Some (Show (record { tower = OfTraces Atomic; moments = Index; register = None; picture = pictures.Text; around = 3; all = false; width = None; theme = Auto; colours = colours.Always; demand = no_demand; traces = codes "a" ∷ [] })))
    × (asked (program ∷ codes "show" ∷ codes "--ascii" ∷ codes "--colour" ∷ codes "never" ∷ codes "a" ∷ []) ≡ Some (Show (record { tower = OfTraces Atomic; moments = Index; register = None; picture = pictures.Ascii; around = 3; all = false; width = None; theme = Auto; colours = colours.Never; demand = no_demand; traces = codes "a" ∷ [] })))
unfolding clap_on_literals
coloured_shows program = (refl, refl)

pub coloured_findings : (program : Text) → (asked (program ∷ codes "lint" ∷ codes "--colour=always" ∷ codes "a" ∷ []) ≡ Some (Lint (record { tower = OfTraces Atomic; moments = Index; form = lint_forms.Human; most = 3; denied = None; colours = colours.Always; traces = codes "a" ∷ [] })))
    × (asked (program ∷ codes "lint" ∷ codes "--as=short" ∷ codes "--colour=auto" ∷ codes "a" ∷ []) ≡ Some (Lint (record { tower = OfTraces Atomic; moments = Index; form = lint_forms.Short; most = 3; denied = None; colours = colours.Never; traces = codes "a" ∷ [] })))
    × (asked (program ∷ codes "lint" ∷ codes "--as=json" ∷ codes "--colour=never" ∷ codes "a" ∷ []) ≡ Some (Lint (record { tower = OfTraces Atomic; moments = Index; form = lint_forms.Json; most = 3; denied = None; colours = colours.Never; traces = codes "a" ∷ [] })))
unfolding clap_on_literals
coloured_findings program = (refl, refl, refl)

pub coloured_entries : (program : Text) → (asked (program ∷ codes "explain" ∷ codes "--colour=always" ∷ codes "X7" ∷ []) ≡ Some (Explain (Some (codes "X7")) colours.Always))
    × (asked (program ∷ codes "explain" ∷ codes "--colour=never" ∷ []) ≡ Some (Explain None colours.Never))
unfolding clap_on_literals
coloured_entries program = (refl, refl)

pub no_colours : (program : Text) → (asked (program ∷ codes "show" ∷ codes "--svg" ∷ codes "--colour=always" ∷ codes "a" ∷ []) ≡ None)
    × (asked (program ∷ codes "show" ∷ codes "--html" ∷ codes "--colour=always" ∷ codes "a" ∷ []) ≡ None)
    × (asked (program ∷ codes "lint" ∷ codes "--as=short" ∷ codes "--colour=always" ∷ codes "a" ∷ []) ≡ None)
    × (asked (program ∷ codes "lint" ∷ codes "--as=github" ∷ codes "--colour=always" ∷ codes "a" ∷ []) ≡ None)
    × (asked (program ∷ codes "lint" ∷ codes "--as=json" ∷ codes "--colour=always" ∷ codes "a" ∷ []) ≡ None)
unfolding clap_on_literals
no_colours program = (refl, refl, refl, refl, refl)

pub no_colour_word : (program : Text) → (asked (program ∷ codes "show" ∷ codes "--colour=yes" ∷ codes "a" ∷ []) ≡ None)
    × (asked (program ∷ codes "lint" ∷ codes "--colour=yes" ∷ codes "a" ∷ []) ≡ None)
    × (asked (program ∷ codes "explain" ∷ codes "--colour=yes" ∷ []) ≡ None)
unfolding clap_on_literals
no_colour_word program = (refl, refl, refl)

pub plain_keys : (program : Text) → asked (program ∷ codes "keys" ∷ codes "a" ∷ codes "b" ∷ []) ≡ Some (Keys (record { kind = Atomic; initial = Known Nil; any_writes = true; traces = codes "a" ∷ codes "b" ∷ [] }))
unfolding clap_on_literals
plain_keys program = refl

pub one_writer_keys : (program : Text) → asked (program ∷ codes "keys" ∷ codes "--kind" ∷ codes "regular" ∷ codes "a" ∷ []) ≡ Some (Keys (record { kind = Regular; initial = Known Nil; any_writes = false; traces = codes "a" ∷ [] }))
unfolding clap_on_literals
one_writer_keys program = refl

pub whole_keys : (program : Text) → (asked (program ∷ codes "keys" ∷ codes "--kind=atomic" ∷ codes "--initial=unknown" ∷ codes "--writers=first" ∷ codes "a" ∷ []) ≡ Some (Keys (record { kind = Atomic; initial = Unknown; any_writes = false; traces = codes "a" ∷ [] })))
    × (asked (program ∷ codes "keys" ∷ codes "--kind=safe" ∷ codes "--initial=-7" ∷ codes "a" ∷ []) ≡ Some (Keys (record { kind = kinds.Safe; initial = Known (Int (negsuc 6)); any_writes = false; traces = codes "a" ∷ [] })))
unfolding clap_on_literals
whole_keys program = (refl, refl)

pub no_fit : (program : Text) → (asked (program ∷ codes "keys" ∷ codes "--kind=safe" ∷ codes "--initial=unknown" ∷ codes "a" ∷ []) ≡ None)
    × (asked (program ∷ codes "keys" ∷ codes "--kind=regular" ∷ codes "--writers=any" ∷ codes "a" ∷ []) ≡ None)
unfolding clap_on_literals
no_fit program = (refl, refl)

pub no_value : (program : Text) → (asked (program ∷ codes "keys" ∷ codes "--initial=1.5" ∷ codes "a" ∷ []) ≡ None)
    × (asked (program ∷ codes "keys" ∷ codes "--initial=9223372036854775808" ∷ codes "a" ∷ []) ≡ None)
    × (asked (program ∷ codes "keys" ∷ []) ≡ None)
unfolding clap_on_literals
no_value program = (refl, refl, refl)

pub no_trace_to_show : (program : Text) → asked (program ∷ codes "show" ∷ codes "--tower" ∷ codes "t" ∷ []) ≡ None
unfolding clap_on_literals
no_trace_to_show program = refl

pub no_theme : (program : Text) → asked (program ∷ codes "show" ∷ codes "--tower=t" ∷ codes "--theme" ∷ codes "blue" ∷ codes "a" ∷ []) ≡ None
unfolding clap_on_literals
no_theme program = refl

pub refused_widths : (takes command_line (codes "regaudit" ∷ codes "show" ∷ codes "--tower=t" ∷ codes "--width=19" ∷ codes "a" ∷ []) ≡ false)
    × (takes command_line (codes "regaudit" ∷ codes "show" ∷ codes "--tower=t" ∷ codes "--width=1000001" ∷ codes "a" ∷ []) ≡ false)
    × (takes command_line (codes "regaudit" ∷ codes "show" ∷ codes "--tower=t" ∷ codes "--width=x" ∷ codes "a" ∷ []) ≡ false)
unfolding clap_on_literals
refused_widths = (refl, refl, refl)

pub taken_shows : (takes command_line (codes "regaudit" ∷ codes "show" ∷ codes "--tower=t" ∷ codes "--width=20" ∷ codes "a" ∷ []) ≡ true)
    × (takes command_line (codes "regaudit" ∷ codes "show" ∷ codes "--tower=t" ∷ codes "--width=1000000" ∷ codes "--svg" ∷ codes "--all" ∷ codes "a" ∷ codes "b" ∷ []) ≡ true)
unfolding clap_on_literals
taken_shows = (refl, refl)

pub tower_alone : (program : Text) → asked (program ∷ codes "lint" ∷ codes "--tower" ∷ codes "t" ∷ [])
    ≡ Some (Lint (record { tower = OfFile (codes "t"); moments = Index; form = lint_forms.Human; most = 3; denied = None; colours = colours.Auto; traces = [] }))
unfolding clap_on_literals
tower_alone program = refl

pub traces_alone : (program : Text) → asked (program ∷ codes "lint" ∷ codes "a" ∷ codes "b" ∷ [])
    ≡ Some (Lint (record { tower = OfTraces Atomic; moments = Index; form = lint_forms.Human; most = 3; denied = None; colours = colours.Auto; traces = codes "a" ∷ codes "b" ∷ [] }))
unfolding clap_on_literals
traces_alone program = refl

pub whole_lint : (program : Text) → asked (program ∷ codes "lint" ∷ codes "--tower=t" ∷ codes "--moment" ∷ codes "time" ∷ codes "--as" ∷ codes "json" ∷ codes "--max" ∷ codes "0" ∷ codes "--deny" ∷ codes "L1,L3" ∷ codes "a" ∷ [])
    ≡ Some (Lint (record { tower = OfFile (codes "t"); moments = Time; form = lint_forms.Json; most = 0; denied = Some (codes "L1,L3"); colours = colours.Never; traces = codes "a" ∷ [] }))
unfolding clap_on_literals
whole_lint program = refl

pub nothing_to_read : (program : Text) → asked (program ∷ codes "lint" ∷ []) ≡ None
unfolding clap_on_literals
nothing_to_read program = refl

pub no_lint_form : (program : Text) → asked (program ∷ codes "lint" ∷ codes "--as" ∷ codes "text" ∷ codes "a" ∷ []) ≡ None
unfolding clap_on_literals
no_lint_form program = refl

pub refused_checks : (takes command_line (codes "regaudit" ∷ codes "check" ∷ []) ≡ false)
    × (takes command_line (codes "regaudit" ∷ codes "check" ∷ codes "--tower" ∷ codes "t" ∷ []) ≡ false)
unfolding clap_on_literals
refused_checks = (refl, refl)

pub refused_shards : (takes command_line (codes "regaudit" ∷ codes "check" ∷ codes "--tower=t" ∷ codes "--shards=0" ∷ codes "a" ∷ []) ≡ false)
    × (takes command_line (codes "regaudit" ∷ codes "check" ∷ codes "--tower=t" ∷ codes "--shards=65" ∷ codes "a" ∷ []) ≡ false)
    × (takes command_line (codes "regaudit" ∷ codes "check" ∷ codes "--tower=t" ∷ codes "--shards=x" ∷ codes "a" ∷ []) ≡ false)
unfolding clap_on_literals
refused_shards = (refl, refl, refl)

abbrev AsksSafe : Text → Text → Type 0
AsksSafe program name = asked (program ∷ codes "safe" ∷ name ∷ []) ≡ Some (Safe (Some name))

abbrev AsksTower : Text → Text → Type 0
AsksTower program name = asked (program ∷ codes "tower" ∷ name ∷ []) ≡ Some (Tower name)

abbrev AsksCode : Text → Text → Type 0
AsksCode program name = asked (program ∷ codes "explain" ∷ name ∷ []) ≡ Some (Explain (Some name) colours.Auto)

safe_begins : (program : Text) (byte : ℕ) (bytes : Text) → (byte == 45) ≡ false → AsksSafe program (byte ∷ bytes)
unfolding clap_on_literals
safe_begins program byte bytes h = simp h

tower_begins : (program : Text) (byte : ℕ) (bytes : Text) → (byte == 45) ≡ false → AsksTower program (byte ∷ bytes)
unfolding clap_on_literals
tower_begins program byte bytes h = simp h

code_begins : (program : Text) (byte : ℕ) (bytes : Text) → (byte == 45) ≡ false → AsksCode program (byte ∷ bytes)
unfolding clap_on_literals
code_begins program byte bytes h = simp h

code_hyphen : (program : Text) → AsksCode program (45 ∷ [])
unfolding clap_on_literals
code_hyphen program = refl

code_empty : (program : Text) → AsksCode program []
unfolding clap_on_literals
code_empty program = refl

safe_hyphen : (program : Text) → AsksSafe program (45 ∷ [])
unfolding clap_on_literals
safe_hyphen program = refl

tower_hyphen : (program : Text) → AsksTower program (45 ∷ [])
unfolding clap_on_literals
tower_hyphen program = refl

safe_empty : (program : Text) → AsksSafe program []
unfolding clap_on_literals
safe_empty program = refl

tower_empty : (program : Text) → AsksTower program []
unfolding clap_on_literals
tower_empty program = refl

-- what holds of the empty word, the hyphen, and words that begin otherwise holds of all words that are no options
by_first : (P : Text → Type 0) → P (45 ∷ []) → ((byte : ℕ) (bytes : Text) → (byte == 45) ≡ false → P (byte ∷ bytes)) → (byte : ℕ) (bytes : Text) (begins : Bool) → (byte == 45) ≡ begins → (not begins || length bytes == 0) ≡ true → P (byte ∷ bytes)
by_first P hyphen other byte bytes false e h = other byte bytes e
by_first P hyphen other byte [] true e h = subst (λ (b : ℕ). P (b ∷ [])) (sym (eqb-true byte 45 e)) hyphen
by_first P hyphen other byte (next ∷ bytes) true e h = absurd (omega (arith, eqb-true (length (next ∷ bytes)) 0 h))

plain : (P : Text → Type 0) → P [] → P (45 ∷ []) → ((byte : ℕ) (bytes : Text) → (byte == 45) ≡ false → P (byte ∷ bytes)) → (name : Text) → is_no_option name ≡ true → P name
plain P empty hyphen other [] h = empty
plain P empty hyphen other (byte ∷ bytes) h = by_first P hyphen other byte bytes (byte == 45) refl h

pub trace : (program name : Text) → is_no_option name ≡ true → AsksSafe program name
trace program = plain (AsksSafe program) (safe_empty program) (safe_hyphen program) (safe_begins program)

pub tower : (program name : Text) → is_no_option name ≡ true → AsksTower program name
tower program = plain (AsksTower program) (tower_empty program) (tower_hyphen program) (tower_begins program)

pub code : (program name : Text) → is_no_option name ≡ true → AsksCode program name
code program = plain (AsksCode program) (code_empty program) (code_hyphen program) (code_begins program)
