-- The arguments that are found in the words say which command they ask for.
use Rattle.std.proofs.Common.{◌≡◌, ◌==◌, ℕ, Bool, true, false, List, Option, Some, None, ◌∙◌, length, refl, sym, subst, ap, codes}
use Rattle.std.specs.Option.{option_map}
use Rattle.clap.specs.Words.{App, HasMatchesOf, Row, Text, first_of, found_of, is_simple, rows_of, subcommand_of, subcommand_rows_of, subcommand_name_of}
use Rattle.clap.specs.declared.ArgMatches.{ArgMatches}
use Rattle.intervals.specs.declared.claim.Initial.{Initial}
use Rattle.intervals.specs.declared.claim.Kind.{Kind}
use Rattle.words.specs.declared.check.ReportForm.{ReportForm}
use Rattle.jepsen_form.specs.declared.item.MomentField.{MomentField}
use Rattle.words.specs.declared.colour.ColourWord.{ColourWord}
use Rattle.words.specs.declared.demand.Demand.{Demand}
use Rattle.words.specs.declared.lint.LintForm.{LintForm}
use Rattle.words.specs.declared.show.Picture.{Picture}
use Rattle.words.specs.declared.show.ThemeWord.{ThemeWord}
use Rattle.words.specs.declared.watch.LineForm.{LineForm}
use Rattle.words.specs.Words.{Asked, AskedCheck, AskedKeys, AskedLint, AskedShow, AskedTower, AskedWatch, any_by, asked_by, check_by, colours_in, command_by, command_line, count_in, demand_by, form_in, initial_named, is_for_people, is_in_lines, is_nothing, is_set, keys_by, kind_named, line_form_in, lint_by, lint_form_in, moments_in, only_by, picture_by, said_in, shards_in, show_by, theme_in, tower_by, traces_in, watch_by}

one_by_one : {A B C : Type 0} (f : B → C) (g : A → B) (found : Option A) → option_map f (option_map g found) ≡ option_map (λ a. f (g a)) found
one_by_one f g None = refl
one_by_one f g (Some a) = refl

of_both : {A B : Type 0} (found : Option (A × B)) (a : A) (b : B) → option_map (λ p. p.0) found ≡ Some a → option_map (λ p. p.1) found ≡ Some b → found ≡ Some (a, b)
of_both None a b first second = absurd (cc)
of_both (Some p) a b first second =
    let left : p.0 ≡ a = cc in
    let right : p.1 ≡ b = cc in
    rw (← left, ← right) refl

name_is : (matches : ArgMatches) → option_map (λ p. p.0) (subcommand_rows_of matches) ≡ subcommand_name_of matches
name_is matches = one_by_one _ _ _

-- the command whose name and rows were found
entered : (matches : ArgMatches) (name : Text) (rows : List Row) → Some name ≡ subcommand_name_of matches → Some rows ≡ option_map (λ p. p.1) (subcommand_rows_of matches) → subcommand_rows_of matches ≡ Some (name, rows)
entered matches name rows named has = of_both (subcommand_rows_of matches) name rows (name_is matches ∙ sym named) (sym has)

pub asks_command : (matches found : ArgMatches) (name : Text) (asked : Option Asked) → Some name ≡ subcommand_name_of matches → Some (rows_of (found_of found)) ≡ option_map (λ p. p.1) (subcommand_rows_of matches) → asked ≡ command_by name (rows_of (found_of found)) → asked ≡ asked_by (subcommand_rows_of matches)
asks_command matches found name asked named has is = rw (entered matches name (rows_of (found_of found)) named has) is

-- a check whose arguments are all there
pub is_check : (rows : List Row) (tower : AskedTower) (shards : ℕ) (moments : MomentField) (order : Option Text) (form : ReportForm) (only_failing : Bool) (demand : Demand) (traces : List Text) → Some tower ≡ tower_by rows → Some shards ≡ said_in shards_in (codes "shards") rows
    → Some moments ≡ said_in moments_in (codes "moment") rows → first_of (codes "order") rows ≡ order → Some form ≡ said_in form_in (codes "as") rows → Some only_failing ≡ only_by form rows → Some demand ≡ demand_by rows
    → traces ≡ traces_in rows → (length traces == 0) ≡ false
    → ◌≡◌ {A = Option AskedCheck} (Some (record { tower = tower; shards = shards; moments = moments; order = order; form = form; only_failing = only_failing; demand = demand; traces = traces })) (check_by rows)
is_check rows tower shards moments order form only_failing demand traces tower_is shards_is moments_is order_is form_is only_is demand_is traces_are some =
    rw (← tower_is, ← shards_is, ← moments_is, ← form_is, ← only_is, ← demand_is, ← traces_are, some, order_is) refl

pub no_tower : (rows : List Row) → None ≡ tower_by rows → ◌≡◌ {A = Option AskedCheck} None (check_by rows)
no_tower rows none = rw (← none) refl

-- a watch whose arguments are all there
pub is_watch : (rows : List Row) (tower : AskedTower) (moments : MomentField) (shards : ℕ) (form : LineForm) (until_fail : Bool) (settle : ℕ) (demand : Demand) (traces : List Text) → Some tower ≡ tower_by rows → Some moments ≡ said_in moments_in (codes "moment") rows
    → Some shards ≡ said_in shards_in (codes "shards") rows → Some form ≡ said_in line_form_in (codes "as") rows → until_fail ≡ is_set (codes "until-fail") rows
    → Some settle ≡ said_in count_in (codes "settle") rows → Some demand ≡ demand_by rows → traces ≡ traces_in rows → (length traces == 0) ≡ false
    → ◌≡◌ {A = Option AskedWatch} (Some (record { tower = tower; shards = shards; moments = moments; form = form; until_fail = until_fail; settle = settle; demand = demand; traces = traces })) (watch_by rows)
is_watch rows tower moments shards form until_fail settle demand traces tower_is moments_is shards_is form_is until_is settle_is demand_is traces_are some =
    rw (← tower_is, ← moments_is, ← shards_is, ← form_is, ← settle_is, ← demand_is, ← traces_are, some, ← until_is) refl

pub no_tower_to_watch : (rows : List Row) → None ≡ tower_by rows → ◌≡◌ {A = Option AskedWatch} None (watch_by rows)
no_tower_to_watch rows none = rw (← none) refl

-- the colours that are asked for, by what was found of the form
pub colours_by : (rows : List Row) (colours : ColourWord) (found for_people : Bool) → found ≡ for_people → Some colours ≡ said_in (colours_in found) (codes "colour") rows
    → Some colours ≡ said_in (colours_in for_people) (codes "colour") rows
colours_by rows colours found for_people is said = subst (λ (people : Bool). Some colours ≡ said_in (colours_in people) (codes "colour") rows) is said

-- a picture whose arguments are all there
pub is_show : (rows : List Row) (tower : AskedTower) (moments : MomentField) (register : Option Text) (picture : Picture) (around : ℕ) (all : Bool) (width : Option ℕ) (theme : ThemeWord) (colours : ColourWord) (demand : Demand) (traces : List Text) → Some tower ≡ tower_by rows → Some moments ≡ said_in moments_in (codes "moment") rows
    → first_of (codes "register") rows ≡ register → Some picture ≡ picture_by rows → Some around ≡ said_in count_in (codes "around") rows → all ≡ is_set (codes "all") rows → width ≡ said_in count_in (codes "width") rows → Some theme ≡ said_in theme_in (codes "theme") rows → Some colours ≡ said_in (colours_in (is_in_lines picture)) (codes "colour") rows → Some demand ≡ demand_by rows
    → traces ≡ traces_in rows → (length traces == 0) ≡ false
    → ◌≡◌ {A = Option AskedShow} (Some (record { tower = tower; moments = moments; register = register; picture = picture; around = around; all = all; width = width; theme = theme; colours = colours; demand = demand; traces = traces })) (show_by rows)
is_show rows tower moments register picture around all width theme colours demand traces tower_is moments_is register_is picture_is around_is all_is width_is theme_is colours_is demand_is traces_are some =
    rw (← tower_is, ← moments_is, ← picture_is, ← around_is, ← theme_is, ← colours_is, ← demand_is, ← traces_are, some, register_is, ← all_is, ← width_is) refl

pub no_tower_to_show : (rows : List Row) → None ≡ tower_by rows → ◌≡◌ {A = Option AskedShow} None (show_by rows)
no_tower_to_show rows none = rw (← none) refl

-- a look through a tower file or traces
pub is_lint : (rows : List Row) (tower : AskedTower) (moments : MomentField) (form : LintForm) (most : ℕ) (denied : Option Text) (colours : ColourWord) (traces : List Text) → Some tower ≡ tower_by rows → Some moments ≡ said_in moments_in (codes "moment") rows
    → Some form ≡ said_in lint_form_in (codes "as") rows → Some most ≡ said_in count_in (codes "max") rows → first_of (codes "deny") rows ≡ denied → Some colours ≡ said_in (colours_in (is_for_people form)) (codes "colour") rows → traces ≡ traces_in rows → is_nothing tower traces ≡ false
    → ◌≡◌ {A = Option AskedLint} (Some (record { tower = tower; moments = moments; form = form; most = most; denied = denied; colours = colours; traces = traces })) (lint_by rows)
is_lint rows tower moments form most denied colours traces tower_is moments_is form_is most_is denied_is colours_is traces_are some =
    rw (← tower_is, ← moments_is, ← form_is, ← most_is, ← colours_is, ← traces_are, some, denied_is) refl

-- no look where neither is named
pub is_no_lint : (rows : List Row) (tower : AskedTower) (moments : MomentField) (form : LintForm) (most : ℕ) (colours : ColourWord) (traces : List Text) → Some tower ≡ tower_by rows → Some moments ≡ said_in moments_in (codes "moment") rows
    → Some form ≡ said_in lint_form_in (codes "as") rows → Some most ≡ said_in count_in (codes "max") rows → Some colours ≡ said_in (colours_in (is_for_people form)) (codes "colour") rows → traces ≡ traces_in rows → is_nothing tower traces ≡ true
    → ◌≡◌ {A = Option AskedLint} None (lint_by rows)
is_no_lint rows tower moments form most colours traces tower_is moments_is form_is most_is colours_is traces_are none =
    rw (← tower_is, ← moments_is, ← form_is, ← most_is, ← colours_is, ← traces_are, none) refl

pub no_tower_to_lint : (rows : List Row) → None ≡ tower_by rows → ◌≡◌ {A = Option AskedLint} None (lint_by rows)
no_tower_to_lint rows none = rw (← none) refl

-- a call of `keys` whose arguments are all there
pub is_keys : (rows : List Row) (kind : Kind) (initial : Initial) (any_writes : Bool) (traces : List Text) → Some kind ≡ said_in kind_named (codes "kind") rows → Some initial ≡ said_in (initial_named kind) (codes "initial") rows
    → Some any_writes ≡ any_by kind rows → traces ≡ traces_in rows → (length traces == 0) ≡ false
    → ◌≡◌ {A = Option AskedKeys} (Some (record { kind = kind; initial = initial; any_writes = any_writes; traces = traces })) (keys_by rows)
is_keys rows kind initial any_writes traces kind_is initial_is any_is traces_are some = rw (← kind_is, ← initial_is, ← any_is, ← traces_are, some) refl

-- the command that words name, by what a parse of them found
pub asks : (matches : ArgMatches) (line : App) (words : List Text) → HasMatchesOf line words matches → line ≡ command_line → asked_by (subcommand_of command_line words) ≡ asked_by (subcommand_rows_of matches)
asks matches line words has is =
    ap asked_by (sym ((has (ap is_simple is)).1 ∙ ap (λ (a : App). subcommand_of a words) is))
