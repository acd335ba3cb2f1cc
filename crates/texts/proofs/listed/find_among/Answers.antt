use Rattle.std.proofs.Common.{rules, ◌≡◌, false, slice_index_or, sym, ◌∙◌}
use Rattle.std.specs.Str.{str_eq_ignore_ascii_case}
use Rattle.texts.specs.Codes.{entry_key}
use Rattle.texts.proofs.Parts.{is_after, is_next, no_entry}
use Rattle.texts.proofs.listed.find_among.Goals as goal

pub returns-then-is_sought : goal.returns-then-is_sought
returns-then-is_sought c =
    sym (is_next c.args.by_name c.args.entries.now c.loop-entry.entry-index _ c.args.word.now c.loop-entry-test.true (search rules)) ∙ c.loop-entry.invariant

pub loop-entry-preserved : goal.loop-entry-preserved
loop-entry-preserved c =
    let entry = slice_index_or c.args.entries.now c.loop-entry.entry-index no_entry in
    let other : str_eq_ignore_ascii_case (entry_key c.args.by_name entry) c.args.word.now ≡ false = search rules in
    sym (is_after c.args.by_name c.args.entries.now c.loop-entry.entry-index no_entry c.args.word.now c.loop-entry-test.true other) ∙ c.loop-entry.invariant
