use Rattle.std.proofs.Common.{◌≡◌, ◌∙◌, ℕ, List, ap, map, rules, string_bytes, subst, sym}
use Rattle.std.specs.Prelude.{IfSome}
use Rattle.std.specs.Borrow.{Bor}
use Rattle.std.specs.Io.KnownBytes.{Appends}
use Rattle.words.specs.Words.{asked_lint, asked_tower}
use Rattle.lint_command.specs.declared.looking.Printout.{Printout}
use Rattle.lint_command.proofs.Findings.{HasLooked, held_file, looked_by, looked_named}
use Rattle.command_parts.proofs.Readings.{held_later, read_known}
use Rattle.lint_command.proofs.looking.look.Goals.{in-Each+in_ok-told-in-Each, in-File+in_ok-told-in-File}
use Rattle.lint_command.proofs.looking.look.Goals as goal

pub returns-in-Ok-write_text-clause-looked : goal.returns-in-Ok-write_text-clause-looked
returns-in-Ok-write_text-clause-looked g c = λ traces held.
    let files = g.F.Files.held c.args.files.now in
    let asked = c.args.asked.now in
    let denied = c.in_ok-denied.denied.items in
    let old = g.W.Write.contents c.args.out.now in
    let new = g.W.Write.contents c.write_text.new.out in
    let text : List ℕ = string_bytes c.match-asked.told.text in
    let written : Appends old new text = search rules in
    let later = held_later files (g.F.Files.held c.read_named.new.files) asked.traces.items c.deref.result.now traces c.read_named.ensures.stays c.deref.ensures.value held in
    let are_read = read_known c.in_ok-texts.texts.items traces (c.in_ok-texts.ensures.held traces later) in
    let are : map (λ slice. slice.now) c.in-Ok.slices.items ≡ traces = rw (c.in-Ok.ensures, c.deref-2.ensures.value) are_read in
    let tells : Printout → Type 0 = λ told. HasLooked (asked_lint asked) files traces denied (string_bytes told.text) told.status in
    let looked : tells c.match-asked.told =
    elim c.match-asked.branch [
      | in-Each+in_ok-told-in-Each w ↦
          let told = w.in_ok-told-in-Each.told in
          let is = w.in_ok-told-in-Each.ensures.told in
          subst tells (sym w.told-is)
          (subst (λ (codes : List (Bor (List ℕ))). HasLooked (asked_lint asked) files traces codes (string_bytes told.text) told.status) w.deref-in-Each-2.ensures.value
          (looked_named (asked_lint asked) files traces (map (λ slice. slice.now) w.deref-in-Each.result.now) w.deref-in-Each-2.result.now w.in-Each.kind is.0 (string_bytes told.text) told.status
          (ap asked_tower w.in-Each.is) (ap (map (λ slice. slice.now)) w.deref-in-Each.ensures.value ∙ are) is.1 is.2))
      | in-File+in_ok-told-in-File w ↦
          let told = w.in_ok-told-in-File.told in
          let is = w.in_ok-told-in-File.ensures.told in
          let name = w.in-File.name in
          let known : IfSome (files name.now) (λ known. c.in_ok-file.file.items ≡ known) = held_file files asked.tower name c.file.result c.in_ok-file.file.items w.in-File.is c.file.ensures c.in_ok-file.ensures.held in
          subst tells (sym w.told-is)
          (subst (λ (codes : List (Bor (List ℕ))). HasLooked (asked_lint asked) files traces codes (string_bytes told.text) told.status) w.deref-in-File-3.ensures.value
          (looked_by (asked_lint asked) files traces (map (λ slice. slice.now) w.deref-in-File-2.result.now) w.deref-in-File-3.result.now name.now w.deref-in-File.result.now is.0 is.1 (string_bytes told.text) told.status
          (ap asked_tower w.in-File.is) (subst (λ (bytes : List ℕ). IfSome (files name.now) (λ known. bytes ≡ known)) (sym w.deref-in-File.ensures.value) known)
          (ap (map (λ slice. slice.now)) w.deref-in-File-2.ensures.value ∙ are) is.2 is.3))
    ] in
    record {
      names = looked.0;
      found = looked.1;
      findings = looked.2;
      denied = denied;
      denied_are = c.in_ok-denied.ensures.denied;
      text = text;
      told = looked.3;
      written = written;
    }
