-- The prefix of a chunk with which an element ended: where the element's bytes are, and that it waits or was read.
use Rattle.std.proofs.Common.{◌≡◌, ℕ, ◌+◌, ◌-◌, ◌≤◌, List, [], ◌∷◌, ◌++◌, length, take, drop, Option, Some, None, Result, refl, sym, ap, subst, ◌∙◌, arith, length-drop}
use Rattle.std.proofs.Math.Seq.{drop-append-add}
use Rattle.std.specs.Borrow.{Bor}
use Rattle.std.specs.Prelude.{IfSome}
use Rattle.std.proofs.lemmas.List.{drop-take, take_all}
use Rattle.edn_reader.specs.Grammar.{ElementModel}
use Rattle.edn_reader.specs.Splitting.{IsLast, SplitterModel, keep}
use Rattle.jepsen_form.specs.declared.gist.RefusedForm.{RefusedForm}
use Rattle.jepsen_form.specs.declared.item.Item.{Item}
use Rattle.jepsen_form.specs.declared.item.MomentField.{MomentField}
use Rattle.tower_file.specs.Contents.{TowerModel}
use Rattle.shards.specs.Pass.{PassModel}
use Rattle.feeders.specs.declared.intake.Intake.{Intake}
use Rattle.feeders.specs.declared.tail_buffer.TailBuffer.{TailBuffer}
use Rattle.feeders.specs.declared.pending.Pending.{Pending}
use Rattle.feeders.specs.declared.pending.Pending.TheVariants.{Whole}
use Rattle.feeders.specs.declared.progress.Progress.{Progress}
use Rattle.feeders.specs.Pending.{CanReadBehind, CanSettle, CanSettleAs, WaitsBetweenElements, IsItemOfLast, IsPageOf, IsPending, IsPendingAs, IsReadAs}
use Rattle.feeders.specs.Progress.{IsAhead, IsAt}
use Rattle.feeders.specs.Setting.{Setting}
use Rattle.feeders.proofs.Settling.{read_ahead}

-- the bytes after the end of what is kept are those of the prefix
pub front_after : (kept : TailBuffer) (front : List ℕ) (start end : ℕ) → end ≡ kept.from + length kept.bytes.items → end ≤ start
    → drop (start - kept.from) (kept.bytes.items ++ front) ≡ drop (start - end) front
front_after kept front start end is low =
    ap (λ (n : ℕ). drop n (kept.bytes.items ++ front)) (omega (arith, is, low))
    ∙ drop-append-add kept.bytes.items front (start - end)

-- the bytes of an element that is in the prefix alone
pub front_text : (kept : TailBuffer) (front : List ℕ) (start end : ℕ) → end ≡ kept.from + length kept.bytes.items → end ≤ start
    → drop (start - kept.from) (kept.bytes.items ++ front) ≡ take (length front - (start - end)) (drop (start - end) front)
front_text kept front start end is low =
    front_after kept front start end is low
    ∙ sym (take_all (length front - (start - end)) (drop (start - end) front) (omega (arith, length-drop (start - end) front)))

-- an item that was read with the element is that of its bytes, after what is kept
pub item_of_front : (tower : TowerModel) (chosen : MomentField) (splitter : SplitterModel) (item : Option (Result Item RefusedForm)) (kept : TailBuffer) (front : List ℕ) (start end : ℕ)
    → end ≡ kept.from + length kept.bytes.items → splitter.ended.start ≡ start → IfSome item (λ _. end ≤ splitter.ended.start)
    → IsItemOfLast tower chosen splitter (drop (splitter.ended.start - end) front) item
    → IsItemOfLast tower chosen splitter (drop (start - kept.from) (kept.bytes.items ++ front)) item
item_of_front tower chosen splitter None kept front start end is starts after read = read
item_of_front tower chosen splitter (Some item) kept front start end is starts after read =
    subst (λ (text : List ℕ). IsItemOfLast tower chosen splitter text (Some item))
    (ap (λ (n : ℕ). drop (n - end) front) starts ∙ sym (front_after kept front start end is (omega (arith, starts, after)))) read

-- the part of a page is the bytes of the element, after what is kept
pub page_of_front : (page : Option (Bor (List ℕ))) (kept : TailBuffer) (piece : List ℕ) (used start end : ℕ)
    → end ≡ kept.from + length kept.bytes.items → start ≤ end + used
    → IfSome page (λ text. (end ≤ start) × (text.now ≡ take (used - (start - end)) (drop (start - end) piece)))
    → IsPageOf page (drop (start - kept.from) (kept.bytes.items ++ take used piece))
page_of_front None kept piece used start end is high on = on
page_of_front (Some text) kept piece used start end is high on =
    on.1
    ∙ sym (drop-take (start - end) (used - (start - end)) piece)
    ∙ ap (λ (n : ℕ). drop (start - end) (take n piece)) (omega (arith, on.0, high))
    ∙ sym (front_after kept (take used piece) start end is on.0)

-- the element waits, and its bytes are kept
pub whole_waits : (setting : Setting) (items : List (Result Item RefusedForm)) (pass : PassModel) (old new : Intake) (start : ℕ) (text : List ℕ) (last : ElementModel)
    → IsLast old.splitter last → last.text ≡ text → IsAt setting.plan setting.start items old.progress pass
    → new.pending ≡ Whole start → new.splitter ≡ old.splitter → new.progress ≡ old.progress → drop (start - new.kept.from) new.kept.bytes.items ≡ text
    → IsPending setting items (last ∷ []) new pass
whole_waits setting items pass old new start text last is text_is at pending same progress kept =
    subst (λ (p : Pending). IsPendingAs p setting items (last ∷ []) new pass) (sym pending)
    (last, refl, (subst (λ (s : SplitterModel). IsLast s last) (sym same) is, text_is ∙ sym kept), subst (λ (p : Progress). IsAt setting.plan setting.start items p pass) (sym progress) at)

between_after : (old new : Intake) (start : ℕ) (front : List ℕ) → CanReadBehind start front old → new.splitter ≡ old.splitter → new.progress.place ≡ old.progress.place → WaitsBetweenElements new
between_after old new start front can same place = record {
  keep_is = ap keep same ∙ can.keep_is ∙ ap (λ (s : SplitterModel). s.taken) (sym same);
  counted = omega (arith, place, can.counted, ap (λ (s : SplitterModel). s.taken) same);
  fits = omega (arith, can.fits, ap (λ (s : SplitterModel). s.taken) same);
}

pub can_whole : (old new : Intake) (start : ℕ) (front : List ℕ) → CanReadBehind start front old → IsAhead old.progress → new.pending ≡ Whole start → new.splitter ≡ old.splitter
    → new.progress ≡ old.progress → new.kept.from ≤ start → drop (start - new.kept.from) new.kept.bytes.items ≡ drop (start - old.kept.from) (old.kept.bytes.items ++ front)
    → new.kept.from + length new.kept.bytes.items ≡ old.kept.from + length old.kept.bytes.items + length front → CanSettle new
can_whole old new start front can ahead pending same progress low kept long = record {
  by = subst (λ (p : Pending). CanSettleAs p new) (sym pending) (
    subst IsAhead (sym progress) ahead,
    record {
      low = low;
      high = omega (arith, long, can.high);
      element = (can.element.0, subst (λ (s : SplitterModel). IsLast s can.element.0) (sym same) can.element.1, can.element.2, can.element.3 ∙ sym kept);
      starts = ap (λ (s : SplitterModel). s.ended.start) same ∙ can.starts;
      ends = ap (λ (s : SplitterModel). s.taken) same ∙ can.ends ∙ sym long;
    },
    between_after old new start front can same (ap (λ (p : Progress). p.place) progress),
  );
}

-- the element was read at once
pub can_read_at_once : (old new : Intake) (start : ℕ) (front : List ℕ) (setting : Setting) (piece : ElementModel) → CanReadBehind start front old → IsAhead old.progress → new.splitter ≡ old.splitter
    → IsReadAs setting.tower setting.chosen piece old.progress new.progress new.pending → CanSettle new
can_read_at_once old new start front setting piece can ahead same read = record {
  by = read_ahead new.pending setting piece old.progress new read ahead (between_after old new start front can same);
}
