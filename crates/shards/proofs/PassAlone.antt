-- The passes that feeders without locks would have: what their edits, their questions and the end are to them.
use Rattle.std.proofs.Common.{◌≡◌, ◌≢◌, ℕ, zero, suc, ◌+◌, ◌-◌, ◌<◌, ◌%◌, Bool, true, false, List, [], ◌∷◌, ◌++◌, set, map, replicate, length, get_or, Option, Some, None, refl, sym, ap, subst, ◌∙◌, inl, inr, arith}
use Rattle.std.specs.Prelude.{All, IfSome, filter, option_map, unwrap_or, if◌then◌else◌}
use Rattle.std.specs.List.{AllByRecursion, slice_get}
use Rattle.std.proofs.lemmas.Bool.{cases_eq, eq-eqb, ne_eqb}
use Rattle.std.proofs.lemmas.List.{append-nil, length-append, length-map, map-append, map-set}
use Rattle.std.proofs.lemmas.List.Elements.{All-filter, All-from_recursion, filter-append}
use Rattle.std.proofs.lemmas.List.FromFn.{get_or-map-range_with_len, length-map-range_with_len}
use Rattle.std.proofs.lemmas.Nat.{mod_below}
use Rattle.std.proofs.lemmas.Option.{get_or_from_slice_get, slice_get-map, slice_get_within}
use Rattle.intervals.specs.declared.operation.RegId.{RegId}
use Rattle.intervals.specs.declared.edit.Edit.{Edit}
use Rattle.shards.specs.declared.entry.Answer.{Answer}
use Rattle.shards.specs.declared.entry.Entry.{Entry}
use Rattle.shards.specs.declared.entry.NumberedEntry.{NumberedEntry}
use Rattle.shards.specs.declared.entry.Receipt.{Receipt}
use Rattle.shards.specs.declared.fault.ShardFault.{ShardFault}
use Rattle.shards.specs.declared.fault.ShardFault.TheVariants.{UnknownRegister, Memory}
use Rattle.shards.specs.Plan.{Plan}
use Rattle.shards.specs.Plain.{plain_entry, plain_numbered}
use Rattle.shards.specs.Journal.{IsJournalOf, count_by, edits_of, is_by, is_of}
use Rattle.shards.specs.Pass.{HasEntry, HasFarthest, IsInKeeping, IsPassOf, PassModel, farthest_of, last_in, new_pass, own_entries, with_own, with_seen}
use Rattle.shards.specs.Merge.{entries_of, is_numbered_by, numbered}
use Rattle.shards.specs.Closing.{AreComplete, AreItsPasses, IsSettledJournal}
use Rattle.shards.specs.Steps.{IsLive, IsRefusal, IsStanding, IsSubmitted, entered, entry_of, last_entry, numbered_entry}
use Rattle.shards.specs.Alone.{AreJournals, IsEnteredAlone, IsRefusalAlone, journal_in, pass_alone, passes_alone, with_entry}
use Rattle.shards.proofs.Slots.{get_push_at, get_set_other, get_set_same, set_as_it_is, some_within}
use Rattle.shards.proofs.Kept.{journal_push}

-- the numbers of a list's entries
numbered_more : (first : ℕ) (journal : List Entry) (entry : Entry) → numbered first (journal ++ entry ∷ []) ≡ numbered first journal ++ numbered_entry (first + length journal) entry ∷ []
numbered_more first [] entry = ap (λ (number : ℕ). numbered_entry number entry ∷ []) (omega arith)
numbered_more first (one ∷ journal) entry =
    ap (λ (rest : List NumberedEntry). numbered_entry first one ∷ rest)
    (numbered_more (first + 1) journal entry ∙ ap (λ (number : ℕ). numbered (first + 1) journal ++ numbered_entry number entry ∷ []) (omega arith))

alike_kept : (by : Bool) (known : NumberedEntry) (entry : Entry) (more : List NumberedEntry) (journal : List Entry) → length more ≡ length journal
    → length (if by then known ∷ more else more) ≡ length (if by then entry ∷ journal else journal)
alike_kept true known entry more journal same = ap suc same
alike_kept false known entry more journal same = same

-- a feeder has as many numbered entries as entries
counted_from : (feeder first : ℕ) (journal : List Entry) → length (filter (is_numbered_by feeder) (numbered first journal)) ≡ count_by feeder journal
counted_from feeder first [] = refl
counted_from feeder first (entry ∷ journal) =
    alike_kept (is_by feeder entry) (numbered_entry first entry) entry (filter (is_numbered_by feeder) (numbered (first + 1) journal)) (filter (is_by feeder) journal) (counted_from feeder (first + 1) journal)

pub counted : (feeder : ℕ) (journal : List Entry) → length (entries_of feeder journal) ≡ count_by feeder journal
counted feeder journal = counted_from feeder 0 journal

-- each entry of a journal is there at its number
numbered_there : (whole : List Entry) (first : ℕ) (journal : List Entry) → ((at : ℕ) → slice_get whole (first + at) ≡ slice_get journal at) → AllByRecursion (HasEntry whole) (numbered first journal)
numbered_there whole first [] is = tt
numbered_there whole first (entry ∷ journal) is = (
  ap (option_map plain_entry) (ap (slice_get whole) (omega arith) ∙ is 0),
  numbered_there whole (first + 1) journal (λ at. ap (slice_get whole) (omega arith) ∙ is (suc at)),
)

all_there : (feeder : ℕ) (journal : List Entry) → All (HasEntry journal) (entries_of feeder journal)
all_there feeder journal =
    All-filter (is_numbered_by feeder) (HasEntry journal) (numbered 0 journal)
    (All-from_recursion (HasEntry journal) (numbered 0 journal) (numbered_there journal 0 journal (λ at. ap (slice_get journal) (omega arith))))

each_got : (P : NumberedEntry → Type 0) (xs : List NumberedEntry) (at : ℕ) (got : Option NumberedEntry) → All P xs → slice_get xs at ≡ got → IfSome got P
each_got P xs at None all is = tt
each_got P xs at (Some known) all is = subst P (get_or_from_slice_get xs at known known is) (all at known (slice_get_within xs at known is))

-- the last entry of a feeder is there at its number
has_last_of : (feeder : ℕ) (journal : List Entry) → IfSome (last_in (entries_of feeder journal)) (HasEntry journal)
has_last_of feeder journal = each_got (HasEntry journal) (entries_of feeder journal) (length (entries_of feeder journal) - 1) (last_in (entries_of feeder journal)) (all_there feeder journal) refl

kept_own : (feeder number : ℕ) (entry : Entry) → entry.feeder ≡ feeder → filter (is_numbered_by feeder) (numbered_entry number entry ∷ []) ≡ numbered_entry number entry ∷ []
kept_own feeder number entry own = ap (λ (by : Bool). if by then numbered_entry number entry ∷ [] else []) (eq-eqb entry.feeder feeder own)

dropped : (feeder number : ℕ) (entry : Entry) → entry.feeder ≢ feeder → filter (is_numbered_by feeder) (numbered_entry number entry ∷ []) ≡ []
dropped feeder number entry other = ap (λ (by : Bool). if by then numbered_entry number entry ∷ [] else []) (ne_eqb entry.feeder feeder other)

entries_push : (feeder : ℕ) (journal : List Entry) (entry : Entry)
    → entries_of feeder (journal ++ entry ∷ []) ≡ entries_of feeder journal ++ filter (is_numbered_by feeder) (numbered_entry (length journal) entry ∷ [])
entries_push feeder journal entry =
    ap (filter (is_numbered_by feeder)) (numbered_more 0 journal entry ∙ ap (λ (number : ℕ). numbered 0 journal ++ numbered_entry number entry ∷ []) (omega arith))
    ∙ filter-append (is_numbered_by feeder) (numbered 0 journal) (numbered_entry (length journal) entry ∷ [])

-- a feeder's entries are one more where the new entry is by it, and else as before
entries_more : (feeder : ℕ) (journal : List Entry) (entry : Entry) → entry.feeder ≡ feeder → entries_of feeder (journal ++ entry ∷ []) ≡ entries_of feeder journal ++ numbered_entry (length journal) entry ∷ []
entries_more feeder journal entry own =
    entries_push feeder journal entry ∙ ap (λ (more : List NumberedEntry). entries_of feeder journal ++ more) (kept_own feeder (length journal) entry own)

entries_as_before : (feeder : ℕ) (journal : List Entry) (entry : Entry) → entry.feeder ≢ feeder → entries_of feeder (journal ++ entry ∷ []) ≡ entries_of feeder journal
entries_as_before feeder journal entry other =
    entries_push feeder journal entry
    ∙ ap (λ (more : List NumberedEntry). entries_of feeder journal ++ more) (dropped feeder (length journal) entry other)
    ∙ append-nil (entries_of feeder journal)

last_of_more : (journal : List Entry) (entry : Entry) → last_entry (journal ++ entry ∷ []) ≡ Some (numbered_entry (length journal) entry)
last_of_more journal entry =
    let last : length (journal ++ entry ∷ []) - 1 ≡ length journal = omega (arith, length-append journal (entry ∷ [])) in
    ap (λ (at : ℕ). option_map (numbered_entry at) (slice_get (journal ++ entry ∷ []) at)) last ∙ ap (option_map (numbered_entry (length journal))) (get_push_at journal entry)

has_got : (journal : List Entry) (at : ℕ) (got : Option Entry) → slice_get journal at ≡ got → IfSome (option_map (numbered_entry at) got) (HasEntry journal)
has_got journal at None is = tt
has_got journal at (Some entry) is = ap (option_map plain_entry) is

has_its_last : (journal : List Entry) → IfSome (last_entry journal) (HasEntry journal)
has_its_last journal = has_got journal (length journal - 1) (last_in journal) refl

-- the journal of a shard is there
pub there : (plan : Plan) (journals : List (List Entry)) (at : ℕ) → AreJournals plan journals → at < plan.shards → slice_get journals at ≡ Some (journal_in journals at)
there plan journals at are below =
    let found = some_within journals at (omega (arith, are.many, below)) in
    found.1 ∙ ap Some (sym (ap (λ (journal : Option (List Entry)). unwrap_or journal []) found.1))

-- the shard of an entry is one of the plan's
its_shard : (plan : Plan) (journals : List (List Entry)) (feeder : ℕ) (register : RegId) (edit : Edit) (receipt : Receipt) → AreJournals plan journals → IsEnteredAlone plan journals feeder register edit receipt → receipt.shard < plan.shards
its_shard plan journals feeder register edit receipt are is = omega (arith, is.shard, mod_below register.0 plan.shards are.some)

module _ (plan : Plan) (feeder : ℕ) (journals : List (List Entry)) where
  abbrev pub its_pass : PassModel
  its_pass = pass_alone plan feeder journals

  -- of a shard that is there the pass has the feeder's entries of its journal, and has seen the last one of all
  pub own_is : (at : ℕ) (journal : List Entry) → slice_get journals at ≡ Some journal → own_entries its_pass at ≡ entries_of feeder journal
  own_is at journal is = ap (λ (own : Option (List NumberedEntry)). unwrap_or own []) (slice_get-map (entries_of feeder) journals at ∙ ap (option_map (entries_of feeder)) is)

  farthest_got : (at : ℕ) (journal : List Entry) → slice_get journals at ≡ Some journal → slice_get its_pass.seen.farthest at ≡ Some (last_entry journal)
  farthest_got at journal is = slice_get-map last_entry journals at ∙ ap (option_map last_entry) is

  farthest_is : (at : ℕ) (journal : List Entry) → slice_get journals at ≡ Some journal → farthest_of its_pass at ≡ last_entry journal
  farthest_is at journal is = ap (λ (farthest : Option (Option NumberedEntry)). unwrap_or farthest None) (farthest_got at journal is)

  -- the journal of a shard is in keeping with the pass
  pub keeping_alone : (at : ℕ) (journal : List Entry) → slice_get journals at ≡ Some journal → IsInKeeping at its_pass journal
  keeping_alone at journal is =
      let own : own_entries its_pass at ≡ entries_of feeder journal = own_is at journal is in
      record {
        farthest = subst (λ (known : Option NumberedEntry). IfSome known (HasEntry journal)) (sym (farthest_is at journal is)) (has_its_last journal);
        last = subst (λ (entries : List NumberedEntry). IfSome (last_in entries) (HasEntry journal)) (sym own) (has_last_of feeder journal);
        count = sym (counted feeder journal) ∙ sym (ap length own);
      }

  pub of_plan_alone : AreJournals plan journals → feeder < plan.feeders → IsPassOf plan its_pass
  of_plan_alone are known = ((refl, length-map journals last_entry ∙ are.many), length-map journals (entries_of feeder) ∙ are.many, known)

  -- with one more entry by the feeder in a journal the pass has the entry
  told_more : (at : ℕ) (journal : List Entry) (entry : Entry) → entry.feeder ≡ feeder → slice_get journals at ≡ Some journal
      → pass_alone plan feeder (set journals at (journal ++ entry ∷ [])) ≡ with_own its_pass at (numbered_entry (length journal) entry)
  told_more at journal entry by is =
      let known : NumberedEntry = numbered_entry (length journal) entry in
      let own : map (entries_of feeder) (set journals at (journal ++ entry ∷ [])) ≡ set its_pass.own at (own_entries its_pass at ++ known ∷ []) =
      map-set (entries_of feeder) journals at (journal ++ entry ∷ [])
      ∙ ap (set its_pass.own at) (entries_more feeder journal entry by ∙ ap (λ (entries : List NumberedEntry). entries ++ known ∷ []) (sym (own_is at journal is))) in
      let farthest : map last_entry (set journals at (journal ++ entry ∷ [])) ≡ set its_pass.seen.farthest at (Some known) =
      map-set last_entry journals at (journal ++ entry ∷ []) ∙ ap (set its_pass.seen.farthest at) (last_of_more journal entry) in
      λ i. record { feeder = feeder; own = own i; seen = record { auditor = plan.name; farthest = farthest i } }

  -- with one more entry by another feeder the pass has the same own entries
  same_own : (at : ℕ) (journal : List Entry) (entry : Entry) → entry.feeder ≢ feeder → slice_get journals at ≡ Some journal
      → map (entries_of feeder) (set journals at (journal ++ entry ∷ [])) ≡ its_pass.own
  same_own at journal entry other is =
      map-set (entries_of feeder) journals at (journal ++ entry ∷ [])
      ∙ ap (set its_pass.own at) (entries_as_before feeder journal entry other)
      ∙ set_as_it_is its_pass.own at (entries_of feeder journal) (slice_get-map (entries_of feeder) journals at ∙ ap (option_map (entries_of feeder)) is)

  seen_all : (at : ℕ) (known : Option NumberedEntry) → slice_get its_pass.seen.farthest at ≡ Some known → its_pass ≡ with_seen its_pass at known
  seen_all at None is = refl
  seen_all at (Some known) is = ap (λ (farthest : List (Option NumberedEntry)). record its_pass { seen = record its_pass.seen { farthest = farthest } }) (sym (set_as_it_is its_pass.seen.farthest at (Some known) is))

  -- an answer of the journal is live, and the pass has seen it before
  pub live_alone : (register : ℕ) (answer : Answer) → AreJournals plan journals → feeder < plan.feeders → IsStanding plan register (journal_in journals (register % plan.shards)) answer
      → IsLive plan its_pass its_pass register answer
  live_alone register answer are known standing =
      let at : ℕ = register % plan.shards in
      let journal : List Entry = journal_in journals at in
      let below : at < plan.shards = mod_below register plan.shards are.some in
      record {
        of_plan = of_plan_alone are known;
        journal = journal;
        of_shard = are.each at below;
        keeping = keeping_alone at journal (there plan journals at are below);
        standing = standing;
        seen = seen_all at (last_entry journal) (farthest_got at journal (there plan journals at are below));
      }

  pub refused_alone : (register : ℕ) (fault : ShardFault) → AreJournals plan journals → feeder < plan.feeders → IsRefusalAlone plan register fault → IsRefusal plan its_pass register fault
  refused_alone register UnknownRegister are known is = (of_plan_alone are known, is)
  refused_alone register Memory are known is =
      let at : ℕ = register % plan.shards in
      let below : at < plan.shards = mod_below register plan.shards are.some in
      (of_plan_alone are known, is, (journal_in journals at, are.each at below, keeping_alone at (journal_in journals at) (there plan journals at are below)))
  refused_alone register fault are known is = absurd is

-- the pass of the feeder after an edit is that after the edit's receipt
pub told_alone : (plan : Plan) (journals : List (List Entry)) (feeder : ℕ) (register : RegId) (edit : Edit) (receipt : Receipt) → AreJournals plan journals → IsEnteredAlone plan journals feeder register edit receipt
    → pass_alone plan feeder (with_entry journals feeder register edit receipt) ≡ entered (pass_alone plan feeder journals) register edit receipt
told_alone plan journals feeder register edit receipt are is =
    let entry : Entry = entry_of feeder register edit receipt.reply in
    told_more plan feeder journals receipt.shard (journal_in journals receipt.shard) entry refl (there plan journals receipt.shard are (its_shard plan journals feeder register edit receipt are is))
    ∙ ap (λ (number : ℕ). with_own (pass_alone plan feeder journals) receipt.shard (numbered_entry number entry)) (sym is.number)

-- that of another feeder has the same own entries
pub others_alone : (plan : Plan) (journals : List (List Entry)) (feeder : ℕ) (register : RegId) (edit : Edit) (receipt : Receipt) (other at : ℕ) → other ≢ feeder → AreJournals plan journals → IsEnteredAlone plan journals feeder register edit receipt
    → own_entries (pass_alone plan other (with_entry journals feeder register edit receipt)) at ≡ own_entries (pass_alone plan other journals) at
others_alone plan journals feeder register edit receipt other at apart are is =
    ap (λ (own : List (List NumberedEntry)). unwrap_or (slice_get own at) [])
    (same_own plan other journals receipt.shard (journal_in journals receipt.shard) (entry_of feeder register edit receipt.reply) (λ same. apart (sym same))
    (there plan journals receipt.shard are (its_shard plan journals feeder register edit receipt are is)))

-- an edit that was entered was submitted as with the pass
pub submitted_alone : (plan : Plan) (journals : List (List Entry)) (feeder : ℕ) (register : RegId) (edit : Edit) (receipt : Receipt) → AreJournals plan journals → IsEnteredAlone plan journals feeder register edit receipt
    → IsSubmitted plan (pass_alone plan feeder journals) register edit receipt
submitted_alone plan journals feeder register edit receipt are is =
    let at : ℕ = receipt.shard in
    let journal : List Entry = journal_in journals at in
    let below : at < plan.shards = its_shard plan journals feeder register edit receipt are is in
    record {
      of_plan = of_plan_alone plan feeder journals are is.known;
      known = slice_get_within plan.claims register.0 is.answered.claim is.answered.known;
      shard = is.shard;
      before = journal;
      of_shard = journal_push plan at journal (entry_of feeder register edit receipt.reply) (are.each at below) is.answered is.known;
      number = is.number;
      change = is.change;
      keeping = keeping_alone plan feeder journals at journal (there plan journals at are below);
    }

map_none : {X : Type 0} (f : List Entry → X) (n : ℕ) → map f (replicate {A = List Entry} n []) ≡ replicate n (f [])
map_none f zero = refl
map_none {X = X} f (suc n) = ap (λ (xs : List X). f [] ∷ xs) (map_none f n)

-- before any edit the pass is a new one
pub fresh_alone : (plan : Plan) (feeder : ℕ) → pass_alone plan feeder (replicate plan.shards []) ≡ new_pass plan feeder
fresh_alone plan feeder = λ i. record {
  feeder = feeder;
  own = map_none (entries_of feeder) plan.shards i;
  seen = record { auditor = plan.name; farthest = map_none last_entry plan.shards i };
}

edits_push : (register : ℕ) (journal : List Entry) (entry : Entry) → edits_of register (journal ++ entry ∷ []) ≡ edits_of register journal ++ edits_of register (entry ∷ [])
edits_push register journal entry =
    ap (map (λ (one : Entry). one.edit)) (filter-append (is_of register) journal (entry ∷ []))
    ∙ map-append (λ (one : Entry). one.edit) (filter (is_of register) journal) (filter (is_of register) (entry ∷ []))

edits_of_own : (register : ℕ) (entry : Entry) → entry.register.0 ≡ register → edits_of register (entry ∷ []) ≡ entry.edit ∷ []
edits_of_own register entry own = ap (λ (is : Bool). map (λ (one : Entry). one.edit) (if is then entry ∷ [] else [])) (eq-eqb entry.register.0 register own)

edits_of_other : (register : ℕ) (entry : Entry) → entry.register.0 ≢ register → edits_of register (entry ∷ []) ≡ []
edits_of_other register entry other = ap (λ (is : Bool). map (λ (one : Entry). one.edit) (if is then entry ∷ [] else [])) (ne_eqb entry.register.0 register other)

-- of the journals of all shards, that of the receipt's shard has one more entry, and the others are as they were
journal_more : (journals : List (List Entry)) (feeder : ℕ) (register : RegId) (edit : Edit) (receipt : Receipt) (at : ℕ) → receipt.shard ≡ at → at < length journals
    → journal_in (with_entry journals feeder register edit receipt) at ≡ journal_in journals at ++ entry_of feeder register edit receipt.reply ∷ []
journal_more journals feeder register edit receipt at same below =
    ap (λ (own : ℕ). journal_in (set journals own (journal_in journals own ++ entry_of feeder register edit receipt.reply ∷ [])) at) same
    ∙ ap (λ (journal : Option (List Entry)). unwrap_or journal []) (get_set_same journals at (journal_in journals at ++ entry_of feeder register edit receipt.reply ∷ []) below)

journal_of_other : (journals : List (List Entry)) (feeder : ℕ) (register : RegId) (edit : Edit) (receipt : Receipt) (at : ℕ) → at ≢ receipt.shard → journal_in (with_entry journals feeder register edit receipt) at ≡ journal_in journals at
journal_of_other journals feeder register edit receipt at other =
    ap (λ (journal : Option (List Entry)). unwrap_or journal []) (get_set_other journals receipt.shard at (journal_in journals receipt.shard ++ entry_of feeder register edit receipt.reply ∷ []) other)

-- the edits of the entry's register are one more
pub edits_more : (plan : Plan) (journals : List (List Entry)) (feeder : ℕ) (register : RegId) (edit : Edit) (receipt : Receipt) → AreJournals plan journals → IsEnteredAlone plan journals feeder register edit receipt
    → edits_of register.0 (journal_in (with_entry journals feeder register edit receipt) (register.0 % plan.shards)) ≡ edits_of register.0 (journal_in journals (register.0 % plan.shards)) ++ edit ∷ []
edits_more plan journals feeder register edit receipt are is =
    let at : ℕ = register.0 % plan.shards in
    let entry : Entry = entry_of feeder register edit receipt.reply in
    ap (edits_of register.0) (journal_more journals feeder register edit receipt at is.shard (omega (arith, are.many, mod_below register.0 plan.shards are.some)))
    ∙ edits_push register.0 (journal_in journals at) entry
    ∙ ap (λ (edits : List Edit). edits_of register.0 (journal_in journals at) ++ edits) (edits_of_own register.0 entry refl)

-- those of any other register are as they were
pub edits_as_before : (plan : Plan) (journals : List (List Entry)) (feeder : ℕ) (register : RegId) (edit : Edit) (receipt : Receipt) (other : ℕ) → AreJournals plan journals → IsEnteredAlone plan journals feeder register edit receipt → other ≢ register.0
    → edits_of other (journal_in (with_entry journals feeder register edit receipt) (other % plan.shards)) ≡ edits_of other (journal_in journals (other % plan.shards))
edits_as_before plan journals feeder register edit receipt other are is apart =
    let at : ℕ = other % plan.shards in
    let entry : Entry = entry_of feeder register edit receipt.reply in
    elim (cases_eq at receipt.shard) [
      | inl same ↦
          ap (edits_of other) (journal_more journals feeder register edit receipt at (sym same) (omega (arith, are.many, mod_below other plan.shards are.some)))
          ∙ edits_push other (journal_in journals at) entry
          ∙ ap (λ (edits : List Edit). edits_of other (journal_in journals at) ++ edits) (edits_of_other other entry (λ own. apart (sym own)))
          ∙ append-nil (edits_of other (journal_in journals at))
      | inr elsewhere ↦ ap (edits_of other) (journal_of_other journals feeder register edit receipt at elsewhere)
    ]

-- of all feeders of the plan
module _ (plan : Plan) (journals : List (List Entry)) where
  pass_got : (feeder : ℕ) (d : PassModel) → feeder < plan.feeders → get_or (passes_alone plan journals) feeder d ≡ pass_alone plan feeder journals
  pass_got feeder d below = get_or-map-range_with_len (λ (one : ℕ). pass_alone plan one journals) 0 plan.feeders feeder feeder d below (omega arith)

  pub passes_each : (P : PassModel → Type 0) → ((feeder : ℕ) → feeder < plan.feeders → P (pass_alone plan feeder journals)) → All P (passes_alone plan journals)
  passes_each P each k d within =
      let below : k < plan.feeders = omega (arith, within, length-map-range_with_len (λ (feeder : ℕ). pass_alone plan feeder journals) 0 plan.feeders) in
      subst P (sym (pass_got k d below)) (each k below)

  pub passes_complete : AreComplete plan.feeders (passes_alone plan journals)
  passes_complete feeder below = (
    feeder,
    pass_alone plan feeder journals,
    omega (arith, below, length-map-range_with_len (λ (one : ℕ). pass_alone plan one journals) 0 plan.feeders),
    pass_got feeder (pass_alone plan feeder journals) below,
    refl,
  )

  pub passes_its : AreJournals plan journals → AreItsPasses plan (passes_alone plan journals)
  passes_its are = record {
    each = passes_each (IsPassOf plan) (λ feeder below. of_plan_alone plan feeder journals are below);
    apart = λ i j d less within.
        let below : j < plan.feeders = omega (arith, within, length-map-range_with_len (λ (one : ℕ). pass_alone plan one journals) 0 plan.feeders) in
        λ same.
        let one : i ≡ j = sym (ap (λ (pass : PassModel). pass.feeder) (pass_got i d (omega (arith, less, below)))) ∙ same ∙ ap (λ (pass : PassModel). pass.feeder) (pass_got j d below) in
        absurd (omega (arith, less, one));
  }

  -- the journal of a shard is settled for them
  pub settled_alone : (at : ℕ) (journal : List Entry) → slice_get journals at ≡ Some journal → IsJournalOf plan at journal → IsSettledJournal plan (passes_alone plan journals) at journal
  settled_alone at journal is of_shard = record {
    of_shard = of_shard;
    merge = record {
      of_each = passes_each (λ own. map plain_numbered (entries_of own.feeder journal) ≡ map plain_numbered (own_entries own at))
          (λ feeder below. ap (map plain_numbered) (sym (own_is plan feeder journals at journal is)));
      of_all = λ k d within. passes_complete (get_or journal k d).feeder (of_shard.feeders k d within);
    };
    farthest = passes_each (λ own. HasFarthest at own journal) (λ feeder below. (keeping_alone plan feeder journals at journal is).farthest);
  }
