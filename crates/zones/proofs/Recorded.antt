-- The records of the values: what an edit makes of them.
use Rattle.std.proofs.Common.{◌≡◌, ◌≢◌, ℤ, Bool, true, false, List, [], Option, Some, None, refl, sym, ap, ◌∙◌, subst, cond}
use Rattle.std.specs.Prelude.{Contains, IfSome, IsSome, MatchOption, is_some, unwrap_or}
use Rattle.std.specs.HashMap.{get}
use Rattle.std.specs.Ordering.{int_eq}
use Rattle.std.proofs.lemmas.Bool.{both_ways}
use Rattle.intervals.specs.declared.operation.Op.{Op}
use Rattle.intervals.specs.declared.operation.OpId.{OpId}
use Rattle.intervals.specs.declared.operation.Value.{Value}
use Rattle.intervals.specs.declared.operation.Value.TheVariants.{Nil, Int}
use Rattle.intervals.specs.Edit.{op_of}
use Rattle.intervals.specs.Kind.{HasNoWrite}
use Rattle.intervals.specs.Standing.{HasDistinctIds}
use Rattle.intervals.proofs.Ids.{found_by_id}
use Rattle.intervals.specs.Operation.{IsJudgedRead, IsWrite, is_write, judged, same_value, value_of}
use Rattle.zone_tree.specs.declared.edge.Edge.TheVariants.{Before}
use Rattle.zone_tree.specs.Edge.{ComesBefore}
use Rattle.zones.specs.declared.edges.Edges.{Edges}
use Rattle.zones.specs.declared.records.Records.{Records}
use Rattle.zones.specs.Edges.{AreEdges, AreEdgesAt, AreEdgesAtSome, NamesWrite, edges_of_nothing}
use Rattle.zones.specs.Members.{IsChange, IsTheWriteAt}
use Rattle.zones.specs.Records.{AreRecords, HasNoEmptyRecord, HasRecord, edges_at, put_at}
use Rattle.zones.specs.Zoned.{other_value, value_in}
use Rattle.zones.proofs.EdgesOf.{edges_elsewhere, edges_of_none, has_begun}
use Rattle.zones.proofs.Ends.{none_begins, none_ends}
use Rattle.zones.proofs.Judged.{is_judged, is_judged_by_end}
use Rattle.zones.proofs.Members.{Decides-same_value, all_from, in_none, kept_present}

-- the edges of each value without operations
edges_of_no : (v : Value) → AreEdges [] v (edges_of_nothing v)
edges_of_no v = record {
  same = refl;
  named = all_from (λ op. IsWrite op → value_of op.act ≢ v) [] (λ op h. absurd (in_none op h));
  write = edges_of_none [] v (all_from (λ op. IsWrite op → value_of op.act ≢ v) [] (λ op h. absurd (in_none op h)));
  read = record {
    begin = none_begins [] v IsJudgedRead (all_from (λ op. IsJudgedRead op → value_of op.act ≢ v) [] (λ op h. absurd (in_none op h)));
    end = none_ends [] v IsJudgedRead (all_from (λ op. IsJudgedRead op → value_of op.act ≢ v) [] (λ op h. absurd (in_none op h)));
  };
}

pub records_at_first : (records : Records) → records.of_nil ≡ edges_of_nothing Nil → ((number : ℤ) → get int_eq records.of_numbers number ≡ None) → AreRecords [] records
records_at_first records nil none = record {
  edges = by_value;
  filled = λ number e. absurd (let f : None ≡ Some (edges_of_nothing (Int number)) = sym (none number) ∙ e in cc);
}
  where
    by_value : (v : Value) → AreEdges [] v (edges_at records v)
    by_value Nil = subst (AreEdges [] Nil) (sym nil) (edges_of_no Nil)
    by_value (Int number) = subst (AreEdges [] (Int number)) (sym (ap (λ (o : Option Edges). unwrap_or o (edges_of_nothing (Int number))) (none number))) (edges_of_no (Int number))

-- records that have the same edges for each value are those of the operations too
pub records_kept : (ops : List Op) (records changed : Records) → changed.of_nil ≡ records.of_nil → ((number : ℤ) → get int_eq changed.of_numbers number ≡ get int_eq records.of_numbers number)
    → AreRecords ops records → AreRecords ops changed
records_kept ops records changed nil same are = record {
  edges = by_value;
  filled = λ number e. are.filled number (sym (same number) ∙ e);
}
  where
    by_value : (v : Value) → AreEdges ops v (edges_at changed v)
    by_value Nil = subst (AreEdges ops Nil) (sym nil) (are.edges Nil)
    by_value (Int number) = subst (AreEdges ops (Int number)) (sym (ap (λ (o : Option Edges). unwrap_or o (edges_of_nothing (Int number))) (same number))) (are.edges (Int number))

-- the value of a judged operation has a record
pub has_record : (ops : List Op) (records : Records) → AreRecords ops records → (op : Op) → Contains (judged ops) op → (v : Value) → value_of op.act ≡ v → HasRecord records v
has_record ops records are op h Nil same = tt
has_record ops records are op h (Int n) same = by_cases (get int_eq records.of_numbers n) refl
  where
    none : get int_eq records.of_numbers n ≡ None → ⊥
    none e =
        let of_nothing : AreEdges ops (Int n) (edges_of_nothing (Int n)) = subst (AreEdges ops (Int n)) (ap (λ (o : Option Edges). unwrap_or o (edges_of_nothing (Int n))) e) (are.edges (Int n)) in
        by_kind of_nothing (is_write op) refl
      where
        by_kind : AreEdges ops (Int n) (edges_of_nothing (Int n)) → (t : Bool) → is_write op ≡ t → ⊥
        by_kind of true t = absurd (let g : ComesBefore Before Before = has_begun IsWrite ops (Int n) Before of.write.begin op (kept_present is_judged ops op h).0 t same in cc)
        by_kind of false t = absurd (let g : ComesBefore Before Before = has_begun IsJudgedRead ops (Int n) Before of.read.begin op (kept_present is_judged ops op h).0 (is_judged_by_end (is_write op) (is_some op.end) (kept_present is_judged ops op h).1 t) same in cc)

    by_cases : (o : Option Edges) → get int_eq records.of_numbers n ≡ o → IsSome o
    by_cases None e = absurd (none e)
    by_cases (Some edges) e = refl

-- the edges of two values after a change, put in the records
module _ (before : List Op) (old new : Option Op) (after : List Op) (change : IsChange before old new after) where
  old_apart : (v : Value) → (o : Option Op) → value_in o ≢ Some v → IfSome o (λ op. value_of op.act ≢ v)
  old_apart v None n = tt
  old_apart v (Some op) n = λ e. n (ap Some e)

  new_apart : (v : Value) (first : Option Value) (o : Option Op) → first ≢ Some v → other_value first (value_in o) ≢ Some v → IfSome o (λ op. value_of op.act ≢ v)
  new_apart v first None n m = tt
  new_apart v None (Some op) n m = λ e. m (ap Some e)
  new_apart v (Some u) (Some op) n m = λ e. by_cases (same_value u (value_of op.act)) refl e m
    where
      by_cases : (t : Bool) → same_value u (value_of op.act) ≡ t → value_of op.act ≡ v → cond t None (Some (value_of op.act)) ≢ Some v → ⊥
      by_cases true s e k = n (ap Some ((Decides-same_value u (value_of op.act)).0 s ∙ e))
      by_cases false s e k = k (ap Some e)

  put_is : (v : Value) (value : Option Value) (found : Option Edges) (edges : Edges) → AreEdgesAtSome after value found → (value ≢ Some v → AreEdges after v edges) → AreEdges after v (put_at found v edges)
  put_is v None None edges is others = others (λ e. absurd (cc))
  put_is v None (Some f) edges is others = absurd (cc)
  put_is v (Some u) None edges is others = absurd is
  put_is v (Some u) (Some f) edges is others = by_cases (same_value f.value v) refl
    where
      by_cases : (t : Bool) → same_value f.value v ≡ t → AreEdges after v (cond t f edges)
      by_cases true e = subst (λ (w : Value). AreEdges after w f) (sym is.same ∙ (Decides-same_value f.value v).0 e) is
      by_cases false e = others (λ g. let same : u ≡ v = cc in both_ways (same_value f.value v) e ((Decides-same_value f.value v).1 (is.same ∙ same)))

  pub records_after : (records changed : Records) (edges : Option Edges × Option Edges) → AreRecords before records → HasNoEmptyRecord changed
      → AreEdgesAt after (value_in old) (other_value (value_in old) (value_in new)) edges → ((v : Value) → edges_at changed v ≡ put_at edges.1 v (put_at edges.0 v (edges_at records v)))
      → AreRecords after changed
  records_after records changed edges are filled is put = record {
    edges = λ v. subst (AreEdges after v) (sym (put v))
        (put_is v (other_value (value_in old) (value_in new)) edges.1 (put_at edges.0 v (edges_at records v)) is.other
        (λ second. put_is v (value_in old) edges.0 (edges_at records v) is.one
        (λ first. edges_elsewhere before old new after change v (edges_at records v) (old_apart v old first) (new_apart v (value_in old) new first second) (are.edges v))));
    filled = filled;
  }

  -- there is a record for the first of the two values
  pub first_recorded : (records : Records) (edges : Option Edges × Option Edges) → AreRecords before records → AreEdgesAt after (value_in old) (other_value (value_in old) (value_in new)) edges
      → IfSome edges.0 (λ e. HasRecord records e.value)
  first_recorded records edges are is = by_old old edges.0 change.goes is.one
    where
      by_old : (o : Option Op) (found : Option Edges) → IfSome o (λ op. Contains (judged before) op) → AreEdgesAtSome after (value_in o) found → IfSome found (λ e. HasRecord records e.value)
      by_old o None h k = tt
      by_old None (Some f) h k = absurd (cc)
      by_old (Some op) (Some f) h k = has_record before records are op h f.value (sym k.same)

  -- without an operation that comes there is no second value
  pub second_none : new ≡ None → (edges : Option Edges × Option Edges) → AreEdgesAt after (value_in old) (other_value (value_in old) (value_in new)) edges → edges.1 ≡ None
  second_none none edges is = by_old old new none edges.1 is.other
    where
      by_old : (o n : Option Op) → n ≡ None → (found : Option Edges) → AreEdgesAtSome after (other_value (value_in o) (value_in n)) found → found ≡ None
      by_old None None e found k = k
      by_old (Some op) None e found k = k
      by_old o (Some op) e found k = absurd (cc)

  pub second_some : (edges : Option Edges × Option Edges) → AreEdgesAt after (value_in old) (other_value (value_in old) (value_in new)) edges → IsSome edges.1 → IsSome new
  second_some edges is some = by_new new refl
    where
      by_new : (n : Option Op) → new ≡ n → IsSome n
      by_new None e = absurd (let none : edges.1 ≡ None = second_none e edges is in both_ways (is_some edges.1) (ap is_some none) some)
      by_new (Some op) e = refl

-- edges at the values of what went and of what came
pub at_values : (ops : List Op) (old new : Option Op) (first second : Option Value) → first ≡ value_in old → second ≡ other_value first (value_in new)
    → (edges : Option Edges × Option Edges) → AreEdgesAt ops first second edges → AreEdgesAt ops (value_in old) (other_value (value_in old) (value_in new)) edges
at_values ops old new first second first_is second_is edges is =
    subst (λ (u : Option Value). AreEdgesAt ops u (other_value u (value_in new)) edges) first_is
    (subst (λ (u : Option Value). AreEdgesAt ops first u edges) second_is is)

-- the write that a record names is found in the table
pub named_found : (ops : List Op) (v : Value) → HasDistinctIds ops → (id : OpId) → NamesWrite ops v (Some id) → MatchOption (op_of ops id) (HasNoWrite ops v) (IsTheWriteAt ops v)
named_found ops v distinct id (w, is, named) =
    subst (λ (o : Option Op). MatchOption o (HasNoWrite ops v) (IsTheWriteAt ops v)) (sym (ap (op_of ops) (sym named) ∙ found_by_id ops w distinct is.present)) is
