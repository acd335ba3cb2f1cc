-- What traces name, whose bytes are known.
use Rattle.std.proofs.Common.{◌≡◌, ◌<◌, ◌+◌, ℕ, List, [], ◌∷◌, ◌++◌, Option, length, get_or, map, take, sym, subst, arith}
use Rattle.std.specs.Prelude.{IfSome}
use Rattle.std.specs.Borrow.{Bor}
use Rattle.std.proofs.lemmas.List.{get_or-map, length-map, take_more}
use Rattle.edn_reader.specs.declared.fault.EdnFault.{EdnFault}
use Rattle.keys.specs.Named.{AreNamesAfter, NamesAfter, NamesModel, none, next}
use Rattle.command_parts.specs.Files.{AreHeld}
use Rattle.command_parts.proofs.Readings.{as_many, known_at}

-- one more text, after those before it
pub and_one : {before between after : NamesModel} {texts : List (List ℕ)} {faults : List (Option EdnFault)} (text : List ℕ) (fault : Option EdnFault) → AreNamesAfter before texts faults between → NamesAfter between text fault after
    → AreNamesAfter before (texts ++ text ∷ []) (faults ++ fault ∷ []) after
and_one text fault none is = next is none
and_one text fault (next now more) is = next now (and_one text fault more is)

-- one more file of which all bytes are known
pub one_more : (files later : List ℕ → Option (List ℕ)) (names : List (Bor (List ℕ))) (texts : List (List ℕ)) (before between after : NamesModel) (faults : List (Option EdnFault)) (fault : Option EdnFault) (text : List ℕ) (i : ℕ) (d : Bor (List ℕ)) → i < length names → later ≡ files
    → IfSome (later (get_or names i d).now) (λ known. text ≡ known) → NamesAfter between text fault after → AreHeld files (map (λ name. name.now) names) texts
    → AreNamesAfter before (take i texts) faults between → AreNamesAfter before (take (i + 1) texts) (faults ++ fault ∷ []) after
one_more files later names texts before between after faults fault text i d within stays read is held so_far =
    let inside : i < length texts = omega (arith, as_many files names texts held, within) in
    let text_is : text ≡ get_or texts i [] = known_at files later names texts text i d within stays read held in
    rw (take_more texts i [] inside) (and_one (get_or texts i []) fault so_far (subst (λ (t : List ℕ). NamesAfter between t fault after) text_is is))

-- one more text
pub one_more_text : (texts : List (Bor (List ℕ))) (before between after : NamesModel) (faults : List (Option EdnFault)) (fault : Option EdnFault) (i : ℕ) (d : Bor (List ℕ)) → i < length texts → NamesAfter between (get_or texts i d).now fault after
    → AreNamesAfter before (take i (map (λ text. text.now) texts)) faults between → AreNamesAfter before (take (i + 1) (map (λ text. text.now) texts)) (faults ++ fault ∷ []) after
one_more_text texts before between after faults fault i d within is so_far =
    let bytes : List (List ℕ) = map (λ text. text.now) texts in
    let inside : i < length bytes = omega (arith, length-map texts (λ text. text.now), within) in
    let text_is : get_or bytes i d.now ≡ (get_or texts i d).now = get_or-map (λ (text : Bor (List ℕ)). text.now) texts i d d.now within in
    rw (take_more bytes i d.now inside) (and_one (get_or bytes i d.now) fault so_far (subst (λ (text : List ℕ). NamesAfter between text fault after) (sym text_is) is))
