-- What was read of files whose bytes are known.
use Rattle.std.proofs.Common.{◌≡◌, ◌∙◌, ◌<◌, ℕ, zero, suc, ◌+◌, List, [], ◌∷◌, ◌++◌, map, length, get_or, take, Option, Some, None, sym, ap, subst, rules, arith, refl, Vec, Global}
use Rattle.std.proofs.lemmas.List.{length-map, map_more}
use Rattle.std.specs.Prelude.{IfSome}
use Rattle.std.specs.Borrow.{Bor}
use Rattle.tower_file.specs.Contents.{TowerModel}
use Rattle.tower_file.specs.Tower.{IsTowerOf}
use Rattle.command_parts.specs.Files.{AreHeld}

-- the tower that the bytes say is that of the file
pub said : (held : Option (List ℕ)) (bytes input : List ℕ) (tower : TowerModel) → IfSome held (λ known. bytes ≡ known) → input ≡ bytes → IsTowerOf input tower → IfSome held (λ file. IsTowerOf file tower)
said None bytes input tower read same says = search rules
said (Some known) bytes input tower read same says = subst (λ (b : List ℕ). IsTowerOf b tower) (same ∙ read) says

abbrev tail : List (Option (List ℕ)) → List (Option (List ℕ))
tail [] = []
tail (_ ∷ rest) = rest

held_at : (files : List ℕ → Option (List ℕ)) (names : List (Bor (List ℕ))) (known : List (List ℕ)) (i : ℕ) (d : Bor (List ℕ)) → i < length names → AreHeld files (map (λ name. name.now) names) known → files (get_or names i d).now ≡ Some (get_or known i [])
held_at files [] known i d within held = absurd (omega arith)
held_at files (name ∷ names) [] i d within held = search rules
held_at files (name ∷ names) (text ∷ known) zero d within held = ap (λ (found : List (Option (List ℕ))). get_or found 0 None) held
held_at files (name ∷ names) (text ∷ known) (suc i) d within held = held_at files names known i d (omega arith) (ap tail held)

pub as_many : (files : List ℕ → Option (List ℕ)) (names : List (Bor (List ℕ))) (known : List (List ℕ)) → AreHeld files (map (λ name. name.now) names) known → length known ≡ length names
as_many files names known held =
    sym (length-map known (λ text. Some text)) ∙ sym (ap length held) ∙ length-map (map (λ name. name.now) names) files ∙ length-map names (λ name. name.now)

is_known : (found left : Option (List ℕ)) (known : List ℕ) → found ≡ Some known → IfSome found (λ bytes. left ≡ Some bytes) → left ≡ Some known
is_known found left known is opened = let P : Option (List ℕ) → Type 0 = λ o. IfSome o (λ bytes. left ≡ Some bytes) in subst P is opened

-- what was read of a file whose bytes are known, as what is known
pub as_some : (held : Option (List ℕ)) (bytes : List ℕ) → IfSome held (λ known. bytes ≡ known) → IfSome held (λ known. Some bytes ≡ Some known)
as_some None bytes is = search rules
as_some (Some known) bytes is = ap Some is

-- one more file, after those that were opened
pub open_more : (files later : List ℕ → Option (List ℕ)) (names : List (Bor (List ℕ))) (lefts : List (Option (List ℕ))) (known : List (List ℕ)) (left : Option (List ℕ)) (i : ℕ) (d : Bor (List ℕ)) → i < length names → later ≡ files → IfSome (later (get_or names i d).now) (λ bytes. left ≡ Some bytes) → (AreHeld files (map (λ name. name.now) names) known → lefts ≡ map (λ text. Some text) (take i known)) → AreHeld files (map (λ name. name.now) names) known → lefts ++ left ∷ [] ≡ map (λ text. Some text) (take (i + 1) known)
open_more files later names lefts known left i d within stays opened so_far held =
    let many = as_many files names known held in
    let inside : i < length known = omega (arith, many, within) in
    let at : later (get_or names i d).now ≡ Some (get_or known i []) = ap (λ (f : List ℕ → Option (List ℕ)). f (get_or names i d).now) stays ∙ held_at files names known i d within held in
    rw (so_far held, is_known _ left _ at opened) (sym (map_more (λ text. Some text) known i [] inside))

-- files that are unchanged hold what they held
pub held_later : (files later : List ℕ → Option (List ℕ)) (names others : List (Bor (List ℕ))) (known : List (List ℕ)) → later ≡ files → others ≡ names → AreHeld files (map (λ name. name.now) names) known → AreHeld later (map (λ name. name.now) others) known
held_later files later names others known stays same held = rw (stays, same) held

-- texts that were read are those that are known to be there
pub read_known : (texts : List (Vec ℕ Global)) (known : List (List ℕ)) → map (λ text. Some text.items) texts ≡ map (λ text. Some text) known → map (λ text. text.items) texts ≡ known
read_known [] [] same = refl
read_known [] (text ∷ known) same = absurd (cc)
read_known (text ∷ texts) [] same = absurd (cc)
read_known (text ∷ texts) (one ∷ known) same =
    let head : text.items ≡ one = cc in
    let rest : map (λ text. Some text.items) texts ≡ map (λ text. Some text) known = ap tail same in
    rw (head, read_known texts known rest) refl

known_by : (found : Option (List ℕ)) (text known : List ℕ) → found ≡ Some known → IfSome found (λ bytes. text ≡ bytes) → text ≡ known
known_by found text known is read = let P : Option (List ℕ) → Type 0 = λ o. IfSome o (λ bytes. text ≡ bytes) in subst P is read

-- what was read of the file of a number is what is known of it
pub known_at : (files later : List ℕ → Option (List ℕ)) (names : List (Bor (List ℕ))) (known : List (List ℕ)) (text : List ℕ) (i : ℕ) (d : Bor (List ℕ)) → i < length names → later ≡ files → IfSome (later (get_or names i d).now) (λ bytes. text ≡ bytes)
    → AreHeld files (map (λ name. name.now) names) known → text ≡ get_or known i []
known_at files later names known text i d within stays read held =
    known_by _ text _ (ap (λ (f : List ℕ → Option (List ℕ)). f (get_or names i d).now) stays ∙ held_at files names known i d within held) read
