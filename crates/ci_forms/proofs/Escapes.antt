-- What is escaped has no byte that would end it.
use Rattle.std.proofs.Common.{◌≡◌, ◌≢◌, ◌∙◌, ℕ, ◌+◌, ◌/◌, ◌%◌, ◌<◌, ◌≤◌, ◌&&◌, not, Bool, true, false, cond, eqb, ltb, List, [], ◌∷◌, ◌++◌, flat_map, map, encode_utf8, append_assoc, refl, sym, ap, arith, false-eqb}
use Rattle.std.proofs.lemmas.Bool.{and_parts}
use Rattle.std.proofs.lemmas.Bool.Decides.{nat_tests}
use Rattle.std.proofs.lemmas.List.Folds.{list_all-append}
use Rattle.std.specs.List.{list_all}
use lib.Utf8.{encode}
use Rattle.bstr.specs.Utf8.{lossy_chars}
use Rattle.phrases.specs.Names.{printed_char}
use Rattle.ci_forms.specs.Bytes.{has_whole_entities, is_property_byte, is_text_byte}
use Rattle.ci_forms.specs.GitHub.{file_property, name_property, property_char}
use Rattle.ci_forms.specs.Xml.{xml_allowed, xml_char, xml_text}

-- a test that each byte from 128 on passes
abbrev PassesAbove : (ℕ → Bool) → Type 0
PassesAbove test = (b : ℕ) → 128 ≤ b → test b ≡ true

passes_by : (test : ℕ → Bool) (c : ℕ) (t u v : Bool) → PassesAbove test → ltb c 128 ≡ t → test c ≡ true
    → list_all test (cond t (c ∷ []) (cond u ((192 + c / 64) ∷ (128 + c % 64) ∷ []) (cond v ((224 + c / 4096) ∷ (128 + c / 64 % 64) ∷ (128 + c % 64) ∷ []) ((240 + c / 262144) ∷ (128 + c / 4096 % 64) ∷ (128 + c / 64 % 64) ∷ (128 + c % 64) ∷ [])))) ≡ true
passes_by test c true u v above is one = rw one refl
passes_by test c false true v above is one = rw (above (192 + c / 64) (omega arith), above (128 + c % 64) (omega arith)) refl
passes_by test c false false true above is one =
    rw (above (224 + c / 4096) (omega arith), above (128 + c / 64 % 64) (omega arith), above (128 + c % 64) (omega arith)) refl
passes_by test c false false false above is one =
    rw (above (240 + c / 262144) (omega arith), above (128 + c / 4096 % 64) (omega arith), above (128 + c / 64 % 64) (omega arith), above (128 + c % 64) (omega arith)) refl

-- the bytes of a character pass where it does
passes : (test : ℕ → Bool) (c : ℕ) → PassesAbove test → test c ≡ true → list_all test (encode_utf8 c) ≡ true
unfolding encode
passes test c above one = passes_by test c (ltb c 128) (ltb c 2048) (ltb c 65536) above refl one

both : (t u : Bool) → t ≡ true → u ≡ true → (t && u) ≡ true
both t u one other = rw (one, other) refl

all_passes : (test : ℕ → Bool) (write : ℕ → List ℕ) → ((c : ℕ) → list_all test (write c) ≡ true) → (cs : List ℕ) → list_all test (flat_map write cs) ≡ true
all_passes test write each [] = refl
all_passes test write each (c ∷ cs) = list_all-append test (write c) (flat_map write cs) ∙ both _ _ (each c) (all_passes test write each cs)

-- properties

above_property : PassesAbove is_property_byte
above_property b large = grind (arith, nat_tests)

property_by : (c : ℕ) (percent return end colon comma : Bool) → eqb c 37 ≡ percent → eqb c 13 ≡ return → eqb c 10 ≡ end → eqb c 58 ≡ colon → eqb c 44 ≡ comma
    → list_all is_property_byte (cond percent (37 ∷ 50 ∷ 53 ∷ []) (cond return (37 ∷ 48 ∷ 68 ∷ []) (cond end (37 ∷ 48 ∷ 65 ∷ []) (cond colon (37 ∷ 51 ∷ 65 ∷ []) (cond comma (37 ∷ 50 ∷ 67 ∷ []) (encode_utf8 c)))))) ≡ true
property_by c true return end colon comma p r e o a = refl
property_by c false true end colon comma p r e o a = refl
property_by c false false true colon comma p r e o a = refl
property_by c false false false true comma p r e o a = refl
property_by c false false false false true p r e o a = refl
property_by c false false false false false p r e o a = passes is_property_byte c above_property (rw (r, e, o, a) refl)

property_passes : (c : ℕ) → list_all is_property_byte (property_char c) ≡ true
property_passes c = property_by c (eqb c 37) (eqb c 13) (eqb c 10) (eqb c 58) (eqb c 44) refl refl refl refl refl

pub file_stays : (name : List ℕ) → list_all is_property_byte (file_property name) ≡ true
unfolding file_property
file_stays name = all_passes is_property_byte property_char property_passes (lossy_chars name)

pub name_stays : (name : List ℕ) → list_all is_property_byte (name_property name) ≡ true
unfolding name_property
name_stays name = all_passes is_property_byte property_char property_passes (map printed_char (lossy_chars name))

-- texts in XML

above_text : PassesAbove is_text_byte
above_text b large = grind (arith, nat_tests)

allowed_passes : (c : ℕ) → eqb c 34 ≡ false → eqb c 60 ≡ false → eqb c 62 ≡ false → is_text_byte (xml_allowed c) ≡ true
allowed_passes c q o e = grind (arith, nat_tests)

text_by : (c : ℕ) (amp left right quote : Bool) → eqb c 38 ≡ amp → eqb c 60 ≡ left → eqb c 62 ≡ right → eqb c 34 ≡ quote
    → list_all is_text_byte (cond amp (38 ∷ 97 ∷ 109 ∷ 112 ∷ 59 ∷ []) (cond left (38 ∷ 108 ∷ 116 ∷ 59 ∷ []) (cond right (38 ∷ 103 ∷ 116 ∷ 59 ∷ []) (cond quote (38 ∷ 113 ∷ 117 ∷ 111 ∷ 116 ∷ 59 ∷ []) (encode_utf8 (xml_allowed c)))))) ≡ true
text_by c true left right quote a o e q = refl
text_by c false true right quote a o e q = refl
text_by c false false true quote a o e q = refl
text_by c false false false true a o e q = refl
text_by c false false false false a o e q = passes is_text_byte (xml_allowed c) above_text (allowed_passes c q o e)

text_passes : (c : ℕ) → list_all is_text_byte (xml_char c) ≡ true
text_passes c = text_by c (eqb c 38) (eqb c 60) (eqb c 62) (eqb c 34) refl refl refl refl

pub text_stays : (text : List ℕ) → list_all is_text_byte (xml_text text) ≡ true
unfolding xml_text
text_stays text = all_passes is_text_byte xml_char text_passes (lossy_chars text)

-- entities in XML

abbrev is_other : ℕ → Bool
is_other b = not (eqb b 38)

entities_after : (bytes rest : List ℕ) → list_all is_other bytes ≡ true → has_whole_entities (bytes ++ rest) ≡ has_whole_entities rest
entities_after [] rest none = refl
entities_after (b ∷ bytes) rest none = let parts = and_parts (is_other b) (list_all is_other bytes) none in rw parts.0 (entities_after bytes rest parts.1)

above_other : PassesAbove is_other
above_other b large = grind (arith, nat_tests)

allowed_other : (c : ℕ) → eqb c 38 ≡ false → is_other (xml_allowed c) ≡ true
allowed_other c a = grind (arith, nat_tests)

entity_by : (c : ℕ) (rest : List ℕ) (amp left right quote : Bool) → eqb c 38 ≡ amp
    → has_whole_entities (cond amp (38 ∷ 97 ∷ 109 ∷ 112 ∷ 59 ∷ []) (cond left (38 ∷ 108 ∷ 116 ∷ 59 ∷ []) (cond right (38 ∷ 103 ∷ 116 ∷ 59 ∷ []) (cond quote (38 ∷ 113 ∷ 117 ∷ 111 ∷ 116 ∷ 59 ∷ []) (encode_utf8 (xml_allowed c))))) ++ rest) ≡ has_whole_entities rest
entity_by c rest true left right quote a = refl
entity_by c rest false true right quote a = refl
entity_by c rest false false true quote a = refl
entity_by c rest false false false true a = refl
entity_by c rest false false false false a = entities_after (encode_utf8 (xml_allowed c)) rest (passes is_other (xml_allowed c) above_other (allowed_other c a))

entities_of : (cs : List ℕ) → has_whole_entities (flat_map xml_char cs) ≡ true
entities_of [] = refl
entities_of (c ∷ cs) = entity_by c (flat_map xml_char cs) (eqb c 38) (eqb c 60) (eqb c 62) (eqb c 34) refl ∙ entities_of cs

pub entities_stay : (text : List ℕ) → has_whole_entities (xml_text text) ≡ true
unfolding xml_text
entities_stay text = entities_of (lossy_chars text)
