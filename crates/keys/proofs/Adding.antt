-- What is named by the elements of a text up to a place.
use Rattle.std.proofs.Common.{◌≡◌, ◌∙◌, ℕ, List, [], ◌∷◌, ◌++◌, Option, refl, ap}
use Rattle.std.specs.Prelude.{fold}
use Rattle.std.specs.List.{AllZip}
use Rattle.std.proofs.lemmas.List.Sums.{fold-append}
use Rattle.edn_reader.specs.Grammar.{ElementModel}
use Rattle.edn_reader.specs.Text.{IsFront}
use Rattle.jepsen_form.specs.Mention.{IsMention, MentionModel}
use Rattle.keys.specs.Named.{NamesModel, with_mention}

-- up to a place the elements of a text say this of registers, and with it this is named
pub record AddedUpTo (before : NamesModel) (text : List ℕ) (at : ℕ) (named : NamesModel) : Type 0 where
  pub pieces : List ElementModel
  pub front : IsFront text pieces at
  pub mentions : List (Option MentionModel)
  pub each : AllZip IsMention pieces mentions
  pub named_is : named ≡ fold with_mention before mentions

and_one : (pieces : List ElementModel) (mentions : List (Option MentionModel)) (piece : ElementModel) (mention : Option MentionModel) → AllZip IsMention pieces mentions → IsMention piece mention
    → AllZip IsMention (pieces ++ piece ∷ []) (mentions ++ mention ∷ [])
and_one [] [] piece mention each is = (is, tt)
and_one [] (other ∷ mentions) piece mention each is = absurd each
and_one (first ∷ pieces) [] piece mention each is = absurd each
and_one (first ∷ pieces) (other ∷ mentions) piece mention each is = (each.0, and_one pieces mentions piece mention each.1 is)

-- with one more element, which ends at the next place
pub one_added : (before : NamesModel) (text : List ℕ) (at next : ℕ) (named : NamesModel) (piece : ElementModel) (mention : Option MentionModel) → AddedUpTo before text at named
    → ((pieces : List ElementModel) → IsFront text pieces at → IsFront text (pieces ++ piece ∷ []) next)
    → IsMention piece mention → AddedUpTo before text next (with_mention named mention)
one_added before text at next named piece mention so_far goes is = record {
  pieces = so_far.pieces ++ piece ∷ [];
  front = goes so_far.pieces so_far.front;
  mentions = so_far.mentions ++ mention ∷ [];
  each = and_one so_far.pieces so_far.mentions piece mention so_far.each is;
  named_is = ap (λ (names : NamesModel). with_mention names mention) so_far.named_is ∙ (rw (fold-append with_mention before so_far.mentions (mention ∷ [])) refl);
}
