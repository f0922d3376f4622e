-- Every refusal of a call for a text is small: its number and its detail can be taken apart again. And a text of a file begins
-- at a small place.
use Prim.Native.Nat.{ℕ, ◌<◌}
use mathlib.Core.Path.{◌≡◌, refl}
use mathlib.Core.List.{List}
use Rattle.std.specs.Prelude.{Err, Ok, Result}
use Rattle.words.specs.Words.{words}
use Rattle.text_views.specs.declared.Text.{Text}
use Rattle.text_views.specs.TextViews.{is_text, text_at, text_in, text_of, characters_of, field_of}
use Rattle.places.proofs.OfType.{Way, nowhere, another, of_type_lem, way}
use Rattle.text_views.proofs.Refusals.{text_refused, characters_refused, field_refused}
use Rattle.answers.specs.Answers.{Small, SmallReply}
use Rattle.answers.proofs.Refusals.{found_small, type_small}
use Rattle.refusals.specs.Refusals.{refused_with}
use Rattle.refusals.proofs.Laws.{refused_not_given}
use Rattle.refusals.specs.declared.Refusal.{Refusal}
use Rattle.text_views.specs.declared.Characters.{Characters}
use Rattle.text_views.specs.declared.Field.{Field}
use Rattle.dgn_text.specs.TextReplies.{text_reply, characters_reply, field_reply}

module _ (dim : ℕ) (s : List ℕ) (at : ℕ) where
  pub text_small : (t : Text) → text_of dim s at ≡ Ok t → at < 524288
  unfolding text_of text_in
  text_small t q = go (way is_text refused_with dim s at (Ok (text_at dim (words s) at)) (Ok t) q)
    where
      go : Way is_text refused_with dim s at (Ok (text_at dim (words s) at)) (Ok t) → at < 524288
      go (nowhere n p e f) = absurd (refused_not_given f)
      go (another end depth above e h f) = found_small dim s at end depth above e
      go (of_type_lem end depth above e h f) = found_small dim s at end depth above e

  ---- the three calls

  pub text_refused_small : (n p : ℕ) → text_of dim s at ≡ refused_with n p → Small n p
  text_refused_small n p q = type_small dim s at is_text n p (text_refused dim s at n p q)

  pub characters_refused_small : (n p : ℕ) → characters_of dim s at ≡ refused_with n p → Small n p
  characters_refused_small n p q = type_small dim s at is_text n p (characters_refused dim s at n p q)

  pub field_refused_small : (k n p : ℕ) → field_of dim s at k ≡ refused_with n p → Small n p
  field_refused_small k n p q = type_small dim s at is_text n p (field_refused dim s at n p k q)

  pub text_reply_small : SmallReply (text_reply dim at (text_of dim s at))
  text_reply_small = go (text_of dim s at) refl
    where
      go : (r : Result Text Refusal) → text_of dim s at ≡ r → SmallReply (text_reply dim at r)
      go (Ok t) q = tt
      go (Err refusal) q = text_refused_small refusal.number refusal.place q

  pub characters_reply_small : SmallReply (characters_reply (characters_of dim s at))
  characters_reply_small = go (characters_of dim s at) refl
    where
      go : (r : Result Characters Refusal) → characters_of dim s at ≡ r → SmallReply (characters_reply r)
      go (Ok part) q = tt
      go (Err refusal) q = characters_refused_small refusal.number refusal.place q

  pub field_reply_small : (k : ℕ) → SmallReply (field_reply (field_of dim s at k))
  field_reply_small k = go (field_of dim s at k) refl
    where
      go : (r : Result Field Refusal) → field_of dim s at k ≡ r → SmallReply (field_reply r)
      go (Ok field) q = tt
      go (Err refusal) q = field_refused_small k refusal.number refusal.place q
