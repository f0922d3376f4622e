-- Each call for a text is refused as a call at a place is, or with 6 at the element where it is no text.
use Prim.Native.Nat.{ℕ}
use mathlib.Core.Path.{◌≡◌, sym, ap, ◌∙◌}
use mathlib.Core.Logic.{inl, inr}
use mathlib.Core.Bool.{Bool, true, false, cond}
use mathlib.Core.List.{List}
use lib.Dec.{ltb}
use Rattle.std.specs.Prelude.{Ok, Err}
use Rattle.words.specs.Words.{words}
use Rattle.texts.specs.Texts.{fields_in, counts_at}
use Rattle.places.proofs.Refusals.{spotted_refused}
use Rattle.places.proofs.OfType.{Way, nowhere, another, of_type_lem, way}
use Rattle.refusals.specs.Refusals.{refused_with}
use Rattle.refusals.proofs.Laws.{number_is, place_is, refusal_is, given_not_refused}
use Rattle.text_views.specs.TextViews.{is_text, text_at, text_in, text_of, characters_at, characters_of, field_at, field_in, field_of}
use Rattle.text_views.specs.Refusals.{TextRefused}
use Rattle.text_views.specs.Characters.{characters_with}

module _ (dim : ℕ) (s : List ℕ) (at n p : ℕ) where
  pub text_refused : text_of dim s at ≡ refused_with n p → TextRefused dim s at n p
  unfolding text_of text_in
  text_refused q = go (way is_text refused_with dim s at (Ok (text_at dim (words s) at)) (refused_with n p) q)
    where
      go : Way is_text refused_with dim s at (Ok (text_at dim (words s) at)) (refused_with n p) → TextRefused dim s at n p
      go (nowhere m r e f) = inl (spotted_refused dim s at n p (e ∙ ap Err (sym (refusal_is f))))
      go (another end depth above e h f) = inr (record { number = number_is f; place = place_is f; end = end; depth = depth; above = above; found = e; other = h })
      go (of_type_lem end depth above e h f) = absurd (given_not_refused f)

  pub characters_refused : characters_of dim s at ≡ refused_with n p → TextRefused dim s at n p
  unfolding characters_of characters_at
  characters_refused q = go (way is_text refused_with dim s at (characters_with _ _) (refused_with n p) q)
    where
      go : {i c : ℕ} → Way is_text refused_with dim s at (characters_with i c) (refused_with n p) → TextRefused dim s at n p
      go (nowhere m r e f) = inl (spotted_refused dim s at n p (e ∙ ap Err (sym (refusal_is f))))
      go (another end depth above e h f) = inr (record { number = number_is f; place = place_is f; end = end; depth = depth; above = above; found = e; other = h })
      go (of_type_lem end depth above e h f) = absurd (given_not_refused f)

  -- also with 13 at 0 where there is no field k
  pub field_refused : (k : ℕ) → field_of dim s at k ≡ refused_with n p → TextRefused dim s at n p
  unfolding field_of field_in field_at
  field_refused k q =
      let counts = counts_at dim (words s) at in
      go (ltb k (fields_in counts)) (way is_text refused_with dim s at (cond (ltb k (fields_in counts)) (field_at dim (words s) at k) (refused_with 13 0)) (refused_with n p) q)
    where
      go : (b : Bool) → Way is_text refused_with dim s at (cond b (field_at dim (words s) at k) (refused_with 13 0)) (refused_with n p) → TextRefused dim s at n p
      go b (nowhere m r e f) = inl (spotted_refused dim s at n p (e ∙ ap Err (sym (refusal_is f))))
      go b (another end depth above e h f) = inr (record { number = number_is f; place = place_is f; end = end; depth = depth; above = above; found = e; other = h })
      go true (of_type_lem end depth above e h f) = absurd (given_not_refused f)
      go false (of_type_lem end depth above e h f) = inl (inr (inl (number_is f), place_is f))
