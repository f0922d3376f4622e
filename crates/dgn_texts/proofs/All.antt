-- A text has 18 numbers and any other element none; so calls one after another give all texts.
use Prim.Native.Nat.{ℕ, ◌+◌, ◌*◌, ◌/◌, ◌≤◌}
use mathlib.Core.Path.{◌≡◌, refl}
use mathlib.Core.Logic.{◌⊎◌, inl, inr}
use mathlib.Core.List.{List, [], ◌∷◌}
use native.Mathlib.Omega.{arith}
use lib.ListN.{length, length-append}
use Rattle.words.specs.Words.{words}
use Rattle.files.specs.Spots.{Spot}
use Rattle.order.specs.Fitting.{all_of, in_numbers}
use Rattle.order.proofs.Took.{all_taken, takes_numbers}
use Rattle.text_views.specs.TextViews.{text_of}
use Rattle.dgn_texts.specs.Texts.{entry_by, text_entry, texts_part}
use Rattle.dgn_texts.specs.Answers.{texts_reply}
use Rattle.dgn_texts.specs.Calls.{texts_call, AllTexts}
use Rattle.dgn_texts.proofs.Puts.{eighteen}
use Rattle.std.specs.Prelude.{Err, Ok, Result}
use Rattle.refusals.specs.declared.Refusal.{Refusal}
use Rattle.text_views.specs.declared.Text.{Text}

entry_some : (v : Result Text Refusal) (dim : ℕ) (ws : List ℕ) (at depth : ℕ) → (length (entry_by v dim ws at depth) ≡ 18) ⊎ (length (entry_by v dim ws at depth) ≡ 0)
entry_some (Ok text) dim ws at depth = inl (eighteen text dim ws at depth)
entry_some (Err refusal) dim ws at depth = inr refl

module _ (dim : ℕ) (s : List ℕ) where
  entry_numbers : (x : Spot) → (length (text_entry dim s x) ≡ 18) ⊎ (length (text_entry dim s x) ≡ 0)
  entry_numbers x = entry_some (text_of dim s x.place) dim (words s) x.place x.depth

  few : (x : Spot) → length (text_entry dim s x) ≤ 18
  few x = go (entry_numbers x)
    where
      go : (length (text_entry dim s x) ≡ 18) ⊎ (length (text_entry dim s x) ≡ 0) → length (text_entry dim s x) ≤ 18
      go (inl e) = omega arith
      go (inr e) = omega arith

  -- so their numbers are whole texts'
  whole : (xs : List Spot) → 18 * (length (all_of (text_entry dim s) xs) / 18) ≡ length (all_of (text_entry dim s) xs)
  whole [] = refl
  whole (x ∷ xs) = go (entry_numbers x) (whole xs) (length-append (text_entry dim s x) (all_of (text_entry dim s) xs))
    where
      go : {m n k : ℕ} → (m ≡ 18) ⊎ (m ≡ 0) → 18 * (n / 18) ≡ n → k ≡ m + n → 18 * (k / 18) ≡ k
      go (inl e) h l = omega arith
      go (inr e) h l = omega arith

pub all_texts : AllTexts
unfolding texts_reply texts_part
all_texts dim s e d m j calls got last c =
    all_taken (texts_call dim s) in_numbers (λ x. x.numbers) (λ x. x.out) dim s e d m j (text_entry dim s) (text_entry dim s) (λ l. l) 18 (λ n. n / 18)
    (takes_numbers (texts_call dim s).Answers (text_entry dim s) 18 (λ n. n / 18) (λ n. 18 * n) (whole dim s))
    (λ x f. refl) (λ x f. few dim s x) (λ k x n y h a. a.replied) (λ k x n y h a. a.given) calls got last c
