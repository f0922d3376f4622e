-- A text of an accepted file passes the tests of one element, so its own words, which lie in the file, hold its characters.
use Prim.Native.Nat.{ℕ, ◌+◌, ◌*◌, ◌-◌, ◌≤◌}
use mathlib.Core.Path.{◌≡◌, ap}
use mathlib.Core.List.{List}
use native.Mathlib.Omega.{arith}
use lib.ListN.{length}
use borrow.Author.Tests.{leb-true, eqb-true}
use Rattle.words.specs.Words.{words, word_at}
use Rattle.words.proofs.Laws.{length_words}
use Rattle.texts.specs.Texts.{counts_at, text_part, characters_in, first_character}
use Rattle.kinds.specs.Kinds.{fixed_part, sizing_word}
use Rattle.headers.specs.Header.{type_at, size_at}
use Rattle.elements.proofs.Laws.{fixed_least}
use Rattle.grammar.proofs.Ruled.{Ruled}
use Rattle.places.proofs.Places.{spot_rules}
use Rattle.places.proofs.OfType.{Found, found_there, Way, nowhere, another, of_type_lem, way}
use Rattle.refusals.specs.Refusals.{refused_with}
use Rattle.refusals.proofs.Laws.{given_is, refused_not_given}
use Rattle.text_views.specs.TextViews.{is_text, characters_at, characters_of}
use Rattle.text_views.specs.Characters.{characters_with}

-- the fixed part of a text
text_part_lem : (dim t : ℕ) (ws : List ℕ) (at n : ℕ) → t ≡ 17 → fixed_part dim t (word_at ws (at + sizing_word dim t)) ≤ n → text_part dim (counts_at dim ws at) ≤ n
unfolding fixed_part
text_part_lem dim t ws at n e h = rw e at h

-- the characters of a text end by its own words, and these by the file's
pub record Held (dim : ℕ) (s : List ℕ) (at start count : ℕ) : Type 0 where
  pub starts : start ≡ 2 * at + first_character dim
  pub counted : count ≡ characters_in (counts_at dim (words s) at)
  pub text : type_at (words s) at ≡ 17
  pub found : Found dim s at
  pub ruled : Ruled dim (words s) at
  pub within : start + count ≤ 2 * (at + size_at (words s) at)
  pub inside : 2 * (at + size_at (words s) at) ≤ length s

pub characters_held : (dim : ℕ) (s : List ℕ) (at start count : ℕ) → characters_of dim s at ≡ characters_with start count → Held dim s at start count
unfolding characters_of characters_at text_part
characters_held dim s at start count q = go (way is_text refused_with dim s at (characters_with (2 * at + first_character dim) (characters_in (counts_at dim (words s) at))) (characters_with start count) q)
  where
    go : Way is_text refused_with dim s at (characters_with (2 * at + first_character dim) (characters_in (counts_at dim (words s) at))) (characters_with start count) → Held dim s at start count
    go (nowhere n p e f) = absurd (refused_not_given f)
    go (another end depth above e h f) = absurd (refused_not_given f)
    go (of_type_lem end depth above e g f) =
        let ws = words s in
        let h = eqb-true (type_at ws at) 17 g in
        let there = found_there dim s at end depth above e in
        let r = spot_rules dim s there.elements there.deepest there.marker there.judged at there.spot there.is in
        let a : start ≡ 2 * at + first_character dim = ap (λ r. r.start) (given_is f) in
        let b : count ≡ characters_in (counts_at dim ws at) = ap (λ r. r.length) (given_is f) in
        let least = text_part_lem dim (type_at ws at) ws at (size_at ws at) h (fixed_least dim ws at r.checked.fixed) in
        let two = leb-true 2 (length ws - at) r.checked.two in
        let fits = leb-true (size_at ws at) (length ws - at) r.checked.size in
        let l = length_words s in
        record { starts = a; counted = b; text = h; found = there; ruled = r; within = omega arith; inside = omega arith }
