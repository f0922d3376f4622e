-- A buffer whose used bytes change and stay as many holds the words of the new ones, stored. So deleted flags, a name
-- and corrected totals in the used bytes are those in the used words.
use Prim.Native.Nat.{ℕ, ◌+◌, ◌-◌, ◌/◌, ◌%◌, ◌<◌, max}
use mathlib.Core.Path.{◌≡◌, refl, sym, ap, ◌∙◌}
use mathlib.Core.Bool.{Bool}
use mathlib.Core.List.{List, [], ◌∷◌, ◌++◌}
use native.Mathlib.Omega.{arith}
use lib.ListN.{length, drop, set}
use Rattle.words.specs.Words.{words, Below, word_at, put_word}
use Rattle.words.proofs.Laws.{length_put, words_put}
use Rattle.places.specs.declared.Above.{Above}
use Rattle.places.specs.declared.Above.TheVariants.{Top, Under}
use Rattle.edits.specs.Edits.{flagged, with_flags}
use Rattle.headers.specs.Header.{name_place}
use Rattle.edits.specs.Calls.{stored}
use Rattle.buffers.proofs.Stored.{stored_bytes}
use Rattle.totals.proofs.Corrected.{below_put}
use Rattle.totals.proofs.Totals.{length_totals, below_totals}
use Rattle.changes.specs.CellNames.{name_put}
use Rattle.flags.specs.Extents.{flag_put, flags_put}
use Rattle.flags.proofs.Stores.{words_flags, length_put_flags}
use Rattle.changes.specs.Changes.{totals_under}

kept_stored : (f : List ℕ) (used : ℕ) (y : List ℕ) → used % 2 ≡ 0 → length y ≡ used → Below 256 y → y ++ drop used f ≡ stored f used (words y)
kept_stored f used y even l b =
    let none : used - length y ≡ 0 = omega arith in
    let most : max used (length y) ≡ used = omega arith in
    sym (stored_bytes f used y (used / 2) (omega arith) b ∙ rw (none, most) refl)

---- the totals under a header, or none

length_under : (up : Bool) (n : ℕ) (h : Above) (s : List ℕ) → length (totals_under up n h s) ≡ length s
length_under up n Top s = refl
length_under up n (Under h) s = length_totals up n h s

pub below_under : (up : Bool) (n : ℕ) (h : Above) (s : List ℕ) → Below 256 s → Below 256 (totals_under up n h s)
below_under up n Top s b = b
below_under up n (Under h) s b = below_totals up n h s b

---- flags put

below_put_flags : (qs : List ℕ) (bs : List Bool) (s : List ℕ) → Below 256 s → Below 256 (flags_put qs bs s)
unfolding flag_put
below_put_flags [] bs s b = b
below_put_flags (q ∷ qs) [] s b = b
below_put_flags (q ∷ qs) (f ∷ bs) s b = below_put_flags qs bs (flag_put f q s) (below_put s q (flagged f (word_at (words s) q)) b)

---- a buffer with its used bytes s changed

module _ (f : List ℕ) (used : ℕ) (s : List ℕ) (even : used % 2 ≡ 0) (is : length s ≡ used) (below : Below 256 s) where
  pub flags_stored : (qs : List ℕ) (bs : List Bool) → flags_put qs bs s ++ drop used f ≡ stored f used (with_flags qs bs (words s))
  flags_stored qs bs =
      kept_stored f used (flags_put qs bs s) even (length_put_flags qs bs s ∙ is) (below_put_flags qs bs s below) ∙ ap (stored f used) (words_flags qs bs s)

  pub name_stored : (p a b : ℕ) → a < 65536 → b < 65536 →
      name_put p a b s ++ drop used f ≡ stored f used (set (set (words s) (name_place (words s) p) a) (name_place (words s) p + 1) b)
  unfolding name_put
  name_stored p a b x y =
      let i = name_place (words s) p in
      let t = put_word s i a in
      kept_stored f used (put_word t (i + 1) b) even (length_put t (i + 1) b ∙ length_put s i a ∙ is) (below_put t (i + 1) b (below_put s i a below))
      ∙ ap (stored f used) (words_put t (i + 1) b y ∙ ap (λ l. set l (i + 1) b) (words_put s i a x))

  pub totals_stored : (up : Bool) (n : ℕ) (h : Above) (ws : List ℕ) → words (totals_under up n h s) ≡ ws → totals_under up n h s ++ drop used f ≡ stored f used ws
  totals_stored up n h ws e = kept_stored f used (totals_under up n h s) even (length_under up n h s ∙ is) (below_under up n h s below) ∙ ap (stored f used) e
