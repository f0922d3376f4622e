-- What the functions' steps say of the bytes that they leave: a piece or an extent moved once the used part's totals are
-- corrected.
use Prim.Native.Nat.{ℕ, ◌/◌, ◌≤◌, ◌<◌}
use mathlib.Core.Path.{◌≡◌, refl, sym, ap, ◌∙◌}
use mathlib.Core.Bool.{true, false}
use mathlib.Core.List.{List, ◌++◌}
use lib.ListN.{length, take, drop}
use borrow.Author.Tests.{le-leb, lt-leb}
use Rattle.places.specs.declared.Above.{Above}
use Rattle.buffers.specs.Files.{words_inserted, words_removed}
use Rattle.changes.specs.Changes.{totals_under, used_totals, piece_in, extent_out}

---- a piece put in, an extent taken out

module _ (s : List ℕ) (used : ℕ) (h : Above) (p : ℕ) where
  pub piece_within : (x : List ℕ) → used ≤ length s → piece_in s used h p x ≡ words_inserted (used_totals true (length x / 2) h s used) used p x
  unfolding piece_in
  piece_within x l = rw (le-leb used (length s) l) refl

  pub piece_put : (x t u : List ℕ) → used ≤ length s → t ≡ totals_under true (length x / 2) h (take used s) → u ≡ words_inserted (t ++ drop used s) used p x → u ≡ piece_in s used h p x
  piece_put x t u l e f = f ∙ ap (λ y. words_inserted (y ++ drop used s) used p x) e ∙ sym (piece_within x l)

  pub piece_short : (x : List ℕ) → length s < used → s ≡ piece_in s used h p x
  unfolding piece_in
  piece_short x l = rw (lt-leb used (length s) l) refl

  pub extent_within : (n : ℕ) → used ≤ length s → extent_out s used h p n ≡ words_removed (used_totals false n h s used) used p n
  unfolding extent_out
  extent_within n l = rw (le-leb used (length s) l) refl

  pub extent_taken : (n : ℕ) (t u : List ℕ) → used ≤ length s → t ≡ totals_under false n h (take used s) → u ≡ words_removed (t ++ drop used s) used p n → u ≡ extent_out s used h p n
  extent_taken n t u l e f = f ∙ ap (λ y. words_removed (y ++ drop used s) used p n) e ∙ sym (extent_within n l)

  pub extent_short : (n : ℕ) → length s < used → s ≡ extent_out s used h p n
  unfolding extent_out
  extent_short n l = rw (lt-leb used (length s) l) refl
