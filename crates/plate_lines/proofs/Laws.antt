-- A cell has a line where it is live, and no other element has one.
use Prim.Native.Nat.{ℕ, zero, suc, ◌<◌}
use mathlib.Core.Path.{◌≡◌, refl}
use mathlib.Core.List.{List}
use native.Mathlib.Omega.{arith}
use borrow.Author.Tests.{eq-eqb, ne_eqb}
use Rattle.words.specs.Words.{word_at}
use Rattle.kinds.specs.FirstWord.{deleted_of}
use Rattle.listing.specs.Lines.{WritesLine}
use Rattle.listing.proofs.Laws.{empty_line}
use Rattle.plates.specs.declared.Plate.{Plate}
use Rattle.plates.specs.Hops.{plate_in}
use Rattle.plate_lines.specs.Plate.{line_with, line_in}
use Rattle.std.specs.Prelude.{Ok, Err}
use Rattle.refusals.specs.declared.Refusal.{Refusal}

module _ (ws : List ℕ) (at w : ℕ) (word : w ≡ word_at ws at) where
  pub dead_line : (buf : List ℕ) → deleted_of w ≡ 1 → WritesLine 175 buf (line_in ws at) buf 0
  unfolding line_in
  dead_line buf h = rw (← word, ne_eqb (deleted_of w) 0 (λ z. omega arith)) (empty_line 175 buf)

  module _ (live : deleted_of w ≡ 1 → ⊥) where
    clear : deleted_of w ≡ 0
    clear = go (deleted_of w) refl (omega arith)
      where
        go : (d : ℕ) → deleted_of w ≡ d → d < 2 → deleted_of w ≡ 0
        go zero e l = e
        go (suc zero) e l = absurd (live e)
        go (suc (suc d)) e l = absurd (omega arith)

    pub other_line : (buf : List ℕ) (refusal : Refusal) → plate_in ws at ≡ Err refusal → WritesLine 175 buf (line_in ws at) buf 0
    unfolding line_in
    other_line buf refusal q = rw (← word, eq-eqb (deleted_of w) 0 clear, q) (empty_line 175 buf)

    pub cell_line : (plate : Plate) → plate_in ws at ≡ Ok plate → line_in ws at ≡ line_with at plate
    unfolding line_in
    cell_line plate q = rw (← word, eq-eqb (deleted_of w) 0 clear, q) refl
