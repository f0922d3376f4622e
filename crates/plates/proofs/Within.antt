-- Extents have two words at least, so an extent holds fewer than 32,768 elements; and words are below 65,536.
use Prim.Native.Nat.{ℕ, zero, suc, ◌+◌, ◌-◌, ◌*◌, ◌≤◌, ◌<◌, min}
use mathlib.Core.Path.{◌≡◌, refl, ◌∙◌, subst}
use mathlib.Core.Bool.{Bool, true, false, cond}
use mathlib.Core.List.{List, [], ◌∷◌}
use native.Mathlib.Omega.{arith}
use lib.ListN.{length}
use lib.Dec.{ltb}
use borrow.Author.Tests.{ltb-true}
use Rattle.std.specs.Prelude.{Ok}
use Rattle.refusals.specs.Refusals.{refused_with}
use Rattle.words.specs.Words.{words, Below}
use Rattle.kinds.specs.FirstWord.{bit}
use Rattle.kinds.specs.Kinds.{is_pointed, is_curve, is_header, is_cell, name_word}
use Rattle.headers.specs.Header.{type_at, size_at, extent_words}
use Rattle.finder.specs.Finder.{is_live}
use Rattle.promises.specs.Components.{place_if}
use Rattle.promises.proofs.Promises.{words_below, extent_two, extent_small}
use Rattle.plates.specs.declared.Plate.{Plate}
use Rattle.plates.specs.Kinds.{is_line, is_text, is_other}
use Rattle.plates.specs.Plates.{live_among, count_of, plate_numbers}
use Rattle.plates.specs.Hops.{hops_from, hops, hops_under, plate_here, plate_in}
use Rattle.plates.specs.Promises.{PlateWithin}
use Rattle.plates.proofs.Levels.{levels_most}
use Rattle.plates.proofs.Calls.{found_is}
use Rattle.plates.proofs.Given.{cell_of}

module _ (ws : List ℕ) where
  hops_few : (n here end : ℕ) → 2 * length (hops_from n ws here end) ≤ (end - here) + 1
  unfolding hops_from
  hops_few zero here end = omega arith
  hops_few (suc n) here end = go (ltb here end) refl (extent_two ws here) (hops_few n (here + extent_words ws here) end)
    where
      go : (b : Bool) → ltb here end ≡ b → 2 ≤ extent_words ws here → 2 * length (hops_from n ws (here + extent_words ws here) end) ≤ (end - (here + extent_words ws here)) + 1 →
          2 * length (cond b (here ∷ hops_from n ws (here + extent_words ws here) end) []) ≤ (end - here) + 1
      go true e t h = let l = ltb-true here end e in omega arith
      go false e t h = omega arith

  live_few : (qs : List ℕ) → length (live_among ws qs) ≤ length qs
  live_few [] = omega arith
  live_few (q ∷ qs) = go (is_live ws q) (live_few qs)
    where
      go : (b : Bool) → length (live_among ws qs) ≤ length qs → length (place_if b q (live_among ws qs)) ≤ suc (length qs)
      go true h = omega arith
      go false h = omega arith

  count_few : (kind : ℕ → Bool) (qs : List ℕ) → count_of kind ws qs ≤ length qs
  count_few kind [] = omega arith
  count_few kind (q ∷ qs) = go (kind (type_at ws q)) (count_few kind qs)
    where
      go : (b : Bool) → count_of kind ws qs ≤ length qs → bit b + count_of kind ws qs ≤ suc (length qs)
      go true h = omega arith
      go false h = omega arith

module _ (s : List ℕ) (below : Below 256 s) (at : ℕ) where
  count_small : (kind : ℕ → Bool) → count_of kind (words s) (live_among (words s) (hops_under (words s) at)) < 65536
  unfolding hops
  count_small kind =
      let qs = hops_under (words s) at in
      let from = at + size_at (words s) at in
      let end = min (at + extent_words (words s) at) (length (words s)) in
      let a = count_few (words s) kind (live_among (words s) qs) in
      let b = live_few (words s) qs in
      let c = hops_few (words s) (suc (end - from)) from end in
      let x = extent_small s below at in
      omega arith

  here_within : Below 65536 (plate_numbers (plate_here (words s) at))
  here_within zero = words_below s below (at + name_word (type_at (words s) at))
  here_within (suc zero) = words_below s below (at + name_word (type_at (words s) at) + 1)
  here_within (suc (suc zero)) = count_small is_line
  here_within (suc (suc (suc zero))) = count_small is_pointed
  here_within (suc (suc (suc (suc zero)))) = count_small is_text
  here_within (suc (suc (suc (suc (suc zero))))) = count_small is_curve
  here_within (suc (suc (suc (suc (suc (suc zero)))))) = count_small is_header
  here_within (suc (suc (suc (suc (suc (suc (suc zero))))))) = count_small is_other
  here_within (suc (suc (suc (suc (suc (suc (suc (suc zero)))))))) = let l = levels_most (words s) at in omega arith
  here_within (suc (suc (suc (suc (suc (suc (suc (suc (suc k))))))))) = omega arith

  pub in_within : (a : Plate) → plate_in (words s) at ≡ Ok a → Below 65536 (plate_numbers a)
  unfolding plate_in
  in_within a q = go (is_cell (type_at (words s) at)) q
    where
      go : (b : Bool) → cond b (Ok (plate_here (words s) at)) (refused_with 18 0) ≡ Ok a → Below 65536 (plate_numbers a)
      go true q = let e : plate_here (words s) at ≡ a = cc in subst (λ p. Below 65536 (plate_numbers p)) e here_within
      go false q = let z : ◌≡◌ {A = ℕ} 0 1 = cc in absurd (omega arith)

pub plate_within : PlateWithin
plate_within dim s at a below q =
    let c = cell_of dim s at a q in
    in_within s below at a (found_is dim s at c.end c.depth c.above c.found ∙ q)
