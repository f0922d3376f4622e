-- The ways out of the two calls, each by the tests that lead to it.
use Rattle.std.proofs.Common.{◌≡◌, ℕ, ◌+◌, ◌*◌, ◌/◌, ◌%◌, ◌<◌, ◌≤◌, true, false, List, length, sym, refl, ap, ◌∙◌, arith, eq-eqb, ne_eqb, le-leb}
use Rattle.std.specs.Prelude.{Ok}
use borrow.Author.Tests.{lt-leb}
use Rattle.words.specs.Words.{over}
use Rattle.limits.specs.Limits.{size_ok}
use Rattle.refusals.specs.Refusals.{refused_with}
use Rattle.blocks.specs.Blocks.{blocks_for, stored_from, stored, blocks_in, first_bad, bad_from, flat_from, flat_of}
use Rattle.blocks.specs.Calls.{to_blocks, from_blocks, Moves}

-- a multiplication and a shift in the place of a division by 508
pub blocks_for_lem : (n : ℕ) → n ≤ 1048576 → (n + 507) * 8454661 / 4294967296 ≡ blocks_for n
unfolding blocks_for
blocks_for_lem n h = omega arith

pub blocks_in_lem : (n : ℕ) → (n + 511) / 512 ≡ blocks_in n
unfolding blocks_in
blocks_in_lem n = refl

pub none_bad : (s : List ℕ) (b n : ℕ) → n ≡ blocks_in (length s) → b ≡ first_bad s → b ≡ n → bad_from n 0 s ≡ n
unfolding first_bad
none_bad s b n e f g = ap (λ i. bad_from i 0 s) e ∙ sym f ∙ g

module _ (j s : List ℕ) where
  pub to_call : size_ok (length j) ≡ false → Moves (to_blocks j (length s)) (stored j) s (refused_with 1 0) s
  to_call e = record { is = rw e refl; bytes = rw e refl }

  module _ (ok : size_ok (length j) ≡ true) (n : ℕ) (count : n ≡ blocks_for (length j)) where
    pub to_full : length s < 512 * n → Moves (to_blocks j (length s)) (stored j) s (refused_with 15 0) s
    to_full h =
        let c = lt-leb (512 * blocks_for (length j)) (length s) (rw (← count) h) in
        record { is = rw (ok, c) refl; bytes = rw (ok, c) refl }

    pub to_done : (t : List ℕ) → 512 * n ≤ length s → t ≡ over s 0 (stored_from n j) → Moves (to_blocks j (length s)) (stored j) s (Ok (512 * n)) t
    unfolding stored
    to_done t h q =
        let c = le-leb (512 * blocks_for (length j)) (length s) (rw (← count) h) in
        record { is = rw (ok, c) (ap (λ k. Ok (512 * k)) count); bytes = rw (ok, c) (q ∙ ap (λ k. over s 0 (stored_from k j)) count) }

module _ (s o : List ℕ) where
  pub from_odd : (length s % 2 ≡ 0 → ⊥) → Moves (from_blocks s (length o)) (flat_of s) o (refused_with 1 0) o
  from_odd h = let a = ne_eqb (length s % 2) 0 h in record { is = rw a refl; bytes = rw a refl }

  pub from_long : length s % 2 ≡ 0 → 1057280 < length s → Moves (from_blocks s (length o)) (flat_of s) o (refused_with 1 0) o
  from_long e h =
      let a = eq-eqb (length s % 2) 0 e in
      let b = lt-leb (length s) 1057280 h in
      record { is = rw (a, b) refl; bytes = rw (a, b) refl }

  -- d is the first bad block of n
  module _ (even : length s % 2 ≡ 0) (most : length s ≤ 1057280) (d n : ℕ) (count : n ≡ blocks_in (length s)) (first : d ≡ first_bad s) where
    pub from_bad : (d ≡ n → ⊥) → Moves (from_blocks s (length o)) (flat_of s) o (refused_with 22 d) o
    from_bad g =
        let a = eq-eqb (length s % 2) 0 even in
        let b = le-leb (length s) 1057280 most in
        let c = ne_eqb (first_bad s) (blocks_in (length s)) (λ q. g (first ∙ q ∙ sym count)) in
        record { is = rw (a, b, c) (ap (refused_with 22) first); bytes = rw (a, b, c) refl }

    module _ (none : d ≡ n) (m : ℕ) (size : m ≡ length (flat_from n s)) where
      flat_size : m ≡ length (flat_of s)
      unfolding flat_of
      flat_size = size ∙ ap (λ x. length (flat_from x s)) count

      pub from_full : length o < m → Moves (from_blocks s (length o)) (flat_of s) o (refused_with 15 0) o
      from_full l =
          let a = eq-eqb (length s % 2) 0 even in
          let b = le-leb (length s) 1057280 most in
          let c = eq-eqb (first_bad s) (blocks_in (length s)) (sym first ∙ none ∙ count) in
          let z = lt-leb (length (flat_of s)) (length o) (rw (← flat_size) l) in
          record { is = rw (a, b, c, z) refl; bytes = rw (a, b, c, z) refl }

      pub from_done : (t : List ℕ) → m ≤ length o → t ≡ over o 0 (flat_from n s) → Moves (from_blocks s (length o)) (flat_of s) o (Ok m) t
      unfolding flat_of
      from_done t l w =
          let a = eq-eqb (length s % 2) 0 even in
          let b = le-leb (length s) 1057280 most in
          let c = eq-eqb (first_bad s) (blocks_in (length s)) (sym first ∙ none ∙ count) in
          let z = le-leb (length (flat_of s)) (length o) (rw (← flat_size) l) in
          record { is = rw (a, b, c, z) (ap Ok flat_size); bytes = rw (a, b, c, z) (w ∙ ap (λ x. over o 0 (flat_from x s)) count) }
