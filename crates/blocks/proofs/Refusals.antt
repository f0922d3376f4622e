-- A refusal's number and place are those of the test that failed, so the answer tells which one that was; and the buffer stays.
use Rattle.std.proofs.Common.{◌≡◌, ℕ, ◌*◌, ◌<◌, Bool, true, false, cond, eqb, leb, ◌⊎◌, List, length, sym, refl, ap, ◌∙◌, inl, inr, arith}
use Rattle.std.specs.Prelude.{Ok, Result}
use borrow.Author.Tests.{eqb-false}
use Rattle.limits.specs.Limits.{size_ok}
use Rattle.refusals.specs.Refusals.{refused_with}
use Rattle.refusals.specs.declared.Refusal.{Refusal}
use Rattle.refusals.proofs.Laws.{refused_is, refused_not_given}
use Rattle.blocks.specs.Blocks.{blocks_for, stored, blocks_in, first_bad, flat_of, stored_ok}
use Rattle.blocks.specs.Calls.{within, to_blocks, from_blocks, left_by, Moves}
use Rattle.blocks.specs.Promises.{ToRefused, FromRefused, AcceptedExactly}
use Rattle.blocks.proofs.Block.{and-true}
use Rattle.blocks.proofs.Answers.{accepted_answer, first_within}

-- the buffer stays
stays : (m : Result ℕ Refusal) (x s t : List ℕ) (n p : ℕ) → Moves m x s (refused_with n p) t → t ≡ s
stays m x s t n p w = w.bytes ∙ ap (λ r. left_by r x s) (sym w.is)

-- 15 at 0
no_room : (k room n p : ℕ) → within k room ≡ refused_with n p → (n ≡ 15) × (p ≡ 0)
no_room k room n p = go (leb k room)
  where
    go : (b : Bool) → cond b (Ok k) (refused_with 15 0) ≡ refused_with n p → (n ≡ 15) × (p ≡ 0)
    go true e = absurd (refused_not_given e)
    go false e = let x = refused_is e in (sym x.0, sym x.1)

pub to_refused : ToRefused
to_refused j s t n p w =
    let r = go (size_ok (length j)) (sym w.is) in
    (r.0, r.1, stays (to_blocks j (length s)) (stored j) s t n p w)
  where
    go : (b : Bool) → cond b (within (512 * blocks_for (length j)) (length s)) (refused_with 1 0) ≡ refused_with n p → ((n ≡ 1) ⊎ (n ≡ 15)) × (p ≡ 0)
    go true e = let x = no_room (512 * blocks_for (length j)) (length s) n p e in (inr x.0, x.1)
    go false e = let x = refused_is e in (inl (sym x.0), sym x.1)

pub from_refused : FromRefused
from_refused b s t n p w =
    (go (stored_ok (length b)) (eqb (first_bad b) (blocks_in (length b))) refl (sym w.is), stays (from_blocks b (length s)) (flat_of b) s t n p w)
  where
    go : (a c : Bool) → eqb (first_bad b) (blocks_in (length b)) ≡ c →
        cond a (cond c (within (length (flat_of b)) (length s)) (refused_with 22 (first_bad b))) (refused_with 1 0) ≡ refused_with n p →
        (((n ≡ 1) ⊎ (n ≡ 15)) × (p ≡ 0)) ⊎ ((n ≡ 22) × (p < blocks_in (length b)))
    go false c q e = let x = refused_is e in inl (inl (sym x.0), sym x.1)
    go true true q e = let x = no_room (length (flat_of b)) (length s) n p e in inl (inr x.0, x.1)
    go true false q e =
        let x = refused_is e in
        let f = first_within b in
        let ne = eqb-false (first_bad b) (blocks_in (length b)) q in
        inr (sym x.0, omega (arith, f, ne, x.1))

-- neither 1 nor 22 is an answer of the room
pub accepted_exactly : AcceptedExactly
accepted_exactly s room = (
  λ e. accepted_answer s e room,
  λ e. let r = go (stored_ok (length s)) (eqb (first_bad s) (blocks_in (length s))) e in and-true r.0 r.1,
)
  where
    go : (a b : Bool) → cond a (cond b (within (length (flat_of s)) room) (refused_with 22 (first_bad s))) (refused_with 1 0) ≡ within (length (flat_of s)) room →
        (a ≡ true) × (b ≡ true)
    go true true e = (refl, refl)
    go true false e = absurd (omega (arith, (no_room (length (flat_of s)) room 22 (first_bad s) (sym e)).0))
    go false b e = absurd (omega (arith, (no_room (length (flat_of s)) room 1 0 (sym e)).0))
