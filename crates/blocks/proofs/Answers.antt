-- What a test of whole bytes says of the call: accepted ones are written where there is room, a bad block is 22.
use Rattle.std.proofs.Common.{◌≡◌, ℕ, zero, suc, ◌+◌, ◌<◌, ◌≤◌, Bool, true, false, cond, eqb, List, length, drop, sym, refl, ◌∙◌, zero-add, arith, ne_eqb, eqb-true}
use mathlib.Core.Bool.{and-eq-true_iff}
use Rattle.refusals.specs.Refusals.{refused_with}
use Rattle.blocks.specs.Blocks.{good, blocks_in, bad_from, first_bad, flat_of, stored_ok, accepted}
use Rattle.blocks.specs.Calls.{within, from_blocks}

module _ (s : List ℕ) (e : accepted s ≡ true) where
  tests : (stored_ok (length s) ≡ true) × (eqb (first_bad s) (blocks_in (length s)) ≡ true)
  tests = (and-eq-true_iff (stored_ok (length s)) (eqb (first_bad s) (blocks_in (length s)))).0 e

  pub accepted_length : stored_ok (length s) ≡ true
  accepted_length = tests.0

  pub accepted_bad : bad_from (blocks_in (length s)) 0 s ≡ 0 + blocks_in (length s)
  unfolding first_bad
  accepted_bad = eqb-true (first_bad s) (blocks_in (length s)) tests.1 ∙ sym (zero-add (blocks_in (length s)))

  pub accepted_answer : (room : ℕ) → from_blocks s room ≡ within (length (flat_of s)) room
  accepted_answer room = rw (tests.0, tests.1) refl

-- the first bad block is one of those looked at, or none
pub bad_within : (n k : ℕ) (s : List ℕ) → bad_from n k s ≤ k + n
bad_within zero k s = omega arith
bad_within (suc n) k s = go (good k s) (bad_within n (suc k) (drop 512 s))
  where
    go : (b : Bool) → bad_from n (suc k) (drop 512 s) ≤ suc k + n → cond b (bad_from n (suc k) (drop 512 s)) k ≤ k + suc n
    go true h = omega arith
    go false h = omega arith

pub first_within : (s : List ℕ) → first_bad s ≤ blocks_in (length s)
unfolding first_bad
first_within s = let b = bad_within (blocks_in (length s)) 0 s in omega arith

pub bad_answer : (s : List ℕ) (room b : ℕ) → stored_ok (length s) ≡ true → first_bad s ≡ b → b < blocks_in (length s) → from_blocks s room ≡ refused_with 22 b
bad_answer s room b l e h = rw (l, e, ne_eqb b (blocks_in (length s)) (λ q. omega (arith, q, h))) refl
