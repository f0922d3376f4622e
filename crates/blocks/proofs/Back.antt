-- The two calls with room enough, and one after the other: what the first one wrote is the blocks, or the journal, and the second one gives back.
use Rattle.std.proofs.Common.{◌≡◌, ℕ, ◌+◌, ◌*◌, ◌≤◌, Bool, true, false, cond, eqb, leb, List, length, take, drop, sym, refl, ap, ◌∙◌, subst, arith, take_at, le-leb}
use Rattle.std.specs.Prelude.{Ok, Result}
use Rattle.words.specs.Words.{over}
use Rattle.limits.specs.Limits.{size_ok}
use Rattle.refusals.specs.Refusals.{refused_with}
use Rattle.refusals.specs.declared.Refusal.{Refusal}
use Rattle.refusals.proofs.Laws.{given_is, given_not_refused}
use Rattle.blocks.specs.Blocks.{blocks_for, stored, blocks_in, first_bad, flat_of, stored_ok, accepted}
use Rattle.blocks.specs.Calls.{within, to_blocks, from_blocks, left_by, Moves}
use Rattle.blocks.specs.Promises.{StoredWithRoom, GivenWithRoom, JournalMovedBack, BlocksMovedBack}
use Rattle.blocks.proofs.Block.{and-true}
use Rattle.blocks.proofs.Journal.{length_stored, journal_back, blocks_back}
use Rattle.blocks.proofs.Answers.{accepted_answer}

---- what an answer says of the tests

to_written : (j : List ℕ) (room n : ℕ) → to_blocks j room ≡ Ok n → (size_ok (length j) ≡ true) × (n ≡ 512 * blocks_for (length j))
to_written j room n = go (size_ok (length j)) (leb (512 * blocks_for (length j)) room)
  where
    go : (a b : Bool) → cond a (cond b (Ok (512 * blocks_for (length j))) (refused_with 15 0)) (refused_with 1 0) ≡ Ok n →
        (a ≡ true) × (n ≡ 512 * blocks_for (length j))
    go true true e = (refl, sym (given_is e))
    go true false e = absurd (given_not_refused e)
    go false b e = absurd (given_not_refused e)

from_written : (s : List ℕ) (room n : ℕ) → from_blocks s room ≡ Ok n → (accepted s ≡ true) × (n ≡ length (flat_of s))
from_written s room n e =
    let r = go (stored_ok (length s)) (eqb (first_bad s) (blocks_in (length s))) (leb (length (flat_of s)) room) e in
    (and-true r.0 r.1, r.2)
  where
    go : (a b c : Bool) → cond a (cond b (cond c (Ok (length (flat_of s))) (refused_with 15 0)) (refused_with 22 (first_bad s))) (refused_with 1 0) ≡ Ok n →
        (a ≡ true) × (b ≡ true) × (n ≡ length (flat_of s))
    go true true true e = (refl, refl, sym (given_is e))
    go true true false e = absurd (given_not_refused e)
    go true false c e = absurd (given_not_refused e)
    go false b c e = absurd (given_not_refused e)

---- what was written

wrote : (m : Result ℕ Refusal) (x s t : List ℕ) (n : ℕ) → Moves m x s (Ok n) t → (m ≡ Ok n) × (t ≡ over s 0 x)
wrote m x s t n w = (sym w.is, w.bytes ∙ ap (λ r. left_by r x s) (sym w.is))

front : (x s : List ℕ) (n : ℕ) → length x ≡ n → take n (over s 0 x) ≡ x
unfolding over
front x s n e = take_at x (drop (0 + length x) s) n e

answered : (m : Result ℕ Refusal) (x s t : List ℕ) (r : Result ℕ Refusal) (n : ℕ) → m ≡ Ok n → Moves m x s r t → (r ≡ Ok n) × (t ≡ over s 0 x)
answered m x s t r n e w = (w.is ∙ e, w.bytes ∙ ap (λ r. left_by r x s) e)

fits : (n room : ℕ) → n ≤ room → within n room ≡ Ok n
fits n room h = rw (le-leb n room h) refl

pub stored_with_room : StoredWithRoom
stored_with_room j room ok h = rw ok (fits (512 * blocks_for (length j)) room h)

pub given_with_room : GivenWithRoom
given_with_room j room ok h =
    let back = journal_back j ok in
    accepted_answer (stored j) back.0 room ∙ ap (λ x. within (length x) room) back.1 ∙ fits (length j) room h

pub journal_moved_back : JournalMovedBack
journal_moved_back j s t o u n r w h v =
    let a = wrote (to_blocks j (length s)) (stored j) s t n w in
    let b = to_written j (length s) n a.0 in
    let z : take n t ≡ stored j = ap (take n) a.1 ∙ front (stored j) s n (length_stored j ∙ sym b.1) in
    let back = journal_back j b.0 in
    let v2 = subst (λ (x : List ℕ). Moves (from_blocks x (length o)) (flat_of x) o r u) z v in
    let q = answered (from_blocks (stored j) (length o)) (flat_of (stored j)) o u r (length j) (given_with_room j (length o) b.0 h) v2 in
    (q.0, q.1 ∙ ap (over o 0) back.1)

pub blocks_moved_back : BlocksMovedBack
blocks_moved_back b s t o u n r small w h v =
    let a = wrote (from_blocks b (length s)) (flat_of b) s t n w in
    let c = from_written b (length s) n a.0 in
    let z : take n t ≡ flat_of b = ap (take n) a.1 ∙ front (flat_of b) s n (sym c.1) in
    let back = blocks_back b small c.0 in
    let v2 = subst (λ (x : List ℕ). Moves (to_blocks x (length o)) (stored x) o r u) z v in
    let l : 512 * blocks_for (length (flat_of b)) ≡ length b = sym (length_stored (flat_of b)) ∙ ap length back.1 in
    let e : to_blocks (flat_of b) (length o) ≡ Ok (length b) = stored_with_room (flat_of b) (length o) back.0 (omega arith) ∙ ap Ok l in
    let q = answered (to_blocks (flat_of b) (length o)) (stored (flat_of b)) o u r (length b) e v2 in
    (q.0, q.1 ∙ ap (over o 0) back.1)
