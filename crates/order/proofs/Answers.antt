-- What the answer of a call over a file's elements says: it is done exactly where an element fits or none is left, and then its numbers
-- stand at the front of its slices.
use Prim.Native.Nat.{ℕ, zero, suc, ◌+◌, ◌<◌, ◌≤◌}
use mathlib.Core.Path.{◌≡◌, refl, sym, ap, ◌∙◌}
use mathlib.Core.Bool.{Bool, true, false, cond, false≢true}
use mathlib.Core.List.{List, [], ◌∷◌, ◌++◌, map}
use native.Mathlib.Omega.{arith}
use lib.IntN.{ℤ, pos}
use lib.ListN.{length}
use lib.Seq.{sets}
use lib.Dec.{leb, ltb}
use borrow.Author.Tests.{ne_eqb, leb-true, le-leb, ltb-true, lt-ltb}
use Rattle.words.specs.Words.{Below}
use Rattle.files.specs.Judge.{judge_of}
use Rattle.answers.specs.Answers.{refuse, done, returned, slice_left, with_room, Replied, SmallReply}
use Rattle.answers.specs.Besides.{if_done}
use Rattle.answers.proofs.Refusals.{file_small}
use Rattle.order.specs.Calls.{none_fits, reply_by}
use Rattle.order.specs.Parts.{Within}
use Rattle.std.specs.Prelude.{Err, Ok, Result}
use Rattle.files.specs.Accepted.{accepted_with}
use Rattle.files.specs.declared.Accepted.{Accepted}
use Rattle.refusals.specs.declared.Refusal.{Refusal}

-- an element is left and it is not 15: something was put; and back
pub some_put : (put onto e : ℕ) → none_fits put onto e ≡ false → onto < e → 1 ≤ put
some_put zero onto e f h = absurd (false≢true (sym f ∙ lt-ltb onto e h))
some_put (suc n) onto e f h = omega arith

pub none_left : (put onto e : ℕ) → (onto < e → 1 ≤ put) → none_fits put onto e ≡ false
none_left zero onto e h = go (ltb onto e) refl
  where
    go : (b : Bool) → ltb onto e ≡ b → b ≡ false
    go true q = let z = h (ltb-true onto e q) in absurd (omega arith)
    go false q = refl
none_left (suc n) onto e h = rw (ne_eqb (suc n) 0 (λ z. omega arith)) refl

-- of an accepted file: one that is done had room for its answer, and an element fitted or none was left; and such a one is done
pub record Done {S : Type 0} (needed put onto elements : ℕ) (given out o : List ℕ) (made u : S) : Type 0 where
  pub room : needed ≤ length out
  pub fits : none_fits put onto elements ≡ false
  pub answer : o ≡ sets out 0 given
  pub numbers : u ≡ made

module _ (v : Result Accepted Refusal) {e d m : ℕ} (j : v ≡ accepted_with e d m) (needed put onto : ℕ) (given out : List ℕ) {n : ℕ} {o : List ℕ} (a : Replied needed (reply_by v put onto given) out n o) where
  by : (b c : Bool) → leb needed (length out) ≡ b → none_fits put onto e ≡ c → with_room needed (reply_by v put onto given) out ≡ cond b (cond c (refuse 15 0) (done given)) (refuse 1 0)
  by b c p q = rw (p, j, q) refl

  pub when_done : {S : Type 0} (made was u : S) → u ≡ if_done (with_room needed (reply_by v put onto given) out) made was → n ≡ 0 → Done needed put onto e given out o made u
  when_done made was u g z = go (leb needed (length out)) refl (none_fits put onto e) refl
    where
      go : (b : Bool) → leb needed (length out) ≡ b → (c : Bool) → none_fits put onto e ≡ c → Done needed put onto e given out o made u
      go true p false q =
          let w = by true false p q in
          record { room = leb-true needed (length out) p; fits = q; answer = a.out ∙ ap (λ r. slice_left r out) w; numbers = g ∙ ap (λ r. if_done r made was) w }
      go true p true q = let y = sym z ∙ a.is ∙ ap returned (by true true p q) in absurd (omega arith)
      go false p c q = let y = sym z ∙ a.is ∙ ap returned (by false c p q) in absurd (omega arith)

  pub done_when : needed ≤ length out → none_fits put onto e ≡ false → n ≡ 0
  done_when h q = a.is ∙ ap returned (by true false (le-leb needed (length out) h) q)

---- its numbers are small

-- every refusal
pub reply_small : (dim : ℕ) (s : List ℕ) (put onto : ℕ) (given : List ℕ) → SmallReply (reply_by (judge_of dim s) put onto given)
reply_small dim s put onto given = go (judge_of dim s) refl
  where
    go : (v : Result Accepted Refusal) → judge_of dim s ≡ v → SmallReply (reply_by v put onto given)
    go (Err refusal) j = file_small dim s refusal.number refusal.place j
    go (Ok file) j = fit (none_fits put onto file.elements)
      where
        fit : (b : Bool) → SmallReply (cond b (refuse 15 0) (done given))
        fit true = (omega arith, omega arith, omega arith)
        fit false = tt

-- a call that is done had a file that is accepted
pub done_accepted : (dim : ℕ) (s : List ℕ) (needed put onto : ℕ) (given out : List ℕ) {n : ℕ} {o : List ℕ} → Replied needed (reply_by (judge_of dim s) put onto given) out n o → n ≡ 0 →
    (e d m : ℕ) × (judge_of dim s ≡ accepted_with e d m)
done_accepted dim s needed put onto given out {n} a z = go (judge_of dim s) refl (leb needed (length out)) a.is
  where
    go : (v : Result Accepted Refusal) → judge_of dim s ≡ v → (b : Bool) → n ≡ returned (cond b (reply_by v put onto given) (refuse 1 0)) → (e d m : ℕ) × (judge_of dim s ≡ accepted_with e d m)
    go (Ok file) j b q = (file.elements, file.deepest, file.marker, j)
    go (Err refusal) j true q = let h = file_small dim s refusal.number refusal.place j in absurd (omega arith)
    go (Err refusal) j false q = absurd (omega arith)

-- signed numbers
pub within_append : (b : ℕ) (xs ys : List ℤ) → Within b xs → Within b ys → Within b (xs ++ ys)
within_append b [] ys h l = l
within_append b (x ∷ xs) ys h l = (h.0, within_append b xs ys h.1 l)

pub within_pos : (b : ℕ) (xs : List ℕ) → Below b xs → Within b (map pos xs)
within_pos b [] h = tt
within_pos b (x ∷ xs) h = (h 0, within_pos b xs (λ i. h (suc i)))
