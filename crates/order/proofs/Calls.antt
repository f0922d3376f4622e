-- Each case of a call over a file's elements: refused at once, no element fits, done.
use Prim.Native.Nat.{ℕ, ◌≤◌}
use mathlib.Core.Path.{◌≡◌, refl, sym, ap, ◌∙◌}
use mathlib.Core.Bool.{Bool, true, false, cond}
use mathlib.Core.List.{List}
use native.Mathlib.Omega.{arith}
use lib.ListN.{length}
use lib.Seq.{sets}
use lib.Dec.{leb}
use borrow.Author.Tests.{leb-true, leb-false}
use Rattle.files.specs.Judge.{judge_of}
use Rattle.answers.specs.Answers.{Reply, done, refuse, returned, slice_left, with_room, Replied}
use Rattle.answers.specs.Besides.{if_done}
use Rattle.answers.proofs.Laws.{too_short, answered}
use Rattle.answers.proofs.Besides.{done_beside, short_beside}
use Rattle.answers.proofs.Elements.{elements_few}
use Rattle.order.specs.Calls.{begun_by, begun_of, none_fits, reply_by}
use Rattle.order.proofs.Order.{count_is}
use Rattle.std.specs.Prelude.{Err, Ok, Result}
use Rattle.files.specs.Accepted.{accepted_with}
use Rattle.files.specs.declared.Accepted.{Accepted}
use Rattle.refusals.specs.declared.Refusal.{Refusal}

-- what is known where the call goes on
pub record GoesOn (dim : ℕ) (s : List ℕ) (needed have elements : ℕ) : Type 0 where
  pub room : needed ≤ have
  pub deepest : ℕ
  pub marker : ℕ
  pub accepted : judge_of dim s ≡ accepted_with elements deepest marker

pub goes_on : (dim : ℕ) (s : List ℕ) (needed room e : ℕ) → begun_of dim s needed room ≡ Ok e → GoesOn dim s needed room e
unfolding begun_of
goes_on dim s needed room e q = go (leb needed room) refl (judge_of dim s) refl q
  where
    go : (b : Bool) → leb needed room ≡ b → (v : Result Accepted Refusal) → judge_of dim s ≡ v → cond b (begun_by v) (Err 1) ≡ Ok e → GoesOn dim s needed room e
    go false h v j q = let z : ◌≡◌ {A = ℕ} 0 1 = cc in absurd (omega arith)
    go true h (Err refusal) j q = let z : ◌≡◌ {A = ℕ} 0 1 = cc in absurd (omega arith)
    go true h (Ok file) j q =
        let z : file.elements ≡ e = cc in
        record { room = leb-true needed room h; deepest = file.deepest; marker = file.marker; accepted = j ∙ ap (λ i. accepted_with i file.deepest file.marker) z }

-- an accepted file has few elements
pub goes_few : (dim : ℕ) (s : List ℕ) (needed room e : ℕ) → GoesOn dim s needed room e → e ≤ 1048576
goes_few dim s needed room e on =
    let f = elements_few dim s e on.deepest on.marker on.accepted in
    let c = count_is dim s e on.deepest on.marker on.accepted in
    omega arith

-- a call that puts `given` into the slice for its answer and makes of the other slices, `was`, what they are where it is done
module _ {S : Type 0} (dim : ℕ) (s : List ℕ) (needed put next : ℕ) (given out : List ℕ) (made was : S) where
  abbrev reply : Reply ℕ
  reply = reply_by (judge_of dim s) put next given

  abbrev Given : ℕ → List ℕ → S → Type 0
  Given n o u = Replied needed reply out n o × (u ≡ if_done (with_room needed reply out) made was)

  known : (r : Reply ℕ) → reply ≡ r → needed ≤ length out → Given (returned r) (slice_left r out) (if_done r made was)
  known r e h = (answered needed reply r out e h, sym (done_beside needed reply r out made was e h))

  pub call_refused : (a : ℕ) → begun_of dim s needed (length out) ≡ Err a → Given a out was
  unfolding begun_of
  call_refused a e = go (leb needed (length out)) refl (judge_of dim s) refl e
    where
      go : (b : Bool) → leb needed (length out) ≡ b → (v : Result Accepted Refusal) → judge_of dim s ≡ v → cond b (begun_by v) (Err 1) ≡ Err a → Given a out was
      go false h v j e =
          let z : 1 ≡ a = cc in
          let l = leb-false needed (length out) h in
          rw (sym z) (too_short needed reply out l, sym (short_beside needed reply out made was l))
      go true h (Ok file) j e = let z : ◌≡◌ {A = ℕ} 0 1 = cc in absurd (omega arith)
      go true h (Err refusal) j e =
          let z : returned {A = ℕ} (refuse refusal.number refusal.place) ≡ a = cc in
          rw (sym z) (known (refuse refusal.number refusal.place) (ap (λ v. reply_by v put next given) j) (leb-true needed (length out) h))

  module _ (elements : ℕ) (on : GoesOn dim s needed (length out) elements) where
    by : (b : Bool) → b ≡ none_fits put next elements → reply ≡ cond b (refuse 15 0) (done given)
    by b f = rw (on.accepted, f) refl

    pub call_full : true ≡ none_fits put next elements → Given 15 out was
    call_full f = known (refuse 15 0) (by true f) on.room

    pub call_done : false ≡ none_fits put next elements → Given 0 (sets out 0 given) made
    call_done f = known (done given) (by false f) on.room
