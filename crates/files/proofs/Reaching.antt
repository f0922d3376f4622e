-- What judging one list's elements came to gives the list, one element, and what is reached at the top.
use Prim.Native.Nat.{ℕ, zero, suc, ◌+◌, ◌-◌, ◌<◌}
use mathlib.Core.Path.{◌≡◌, refl, sym, ◌∙◌}
use mathlib.Core.Bool.{Bool, true, false, false≢true}
use mathlib.Core.List.{List}
use native.Mathlib.Omega.{arith}
use native.Mathlib.Nat.{zero-add, zero-max}
use borrow.Author.Tests.{ltb-true, lt-ltb}
use Rattle.words.specs.Words.{words}
use Rattle.files.specs.declared.Stop.TheVariants.{More, Done, Lacking}
use Rattle.files.specs.declared.Progress.TheVariants.{Stopped, Halted, Broken}
use Rattle.files.specs.declared.Reached.TheVariants as reached
use Rattle.files.specs.Ends.{stop_of}
use Rattle.files.specs.Judge.{element_of}
use Rattle.files.specs.Reach.{stops_after, reached_from, reached_of}
use Rattle.files.specs.Progress.{ListIn, list_in, Tally, stop_in, ListJudged, GoodAt, Run, run_of, Steps, Gone, StoppedAt, Progressed}
use Rattle.files.proofs.Laws.{passed_done, passed_lacking, passed_refused, element_bad, element_of_lem}
use Rattle.std.specs.Prelude.{Result, Err}
use Rattle.files.specs.Judgement.{good_with}
use Rattle.files.specs.ReachedAnswers.{an_element, an_end}
use Rattle.files.specs.declared.Reached.{Reached}
use Rattle.refusals.specs.Refusals.{refused_with}
use Rattle.refusals.specs.declared.Refusal.{Refusal}

---- a whole list

module _ {run : Run} where
  module _ {n p e d k : ℕ} (x : Progressed run (Halted n p e d k)) where
    pub halted_done : stop_in run.list p ≡ Done → ListJudged run.list (good_with p e d k)
    halted_done h = record { is = passed_done run.list p _ x.gone.passed h; within = (x.gone.words_each, x.gone.inside) }

    pub halted_lacking : stop_in run.list p ≡ Lacking → ListJudged run.list (refused_with 2 p)
    halted_lacking h = record { is = passed_lacking run.list p _ x.gone.passed h; within = tt }

    pub halted_more : stop_in run.list p ≡ More → ListJudged run.list (refused_with n p)
    halted_more h = record { is = passed_refused run.list p _ x.gone.passed h n p (element_bad _ _ _ _ _ _ _ x.head); within = tt }

  pub broken_list : {r : Refusal} → Progressed run (Broken r) → ListJudged run.list (Err r)
  broken_list {r} x = record { is = passed_refused run.list x.here _ x.gone.passed x.more r.number r.place x.fault; within = tt }

-- no element ends after the bound
pub never_stops : {l : ListIn} {last next : ℕ} {t : Tally} → StoppedAt (run_of l l.bound false) last next t → ⊥
unfolding stops_after
never_stops {l = l} {next = next} x = let s = ltb-true l.bound next x.stops in let b = x.good.by in absurd (omega arith)

---- one element

-- judging until the list's own start
abbrev one_of : ListIn → Run
one_of l = run_of l l.at false

-- every element ends after its start, so none is passed
steps_none : (l : ListIn) (k here : ℕ) → Steps (one_of l) k here → (k ≡ 0) × (l.at ≡ here)
unfolding stops_after
steps_none l zero here s = (refl, s)
steps_none l (suc k) here (last, e, d, (s, (g, n))) =
    let i = steps_none l k last s in
    absurd (false≢true (sym n ∙ lt-ltb l.at here (omega (arith, g.on))))

module _ {l : ListIn} where
  gone_none : {here : ℕ} {t : Tally} → Gone (one_of l) here t → (t.direct ≡ 0) × (l.at ≡ here)
  gone_none {here = here} {t = t} x = steps_none l t.direct here x.steps

  pub stopped_element : {next last e d k : ℕ} → Progressed (one_of l) (Stopped next last e d k) →
      good_with next e d k ≡ element_of l.dim l.depth l.under (words l.file) l.at l.bound
  stopped_element x =
      let o = gone_none x.gone in
      let z = x.gone.none o.0 in
      rw (x.all, x.deep, x.counted, z.0, z.1, o.0, zero-add x.own, zero-max x.depth_own) (element_of_lem _ _ _ _ _ _ _ (rw o.1 x.good.good))

  pub halted_element : {n p e d k : ℕ} → Progressed (one_of l) (Halted n p e d k) →
      refused_with n p ≡ element_of l.dim l.depth l.under (words l.file) l.at l.bound
  halted_element x =
      let o = gone_none x.gone in
      rw (sym o.1) (element_of_lem _ _ _ _ _ _ _ (element_bad _ _ _ _ _ _ _ (rw o.1 x.head)))

  pub broken_element : {r : Refusal} → Progressed (one_of l) (Broken r) →
      Err r ≡ element_of l.dim l.depth l.under (words l.file) l.at l.bound
  broken_element x = let o = gone_none x.gone in element_of_lem _ _ _ _ _ _ _ (rw o.1 x.fault)

---- the elements at the top

-- r is what is reached, whatever the number of reachedFrom, where it is enough
abbrev pub IsReached : ℕ → List ℕ → ℕ → Bool → ℕ → ℕ → ℕ → Result Reached Refusal → Type 0
IsReached dim ws until each bound before at r = (n : ℕ) → bound - at < n → r ≡ reached_from n dim ws until each before at bound

module _ (dim : ℕ) (ws : List ℕ) (until : ℕ) (each : Bool) (bound before at : ℕ) where
  reach_done : stop_of 0 ws at bound ≡ Done → IsReached dim ws until each bound before at (an_end at before)
  unfolding reached_from
  reach_done h zero l = absurd (omega arith)
  reach_done h (suc n) l = rw h refl

  reach_lacking : stop_of 0 ws at bound ≡ Lacking → IsReached dim ws until each bound before at (refused_with 2 at)
  unfolding reached_from
  reach_lacking h zero l = absurd (omega arith)
  reach_lacking h (suc n) l = rw h refl

  reach_fault : (k p : ℕ) → stop_of 0 ws at bound ≡ More → refused_with k p ≡ element_of dim 0 0 ws at bound → IsReached dim ws until each bound before at (refused_with k p)
  unfolding reached_from
  reach_fault k p h e zero l = absurd (omega arith)
  reach_fault k p h e (suc n) l = rw (h, sym e) refl

  module _ {next e d : ℕ} (g : GoodAt dim 0 0 ws bound at next e d) where
    reach_stop : stops_after ws until each at next ≡ true → IsReached dim ws until each bound before at (an_element at next before)
    unfolding reached_from
    reach_stop h zero l = absurd (omega arith)
    reach_stop h (suc n) l = rw (g.more, sym (element_of_lem _ _ _ _ _ _ _ g.good), h) refl

    reach_on : (r : Result Reached Refusal) → stops_after ws until each at next ≡ false → IsReached dim ws until each bound (before + 1) next r → IsReached dim ws until each bound before at r
    unfolding reached_from
    reach_on r h i zero l = absurd (omega arith)
    reach_on r h i (suc n) l = let o = g.on in let b = g.by in rw (g.more, sym (element_of_lem _ _ _ _ _ _ _ g.good), h) (i n (omega arith))

-- judging the list at the top from a place on
abbrev top_run : ℕ → List ℕ → ℕ → ℕ → ℕ → Bool → Run
top_run dim s at bound until each = run_of (list_in dim 0 0 s at bound) until each

reach_steps : (dim : ℕ) (s : List ℕ) (at bound until : ℕ) (each : Bool) (k here : ℕ) (r : Result Reached Refusal) → Steps (top_run dim s at bound until each) k here →
    IsReached dim (words s) until each bound k here r → IsReached dim (words s) until each bound 0 at r
reach_steps dim s at bound until each zero here r x i = rw (sym x) at i
reach_steps dim s at bound until each (suc k) here r (last, e, d, (x, (g, n))) i =
    let z : suc k ≡ k + 1 = omega arith in
    reach_steps dim s at bound until each k last r x (reach_on dim (words s) until each bound k last g r n (rw z at i))

pub reach_of : (dim : ℕ) (ws : List ℕ) (until : ℕ) (each : Bool) (bound at : ℕ) (r : Result Reached Refusal) → IsReached dim ws until each bound 0 at r → r ≡ reached_of dim ws at bound until each
unfolding reached_of
reach_of dim ws until each bound at r i = i (suc (bound - at)) (omega arith)

module _ {dim : ℕ} {s : List ℕ} {at bound until : ℕ} {each : Bool} where
  from_gone : {here : ℕ} {t : Tally} (r : Result Reached Refusal) → Gone (top_run dim s at bound until each) here t → IsReached dim (words s) until each bound t.direct here r →
      r ≡ reached_of dim (words s) at bound until each
  from_gone {here = here} {t = t} r x i =
      reach_of dim (words s) until each bound at r (reach_steps dim s at bound until each t.direct here r x.steps i)

  pub reach_stopped : {next last e d k : ℕ} → Progressed (top_run dim s at bound until each) (Stopped next last e d k) → an_element last next (k - 1) ≡ reached_of dim (words s) at bound until each
  reach_stopped {k = k} x =
      let z : k - 1 ≡ x.before.direct = omega (arith, x.counted) in
      rw z (from_gone _ x.gone (reach_stop _ _ _ _ _ _ _ x.good x.stops))

  pub reach_broken : {r : Refusal} → Progressed (top_run dim s at bound until each) (Broken r) → Err r ≡ reached_of dim (words s) at bound until each
  reach_broken x = from_gone _ x.gone (reach_fault _ _ _ _ _ _ _ _ _ x.more (element_of_lem _ _ _ _ _ _ _ x.fault))

  module _ {n p e d k : ℕ} (x : Progressed (top_run dim s at bound until each) (Halted n p e d k)) where
    pub reach_halted_done : stop_of 0 (words s) p bound ≡ Done → an_end p k ≡ reached_of dim (words s) at bound until each
    reach_halted_done h = from_gone _ x.gone (reach_done _ _ _ _ _ _ _ h)

    pub reach_halted_lacking : stop_of 0 (words s) p bound ≡ Lacking → refused_with 2 p ≡ reached_of dim (words s) at bound until each
    reach_halted_lacking h = from_gone _ x.gone (reach_lacking _ _ _ _ _ _ _ h)

    pub reach_halted_more : stop_of 0 (words s) p bound ≡ More → refused_with n p ≡ reached_of dim (words s) at bound until each
    reach_halted_more h = from_gone _ x.gone (reach_fault _ _ _ _ _ _ _ _ _ h (element_of_lem _ _ _ _ _ _ _ (element_bad _ _ _ _ _ _ _ x.head)))
