-- The steps on from entry low: what is left to do from an entry is what is left of all, and the first live one of the name ends them.
use Prim.Native.Nat.{ℕ, ◌+◌, ◌-◌, ◌/◌, ◌≤◌, ◌<◌}
use mathlib.Core.Path.{◌≡◌, refl, sym, ap, ◌∙◌}
use mathlib.Core.Logic.{⊎_elim}
use mathlib.Core.Bool.{Bool, true, false, false≢true, and-eq-true_iff}
use mathlib.Core.List.{List, [], ◌∷◌}
use native.Mathlib.Omega.{arith}
use native.Mathlib.Numerals.{add-one}
use lib.ListN.{length, get_or, drop, drop_of_length-le}
use lib.Seq.{drop-cons}
use lib.Dec.{ltb, eqb}
use borrow.Author.Tests.{lt-ltb, le-ltb, ltb-true, eq-eqb, eqb-true}
use Rattle.entries.specs.Entries.{name_of, place_of}
use Rattle.sorting.proofs.Laws.{le_or_lt}
use Rattle.lookup.specs.declared.Halved.{Halved}
use Rattle.lookup.specs.LookUp.{Ended, missing}
use Rattle.lookup.specs.Live.{step_to, go_on, look_on}
use Rattle.lookup.specs.Table.{named_at}
use Rattle.std.specs.Prelude.{Result}
use Rattle.finder.specs.Found.{found_with}
use Rattle.finder.specs.declared.Found.{Found}
use Rattle.finder.specs.declared.Missed.{Missed}

-- whether entry i is there and has the name
module _ (es : List ℕ) (i name : ℕ) where
  pub named_there : {e : ℕ} → i < length es → e ≡ get_or es i 0 → eqb (e / 4294967296) name ≡ named_at es i name
  named_there h q = rw (lt-ltb i (length es) h, q) refl

  pub named_none : length es ≤ i → false ≡ named_at es i name
  named_none h = rw (le-ltb i (length es) h) refl

  pub named_is : named_at es i name ≡ true → (i < length es) × (name_of (get_or es i 0) ≡ name)
  named_is e =
      let both = (and-eq-true_iff (ltb i (length es)) (eqb (name_of (get_or es i 0)) name)).0 e in
      (ltb-true i (length es) both.0, eqb-true (name_of (get_or es i 0)) name both.1)

-- tests that answer alike lead to the same end
pub go_on_same : (f g : ℕ → Bool) → ((p : ℕ) → f p ≡ g p) → (name : ℕ) (es : List ℕ) (looks : ℕ) → go_on f name es looks ≡ go_on g name es looks
go_on_same f g h name [] looks = refl
go_on_same f g h name (e ∷ es) looks = rw (h (place_of e), go_on_same f g h name es (step_to name es looks)) refl

module _ (live : ℕ → Bool) (es : List ℕ) (name : ℕ) where
  pub next_entry : (i : ℕ) → i < length es → drop i es ≡ get_or es i 0 ∷ drop (i + 1) es
  next_entry i h = drop-cons es i 0 h ∙ ap (λ k. get_or es i 0 ∷ drop k es) (sym (add-one i))

  -- an entry of the name, live or not
  here_live : (i n : ℕ) → i < length es → name_of (get_or es i 0) ≡ name → live (place_of (get_or es i 0)) ≡ true →
      found_with (place_of (get_or es i 0)) n ≡ go_on live name (drop i es) n
  here_live i n h q l = rw (next_entry i h, eq-eqb (name_of (get_or es i 0)) name q, l) refl

  here_deleted : (i n : ℕ) → i < length es → name_of (get_or es i 0) ≡ name → live (place_of (get_or es i 0)) ≡ false →
      go_on live name (drop i es) n ≡ go_on live name (drop (i + 1) es) (step_to name (drop (i + 1) es) n)
  here_deleted i n h q l = rw (next_entry i h, eq-eqb (name_of (get_or es i 0)) name q, l) refl

  -- the step to an entry of the name, and to none
  step_named : (i n : ℕ) → named_at es i name ≡ true → step_to name (drop i es) n ≡ n + 1
  step_named i n e =
      let b = named_is es i name e in
      rw (next_entry i b.0, eq-eqb (name_of (get_or es i 0)) name b.1) refl

  step_none : (i n : ℕ) → named_at es i name ≡ false → missing n ≡ go_on live name (drop i es) (step_to name (drop i es) n)
  step_none i n e =
      ⊎_elim
      (λ h. rw (drop_of_length-le es {i = i} h) refl)
      (λ h. let q : eqb (name_of (get_or es i 0)) name ≡ false = (rw (lt-ltb i (length es) h) at e) in rw (next_entry i h, q) refl)
      (le_or_lt (length es) i)

  -- up to entry i, after n looks: where it has the name what is left to do from it on is what is left from entry low on, else nothing is
  pub record Stepping (low looks i n : ℕ) : Type 0 where
    pub on : named_at es i name ≡ true → go_on live name (drop i es) (looks + (i - low)) ≡ go_on live name (drop low es) looks
    pub off : named_at es i name ≡ false → missing n ≡ go_on live name (drop low es) looks

  pub step_first : (low looks : ℕ) → low < length es → name_of (get_or es low 0) ≡ name → Stepping low looks low looks
  step_first low looks h q =
      let z : looks + (low - low) ≡ looks = omega arith in
      let named : named_at es low name ≡ true = rw (lt-ltb low (length es) h, eq-eqb (name_of (get_or es low 0)) name q) refl in
      record { on = λ _. ap (go_on live name (drop low es)) z; off = λ f. absurd (false≢true (sym f ∙ named)) }

  module _ {low looks i n e : ℕ} (g : Stepping low looks i n) {c : Bool} (k : c ≡ named_at es i name) (t : c ≡ true) (is : e ≡ get_or es i 0) where
    here : (i < length es) × (name_of (get_or es i 0) ≡ name)
    here = named_is es i name (sym k ∙ t)

    pub step_hit : {b : Bool} → b ≡ live (place_of e) → b ≡ true → found_with (place_of e) (looks + (i - low)) ≡ go_on live name (drop low es) looks
    step_hit l h = rw is (here_live i (looks + (i - low)) here.0 here.1 (rw is at (sym l ∙ h))) ∙ g.on (sym k ∙ t)

    pub step_again : {b : Bool} → b ≡ live (place_of e) → b ≡ false → low ≤ i → Stepping low looks (i + 1) (looks + (i - low))
    step_again l h le =
        let n = looks + (i - low) in
        let more : looks + (i + 1 - low) ≡ n + 1 = omega arith in
        let on = sym (here_deleted i n here.0 here.1 (rw is at (sym l ∙ h))) ∙ g.on (sym k ∙ t) in
        record {
          on = λ q. ap (go_on live name (drop (i + 1) es)) (more ∙ sym (step_named (i + 1) n q)) ∙ on;
          off = λ f. step_none (i + 1) n f ∙ on;
        }

  ---- the end of the halving rule

  pub end_none : {h : Halved} → Ended es name h → length es ≤ h.low → missing h.looks ≡ look_on live es name
  unfolding look_on
  end_none {h} q l = rw (← q.is, le-ltb h.low (length es) l) refl

  end_looks : {h : Halved} → Ended es name h → h.low < length es → go_on live name (drop h.low es) (h.looks + 1) ≡ look_on live es name
  unfolding look_on
  end_looks {h} q l = rw (← q.is, lt-ltb h.low (length es) l) refl

  pub end_other : {h : Halved} → Ended es name h → h.low < length es → named_at es h.low name ≡ false → missing (h.looks + 1) ≡ look_on live es name
  end_other {h} q l e =
      let k : eqb (name_of (get_or es h.low 0)) name ≡ false = (rw (lt-ltb h.low (length es) l) at e) in
      rw (next_entry h.low l, k) at (end_looks q l)

-- the steps by a table that answers alike
pub end_steps : {f live : ℕ → Bool} {es : List ℕ} {name : ℕ} {h : Halved} {r : Result Found Missed} → Ended es name h → h.low < length es → ((p : ℕ) → f p ≡ live p) →
    r ≡ go_on f name (drop h.low es) (h.looks + 1) → r ≡ look_on live es name
end_steps {f} {live} {es} {name} {h} q l e g =
    g ∙ go_on_same f live e name (drop h.low es) (h.looks + 1) ∙ end_looks live es name q l
