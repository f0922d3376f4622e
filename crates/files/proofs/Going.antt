-- Each way on and out of judge_element and judge_list keeps its contract, by the laws of judging.
use Prim.Native.Nat.{ℕ, suc, ◌+◌, ◌-◌, ◌≤◌, ◌<◌, max}
use mathlib.Core.Path.{◌≡◌, refl, sym, ◌∙◌, subst}
use mathlib.Core.Bool.{Bool, true, false, cond, ◌&&◌, ◌||◌, false≢true}
use mathlib.Core.List.{List}
use native.Mathlib.Omega.{arith}
use lib.Dec.{eqb, ltb, leb}
use borrow.Author.Tests.{leb-true, eqb-true, ne_eqb, le-leb, lt-ltb, le-ltb}
use Rattle.words.specs.Words.{words, word_at}
use Rattle.headers.specs.Header.{type_at}
use Rattle.kinds.specs.Kinds.{is_header}
use Rattle.headers.specs.Flags.{reserved_ok}
use Rattle.elements.specs.Rules.{count_ok, HeadRead}
use Rattle.elements.specs.declared.Head.{Head}
use Rattle.elements.specs.declared.Head.TheVariants.{Bad, Plain, Complex}
use Rattle.elements.proofs.Laws.{Checked, head_means}
use Rattle.files.specs.declared.Stop.TheVariants.{More}
use Rattle.files.specs.declared.Progress.TheVariants.{Stopped, Halted, Broken}
use Rattle.files.specs.Ends.{stop_of}
use Rattle.files.specs.Reach.{stops_after}
use Rattle.files.specs.Progress.{IsElement, ElementJudged, list_in, tally, stop_in, ElementIs, ListJudged, GoodAt, Run, stops_in, GoodIn, Steps, depth_of, Gone, Progressed}
use Rattle.files.proofs.Laws.{passed_none, passed_more, element_plain, element_complex, element_counted, element_miscounted}
use Rattle.std.specs.Prelude.{Result, Ok, Err}
use Rattle.files.specs.Judgement.{good_with}
use Rattle.files.specs.declared.Judgement.{Judgement}
use Rattle.refusals.specs.Refusals.{refused_with}
use Rattle.refusals.specs.declared.Refusal.{Refusal}

---- what stands at an element's head

not_marker : (w : ℕ) → reserved_ok w ≡ true → (b : Bool) → eqb w 65535 ≡ b → b ≡ false
unfolding reserved_ok
not_marker w h false e = refl
not_marker w h true e = absurd (false≢true (subst (λ (v : ℕ). reserved_ok v ≡ true) (eqb-true w 65535 e) h))

no_and : (b : Bool) → (b && false) ≡ false
no_and true = refl
no_and false = refl

-- neither the marker nor the bound is where an element's head is good
pub stop_head : (dim depth under : ℕ) (ws : List ℕ) (at bound : ℕ) → Checked dim depth under ws at bound → stop_of depth ws at bound ≡ More
unfolding stop_of
stop_head dim depth under ws at bound c =
    let two = leb-true 2 (bound - at) c.two in
    rw (lt-ltb at bound (omega arith), not_marker (word_at ws at) c.reserved (eqb (word_at ws at) 65535) refl, no_and (eqb depth 0)) refl

module _ {dim depth under : ℕ} {s : List ℕ} {at bound : ℕ} {h : Head} (head : HeadRead dim depth under s at bound h) where
  pub head_plain : {next : ℕ} → h ≡ Plain next → is_header (type_at (words s) at) ≡ false
  head_plain e = (head_means dim depth under (words s) at bound _ (sym head.is ∙ e)).1.0

  pub head_complex : {inner end : ℕ} → h ≡ Complex inner end → is_header (type_at (words s) at) ≡ true
  head_complex e = (head_means dim depth under (words s) at bound _ (sym head.is ∙ e)).1.0

  pub good_plain : {next : ℕ} → h ≡ Plain next → GoodAt dim depth under (words s) bound at next 1 depth
  good_plain e =
      let w = rw e at head.within in
      let q = sym head.is ∙ e in
      record { more = stop_head _ _ _ _ _ _ (head_means dim depth under (words s) at bound _ q).0; good = element_plain _ _ _ _ _ _ _ q; on = omega arith; by = omega arith }

  pub more_complex : {inner end : ℕ} → h ≡ Complex inner end → stop_of depth (words s) at bound ≡ More
  more_complex e = stop_head _ _ _ _ _ _ (head_means dim depth under (words s) at bound _ (sym head.is ∙ e)).0

  module _ {inner end type : ℕ} {v : Result Judgement Refusal} (e : h ≡ Complex inner end) (t : type ≡ type_at (words s) at) (l : ListJudged (list_in dim (depth + 1) type s inner end) v) where
    pub fault_beneath : {x : Refusal} → v ≡ Err x → IsElement dim depth under (words s) at bound (Err x)
    fault_beneath f =
        let w = rw e at head.within in
        element_complex _ _ _ _ _ _ _ _ _ (sym head.is ∙ e) (omega arith) (rw (f, t) at l.is)

    module _ {list : Judgement} {b : Bool} (g : v ≡ Ok list) (o : b ≡ count_ok (words s) at list.direct) where
      pub good_complex : {m : ℕ} → b ≡ true → m ≡ max depth list.deepest → ElementJudged (list_in dim depth under s at bound) (good_with end (1 + list.elements) m 1)
      good_complex y q =
          let w = rw e at head.within in
          let u = rw g at l.within in
          record {
            good = rw q (record {
              more = more_complex e;
              good = element_counted _ _ _ _ _ _ _ _ _ _ _ _ (sym head.is ∙ e) (omega arith) (rw (g, t) at l.is) (sym o ∙ y);
              on = omega arith;
              by = omega arith;
            });
            one = refl;
            itself = omega arith;
            deep = omega arith;
            words_each = omega arith;
          }

      pub fault_count : b ≡ false → IsElement dim depth under (words s) at bound (refused_with 9 at)
      fault_count y =
          let w = rw e at head.within in
          element_miscounted _ _ _ _ _ _ _ _ _ _ _ _ (sym head.is ∙ e) (omega arith) (rw (g, t) at l.is) (sym o ∙ y)

---- whether judging stops after an element

module _ (ws : List ℕ) (until : ℕ) (each : Bool) (at next : ℕ) where
  or_no : (a b : Bool) → a ≡ false → ((each && a) || b) ≡ b
  or_no a b e = rw (e, no_and each) refl

  pub plain_stops : is_header (type_at ws at) ≡ false → until < next → stops_after ws until each at next ≡ true
  unfolding stops_after
  plain_stops h l = or_no _ _ h ∙ lt-ltb until next l

  pub plain_goes : is_header (type_at ws at) ≡ false → next ≤ until → stops_after ws until each at next ≡ false
  unfolding stops_after
  plain_goes h l = or_no _ _ h ∙ le-ltb until next l

  and_yes : (a : Bool) → (a && true) ≡ a
  and_yes true = refl
  and_yes false = refl

  pub header_stops : {b c : Bool} → is_header (type_at ws at) ≡ true → b ≡ (each || ltb until next) → b ≡ c → stops_after ws until each at next ≡ c
  unfolding stops_after
  header_stops h e q = rw (h, and_yes each) (sym e ∙ q)

---- the loop

-- the smaller of the bound and a number not below it
pub as_bound : {bound last n : ℕ} → last ≡ cond (leb bound n) bound n → bound ≤ n → last ≡ bound
as_bound {bound} {last} {n} e h = rw (le-leb bound n h) at e

-- the invariant: `below` elements and the greatest depth `deepest` are those beneath the `direct` ones
pub record Going (run : Run) (here below deepest direct : ℕ) : Type 0 where
  pub gone : Gone run here (tally (direct + below) (depth_of direct run.list.depth deepest) direct)
  pub fresh : direct ≡ 0 → deepest ≡ 0

pub going_none : {run : Run} → Going run run.list.at 0 0 0
going_none {run} = record {
  gone = record { inside = omega arith; words_each = omega arith; direct = omega arith; none = λ e. (refl, refl); passed = passed_none run.list; steps = refl };
  fresh = λ e. refl;
}

-- the greatest depth with one more element, beneath which the greatest depth is d
depth_some : (k depth below : ℕ) → depth_of (k + 1) depth below ≡ max depth below
depth_some k depth below = rw (ne_eqb (k + 1) 0 (λ e. absurd (omega arith))) refl

depth_more : (k depth deepest d : ℕ) → (k ≡ 0 → deepest ≡ 0) → max depth (max deepest d) ≡ max (depth_of k depth deepest) (max depth d)
depth_more k depth deepest d f = go (eqb k 0) refl
  where
    go : (b : Bool) → eqb k 0 ≡ b → max depth (max deepest d) ≡ max (cond b 0 (max depth deepest)) (max depth d)
    go true e = let z = f (eqb-true k 0 e) in omega arith
    go false e = omega arith

module _ {run : Run} {here below deepest direct : ℕ} (g : Going run here below deepest direct) where
  pub going_halted : {d n : ℕ} {h : Head} → HeadRead run.list.dim run.list.depth run.list.under run.list.file here run.list.bound h → h ≡ Bad n →
      d ≡ depth_of direct run.list.depth deepest → Progressed run (Halted n here (direct + below) d direct)
  going_halted head e q = record { gone = rw q g.gone; head = sym head.is ∙ e }

  pub going_broken : {x : Refusal} → stop_in run.list here ≡ More → ElementIs run.list here (Err x) → Progressed run (Broken x)
  going_broken m f = record { here = here; before = _; gone = g.gone; more = m; fault = f }

  -- one more element
  module _ {next e d : ℕ} (o : GoodIn run.list here next e d) where
    pub going_stopped : {n m : ℕ} → stops_in run here next ≡ true → n ≡ direct + below + e → m ≡ max (depth_of direct run.list.depth deepest) d →
        Progressed run (Stopped next here n m (direct + 1))
    going_stopped h a q = record { before = _; own = _; depth_own = _; gone = g.gone; good = o; stops = h; all = a; deep = q; counted = refl }

    pub going_on : {b m : ℕ} → stops_in run here next ≡ false → direct + 1 + b ≡ direct + below + e → max run.list.depth m ≡ max (depth_of direct run.list.depth deepest) d →
        here + e ≤ next → Going run next b m (direct + 1)
    going_on {b = b} {m = m} h a q w = record {
      gone = record {
        inside = let i = g.gone.inside in let l = o.by in omega arith;
        words_each = let i = g.gone.words_each in omega arith;
        direct = omega arith;
        none = λ z. absurd (omega arith);
        passed = rw (a, depth_some direct run.list.depth m, q) (passed_more run.list here _ g.gone.passed o.more next e d 1 o.good o.on);
        steps = let z : suc direct ≡ direct + 1 = omega arith in subst (λ (m : ℕ). Steps run m next) z (here, e, d, (g.gone.steps, (o, h)));
      };
      fresh = λ z. absurd (omega arith);
    }

  pub depth_plain : {m : ℕ} → m ≡ max run.list.depth deepest → m ≡ max (depth_of direct run.list.depth deepest) run.list.depth
  depth_plain q = let w = depth_more direct run.list.depth deepest 0 g.fresh in omega arith

  pub depth_complex : {m : ℕ} (d : ℕ) → run.list.depth ≤ d → m ≡ max deepest d → max run.list.depth m ≡ max (depth_of direct run.list.depth deepest) d
  depth_complex d l q = let w = depth_more direct run.list.depth deepest d g.fresh in omega arith
