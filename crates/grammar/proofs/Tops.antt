-- Judging the elements at the top one after another, each by elementOf, gives what judging the file gives. elementOf has
-- its own number for elementFrom; every number that is enough gives the same.
use Prim.Native.Nat.{ℕ, zero, suc, ◌+◌, ◌-◌, ◌*◌, ◌/◌, ◌≤◌, ◌<◌}
use mathlib.Core.Path.{◌≡◌, refl, sym, ap, ◌∙◌, subst}
use mathlib.Core.Bool.{Bool, true, false}
use mathlib.Core.List.{List}
use native.Mathlib.Omega.{arith}
use lib.ListN.{length}
use Rattle.std.specs.Prelude.{Err, Ok, Result}
use Rattle.refusals.specs.Refusals.{refused_with}
use Rattle.refusals.specs.declared.Refusal.{Refusal}
use Rattle.words.specs.Words.{words}
use Rattle.words.proofs.Laws.{length_words}
use Rattle.headers.specs.Header.{type_at}
use Rattle.elements.specs.Rules.{head_of}
use Rattle.elements.specs.declared.Head.{Head}
use Rattle.elements.specs.declared.Head.TheVariants.{Bad, Plain, Complex}
use Rattle.files.specs.Ends.{stop_of}
use Rattle.files.specs.Judge.{add_to, and_then, enclose, element_by, list_by, element_from, list_from, element_of, judge_of}
use Rattle.limits.specs.Limits.{call_ok}
use Rattle.files.specs.Progress.{IsElement, ListIn, list_in, tally, Passed}
use Rattle.files.specs.Reach.{reached_if, reached_by, reached_from, reached_of, stops_after}
use Rattle.files.specs.declared.Reached.TheVariants as reached
use Rattle.files.specs.declared.Stop.{Stop}
use Rattle.files.specs.declared.Stop.TheVariants.{More, Done, Lacking}
use Rattle.files.proofs.Laws.{passed_none, passed_done, passed_lacking, passed_refused, passed_more, judge_top, stop_more}
use Rattle.grammar.proofs.Rules.{complex_read, checked_extent, own_two}
use Rattle.grammar.proofs.Sound.{ElementRead, element_sound}
use Rattle.files.specs.declared.Reached.{Reached}
use Rattle.files.specs.Accepted.{accepted_with}
use Rattle.files.specs.Judgement.{good_with}
use Rattle.files.specs.declared.Judgement.{Judgement}

---- the number does not matter

module _ (dim : ℕ) (ws : List ℕ) where
  -- an element, by its components
  element_by_lem : (depth under at bound : ℕ) (f g : ℕ → ℕ → Result Judgement Refusal) (h : Head) → head_of dim depth under ws at bound ≡ h →
      ((inner end : ℕ) → at < inner → inner ≤ end → end ≤ bound → f inner end ≡ g inner end) → element_by h ws at depth f ≡ element_by h ws at depth g
  element_by_lem depth under at bound f g (Bad n) e k = refl
  element_by_lem depth under at bound f g (Plain next) e k = refl
  element_by_lem depth under at bound f g (Complex inner end) e k =
      let r = complex_read dim depth under ws at bound inner end e in
      let x = checked_extent r.0 r.1 in
      ap (enclose ws at end depth) (k inner end (omega arith) (omega arith) (omega arith))

  -- an element and then the rest of its list
  then_by : (v : Result Judgement Refusal) (f g : ℕ → Result Judgement Refusal) → ((next e d k : ℕ) → v ≡ good_with next e d k → f next ≡ g next) → and_then v f ≡ and_then v g
  then_by (Ok judged) f g h = ap (add_to judged.elements judged.deepest judged.direct) (h judged.next judged.elements judged.deepest judged.direct refl)
  then_by (Err refusal) f g h = refl

  -- a list, by its first element and the rest
  list_by_lem : (depth at bound : ℕ) (a b f g : ℕ → Result Judgement Refusal) (h : Stop) → stop_of depth ws at bound ≡ h →
      (at < bound → a at ≡ b at) → ((next e d k : ℕ) → at < bound → a at ≡ good_with next e d k → f next ≡ g next) → list_by h at a f ≡ list_by h at b g
  list_by_lem depth at bound a b f g Done e x y = refl
  list_by_lem depth at bound a b f g Lacking e x y = refl
  list_by_lem depth at bound a b f g More e x y =
      let l = stop_more depth ws at bound e in
      then_by (a at) f g (λ next n d k q. y next n d k l q) ∙ ap (λ v. and_then v g) (x l)

  mutual
    unfolding element_from

    element_same : (n m depth under at bound : ℕ) → bound ≤ length ws → 2 * (bound - at) < n → 2 * (bound - at) < m →
        element_from n dim depth under ws at bound ≡ element_from m dim depth under ws at bound
    element_same zero m depth under at bound b x y = absurd (omega arith)
    element_same (suc n) zero depth under at bound b x y = absurd (omega arith)
    element_same (suc n) (suc m) depth under at bound b x y =
        element_by_lem depth under at bound
        (λ inner end. list_from n dim (depth + 1) (type_at ws at) ws inner end) (λ inner end. list_from m dim (depth + 1) (type_at ws at) ws inner end)
        (head_of dim depth under ws at bound) refl
        (λ inner end i j k. list_same n m (depth + 1) (type_at ws at) inner end (omega arith) (omega arith) (omega arith))

    list_same : (n m depth under at bound : ℕ) → bound ≤ length ws → 2 * (bound - at) + 1 < n → 2 * (bound - at) + 1 < m →
        list_from n dim depth under ws at bound ≡ list_from m dim depth under ws at bound
    list_same zero m depth under at bound b x y = absurd (omega arith)
    list_same (suc n) zero depth under at bound b x y = absurd (omega arith)
    list_same (suc n) (suc m) depth under at bound b x y =
        list_by_lem depth at bound
        (λ here. element_from n dim depth under ws here bound) (λ here. element_from m dim depth under ws here bound)
        (λ next. list_from n dim depth under ws next bound) (λ next. list_from m dim depth under ws next bound)
        (stop_of depth ws at bound) refl
        (λ l. element_same n m depth under at bound b (omega arith) (omega arith))
        (λ next e d k l q.
        let r = element_sound dim ws n depth under at bound next e d k (omega arith) b q in
        let t = own_two r.rules in
        let z = r.last in
        list_same n m depth under next bound b (omega arith) (omega arith))

  pub element_is : (depth under at bound : ℕ) (r : Result Judgement Refusal) → bound ≤ length ws → r ≡ element_of dim depth under ws at bound → IsElement dim depth under ws at bound r
  unfolding element_of
  element_is depth under at bound r b e n l = e ∙ element_same (2 * (bound - at) + 1) n depth under at bound b (omega arith) l

  -- a good one is of the grammar
  pub element_read : (depth under at bound next e d k : ℕ) → at ≤ bound → bound ≤ length ws → good_with next e d k ≡ element_of dim depth under ws at bound →
      ElementRead dim ws depth under at bound next e d k
  unfolding element_of
  element_read depth under at bound next e d k a b q = element_sound dim ws (2 * (bound - at) + 1) depth under at bound next e d k a b (sym q)

---- the elements at the top up to a place

-- the list of a file's elements at the top
abbrev pub top_list : ℕ → List ℕ → ListIn
top_list dim s = list_in dim 0 0 s 0 (length s / 2)

-- from the start to `here` stand good elements, which come to this tally
pub record Judged (dim : ℕ) (s : List ℕ) (here : ℕ) : Type 0 where
  pub inside : here ≤ length s / 2
  pub elements : ℕ
  pub deepest : ℕ
  pub direct : ℕ
  pub passed : Passed (top_list dim s) here (tally elements deepest direct)

pub judged_none : {dim : ℕ} {s : List ℕ} → Judged dim s 0
judged_none {dim} {s} = record { inside = omega arith; elements = 0; deepest = 0; direct = 0; passed = passed_none (top_list dim s) }

module _ {dim : ℕ} {s : List ℕ} {here : ℕ} (j : Judged dim s here) where
  -- the marker, or the end of the file, stands there
  module _ (call : call_ok dim s ≡ true) where
    pub judged_done : stop_of 0 (words s) here (length s / 2) ≡ Done → judge_of dim s ≡ accepted_with j.elements j.deepest here
    judged_done h = sym (judge_top dim s (good_with here j.elements j.deepest j.direct) call (passed_done (top_list dim s) here _ j.passed h))

    pub judged_lacking : stop_of 0 (words s) here (length s / 2) ≡ Lacking → judge_of dim s ≡ refused_with 2 here
    judged_lacking h = sym (judge_top dim s (refused_with 2 here) call (passed_lacking (top_list dim s) here _ j.passed h))

  -- an element stands there
  module _ (more : stop_of 0 (words s) here (length s / 2) ≡ More) where
    bound_in : length s / 2 ≤ length (words s)
    bound_in = let l = length_words s in omega arith

    pub judged_fault : (n p : ℕ) → call_ok dim s ≡ true → refused_with n p ≡ element_of dim 0 0 (words s) here (length s / 2) → judge_of dim s ≡ refused_with n p
    judged_fault n p call q =
        sym (judge_top dim s (refused_with n p) call
        (passed_refused (top_list dim s) here _ j.passed more n p (element_is dim (words s) 0 0 here (length s / 2) (refused_with n p) bound_in q)))

    module _ {next e d k : ℕ} (good : good_with next e d k ≡ element_of dim 0 0 (words s) here (length s / 2)) where
      pub judged_read : ElementRead dim (words s) 0 0 here (length s / 2) next e d k
      judged_read = element_read dim (words s) 0 0 here (length s / 2) next e d k j.inside bound_in good

      pub judged_on : here < next
      judged_on = let t = own_two judged_read.rules in let z = judged_read.last in omega arith

      pub judged_more : Judged dim s next
      judged_more = record {
        inside = judged_read.within;
        elements = _;
        deepest = _;
        direct = _;
        passed =
            passed_more (top_list dim s) here _ j.passed more next e d k (element_is dim (words s) 0 0 here (length s / 2) (good_with next e d k) bound_in good) judged_on;
      }

---- what is reached from a place at the top

module _ (dim : ℕ) (s : List ℕ) (until : ℕ) (each : Bool) (Q : ℕ → ℕ → Type 0) where
  -- Q holds, with the number of elements passed, where judging came to
  abbrev pub Arrived : Result Reached Refusal → Type 0
  Arrived (Ok (reached.Element a b k)) =
      (e d j : ℕ) × (Q k a × (stop_of 0 (words s) a (length s / 2) ≡ More) × (good_with b e d j ≡ element_of dim 0 0 (words s) a (length s / 2)) × (stops_after (words s) until each a b ≡ true))
  Arrived (Ok (reached.End a k)) = Q k a × (stop_of 0 (words s) a (length s / 2) ≡ Done)
  Arrived (Err refusal) = judge_of dim s ≡ Err refusal

  module _ (call : call_ok dim s ≡ true) (judged : (k a : ℕ) → Q k a → Judged dim s a)
      (step : (k a next e d j : ℕ) → Q k a → stop_of 0 (words s) a (length s / 2) ≡ More → good_with next e d j ≡ element_of dim 0 0 (words s) a (length s / 2) →
      stops_after (words s) until each a next ≡ false → Q (k + 1) next) where
    -- one element further, by what the rest comes to
    module _ (k a : ℕ) (q : Q k a) (rest : ℕ → Result Reached Refusal) (then : (next : ℕ) → a < next → next ≤ length s / 2 → Q (k + 1) next → Arrived (rest next)) where
      arrive_if : (next e d j : ℕ) → stop_of 0 (words s) a (length s / 2) ≡ More → good_with next e d j ≡ element_of dim 0 0 (words s) a (length s / 2) →
          (b : Bool) → stops_after (words s) until each a next ≡ b → Arrived (reached_if b a next k (rest next))
      arrive_if next e d j h g true t = (e, d, j, (q, h, g, t))
      arrive_if next e d j h g false t =
          then next (judged_on (judged k a q) h g) (judged_read (judged k a q) h g).within (step k a next e d j q h g t)

      arrive_by : (h : Stop) → stop_of 0 (words s) a (length s / 2) ≡ h → (v : Result Judgement Refusal) → element_of dim 0 0 (words s) a (length s / 2) ≡ v →
          Arrived (reached_by h v a k (λ next. stops_after (words s) until each a next) rest)
      arrive_by Done h v e = (q, h)
      arrive_by Lacking h v e = judged_lacking (judged k a q) call h
      arrive_by More h (Err refusal) e = judged_fault (judged k a q) h refusal.number refusal.place call (sym e)
      arrive_by More h (Ok judged) g = arrive_if judged.next judged.elements judged.deepest judged.direct h (sym g) (stops_after (words s) until each a judged.next) refl

    arrive : (n k a : ℕ) → length s / 2 - a < n → Q k a → Arrived (reached_from n dim (words s) until each k a (length s / 2))
    unfolding reached_from
    arrive zero k a l q = absurd (omega arith)
    arrive (suc n) k a l q =
        arrive_by k a q (λ next. reached_from n dim (words s) until each (k + 1) next (length s / 2)) (λ next o w z. arrive n (k + 1) next (omega arith) z)
        (stop_of 0 (words s) a (length s / 2)) refl (element_of dim 0 0 (words s) a (length s / 2)) refl

    pub arrived : (at : ℕ) (r : Result Reached Refusal) → Q 0 at → r ≡ reached_of dim (words s) at (length s / 2) until each → Arrived r
    unfolding reached_of
    arrived at r q e = subst Arrived (sym e) (arrive (suc (length s / 2 - at)) 0 at (omega arith) q)
