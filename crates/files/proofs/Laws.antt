-- Laws of judging: what an element is judged to be by its head_of, and a list by its stopOf. None looks into head_of or
-- countOk, so they hold whatever the rules of one element are; stop-more alone looks into stopOf.
use Prim.Native.Nat.{ℕ, zero, suc, ◌+◌, ◌-◌, ◌*◌, ◌/◌, ◌<◌, ◌≤◌, max}
use mathlib.Core.Path.{◌≡◌, refl, sym, ap, ◌∙◌}
use mathlib.Core.Bool.{Bool, true, false, cond, ◌&&◌}
use mathlib.Core.List.{List}
use native.Mathlib.Omega.{arith}
use native.Mathlib.Nat.{add_assoc, add-zero, zero-add, max-zero, zero-max}
use lib.ListN.{length}
use lib.Dec.{ltb, eqb}
use borrow.Author.Tests.{ltb-true, le-ltb, ne_eqb}
use Rattle.words.specs.Words.{words, word_at}
use Rattle.words.proofs.Laws.{length_words}
use Rattle.headers.specs.Header.{type_at}
use Rattle.elements.specs.Rules.{head_of, count_ok}
use Rattle.elements.specs.declared.Head.{Head}
use Rattle.elements.specs.declared.Head.TheVariants.{Bad, Plain, Complex}
use Rattle.files.specs.declared.Stop.{Stop}
use Rattle.files.specs.declared.Stop.TheVariants.{More, Done, Lacking}
use Rattle.files.specs.Ends.{stop_of}
use Rattle.files.specs.Judge.{add_to, and_then, enclose, element_by, list_by, element_from, list_from, element_of, top_of, answer, judge_of}
use Rattle.limits.specs.Limits.{call_ok}
use Rattle.files.specs.Progress.{IsElement, IsList, ListIn, list_in, Tally, tally, stop_in, ElementIs, RestIs, ListJudged, Passed}
use Rattle.std.specs.Prelude.{Err, Ok, Result}
use Rattle.files.specs.Judgement.{good_with}
use Rattle.files.specs.declared.Judgement.{Judgement}
use Rattle.refusals.specs.Refusals.{refused_with}
use Rattle.refusals.specs.declared.Refusal.{Refusal}
use Rattle.refusals.proofs.Laws.{given_is}

---- an element, by its head

module _ (dim depth under : ℕ) (ws : List ℕ) (at bound : ℕ) where
  element_is : (h : Head) (r : Result Judgement Refusal) → head_of dim depth under ws at bound ≡ h →
      ((n : ℕ) → 2 * (bound - at) < suc n → r ≡ element_by h ws at depth (λ inner end. list_from n dim (depth + 1) (type_at ws at) ws inner end)) →
      IsElement dim depth under ws at bound r
  unfolding element_from
  element_is h r e k zero lt = absurd (omega arith)
  element_is h r e k (suc n) lt = rw e (k n lt)

  pub element_bad : (n : ℕ) → head_of dim depth under ws at bound ≡ Bad n → IsElement dim depth under ws at bound (refused_with n at)
  element_bad n e = element_is _ _ e (λ k lt. refl)

  pub element_plain : (next : ℕ) → head_of dim depth under ws at bound ≡ Plain next → IsElement dim depth under ws at bound (good_with next 1 depth 1)
  element_plain next e = element_is _ _ e (λ k lt. refl)

  pub element_complex : (inner end : ℕ) (r : Result Judgement Refusal) → head_of dim depth under ws at bound ≡ Complex inner end →
      (at < inner) × ((inner ≤ end) × (end ≤ bound)) → IsList dim (depth + 1) (type_at ws at) ws inner end r →
      IsElement dim depth under ws at bound (enclose ws at end depth r)
  element_complex inner end r e w l = element_is _ _ e (λ k lt. ap (enclose ws at end depth) (l k (omega arith)))

  -- a header whose components are all good, by its count
  module _ (inner end next e d k : ℕ) (h : head_of dim depth under ws at bound ≡ Complex inner end) (w : (at < inner) × ((inner ≤ end) × (end ≤ bound)))
      (l : IsList dim (depth + 1) (type_at ws at) ws inner end (good_with next e d k)) where
    pub element_counted : count_ok ws at k ≡ true → IsElement dim depth under ws at bound (good_with end (1 + e) (max depth d) 1)
    element_counted o = rw o at (element_complex inner end (good_with next e d k) h w l)

    pub element_miscounted : count_ok ws at k ≡ false → IsElement dim depth under ws at bound (refused_with 9 at)
    element_miscounted o = rw o at (element_complex inner end (good_with next e d k) h w l)

-- an element counts as one in its list
by_count : (b : Bool) (at end e d next' e' d' k' : ℕ) → cond b (good_with end e d 1) (refused_with 9 at) ≡ good_with next' e' d' k' → k' ≡ 1
by_count true at end e d next' e' d' k' h = sym (ap (λ (r : Judgement). r.direct) (given_is h))
by_count false at end e d next' e' d' k' h = cc

by_list : (ws : List ℕ) (at end depth : ℕ) (v : Result Judgement Refusal) (next e d k : ℕ) → enclose ws at end depth v ≡ good_with next e d k → k ≡ 1
by_list ws at end depth (Ok judged) next e d k h = by_count (count_ok ws at judged.direct) at end (1 + judged.elements) (max depth judged.deepest) next e d k h
by_list ws at end depth (Err refusal) next e d k h = cc

by_head : (h : Head) (ws : List ℕ) (at depth : ℕ) (f : ℕ → ℕ → Result Judgement Refusal) (next e d k : ℕ) → element_by h ws at depth f ≡ good_with next e d k → k ≡ 1
by_head (Bad n) ws at depth f next e d k h = cc
by_head (Plain n) ws at depth f next e d k h = sym (ap (λ (r : Judgement). r.direct) (given_is h))
by_head (Complex inner end) ws at depth f next e d k h = by_list ws at end depth (f inner end) next e d k h

pub element_direct : (dim depth under : ℕ) (ws : List ℕ) (at bound next e d k : ℕ) → IsElement dim depth under ws at bound (good_with next e d k) → k ≡ 1
unfolding element_from
element_direct dim depth under ws at bound next e d k l =
    by_head (head_of dim depth under ws at bound) ws at depth _ next e d k (sym (l (suc (2 * (bound - at))) (omega arith)))

---- a list, by what stands where its next element would begin

-- an element begins before the bound only
pub stop_more : (depth : ℕ) (ws : List ℕ) (at bound : ℕ) → stop_of depth ws at bound ≡ More → at < bound
unfolding stop_of
stop_more depth ws at bound = go (ltb at bound) (eqb depth 0) refl
  where
    go : (b t : Bool) → ltb at bound ≡ b → cond b (cond (t && eqb (word_at ws at) 65535) Done More) (cond t Lacking Done) ≡ More → at < bound
    go true t e h = ltb-true at bound e
    go false true e h = absurd (let z : ◌≡◌ {A = ℕ} 0 1 = cc in omega arith)
    go false false e h = absurd (let z : ◌≡◌ {A = ℕ} 0 1 = cc in omega arith)

module _ (dim depth under : ℕ) (ws : List ℕ) (at bound : ℕ) where
  list_is : (h : Stop) (r : Result Judgement Refusal) → stop_of depth ws at bound ≡ h →
      ((n : ℕ) → 2 * (bound - at) + 1 < suc n →
      r ≡ list_by h at (λ here. element_from n dim depth under ws here bound) (λ next. list_from n dim depth under ws next bound)) →
      IsList dim depth under ws at bound r
  unfolding list_from
  list_is h r e k zero lt = absurd (omega arith)
  list_is h r e k (suc n) lt = rw e (k n lt)

  pub list_done : stop_of depth ws at bound ≡ Done → IsList dim depth under ws at bound (good_with at 0 0 0)
  list_done e = list_is _ _ e (λ k lt. refl)

  pub list_lacking : stop_of depth ws at bound ≡ Lacking → IsList dim depth under ws at bound (refused_with 2 at)
  list_lacking e = list_is _ _ e (λ k lt. refl)

  pub list_refused : (n p : ℕ) → stop_of depth ws at bound ≡ More → IsElement dim depth under ws at bound (refused_with n p) →
      IsList dim depth under ws at bound (refused_with n p)
  list_refused n p e l = list_is _ _ e (λ k lt. ap (λ v. and_then v (λ next. list_from k dim depth under ws next bound)) (l k (omega arith)))

  pub list_more : (next e d k : ℕ) (r : Result Judgement Refusal) → stop_of depth ws at bound ≡ More → IsElement dim depth under ws at bound (good_with next e d k) →
      at < next → IsList dim depth under ws next bound r → IsList dim depth under ws at bound (add_to e d k r)
  list_more next e d k r h l a rest =
      let b = stop_more depth ws at bound h in
      list_is _ _ h (λ n lt.
      ap (add_to e d k) (rest n (omega arith)) ∙ ap (λ v. and_then v (λ next. list_from n dim depth under ws next bound)) (l n (omega arith)))

---- sums over a list

max_assoc : (a b c : ℕ) → max (max a b) c ≡ max a (max b c)
max_assoc a b c = omega arith

add_to_none : (next e d k : ℕ) → good_with next e d k ≡ add_to e d k (good_with next 0 0 0)
add_to_none next e d k = simp (add-zero, max-zero)

add_to_zero : (r : Result Judgement Refusal) → add_to 0 0 0 r ≡ r
add_to_zero (Ok judged) = simp (zero-add, zero-max)
add_to_zero (Err refusal) = refl

add_to_twice : (e d k e' d' k' : ℕ) (r : Result Judgement Refusal) → add_to (e + e') (max d d') (k + k') r ≡ add_to e d k (add_to e' d' k' r)
add_to_twice e d k e' d' k' (Ok judged) = simp (add_assoc, max_assoc)
add_to_twice e d k e' d' k' (Err refusal) = refl

-- a header without components: its list ends where it begins
pub list_none : (dim depth under : ℕ) (s : List ℕ) {inner end : ℕ} → inner ≡ end → ListJudged (list_in dim (depth + 1) under s inner end) (good_with end 0 0 0)
unfolding stop_of
list_none dim depth under s {inner} {end} e =
    rw e (record {
      is = list_done dim (depth + 1) under (words s) end end (rw (le-ltb end end (omega arith), ne_eqb (depth + 1) 0 (λ z. absurd (omega arith))) refl);
      within = omega arith;
    })

---- the elements of a list that were passed

pub passed_none : (l : ListIn) → Passed l l.at (tally 0 0 0)
passed_none l r i n lt = add_to_zero r ∙ i n lt

module _ (l : ListIn) (here : ℕ) (t : Tally) (passed : Passed l here t) where
  pub passed_done : stop_in l here ≡ Done → RestIs l l.at (good_with here t.elements t.deepest t.direct)
  passed_done h n lt =
      add_to_none here t.elements t.deepest t.direct
      ∙ passed (good_with here 0 0 0) (list_done l.dim l.depth l.under (words l.file) here l.bound h) n lt

  pub passed_lacking : stop_in l here ≡ Lacking → RestIs l l.at (refused_with 2 here)
  passed_lacking h = passed (refused_with 2 here) (list_lacking l.dim l.depth l.under (words l.file) here l.bound h)

  -- an element stands there
  module _ (more : stop_in l here ≡ More) where
    pub passed_refused : (n p : ℕ) → ElementIs l here (refused_with n p) → RestIs l l.at (refused_with n p)
    passed_refused n p e = passed (refused_with n p) (list_refused l.dim l.depth l.under (words l.file) here l.bound n p more e)

    passed_on : (next e d k : ℕ) → ElementIs l here (good_with next e d k) → here < next → Passed l next (tally (t.elements + e) (max t.deepest d) (t.direct + k))
    passed_on next e d k g a r rest n lt =
        add_to_twice t.elements t.deepest t.direct e d k r
        ∙ passed (add_to e d k r) (list_more l.dim l.depth l.under (words l.file) here l.bound next e d k r more g a rest) n lt

    pub passed_more : (next e d k : ℕ) → ElementIs l here (good_with next e d k) → here < next → Passed l next (tally (t.elements + e) (max t.deepest d) (t.direct + 1))
    passed_more next e d k g a =
        rw (element_direct l.dim l.depth l.under (words l.file) here l.bound next e d k g) at (passed_on next e d k g a)

---- the element of a place and the answer of a file

pub element_of_lem : (dim depth under : ℕ) (ws : List ℕ) (at bound : ℕ) (r : Result Judgement Refusal) → IsElement dim depth under ws at bound r →
    r ≡ element_of dim depth under ws at bound
unfolding element_of
element_of_lem dim depth under ws at bound r l = l (2 * (bound - at) + 1) (omega arith)

pub top_of_lem : (dim : ℕ) (ws : List ℕ) (r : Result Judgement Refusal) → IsList dim 0 0 ws 0 (length ws) r → r ≡ top_of dim ws
unfolding top_of
top_of_lem dim ws r l = l (2 * length ws + 2) (omega arith)

pub judge_call : (dim : ℕ) (s : List ℕ) → call_ok dim s ≡ false → refused_with 1 0 ≡ judge_of dim s
unfolding judge_of
judge_call dim s h = rw h refl

pub judge_top : (dim : ℕ) (s : List ℕ) (r : Result Judgement Refusal) → call_ok dim s ≡ true → IsList dim 0 0 (words s) 0 (length s / 2) r → answer r ≡ judge_of dim s
unfolding judge_of
judge_top dim s r h l = rw h (ap answer (top_of_lem dim (words s) r (rw (length_words s) l)))
