-- What judging accepts is of the grammar: where an element or a list is judged good, the words from its place on are
-- those of a tree, and the numbers are the tree's. By the fuel, an element and a list each by the other.
use Prim.Native.Nat.{ℕ, zero, suc, ◌+◌, ◌-◌, ◌≤◌, ◌<◌, max}
use mathlib.Core.Path.{◌≡◌, refl, sym, ap, ◌∙◌, subst}
use mathlib.Core.Bool.{Bool, true, false, cond}
use mathlib.Core.List.{List, ◌++◌, append_assoc, append-nil}
use mathlib.Core.Option.{Option, some}
use native.Mathlib.Omega.{arith}
use native.Mathlib.Numerals.{add-one}
use lib.ListN.{length, take, drop, length-append, length-drop}
use lib.Seq.{length-take-le}
use borrow.Author.Tests.{leb-true}
use Rattle.std.specs.Prelude.{Err, Ok, Result}
use Rattle.refusals.proofs.Laws.{given_is}
use Rattle.refusals.specs.Refusals.{refused_with}
use Rattle.refusals.specs.declared.Refusal.{Refusal}
use Rattle.headers.specs.Header.{type_at, size_at}
use Rattle.elements.specs.Rules.{head_of, count_ok}
use Rattle.elements.specs.declared.Head.{Head}
use Rattle.elements.specs.declared.Head.TheVariants.{Bad, Plain, Complex}
use Rattle.files.specs.Ends.{stop_of}
use Rattle.files.specs.Judge.{add_to, and_then, enclose, element_by, list_by, element_from, list_from}
use Rattle.files.specs.Spots.{deepest}
use Rattle.files.specs.declared.Stop.{Stop}
use Rattle.files.specs.declared.Stop.TheVariants.{More, Done, Lacking}
use Rattle.files.proofs.Laws.{stop_more}
use Rattle.files.specs.Judgement.{good_with}
use Rattle.files.specs.declared.Judgement.{Judgement}
use Rattle.grammar.proofs.Tests.{OwnTests}
use Rattle.grammar.proofs.Forest.{Forest, nil, node, flat, num, weight, Wf, spots, length_node, deepest_append}
use Rattle.grammar.proofs.Stands.{Stands, stands_nil, stands_part, stands_join}
use Rattle.elements.proofs.Laws.{Checked}
use Rattle.grammar.proofs.Rules.{plain_read, complex_read, plain_own, header_own, checked_type, checked_extent}
use Rattle.grammar.proofs.Ends.{Ends, stop_ends}

---- what a good verdict was made of

-- an element and then the rest of its list
record Then (v : Result Judgement Refusal) (rest : ℕ → Result Judgement Refusal) (next e d k : ℕ) : Type 0 where
  mid : ℕ
  e₁ : ℕ
  d₁ : ℕ
  k₁ : ℕ
  e₂ : ℕ
  d₂ : ℕ
  k₂ : ℕ
  first : v ≡ good_with mid e₁ d₁ k₁
  others : rest mid ≡ good_with next e₂ d₂ k₂
  elements : e₁ + e₂ ≡ e
  deep : max d₁ d₂ ≡ d
  direct : k₁ + k₂ ≡ k

good_same : {n m e f d g k l : ℕ} → good_with n e d k ≡ good_with m f g l → (n ≡ m) × (e ≡ f) × (d ≡ g) × (k ≡ l)
good_same q = let e = given_is q in (ap (λ j. j.next) e, ap (λ j. j.elements) e, ap (λ j. j.deepest) e, ap (λ j. j.direct) e)

then_inv : (v : Result Judgement Refusal) (rest : ℕ → Result Judgement Refusal) (next e d k : ℕ) → and_then v rest ≡ good_with next e d k → Then v rest next e d k
then_inv (Err refusal) rest next e d k q = let z : ◌≡◌ {A = ℕ} 0 1 = cc in absurd (omega arith)
then_inv (Ok one) rest next e d k q = go (rest one.next) refl q
  where
    go : (w : Result Judgement Refusal) → rest one.next ≡ w → add_to one.elements one.deepest one.direct w ≡ good_with next e d k → Then (Ok one) rest next e d k
    go (Err refusal) r q = let z : ◌≡◌ {A = ℕ} 0 1 = cc in absurd (omega arith)
    go (Ok more) r q = let s = good_same q in record {
      mid = one.next;
      e₁ = one.elements;
      d₁ = one.deepest;
      k₁ = one.direct;
      e₂ = more.elements;
      d₂ = more.deepest;
      k₂ = more.direct;
      first = refl;
      others = r ∙ ap (λ x. good_with x more.elements more.deepest more.direct) s.0;
      elements = s.1;
      deep = s.2;
      direct = s.3;
    }

-- a header around its components
record Around (ws : List ℕ) (at end depth : ℕ) (v : Result Judgement Refusal) (next e d k : ℕ) : Type 0 where
  stop : ℕ
  e₁ : ℕ
  d₁ : ℕ
  k₁ : ℕ
  inside : v ≡ good_with stop e₁ d₁ k₁
  count : count_ok ws at k₁ ≡ true
  last : end ≡ next
  elements : 1 + e₁ ≡ e
  deep : max depth d₁ ≡ d
  direct : 1 ≡ k

around_inv : (ws : List ℕ) (at end depth : ℕ) (v : Result Judgement Refusal) (next e d k : ℕ) → enclose ws at end depth v ≡ good_with next e d k → Around ws at end depth v next e d k
around_inv ws at end depth (Err refusal) next e d k q = let z : ◌≡◌ {A = ℕ} 0 1 = cc in absurd (omega arith)
around_inv ws at end depth (Ok judged) next e d k q = go (count_ok ws at judged.direct) refl q
  where
    go : (b : Bool) → count_ok ws at judged.direct ≡ b → cond b (good_with end (1 + judged.elements) (max depth judged.deepest) 1) (refused_with 9 at) ≡ good_with next e d k → Around ws at end depth (Ok judged) next e d k
    go false c q = let z : ◌≡◌ {A = ℕ} 0 1 = cc in absurd (omega arith)
    go true c q = let s = good_same q in record
        { stop = judged.next; e₁ = judged.elements; d₁ = judged.deepest; k₁ = judged.direct; inside = refl; count = c; last = s.0; elements = s.1; deep = s.2; direct = s.3 }

module _ (dim : ℕ) (ws : List ℕ) where
  -- an element of the grammar from the place at to the place next, with e elements, the deepest at d
  pub record ElementRead (depth under at bound next e d k : ℕ) : Type 0 where
    pub own : List ℕ
    pub components : Forest
    pub rules : OwnTests dim depth under own (length (flat components)) (num components)
    pub wf : Wf dim (suc depth) (type_at own 0) components
    pub stands : Stands (own ++ flat components) at ws
    pub last : at + weight own components ≡ next
    pub within : next ≤ bound
    pub elements : suc (length (spots (suc depth) (some at) (at + length own) components)) ≡ e
    pub deep : max depth (deepest (spots (suc depth) (some at) (at + length own) components)) ≡ d
    pub direct : 1 ≡ k

  -- a list of k elements of the grammar, up to where it ends
  pub record ListRead (depth under : ℕ) (header : Option ℕ) (at bound next e d k : ℕ) : Type 0 where
    pub tree : Forest
    pub wf : Wf dim depth under tree
    pub stands : Stands (flat tree) at ws
    pub last : at + length (flat tree) ≡ next
    pub ends : Ends depth ws next bound
    pub elements : length (spots depth header at tree) ≡ e
    pub deep : deepest (spots depth header at tree) ≡ d
    pub direct : num tree ≡ k

  ---- the cases

  list_done : (depth under : ℕ) (header : Option ℕ) (at bound next e d k : ℕ) → Ends depth ws at bound → good_with at 0 0 0 ≡ good_with next e d k →
      ListRead depth under header at bound next e d k
  list_done depth under header at bound next e d k n q = let s = good_same q in record
      { tree = nil; wf = tt; stands = stands_nil at ws; last = omega arith; ends = rw s.0 at n; elements = s.1; deep = s.2; direct = s.3 }

  list_more : (depth under : ℕ) (header : Option ℕ) (at bound next e d k : ℕ) (v : Result Judgement Refusal) (rest : ℕ → Result Judgement Refusal) (t : Then v rest next e d k) →
      ElementRead depth under at bound t.mid t.e₁ t.d₁ t.k₁ → ListRead depth under header t.mid bound next t.e₂ t.d₂ t.k₂ →
      ListRead depth under header at bound next e d k
  list_more depth under header at bound next e d k v rest t x y =
      let own = x.own in
      let components = x.components in
      let m : at + length (own ++ flat components) ≡ t.mid = ap (λ n. at + n) (length-append own (flat components)) ∙ x.last in
      let a = length-append (spots (suc depth) (some at) (at + length own) components) (spots depth header t.mid y.tree) in
      let b = deepest_append (spots (suc depth) (some at) (at + length own) components) (spots depth header t.mid y.tree) in
      let l = length_node own components y.tree in
      record {
        tree = node own components y.tree;
        wf = (x.rules, x.wf, y.wf);
        stands = rw append_assoc at (stands_join (own ++ flat components) (flat y.tree) x.stands (rw m y.stands));
        last = omega arith;
        ends = y.ends;
        elements = rw x.last (omega arith);
        deep = rw x.last (omega arith);
        direct = omega arith;
      }

  -- the own words of an element that passes its tests
  own_words : {depth under at bound : ℕ} → Checked dim depth under ws at bound → bound ≤ length ws →
      (at + size_at ws at ≤ bound) × (length (take (size_at ws at) (drop at ws)) ≡ size_at ws at)
  own_words {at = at} {bound = bound} c b =
      let z = leb-true (size_at ws at) (bound - at) c.size in
      let l = length-drop at ws in
      (omega arith, length-take-le (size_at ws at) (drop at ws) (omega arith))

  element_plain : (depth under at bound next' next e d k : ℕ) → head_of dim depth under ws at bound ≡ Plain next' → bound ≤ length ws →
      good_with next' 1 depth 1 ≡ good_with next e d k → ElementRead depth under at bound next e d k
  element_plain depth under at bound next' next e d k h b q =
      let r = plain_read dim depth under ws at bound next' h in
      let w = own_words r.0 b in
      let s = good_same q in
      let own = take (size_at ws at) (drop at ws) in
      let p = stands_part (size_at ws at) at ws (omega arith) in
      record {
        own = own;
        components = nil;
        rules = plain_own r.0 own p (sym w.1) r.1;
        wf = tt;
        stands = rw append-nil p;
        last = omega arith;
        within = omega arith;
        elements = s.1;
        deep = omega arith;
        direct = s.3;
      }

  element_complex : (depth under at bound inner end next e d k : ℕ) (v : Result Judgement Refusal) → head_of dim depth under ws at bound ≡ Complex inner end → bound ≤ length ws →
      (t : Around ws at end depth v next e d k) → ListRead (suc depth) (type_at ws at) (some at) inner end t.stop t.e₁ t.d₁ t.k₁ →
      ElementRead depth under at bound next e d k
  element_complex depth under at bound inner end next e d k v h b t l =
      let r = complex_read dim depth under ws at bound inner end h in
      let w = own_words r.0 b in
      let own = take (size_at ws at) (drop at ws) in
      let p = stands_part (size_at ws at) at ws (omega arith) in
      let i : at + length own ≡ inner = omega arith in
      record {
        own = own;
        components = l.tree;
        rules = header_own r.0 own p (sym w.1) r.1 (length (flat l.tree)) (num l.tree) (omega arith) (rw l.direct t.count);
        wf = rw (checked_type r.0 own p (sym w.1)) at l.wf;
        stands = stands_join own (flat l.tree) p (rw i l.stands);
        last = omega arith;
        within = omega (arith, checked_extent r.0 r.1);
        elements = rw i (omega arith);
        deep = rw (i, l.deep) t.deep;
        direct = t.direct;
      }

  ---- by the fuel

  list_by_lem : (depth under : ℕ) (header : Option ℕ) (at bound next e d k : ℕ) (element rest : ℕ → Result Judgement Refusal) (s : Stop) → stop_of depth ws at bound ≡ s → at ≤ bound →
      list_by s at element rest ≡ good_with next e d k → (at < bound → Then (element at) rest next e d k → ListRead depth under header at bound next e d k) →
      ListRead depth under header at bound next e d k
  list_by_lem depth under header at bound next e d k element rest More h a q f = f (stop_more depth ws at bound h) (then_inv (element at) rest next e d k q)
  list_by_lem depth under header at bound next e d k element rest Done h a q f = list_done depth under header at bound next e d k (stop_ends depth ws at bound h a) q
  list_by_lem depth under header at bound next e d k element rest Lacking h a q f = let z : ◌≡◌ {A = ℕ} 0 1 = cc in absurd (omega arith)

  element_by_lem : (depth under at bound next e d k : ℕ) (components : ℕ → ℕ → Result Judgement Refusal) (h : Head) → head_of dim depth under ws at bound ≡ h → bound ≤ length ws →
      element_by h ws at depth components ≡ good_with next e d k →
      ((inner end stop e₁ d₁ k₁ : ℕ) → inner ≤ end → end ≤ bound → components inner end ≡ good_with stop e₁ d₁ k₁ →
      ListRead (suc depth) (type_at ws at) (some at) inner end stop e₁ d₁ k₁) →
      ElementRead depth under at bound next e d k
  element_by_lem depth under at bound next e d k components (Bad n) h b q f = let z : ◌≡◌ {A = ℕ} 0 1 = cc in absurd (omega arith)
  element_by_lem depth under at bound next e d k components (Plain next') h b q f = element_plain depth under at bound next' next e d k h b q
  element_by_lem depth under at bound next e d k components (Complex inner end) h b q f =
      let t = around_inv ws at end depth (components inner end) next e d k q in
      let r = complex_read dim depth under ws at bound inner end h in
      let x = checked_extent r.0 r.1 in
      element_complex depth under at bound inner end next e d k (components inner end) h b t
      (f inner end t.stop t.e₁ t.d₁ t.k₁ (omega arith) (omega arith) t.inside)

  mutual
    unfolding element_from

    pub element_sound : (n depth under at bound next e d k : ℕ) → at ≤ bound → bound ≤ length ws →
        element_from n dim depth under ws at bound ≡ good_with next e d k → ElementRead depth under at bound next e d k
    element_sound zero depth under at bound next e d k a b q = let z : ◌≡◌ {A = ℕ} 0 1 = cc in absurd (omega arith)
    element_sound (suc n) depth under at bound next e d k a b q =
        element_by_lem depth under at bound next e d k (λ inner end. list_from n dim (depth + 1) (type_at ws at) ws inner end) (head_of dim depth under ws at bound) refl b q
        (λ inner end stop e₁ d₁ k₁ i j p.
        subst (λ m. ListRead m (type_at ws at) (some at) inner end stop e₁ d₁ k₁) (add-one depth)
        (list_sound n (depth + 1) (type_at ws at) (some at) inner end stop e₁ d₁ k₁ i (omega arith) p))

    pub list_sound : (n depth under : ℕ) (header : Option ℕ) (at bound next e d k : ℕ) → at ≤ bound → bound ≤ length ws →
        list_from n dim depth under ws at bound ≡ good_with next e d k → ListRead depth under header at bound next e d k
    list_sound zero depth under header at bound next e d k a b q = let z : ◌≡◌ {A = ℕ} 0 1 = cc in absurd (omega arith)
    list_sound (suc n) depth under header at bound next e d k a b q =
        list_by_lem depth under header at bound next e d k (λ here. element_from n dim depth under ws here bound) (λ next. list_from n dim depth under ws next bound)
        (stop_of depth ws at bound) refl a q
        (λ l t.
        let x = element_sound n depth under at bound t.mid t.e₁ t.d₁ t.k₁ a b t.first in
        list_more depth under header at bound next e d k _ _ t x
        (list_sound n depth under header t.mid bound next t.e₂ t.d₂ t.k₂ x.within b t.others))
