-- Judging refuses a file exactly at its first fault: by how often judging goes on, and back by the fault. So a file has one
-- first fault at most, and the number and the place of a refusal are bounded.
use Prim.Native.Nat.{ℕ, zero, suc, ◌+◌, ◌-◌, ◌*◌, ◌≤◌, ◌<◌, max}
use mathlib.Core.Path.{◌≡◌, refl, sym, ap, ◌∙◌, subst}
use mathlib.Core.Logic.{◌↔◌, ◌⊎◌, inl, inr}
use mathlib.Core.Bool.{Bool, true, false, cond, ◌&&◌, ◌||◌}
use mathlib.Core.List.{List, ◌++◌}
use mathlib.Core.Option.{Option, none, some}
use native.Mathlib.Omega.{arith}
use native.Mathlib.Numerals.{add-one}
use lib.ListN.{length, take, drop, length-append, length-drop}
use lib.Seq.{length-take-le}
use lib.Dec.{eqb, leb}
use Rattle.std.specs.Prelude.{Err, Ok, Result}
use Rattle.refusals.specs.Refusals.{refused_with}
use Rattle.refusals.specs.declared.Refusal as declared
use Rattle.refusals.proofs.Laws.{number_is, place_is, refused_is}
use Rattle.words.specs.Words.{words}
use Rattle.headers.specs.Header.{type_at}
use Rattle.headers.proofs.Checks.{first_in}
use Rattle.elements.specs.Rules.{checks, fault_of, head_of, count_ok}
use Rattle.elements.specs.declared.Head.{Head}
use Rattle.elements.specs.declared.Head.TheVariants.{Bad, Plain, Complex}
use Rattle.elements.proofs.Laws.{head_means, fault_none, header_within}
use Rattle.limits.specs.Limits.{call_ok}
use Rattle.files.specs.Ends.{stop_of}
use Rattle.files.specs.Judge.{add_to, and_then, enclose, element_by, list_by, element_from, list_from, element_of, top_of, answer, judge_of}
use Rattle.files.specs.Progress.{IsElement, IsList, GoodAt}
use Rattle.files.specs.Spots.{Spot, deepest}
use Rattle.files.specs.declared.Stop.{Stop}
use Rattle.files.specs.declared.Stop.TheVariants.{More, Done, Lacking}
use Rattle.files.proofs.Laws as laws
use Rattle.files.specs.Judgement.{good_with}
use Rattle.files.specs.declared.Judgement.{Judgement}
use Rattle.grammar.specs.Grammar.{Element, element, Components}
use Rattle.grammar.specs.FirstFault.{from_to, Due, ElementFault, own_words, inside, count, ListFault, here, later, no_end, FirstFault, ElementNumber, Refusal}
use Rattle.grammar.proofs.Meaning.{tests_own}
use Rattle.grammar.proofs.Forest.{flat, num, weight, spots, element_tree, components_tree, tree_components}
use Rattle.grammar.proofs.Stands.{Stands, stands_part, stands_left}
use Rattle.grammar.proofs.Rules.{own_two}
use Rattle.grammar.proofs.Says.{says_eq, says_le, says_and, says_or}
use Rattle.grammar.proofs.Ends.{own_more, stopped, due_more, end_lacking}
use Rattle.grammar.proofs.Sound.{ElementRead, ListRead, element_sound, list_sound}
use Rattle.grammar.proofs.Complete.{element_complete, list_complete}

---- the numbers of the checks

-- an element whose own words are at fault has one of the numbers
abbrev element_number : ℕ → Bool
element_number n = (leb 3 n && leb n 12) || (eqb n 20 || eqb n 21)

bad_number : (dim depth under : ℕ) (ws : List ℕ) (at bound n : ℕ) → head_of dim depth under ws at bound ≡ Bad n → ElementNumber n
unfolding fault_of
bad_number dim depth under ws at bound n e =
    let m = head_means dim depth under ws at bound (Bad n) e in
    let r = first_in element_number (checks dim depth under ws at bound) refl (λ z. m.1 (sym m.0 ∙ z)) in
    (says_or (says_and (says_le 3 n) (says_le n 12)) (says_or (says_eq n 20) (says_eq n 21))).said (subst (λ k. element_number k ≡ true) m.0 r)

-- which are from 3 to 21
pub number_within : {n : ℕ} → ElementNumber n → (3 ≤ n) × (n ≤ 21)
number_within (inl x) = omega arith
number_within (inr (inl x)) = omega arith
number_within (inr (inr x)) = omega arith

---- what a refusal was made of

-- of an element and then the rest of its list: the element's, or that of the rest after a good one
data Then (v : Result Judgement declared.Refusal) (rest : ℕ → Result Judgement declared.Refusal) (n p : ℕ) : Type 0 where
  first : v ≡ refused_with n p → Then v rest n p
  after : (next e d k : ℕ) → v ≡ good_with next e d k → rest next ≡ refused_with n p → Then v rest n p

add_fault : (e d k : ℕ) (v : Result Judgement declared.Refusal) (n p : ℕ) → add_to e d k v ≡ refused_with n p → v ≡ refused_with n p
add_fault e d k (Ok judged) n p q = cc
add_fault e d k (Err refusal) n p q = q

then_fault : (v : Result Judgement declared.Refusal) (rest : ℕ → Result Judgement declared.Refusal) (n p : ℕ) → and_then v rest ≡ refused_with n p → Then v rest n p
then_fault (Ok judged) rest n p q = after judged.next judged.elements judged.deepest judged.direct refl (add_fault judged.elements judged.deepest judged.direct (rest judged.next) n p q)
then_fault (Err refusal) rest n p q = first q

-- of a header around its components: theirs, or its count differs
data Around (ws : List ℕ) (at : ℕ) (v : Result Judgement declared.Refusal) (n p : ℕ) : Type 0 where
  within : v ≡ refused_with n p → Around ws at v n p
  miscounted : (stop e d k : ℕ) → v ≡ good_with stop e d k → count_ok ws at k ≡ false → 9 ≡ n → at ≡ p → Around ws at v n p

around_fault : (ws : List ℕ) (at end depth : ℕ) (v : Result Judgement declared.Refusal) (n p : ℕ) → enclose ws at end depth v ≡ refused_with n p → Around ws at v n p
around_fault ws at end depth (Err refusal) n p q = within q
around_fault ws at end depth (Ok judged) n p q = go (count_ok ws at judged.direct) refl q
  where
    go : (b : Bool) → count_ok ws at judged.direct ≡ b → cond b (good_with end (1 + judged.elements) (max depth judged.deepest) 1) (refused_with 9 at) ≡ refused_with n p → Around ws at (Ok judged) n p
    go true c q = let z : ◌≡◌ {A = ℕ} 0 1 = cc in absurd (omega arith)
    go false c q = miscounted judged.next judged.elements judged.deepest judged.direct refl c (number_is q) (place_is q)

module _ (dim : ℕ) (ws : List ℕ) where
  ---- what is judged good is of the grammar over the words between its two places, and back

  read_element : {depth under at bound next e d k : ℕ} (header : Option ℕ) → ElementRead dim ws depth under at bound next e d k →
      (xs : List Spot) × Element dim depth under header at xs (from_to ws at next)
  read_element {depth} {at = at} {next = next} header x =
      let l = length-append x.own (flat x.components) in
      let m = x.last in
      let n : next - at ≡ length (x.own ++ flat x.components) = omega arith in
      let w : from_to ws at next ≡ x.own ++ flat x.components = ap (λ i. take i (drop at ws)) n ∙ x.stands.is in (
        _,
        element (num x.components) x.own (flat x.components) _ w refl (tests_own x.rules)
            (tree_components dim (suc depth) (type_at x.own 0) (some at) (at + length x.own) x.components x.wf),
      )

  read_list : {depth under : ℕ} {header : Option ℕ} {at bound next e d k : ℕ} → ListRead dim ws (suc depth) under header at bound next e d k →
      (xs : List Spot) × Components dim (suc depth) under header at k xs (from_to ws at bound)
  read_list {depth} {under} {header} {at} {bound} x =
      let m = x.last in
      let e = x.ends in
      let n : bound - at ≡ length (flat x.tree) = omega arith in
      let w : flat x.tree ≡ from_to ws at bound = sym (ap (λ i. take i (drop at ws)) n ∙ x.stands.is) in
      (_, rw (w, x.direct) at (tree_components dim (suc depth) under header at x.tree x.wf))

  -- the words between two places, where they end by the file's end
  from_to_stands : (at end : ℕ) → at ≤ length ws → end ≤ length ws → (own : List ℕ) → own ≡ from_to ws at end → Stands own at ws × (length own ≡ end - at)
  from_to_stands at end a b own e =
      let l = length-drop at ws in
      (subst (λ v. Stands v at ws) (sym e) (stands_part (end - at) at ws (omega arith)), ap length e ∙ length-take-le (end - at) (drop at ws) (omega arith))

  element_good : {depth under : ℕ} {header : Option ℕ} {at next : ℕ} {xs : List Spot} → Element dim depth under header at xs (from_to ws at next) →
      (bound : ℕ) → at ≤ bound → next ≤ bound → bound ≤ length ws → (e d : ℕ) × GoodAt dim depth under ws bound at next e d
  element_good {depth} {under} {at = at} {next = next} x bound a l b =
      let o = element_tree x in
      let own = o.own in
      let k = o.components in
      let s = from_to_stands at next (omega arith) (omega arith) (own ++ flat k) o.words in
      let two = own_two o.rules in
      let m = length-append own (flat k) in
      let n = s.1 in
      let i : at + weight own k ≡ next = omega arith in
      let below = spots (suc depth) (some at) (at + length own) k in
      let e = suc (length below) in
      let d = max depth (deepest below) in (
        e,
        d,
        record {
          more = own_more o.rules (stands_left own (flat k) s.0) bound (omega arith);
          good = λ fuel h. ap (λ j. good_with j e d 1) (sym i) ∙ sym (element_complete dim ws depth under at bound own k o.rules o.wf s.0 (omega arith) fuel h);
          on = omega arith;
          by = l;
        },
      )

  components_good : {depth under : ℕ} {header : Option ℕ} {at end k : ℕ} {xs : List Spot} → Components dim (suc depth) under header at k xs (from_to ws at end) →
      at ≤ end → end ≤ length ws → (e d : ℕ) × IsList dim (depth + 1) under ws at end (good_with end e d k)
  components_good {depth} {under} {header} {at} {end} {k} x a b =
      let t = components_tree x in
      let s = from_to_stands at end (omega arith) b (flat t.tree) t.words in
      let n = s.1 in
      let i : at + length (flat t.tree) ≡ end = omega arith in
      let all = spots (suc depth) header at t.tree in (
        length all,
        deepest all,
        λ fuel h.
            rw (add-one depth)
            (rw (i, t.count) at (sym (list_complete dim ws (suc depth) under header at end t.tree t.wf s.0 i fuel h))),
      )

  -- the components of a header stand between its own end and its bound
  complex_within : (depth under at bound inner end : ℕ) → head_of dim depth under ws at bound ≡ Complex inner end → (at < inner) × ((inner ≤ end) × (end ≤ bound))
  complex_within depth under at bound inner end h =
      let m = head_means dim depth under ws at bound (Complex inner end) h in
      let x = header_within dim depth under ws at bound (fault_none dim depth under ws at bound m.0) m.1.0 in
      let i = m.1.1.0 in
      let j = m.1.1.1 in
      omega arith

  ---- a refusal is the first fault

  element_by_lem : (depth under at bound n p : ℕ) (components : ℕ → ℕ → Result Judgement declared.Refusal) (h : Head) → head_of dim depth under ws at bound ≡ h → element_by h ws at depth components ≡ refused_with n p →
      ((inner end : ℕ) → h ≡ Complex inner end → components inner end ≡ refused_with n p → ListFault dim ws (suc depth) (type_at ws at) (some at) inner end n p) →
      ((inner end stop e d k : ℕ) → h ≡ Complex inner end → components inner end ≡ good_with stop e d k →
      (xs : List Spot) × Components dim (suc depth) (type_at ws at) (some at) inner k xs (from_to ws inner end)) →
      ElementFault dim ws depth under at bound n p
  element_by_lem depth under at bound n p components (Bad m) h q f g =
      let i = number_is q in
      let j = place_is q in
      rw (← i, ← j) (own_words h)
  element_by_lem depth under at bound n p components (Plain next) h q f g = let z : ◌≡◌ {A = ℕ} 0 1 = cc in absurd (omega arith)
  element_by_lem depth under at bound n p components (Complex inner end) h q f g = go (around_fault ws at end depth (components inner end) n p q)
    where
      go : Around ws at (components inner end) n p → ElementFault dim ws depth under at bound n p
      go (within e) = inside inner end h (f inner end refl e)
      go (miscounted stop e d k c o i j) = let x = g inner end stop e d k refl c in rw (← i, ← j) (count inner end k x.0 h x.1 o)

  list_by_lem : (depth under : ℕ) (header : Option ℕ) (at bound n p : ℕ) (each rest : ℕ → Result Judgement declared.Refusal) (s : Stop) → stop_of depth ws at bound ≡ s → at ≤ bound →
      list_by s at each rest ≡ refused_with n p → (each at ≡ refused_with n p → ElementFault dim ws depth under at bound n p) →
      ((next e d k : ℕ) → at < bound → each at ≡ good_with next e d k → rest next ≡ refused_with n p → ListFault dim ws depth under header at bound n p) →
      ListFault dim ws depth under header at bound n p
  list_by_lem depth under header at bound n p each rest More h a q f g = go (then_fault (each at) rest n p q)
    where
      go : Then (each at) rest n p → ListFault dim ws depth under header at bound n p
      go (first e) = here (stopped depth ws at bound More h) (f e)
      go (after next e d k v r) = g next e d k (laws.stop_more depth ws at bound h) v r
  list_by_lem depth under header at bound n p each rest Done h a q f g = let z : ◌≡◌ {A = ℕ} 0 1 = cc in absurd (omega arith)
  list_by_lem depth under header at bound n p each rest Lacking h a q f g =
      let s = stopped depth ws at bound Lacking h a in
      let i = number_is q in
      let j = place_is q in
      rw (s.0, s.1, ← i, ← j) no_end

  mutual
    unfolding element_from

    element_first : (fuel depth under at bound n p : ℕ) → at ≤ bound → bound ≤ length ws → 2 * (bound - at) < fuel →
        element_from fuel dim depth under ws at bound ≡ refused_with n p → ElementFault dim ws depth under at bound n p
    element_first zero depth under at bound n p a b l q = absurd (omega arith)
    element_first (suc fuel) depth under at bound n p a b l q =
        element_by_lem depth under at bound n p (λ inner end. list_from fuel dim (depth + 1) (type_at ws at) ws inner end) (head_of dim depth under ws at bound) refl q
        (λ inner end h e.
        let w = complex_within depth under at bound inner end h in
        subst (λ m. ListFault dim ws m (type_at ws at) (some at) inner end n p) (add-one depth)
        (list_first fuel (depth + 1) (type_at ws at) (some at) inner end n p (omega arith) (omega arith) (omega arith) e))
        (λ inner end stop e d k h r.
        let w = complex_within depth under at bound inner end h in
        read_list (subst (λ m. ListRead dim ws m (type_at ws at) (some at) inner end stop e d k) (add-one depth)
        (list_sound dim ws fuel (depth + 1) (type_at ws at) (some at) inner end stop e d k (omega arith) (omega arith) r)))

    list_first : (fuel depth under : ℕ) (header : Option ℕ) (at bound n p : ℕ) → at ≤ bound → bound ≤ length ws → 2 * (bound - at) + 1 < fuel →
        list_from fuel dim depth under ws at bound ≡ refused_with n p → ListFault dim ws depth under header at bound n p
    list_first zero depth under header at bound n p a b l q = absurd (omega arith)
    list_first (suc fuel) depth under header at bound n p a b l q =
        list_by_lem depth under header at bound n p (λ at. element_from fuel dim depth under ws at bound) (λ next. list_from fuel dim depth under ws next bound)
        (stop_of depth ws at bound) refl a q
        (λ e. element_first fuel depth under at bound n p a b (omega arith) e)
        (λ next e d k m v r.
        let x = element_sound dim ws fuel depth under at bound next e d k a b v in
        let y = read_element header x in
        let g = (element_good y.1 bound a x.within b).2 in
        let o = g.on in
        later next y.0 x.within y.1 (list_first fuel depth under header next bound n p x.within b (omega arith) r))

  ---- and the first fault is refused

  mutual
    element_refused : {depth under at bound n p : ℕ} → ElementFault dim ws depth under at bound n p → at ≤ bound → bound ≤ length ws →
        IsElement dim depth under ws at bound (refused_with n p)
    element_refused {depth} {under} {at} {bound} {n} (own_words h) a b = laws.element_bad dim depth under ws at bound n h
    element_refused {depth} {under} {at} {bound} {n} {p} (inside inner end h f) a b =
        let w = complex_within depth under at bound inner end h in
        laws.element_complex dim depth under ws at bound inner end (refused_with n p) h w
        (rw (add-one depth) (list_refused f (omega arith) (omega arith)))
    element_refused {depth} {under} {at} {bound} (count inner end k xs h c o) a b =
        let w = complex_within depth under at bound inner end h in
        let g = components_good c (omega arith) (omega arith) in
        laws.element_miscounted dim depth under ws at bound inner end end g.0 g.1 k h w g.2 o

    list_refused : {depth under : ℕ} {header : Option ℕ} {at bound n p : ℕ} → ListFault dim ws depth under header at bound n p → at ≤ bound → bound ≤ length ws →
        IsList dim depth under ws at bound (refused_with n p)
    list_refused {depth} {under} {header} {at} {bound} {n} {p} (here d f) a b =
        laws.list_refused dim depth under ws at bound n p (due_more depth ws at bound d) (element_refused f a b)
    list_refused {depth} {under} {header} {at} {bound} {n} {p} (later next xs l x f) a b =
        let g = element_good x bound a l b in
        laws.list_more dim depth under ws at bound next g.0 g.1 1 (refused_with n p) g.2.more g.2.good g.2.on (list_refused f l b)
    list_refused (no_end {under} {header} {bound}) a b = laws.list_lacking dim 0 under ws bound bound (end_lacking ws bound)

  -- of an element with its extent, as a piece that is handed in
  pub element_exactly : (depth under at bound n p : ℕ) → at ≤ bound → bound ≤ length ws →
      (element_of dim depth under ws at bound ≡ refused_with n p) ↔ ElementFault dim ws depth under at bound n p
  unfolding element_of
  element_exactly depth under at bound n p a b = (
    element_first (2 * (bound - at) + 1) depth under at bound n p a b (omega arith),
    λ f. sym (laws.element_of_lem dim depth under ws at bound (refused_with n p) (element_refused f a b)),
  )

  -- of all elements of a file
  pub top_exactly : (n p : ℕ) → (top_of dim ws ≡ refused_with n p) ↔ FirstFault dim ws n p
  unfolding top_of
  top_exactly n p = (
    list_first (2 * length ws + 2) 0 0 none 0 (length ws) n p (omega arith) (omega arith) (omega arith),
    λ f. sym (laws.top_of_lem dim ws (refused_with n p) (list_refused f (omega arith) (omega arith))),
  )

  ---- where it is

  -- of a list: at the top it may be 2 at the bound
  abbrev Somewhere : ℕ → ℕ → ℕ → ℕ → Type 0
  Somewhere zero bound n p = ((n ≡ 2) × (p ≡ bound)) ⊎ (ElementNumber n × (p < bound))
  Somewhere (suc depth) bound n p = ElementNumber n × (p < bound)

  due_before : (depth at bound : ℕ) → Due depth ws at bound → at < bound
  due_before zero at bound d = d.0
  due_before (suc depth) at bound d = d

  of_element : (depth bound n p : ℕ) → ElementNumber n × (p < bound) → Somewhere depth bound n p
  of_element zero bound n p s = inr s
  of_element (suc depth) bound n p s = s

  mutual
    element_place : {depth under at bound n p : ℕ} → ElementFault dim ws depth under at bound n p → ElementNumber n × (p < max bound (at + 1))
    element_place {depth} {under} {at} {bound} {n} (own_words h) = (bad_number dim depth under ws at bound n h, omega arith)
    element_place {depth} {under} {at} {bound} (inside inner end h f) =
        let w = complex_within depth under at bound inner end h in
        let s = list_place f in
        (s.0, omega arith)
    element_place (count inner end k xs h c o) = (inl (omega arith), omega arith)

    list_place : {depth under : ℕ} {header : Option ℕ} {at bound n p : ℕ} → ListFault dim ws depth under header at bound n p → Somewhere depth bound n p
    list_place {depth} {under} {header} {at} {bound} {n} {p} (here d f) =
        let s = element_place f in
        let b = due_before depth at bound d in
        of_element depth bound n p (s.0, omega arith)
    list_place (later next xs l x f) = list_place f
    list_place no_end = inl (refl, refl)

  -- of an element with its extent, and of a file
  pub element_refusal : (depth under at bound : ℕ) → at ≤ bound → bound ≤ length ws → (n p : ℕ) → element_of dim depth under ws at bound ≡ refused_with n p →
      ElementNumber n × (p < max bound (at + 1))
  element_refusal depth under at bound a b n p q = element_place ((element_exactly depth under at bound n p a b).0 q)

  pub fault_place : (n p : ℕ) → FirstFault dim ws n p → ((n ≡ 2) × (p ≡ length ws)) ⊎ (ElementNumber n × (p < length ws))
  fault_place n p f = list_place f

---- a file

answer_fault : (v : Result Judgement declared.Refusal) (n p : ℕ) → answer v ≡ refused_with n p → v ≡ refused_with n p
answer_fault (Ok judged) n p q = cc
answer_fault (Err refusal) n p q = cc

-- a file of an allowed length and dimension is refused exactly at its first fault
pub refused_exactly : (dim : ℕ) (s : List ℕ) (n p : ℕ) → call_ok dim s ≡ true → (judge_of dim s ≡ refused_with n p) ↔ FirstFault dim (words s) n p
unfolding judge_of
refused_exactly dim s n p c = (
  λ q. (top_exactly dim (words s) n p).0 (answer_fault (top_of dim (words s)) n p (rw c at q)),
  λ f. rw (c, (top_exactly dim (words s) n p).1 f) refl,
)

-- any other file is refused with 1 at 0, and only such a file is
above_one : {n p size : ℕ} → ((n ≡ 2) × (p ≡ size)) ⊎ (ElementNumber n × (p < size)) → n ≡ 1 → ⊥
above_one (inl x) e = omega arith
above_one (inr x) e = omega (arith, number_within x.0)

pub refused_call : (dim : ℕ) (s : List ℕ) → (judge_of dim s ≡ refused_with 1 0) ↔ (call_ok dim s ≡ false)
refused_call dim s = (λ q. go (call_ok dim s) refl q, λ c. sym (laws.judge_call dim s c))
  where
    go : (b : Bool) → call_ok dim s ≡ b → judge_of dim s ≡ refused_with 1 0 → call_ok dim s ≡ false
    go false c q = c
    go true c q = absurd (above_one (fault_place dim (words s) 1 0 ((refused_exactly dim s 1 0 c).0 q)) refl)

-- a file has one first fault at most
pub one_fault : (dim : ℕ) (ws : List ℕ) (n p m q : ℕ) → FirstFault dim ws n p → FirstFault dim ws m q → (n ≡ m) × (p ≡ q)
one_fault dim ws n p m q f g =
    let a = (top_exactly dim ws n p).1 f in
    let b = (top_exactly dim ws m q).1 g in
    refused_is (sym a ∙ b)

-- the number and the place of a refusal
pub refusal_place : (dim : ℕ) (s : List ℕ) (n p : ℕ) → judge_of dim s ≡ refused_with n p → Refusal (length (words s)) n p
refusal_place dim s n p q = go (call_ok dim s) refl
  where
    go : (b : Bool) → call_ok dim s ≡ b → Refusal (length (words s)) n p
    go true c = inr (fault_place dim (words s) n p ((refused_exactly dim s n p c).0 q))
    go false c = let e = sym q ∙ sym (laws.judge_call dim s c) in inl (refused_is e)
