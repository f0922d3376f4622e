-- What is of the grammar is accepted: a tree whose words stand at a place, up to where its list ends, is judged good with
-- the tree's own numbers, and its elements are found in file order, for every fuel that is enough. By the tree.
use Prim.Native.Nat.{ℕ, zero, suc, ◌+◌, ◌-◌, ◌*◌, ◌≤◌, ◌<◌, max}
use mathlib.Core.Path.{◌≡◌, refl, ap, ◌∙◌, subst}
use mathlib.Core.Bool.{Bool, true, false}
use mathlib.Core.List.{List, [], ◌++◌}
use mathlib.Core.Option.{Option, some}
use native.Mathlib.Omega.{arith}
use native.Mathlib.Nat.{add-zero}
use native.Mathlib.Numerals.{add-one}
use lib.ListN.{length, length-append}
use Rattle.headers.specs.Header.{type_at}
use Rattle.kinds.specs.Kinds.{is_header}
use Rattle.elements.specs.Rules.{head_of}
use Rattle.elements.specs.declared.Head.TheVariants.{Plain, Complex}
use Rattle.files.specs.Ends.{stop_of}
use Rattle.files.specs.Judge.{element_from, list_from}
use Rattle.files.specs.Spots.{deepest, spots_from}
use Rattle.files.specs.declared.Stop.TheVariants.{More, Done}
use Rattle.files.specs.Judgement.{good_with}
use Rattle.grammar.proofs.Tests.{OwnTests, Extent}
use Rattle.grammar.proofs.Forest.{Forest, nil, node, flat, num, weight, Wf, spots, length_node, own_stands, components_stand, rest_stand, deepest_append}
use Rattle.grammar.proofs.Stands.{Stands, stands_left, stands_right}
use Rattle.elements.proofs.Laws.{fault_none, head_plain, head_complex}
use Rattle.grammar.proofs.Rules.{own_two, own_type, own_size, own_extent, own_count, own_checked}
use Rattle.grammar.proofs.Ends.{Ends, ends_by, ends_stop, own_more}

pub good : {n m e f d g k l : ℕ} → n ≡ m → e ≡ f → d ≡ g → k ≡ l → good_with n e d k ≡ good_with m f g l
good p q r s = cc

---- one element, by what is judged of those under it

-- under an element that is no header stands nothing
none_under : (k : Forest) (own : List ℕ) → Extent false own (length (flat k)) (num k) → k ≡ nil
none_under nil own e = refl
none_under (node o k r) own e = absurd (omega arith)

module _ (dim : ℕ) (ws : List ℕ) where
  module _ {depth under : ℕ} {own : List ℕ} {inside n at : ℕ} (o : OwnTests dim depth under own inside n) (s : Stands own at ws) (bound : ℕ) (l : at + (length own + inside) ≤ bound) where
    pub own_plain : is_header (type_at own 0) ≡ false → head_of dim depth under ws at bound ≡ Plain (at + length own)
    own_plain h =
        (head_plain dim depth under ws at bound (fault_none dim depth under ws at bound (own_checked o s bound l)) (ap is_header (own_type o s) ∙ h))
        ∙ ap (λ m. Plain (at + m)) (own_size o s)

    pub own_complex : is_header (type_at own 0) ≡ true → head_of dim depth under ws at bound ≡ Complex (at + length own) (at + (length own + inside))
    own_complex h =
        (head_complex dim depth under ws at bound (fault_none dim depth under ws at bound (own_checked o s bound l)) (ap is_header (own_type o s) ∙ h))
        ∙ rw (own_size o s, own_extent o s h) refl

  -- an element and those under it stand at a place, and end by the bound
  record Placed (depth under at bound : ℕ) (own : List ℕ) (k : Forest) : Type 0 where
    rules : OwnTests dim depth under own (length (flat k)) (num k)
    first : Stands own at ws
    room : at + weight own k ≤ bound

  element_by_lem : (depth under at bound : ℕ) (own : List ℕ) (k : Forest) (e d : ℕ) → Placed depth under at bound own k →
      (k ≡ nil → (e ≡ 0) × (d ≡ 0)) →
      ((n : ℕ) → 2 * (length (flat k)) + 1 < n → list_from n dim (suc depth) (type_at own 0) ws (at + length own) (at + weight own k) ≡ good_with (at + weight own k) e d (num k)) →
      (n : ℕ) → 2 * (bound - at) < n → element_from n dim depth under ws at bound ≡ good_with (at + weight own k) (suc e) (max depth d) 1
  unfolding element_from
  element_by_lem depth under at bound own k e d p z f zero l = absurd (omega arith)
  element_by_lem depth under at bound own k e d p z f (suc n) l = go (is_header (type_at own 0)) refl p.rules.extent
    where
      go : (b : Bool) → is_header (type_at own 0) ≡ b → Extent b own (length (flat k)) (num k) →
          element_from (suc n) dim depth under ws at bound ≡ good_with (at + weight own k) (suc e) (max depth d) 1
      go false h x =
          let w = x.0 in
          let y = z (none_under k own x) in
          rw (own_plain p.rules p.first bound p.room h) (good (omega arith) (omega arith) (omega arith) refl)
      go true h x =
          let o = own_two p.rules in
          let r = p.room in
          rw (own_complex p.rules p.first bound p.room h, add-one depth, own_type p.rules p.first, f n (omega arith), own_count p.rules p.first)
          (good refl (omega arith) refl refl)

  ---- a list, by the tree

  -- the first element of a tree whose words stand there
  placed : (depth under at bound : ℕ) (own : List ℕ) (k r : Forest) → Wf dim depth under (node own k r) → Stands (flat (node own k r)) at ws →
      at + length (flat (node own k r)) ≤ bound → Placed depth under at bound own k
  placed depth under at bound own k r w s b =
      let l = length_node own k r in
      record { rules = w.0; first = own_stands own k r s; room = omega arith }

  list_end : (depth under at bound : ℕ) → stop_of depth ws at bound ≡ Done → (n : ℕ) → 2 * (bound - at) + 1 < n →
      list_from n dim depth under ws at bound ≡ good_with at 0 0 0
  unfolding list_from
  list_end depth under at bound h zero l = absurd (omega arith)
  list_end depth under at bound h (suc n) l = rw h refl

  -- what a tree is judged to be, its list starting at a place
  abbrev pub GoodList : ℕ → ℕ → Option ℕ → ℕ → ℕ → Forest → Type 0
  GoodList depth under header at bound f = (n : ℕ) → 2 * (bound - at) + 1 < n →
      list_from n dim depth under ws at bound ≡ good_with (at + length (flat f)) (length (spots depth header at f)) (deepest (spots depth header at f)) (num f)

  element_step : (depth under at bound : ℕ) (own : List ℕ) (k : Forest) → Placed depth under at bound own k →
      GoodList (suc depth) (type_at own 0) (some at) (at + length own) (at + weight own k) k → (n : ℕ) → 2 * (bound - at) < n →
      element_from n dim depth under ws at bound
      ≡ good_with (at + weight own k) (suc (length (spots (suc depth) (some at) (at + length own) k))) (max depth (deepest (spots (suc depth) (some at) (at + length own) k))) 1
  element_step depth under at bound own k p f =
      let i = spots (suc depth) (some at) (at + length own) k in
      let e : at + length own + length (flat k) ≡ at + weight own k = omega arith in
      element_by_lem depth under at bound own k (length i) (deepest i) p (λ q. rw q (refl, refl)) (λ m h. f m (omega arith) ∙ ap (λ y. good_with y (length i) (deepest i) (num k)) e)

  list_step : (depth under : ℕ) (header : Option ℕ) (at bound : ℕ) (own : List ℕ) (k r : Forest) → Placed depth under at bound own k →
      GoodList (suc depth) (type_at own 0) (some at) (at + length own) (at + weight own k) k → GoodList depth under header (at + weight own k) bound r →
      GoodList depth under header at bound (node own k r)
  unfolding list_from
  list_step depth under header at bound own k r p f g zero l = absurd (omega arith)
  list_step depth under header at bound own k r p f g (suc n) l =
      let z = own_two p.rules in
      let b = p.room in
      let c = length_node own k r in
      let i = spots (suc depth) (some at) (at + length own) k in
      let j = spots depth header (at + weight own k) r in
      let a = length-append i j in
      let d = deepest_append i j in
      let x = element_step depth under at bound own k p f n (omega arith) in
      rw (own_more p.rules p.first bound (omega arith), x, g n (omega arith)) (good (omega arith) (omega arith) (omega arith) (omega arith))

  pub list_complete : (depth under : ℕ) (header : Option ℕ) (at bound : ℕ) (f : Forest) → Wf dim depth under f → Stands (flat f) at ws →
      Ends depth ws (at + length (flat f)) bound → GoodList depth under header at bound f
  list_complete depth under header at bound nil w s x = rw (add-zero at) (list_end depth under at bound (ends_stop depth ws at bound (rw (add-zero at) at x)))
  list_complete depth under header at bound (node own k r) w s x =
      let b = ends_by depth ws (at + length (flat (node own k r))) bound x in
      let c = length_node own k r in
      list_step depth under header at bound own k r (placed depth under at bound own k r w s b)
      (list_complete (suc depth) (type_at own 0) (some at) (at + length own) (at + weight own k) k w.1 (components_stand own k r s) (omega arith))
      (list_complete depth under header (at + weight own k) bound r w.2 (rest_stand own k r s) (subst (λ m. Ends depth ws m bound) (omega arith) x))

  -- one element with those under it
  pub element_complete : (depth under at bound : ℕ) (own : List ℕ) (k : Forest) → OwnTests dim depth under own (length (flat k)) (num k) →
      Wf dim (suc depth) (type_at own 0) k → Stands (own ++ flat k) at ws → at + weight own k ≤ bound → (n : ℕ) → 2 * (bound - at) < n →
      element_from n dim depth under ws at bound
      ≡ good_with (at + weight own k) (suc (length (spots (suc depth) (some at) (at + length own) k))) (max depth (deepest (spots (suc depth) (some at) (at + length own) k))) 1
  element_complete depth under at bound own k o w s b =
      element_step depth under at bound own k (record { rules = o; first = stands_left own (flat k) s; room = b })
      (list_complete (suc depth) (type_at own 0) (some at) (at + length own) (at + weight own k) k w (stands_right own (flat k) s) (omega arith))

  ---- the elements in file order

  spots_end : (depth under : ℕ) (header : Option ℕ) (at bound : ℕ) → stop_of depth ws at bound ≡ Done → (n : ℕ) → bound - at < n →
      spots_from n dim depth under header ws at bound ≡ []
  unfolding spots_from
  spots_end depth under header at bound h zero l = absurd (omega arith)
  spots_end depth under header at bound h (suc n) l = rw h refl

  spots_step : (depth under : ℕ) (header : Option ℕ) (at bound : ℕ) (own : List ℕ) (k r : Forest) → Placed depth under at bound own k →
      ((n : ℕ) → at + weight own k - (at + length own) < n →
      spots_from n dim (suc depth) (type_at own 0) (some at) ws (at + length own) (at + weight own k) ≡ spots (suc depth) (some at) (at + length own) k) →
      ((n : ℕ) → bound - (at + weight own k) < n → spots_from n dim depth under header ws (at + weight own k) bound ≡ spots depth header (at + weight own k) r) →
      (n : ℕ) → bound - at < n → spots_from n dim depth under header ws at bound ≡ spots depth header at (node own k r)
  unfolding spots_from
  spots_step depth under header at bound own k r p f g zero l = absurd (omega arith)
  spots_step depth under header at bound own k r p f g (suc n) l = go (is_header (type_at own 0)) refl p.rules.extent
    where
      z : 2 ≤ length own
      z = own_two p.rules

      m : stop_of depth ws at bound ≡ More
      m = let b = p.room in own_more p.rules p.first bound (omega arith)

      go : (b : Bool) → is_header (type_at own 0) ≡ b → Extent b own (length (flat k)) (num k) →
          spots_from (suc n) dim depth under header ws at bound ≡ spots depth header at (node own k r)
      go false h x =
          let w = x.0 in
          let i : spots (suc depth) (some at) (at + length own) k ≡ [] = rw (none_under k own x) refl in
          let e : at + length own ≡ at + weight own k = omega arith in
          rw (m, own_plain p.rules p.first bound p.room h, i, e, g n (omega (arith, z, p.room))) refl
      go true h x = rw (m, own_complex p.rules p.first bound p.room h, add-one depth, own_type p.rules p.first, f n (omega (arith, z, p.room)), g n (omega (arith, z, p.room))) refl

  -- a fuel above the words left is enough
  pub spots_complete : (depth under : ℕ) (header : Option ℕ) (at bound : ℕ) (f : Forest) → Wf dim depth under f → Stands (flat f) at ws →
      Ends depth ws (at + length (flat f)) bound → (n : ℕ) → bound - at < n → spots_from n dim depth under header ws at bound ≡ spots depth header at f
  spots_complete depth under header at bound nil w s x = spots_end depth under header at bound (ends_stop depth ws at bound (rw (add-zero at) at x))
  spots_complete depth under header at bound (node own k r) w s x =
      let b = ends_by depth ws (at + length (flat (node own k r))) bound x in
      let c = length_node own k r in
      spots_step depth under header at bound own k r (placed depth under at bound own k r w s b)
      (spots_complete (suc depth) (type_at own 0) (some at) (at + length own) (at + weight own k) k w.1 (components_stand own k r s) (omega arith))
      (spots_complete depth under header (at + weight own k) bound r w.2 (rest_stand own k r s) (subst (λ m. Ends depth ws m bound) (omega arith) x))
