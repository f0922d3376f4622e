-- The descent step by step, and that in the words of a tree of the grammar it finds the element that the list of the
-- tree's elements has at the place: an element's extent is its words and those under it, so what is passed or gone into
-- is what the list has before, or around, the place.
use Prim.Native.Nat.{ℕ, zero, suc, ◌+◌, ◌-◌, ◌≤◌, ◌<◌}
use mathlib.Core.Path.{◌≡◌, refl, sym, ap, ◌∙◌}
use mathlib.Core.Bool.{Bool, true, false}
use mathlib.Core.List.{List}
use mathlib.Core.Option.{Option, none, some}
use native.Mathlib.Omega.{arith}
use native.Mathlib.Numerals.{add-one}
use lib.ListN.{length}
use lib.Dec.{eqb, leb, ltb}
use borrow.Author.Tests.{lt-ltb, le-ltb, le-leb, lt-leb, eq-eqb, ne_eqb, ltb-true, ltb-false, leb-true, leb-false, eqb-true, eqb-false}
use Rattle.headers.proofs.Laws.{words_header, words_plain, words_two}
use Rattle.headers.specs.Header.{type_at, size_at, extent_words}
use Rattle.kinds.specs.Kinds.{is_header}
use Rattle.files.specs.Spots.{Spot, spot_in}
use Rattle.grammar.proofs.Tests.{OwnTests, Extent}
use Rattle.grammar.proofs.Stands.{Stands}
use Rattle.grammar.proofs.Forest.{Forest, nil, node, flat, num, weight, Wf, spots, length_node, own_stands, components_stand, rest_stand}
use Rattle.grammar.proofs.Rules.{own_type, own_size, own_extent}
use Rattle.grammar.proofs.Places.{spot_here, spot_before, spot_under, spot_next}
use Rattle.places.specs.declared.Above.{Above}
use Rattle.places.specs.declared.Above.TheVariants.{Top, Under}
use Rattle.places.specs.Places.{above_of, found_by}
use Rattle.places.specs.Descent.{locate_from, IsLocated, descent_to}
use Rattle.std.specs.Prelude.{Result}
use Rattle.places.specs.Spotted.{spotted_with}
use Rattle.places.specs.declared.Spotted.{Spotted}
use Rattle.refusals.specs.Refusals.{refused_with}
use Rattle.refusals.specs.declared.Refusal.{Refusal}

---- the steps

module _ (n : ℕ) (ws : List ℕ) (here depth : ℕ) (above : Above) (p : ℕ) where
  pub locate_over : here + extent_words ws here ≤ p → locate_from (suc n) ws here depth above p ≡ locate_from n ws (here + extent_words ws here) depth above p
  unfolding locate_from
  locate_over h = let t = words_two ws here in rw (lt-ltb here p (omega arith), le-leb (here + extent_words ws here) p h)

  pub locate_into : here < p → p < here + extent_words ws here → is_header (type_at ws here) ≡ true →
      locate_from (suc n) ws here depth above p ≡ locate_from n ws (here + size_at ws here) (depth + 1) (Under here) p
  unfolding locate_from
  locate_into h l e = rw (lt-ltb here p h, lt-leb (here + extent_words ws here) p l, e)

  pub locate_own : here < p → p < here + extent_words ws here → is_header (type_at ws here) ≡ false → locate_from (suc n) ws here depth above p ≡ refused_with 13 0
  unfolding locate_from
  locate_own h l e = rw (lt-ltb here p h, lt-leb (here + extent_words ws here) p l, e)

  pub locate_here : here ≡ p → locate_from (suc n) ws here depth above p ≡ spotted_with (here + extent_words ws here) depth above
  unfolding locate_from
  locate_here e = rw (le-ltb here p (omega arith), eq-eqb here p e)

  pub locate_past : p < here → locate_from (suc n) ws here depth above p ≡ refused_with 13 0
  unfolding locate_from
  locate_past h = rw (le-ltb here p (omega arith), ne_eqb here p (λ e. omega arith))

---- the loop: what is found from an element on is what is found from where the descent began

module _ (ws : List ℕ) (here depth : ℕ) (above : Above) (p : ℕ) where
  pub step_past : p < here → IsLocated ws here depth above p (refused_with 13 0)
  step_past h zero l = absurd (omega arith)
  step_past h (suc n) l = sym (locate_past n ws here depth above p h)

  module _ (x : ℕ) (is : x ≡ extent_words ws here) where
    pub step_here : here ≡ p → IsLocated ws here depth above p (spotted_with (here + x) depth above)
    step_here h zero l = absurd (omega arith)
    step_here h (suc n) l = ap (λ m. spotted_with (here + m) depth above) is ∙ sym (locate_here n ws here depth above p h)

    pub step_over : (r : Result Spotted Refusal) → here + x ≤ p → IsLocated ws (here + x) depth above p r → IsLocated ws here depth above p r
    step_over r h i zero l = absurd (omega arith)
    step_over r h i (suc n) l =
        let t = words_two ws here in
        i n (omega arith) ∙ ap (λ m. locate_from n ws (here + m) depth above p) is ∙ sym (locate_over n ws here depth above p (omega arith))

    module _ (from : here < p) (to : p < here + x) where
      pub step_own : is_header (type_at ws here) ≡ false → IsLocated ws here depth above p (refused_with 13 0)
      step_own e zero l = absurd (omega arith)
      step_own e (suc n) l = sym (locate_own n ws here depth above p from (omega arith) e)

      pub step_into : (r : Result Spotted Refusal) (z : ℕ) → z ≡ size_at ws here → is_header (type_at ws here) ≡ true →
          IsLocated ws (here + z) (depth + 1) (Under here) p r → IsLocated ws here depth above p r
      step_into r z q e i zero l = absurd (omega arith)
      step_into r z q e i (suc n) l =
          i n (omega arith) ∙ ap (λ m. locate_from n ws (here + m) (depth + 1) (Under here) p) q ∙ sym (locate_into n ws here depth above p from (omega arith) e)

-- from the top
pub descent_is : (ws : List ℕ) (p : ℕ) (r : Result Spotted Refusal) → IsLocated ws 0 0 Top p r → r ≡ descent_to ws p
unfolding descent_to
descent_is ws p r i = i (suc p) (omega arith)

---- in the words of a tree

-- the extent of an element of the grammar
pub extent_weight : (dim depth under : ℕ) (ws : List ℕ) (at : ℕ) (own : List ℕ) (inside n : ℕ) → OwnTests dim depth under own inside n → Stands own at ws →
    extent_words ws at ≡ length own + inside
extent_weight dim depth under ws at own inside n o s = go (is_header (type_at own 0)) refl o.extent
  where
    go : (b : Bool) → is_header (type_at own 0) ≡ b → Extent b own inside n → extent_words ws at ≡ length own + inside
    go true h x = words_header ws at (rw (own_type o s) h) ∙ own_extent o s h
    go false h x = let e = words_plain ws at (rw (own_type o s) h) in let z = own_size o s in let i = x.0 in omega arith

-- no element starts at the place
absent : {o : Option Spot} → o ≡ none → refused_with 13 0 ≡ found_by o
absent e = rw e refl

module _ (dim : ℕ) (ws : List ℕ) (p : ℕ) where
  pub locate_tree : (f : Forest) (depth under : ℕ) (header : Option ℕ) (at : ℕ) → Wf dim depth under f → Stands (flat f) at ws → p < at + length (flat f) →
      (n : ℕ) → p - at < n → locate_from n ws at depth (above_of header) p ≡ found_by (spot_in (spots depth header at f) p)
  locate_tree nil depth under header at w s l zero h = absurd (omega arith)
  locate_tree nil depth under header at w s l (suc n) h = locate_past n ws at depth (above_of header) p (omega arith)
  locate_tree (node own k r) depth under header at w s l n h =
      step n h
      (locate_tree k (suc depth) (type_at own 0) (some at) (at + length own) w.1 (components_stand own k r s))
      (locate_tree r depth under header (at + weight own k) w.2 (rest_stand own k r s))
    where
      size : size_at ws at ≡ length own
      size = own_size w.0 (own_stands own k r s)

      whole : extent_words ws at ≡ weight own k
      whole = extent_weight dim depth under ws at own (length (flat k)) (num k) w.0 (own_stands own k r s)

      type : type_at ws at ≡ type_at own 0
      type = own_type w.0 (own_stands own k r s)

      step : (n : ℕ) → p - at < n →
          (p < at + length own + length (flat k) → (m : ℕ) → p - (at + length own) < m →
          locate_from m ws (at + length own) (suc depth) (Under at) p ≡ found_by (spot_in (spots (suc depth) (some at) (at + length own) k) p)) →
          (p < at + weight own k + length (flat r) → (m : ℕ) → p - (at + weight own k) < m →
          locate_from m ws (at + weight own k) depth (above_of header) p ≡ found_by (spot_in (spots depth header (at + weight own k) r) p)) →
          locate_from n ws at depth (above_of header) p ≡ found_by (spot_in (spots depth header at (node own k r)) p)
      step zero h K R = absurd (omega arith)
      step (suc n) h K R = go (ltb at p) refl (eqb at p) refl (leb (at + weight own k) p) refl (is_header (type_at own 0)) refl
        where
          go : (b : Bool) → ltb at p ≡ b → (c : Bool) → eqb at p ≡ c → (d : Bool) → leb (at + weight own k) p ≡ d → (t : Bool) → is_header (type_at own 0) ≡ t →
              locate_from (suc n) ws at depth (above_of header) p ≡ found_by (spot_in (spots depth header at (node own k r)) p)
          go false b true c d e t f =
              let q = eqb-true at p c in
              locate_here n ws at depth (above_of header) p q
              ∙ ap (λ m. spotted_with (at + m) depth (above_of header)) whole
              ∙ ap found_by (sym (spot_here depth header at own k r p q))
          go false b false c d e t f =
              let g = ltb-false at p b in
              let q = eqb-false at p c in
              let m : p < at = omega arith in
              locate_past n ws at depth (above_of header) p m ∙ absent (spot_before depth header at (node own k r) p m)
          go true b c c' true e t f =
              let z = length_node own k r in
              let g = leb-true _ _ e in
              let x = w.0.size in
              locate_over n ws at depth (above_of header) p (rw whole g)
              ∙ ap (λ m. locate_from n ws (at + m) depth (above_of header) p) whole
              ∙ R (omega arith) n (omega arith)
              ∙ ap found_by (sym (spot_next dim depth under header at own k r p w g))
          go true b c c' false e true f =
              let g = ltb-true _ _ b in
              let i = leb-false _ _ e in
              let x = w.0.size in
              locate_into n ws at depth (above_of header) p g (rw whole i) (rw type f)
              ∙ ap (λ m. locate_from n ws (at + m) (depth + 1) (Under at) p) size
              ∙ ap (λ m. locate_from n ws (at + length own) m (Under at) p) (add-one depth)
              ∙ K (omega arith) n (omega arith)
              ∙ ap found_by (sym (spot_under depth header at own k r p g i))
          go true b c c' false e false f =
              let g = ltb-true _ _ b in
              let i = leb-false _ _ e in
              let y = words_plain ws at (rw type f) in
              locate_own n ws at depth (above_of header) p g (rw whole i) (rw type f)
              ∙ absent (spot_under depth header at own k r p g i ∙ spot_before (suc depth) (some at) (at + length own) k p (omega (arith, whole, size)))
