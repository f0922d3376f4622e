-- A place where an element may go in under a named header is one that a way leads to, and every such place may be named:
-- under the last header that the way goes into, or at the top.
use Prim.Native.Nat.{ℕ, suc, ◌+◌, ◌-◌}
use native.Mathlib.Omega.{arith}
use mathlib.Core.Path.{◌≡◌, refl, sym, ap, ◌∙◌, subst}
use mathlib.Core.Logic.{◌⊎◌, inl, inr}
use mathlib.Core.Bool.{Bool, true, false, ◌&&◌, ◌||◌, false≢true, and-eq-true_iff}
use mathlib.Core.List.{List, [], ◌∷◌, ◌++◌, append-nil}
use mathlib.Core.Option.{Option, none, some}
use lib.ListN.{length, length-append}
use lib.Dec.{eqb}
use borrow.Author.Tests.{eqb-true, eq-eqb}
use Rattle.kinds.specs.FirstWord.{type_of}
use Rattle.headers.specs.Header.{type_at}
use Rattle.kinds.specs.Kinds.{is_header}
use Rattle.files.specs.Spots.{Spot, spot_in}
use Rattle.grammar.proofs.Forest.{Forest, nil, node, flat, weight, Wf, spots, own_stands}
use Rattle.grammar.proofs.Stands.{Stands, stands_first, stands_append}
use Rattle.edits.specs.Edits.{around, down_to}
use Rattle.edits.specs.Allowed.{is_some, starts_at, same_header, is_under, ends_at, gap_ok, depth_under, type_under}
use Rattle.edits.proofs.Tests.{both_and, or_either, or_left, or_right}
use Rattle.grammar.proofs.Rules.{own_two}
use Rattle.edits.proofs.Ways.{Way, into, plug, direct, front, heads, header_of, type_over, depth_of, Heads, flat_plug, elem_of, heads_of}
use Rattle.edits.proofs.Joined.{then, plug_then, front_then, heads_then, header_then, type_then, depth_then, Heads-then, Heads-after, direct_heads, direct_header, direct_type, direct_depth, direct_Heads, direct_rear, ending, plug_ending, front_ending, direct_ending, last_of}
use Rattle.grammar.proofs.Places.{spot_of}
use Rattle.edits.proofs.Places.{around_way, spot_way, Found, found_in}
use Rattle.edits.proofs.Raised.{stands_way}

---- headers and spots by their tests

same_header_lem : (a b : Option ℕ) → same_header a b ≡ true → a ≡ b
same_header_lem none none e = refl
same_header_lem none (some b) e = absurd (false≢true e)
same_header_lem (some a) none e = absurd (false≢true e)
same_header_lem (some a) (some b) e = ap some (eqb-true a b e)

pub header_same : (a : Option ℕ) → same_header a a ≡ true
header_same none = refl
header_same (some a) = eq-eqb a a refl

pub starts : (s : Option Spot) → is_some s ≡ true → (x : Spot) × (s ≡ some x)
starts none e = absurd (false≢true e)
starts (some x) e = (x, refl)

pub under_starts : (s : Option Spot) (h : Option ℕ) → is_under s h ≡ true → (x : Spot) × (s ≡ some x) × (x.header ≡ h)
under_starts none h e = absurd (false≢true e)
under_starts (some x) h e = (x, refl, same_header_lem x.header h e)

end_starts : (s : Option Spot) (p : ℕ) → ends_at s p ≡ true → (x : Spot) × (s ≡ some x) × (x.end ≡ p)
end_starts none p e = absurd (false≢true e)
end_starts (some x) p e = (x, refl, eqb-true x.end p e)

-- the words of a whole file begin with its tree's
pub file_stands : (f : Forest) (ws : List ℕ) → ws ≡ flat f ++ (65535 ∷ []) → Stands (flat f) 0 ws
file_stands f ws e = rw e (stands_append [] (flat f) (65535 ∷ []))

pub file_long : (f : Forest) (ws : List ℕ) → ws ≡ flat f ++ (65535 ∷ []) → length ws ≡ length (flat f) + 1
file_long f ws e = ap length e ∙ length-append (flat f) (65535 ∷ [])

-- the list of elements has, where a way leads to, what the way says
pub found_spot : (dim : ℕ) (f : Forest) (p : ℕ) → Wf dim 0 0 f → (g : Found f 0 p) →
    spot_in (spots 0 none 0 f) p ≡ some (spot_of p (weight g.own g.components) (depth_of 0 g.way) (header_of none 0 g.way))
found_spot dim f p x g = subst (λ t. spot_in (spots 0 none 0 t) p ≡ some (spot_of p (weight g.own g.components) (depth_of 0 g.way) (header_of none 0 g.way))) (sym g.tree)
    (spot_way dim g.own g.components g.rest 0 0 none g.way (subst (Wf dim 0 0) g.tree x) 0 p g.place)

---- a place in a tree where an element may go in

pub record Gap (f : Forest) (h : Option ℕ) (p : ℕ) : Type 0 where
  pub way : Way
  pub rest : Forest
  pub tree : f ≡ plug way rest
  pub place : p ≡ length (front way)
  pub header : header_of none 0 way ≡ h
  pub above : Heads way

module _ (dim : ℕ) (f : Forest) (x : Wf dim 0 0 f) (ws : List ℕ) (ew : ws ≡ flat f ++ (65535 ∷ [])) where
  -- before an element
  gap_before : (h : Option ℕ) (p : ℕ) → is_under (spot_in (spots 0 none 0 f) p) h ≡ true → Gap f h p
  gap_before h p e =
      let u = under_starts (spot_in (spots 0 none 0 f) p) h e in
      let g = found_in 0 none 0 f p u.0 u.1 in
      let s = found_spot dim f p x g in
      let m = u.1 in
      let n = u.2 in
      let q : u.0 ≡ spot_of p (weight g.own g.components) (depth_of 0 g.way) (header_of none 0 g.way) = cc in
      let pl = g.place in
      record {
        way = g.way;
        rest = node g.own g.components g.rest;
        tree = g.tree;
        place = omega arith;
        header = sym (ap (λ y. y.header) q) ∙ u.2;
        above = heads_of dim g.own g.components g.rest 0 0 g.way (subst (Wf dim 0 0) g.tree x);
      }

  -- at the end of a header's list
  gap_end : (h p : ℕ) → is_header (type_at ws h) ≡ true → ends_at (spot_in (spots 0 none 0 f) h) p ≡ true → Gap f (some h) p
  gap_end h p i e =
      let u = end_starts (spot_in (spots 0 none 0 f) h) p e in
      let g = found_in 0 none 0 f h u.0 u.1 in
      let s = found_spot dim f h x g in
      let m = u.1 in
      let q : u.0 ≡ spot_of h (weight g.own g.components) (depth_of 0 g.way) (header_of none 0 g.way) = cc in
      let n : h + weight g.own g.components ≡ p = sym (ap (λ y. y.end) q) ∙ u.2 in
      make g.way g.own g.components g.rest g.tree g.place n
    where
      make : (w : Way) (own : List ℕ) (k r : Forest) → f ≡ plug w (node own k r) → h ≡ 0 + length (front w) → h + weight own k ≡ p → Gap f (some h) p
      make w own k r t pl n =
          let v = into own r (ending k) in
          let y : Wf dim 0 0 (plug w (node own k r)) = subst (Wf dim 0 0) t x in
          let s : Stands (flat (node own k r)) (0 + length (front w)) ws = stands_way w (node own k r) 0 ws (subst (λ t₁. Stands (flat t₁) 0 ws) t (file_stands f ws ew)) in
          let two = own_two (elem_of dim own k r 0 0 w y).0 in
          let first : type_at ws (0 + length (front w)) ≡ type_at own 0 = ap type_of (stands_first (own_stands own k r s) (omega arith)) in
          let i' : is_header (type_at own 0) ≡ true = rw (pl, first) at i in
          let l : length (front (ending k)) ≡ length (flat k) = ap length (front_ending k) in
          record {
            way = then w v;
            rest = nil;
            tree = t ∙ ap (λ g. plug w (node own g r)) (sym (plug_ending k)) ∙ sym (plug_then w v nil);
            place = rw (front_then w v) (simp length-append (omega arith));
            header = header_then none 0 w v h pl ∙ direct_header (some h) (h + length own) (ending k) (direct_ending k);
            above = Heads-then w v (heads_of dim own k r 0 0 w y) (i', direct_Heads (ending k) (direct_ending k));
          }

  -- at the marker
  gap_marker : (p : ℕ) → p ≡ length ws - 1 → Gap f none p
  gap_marker p e =
      let l = file_long f ws ew in
      let n = ap length (front_ending f) in
      record {
        way = ending f;
        rest = nil;
        tree = sym (plug_ending f);
        place = omega arith;
        header = direct_header none 0 (ending f) (direct_ending f);
        above = direct_Heads (ending f) (direct_ending f);
      }

  pub gap_found : (h : Option ℕ) (p : ℕ) → gap_ok (spots 0 none 0 f) ws h p ≡ true → Gap f h p
  unfolding gap_ok
  gap_found none p e = go (or_either (is_under (spot_in (spots 0 none 0 f) p) none) (eqb p (length ws - 1)) e)
    where
      go : (is_under (spot_in (spots 0 none 0 f) p) none ≡ true) ⊎ (eqb p (length ws - 1) ≡ true) → Gap f none p
      go (inl u) = gap_before none p u
      go (inr u) = gap_marker p (eqb-true p (length ws - 1) u)
  gap_found (some h) p e =
      let xs = spots 0 none 0 f in
      let a = (and-eq-true_iff (starts_at xs h) (is_header (type_at ws h) && (is_under (spot_in xs p) (some h) || ends_at (spot_in xs h) p))).0 e in
      let b = (and-eq-true_iff (is_header (type_at ws h)) (is_under (spot_in xs p) (some h) || ends_at (spot_in xs h) p)).0 a.1 in
      go b.0 (or_either (is_under (spot_in xs p) (some h)) (ends_at (spot_in xs h) p) b.1)
    where
      go : is_header (type_at ws h) ≡ true → (is_under (spot_in (spots 0 none 0 f) p) (some h) ≡ true) ⊎ (ends_at (spot_in (spots 0 none 0 f) h) p ≡ true) → Gap f (some h) p
      go i (inl u) = gap_before (some h) p u
      go i (inr u) = gap_end h p i u

---- and every place that a way leads to may be named

-- what an insert there is judged by: the headers whose totals rise, the depth and the type above
pub record Above (w : Way) (f : Forest) (ws : List ℕ) : Type 0 where
  pub down : down_to (spots 0 none 0 (plug w f)) (header_of none 0 w) ≡ heads 0 w
  pub depth : depth_under (spots 0 none 0 (plug w f)) (header_of none 0 w) ≡ depth_of 0 w
  pub type : type_under ws (header_of none 0 w) ≡ type_over 0 w
  pub gap : Heads w → gap_ok (spots 0 none 0 (plug w f)) ws (header_of none 0 w) (length (front w)) ≡ true

-- before an element, its own header is the one named
gap_first : (dim : ℕ) (w : Way) (own : List ℕ) (k r : Forest) → Wf dim 0 0 (plug w (node own k r)) →
    is_under (spot_in (spots 0 none 0 (plug w (node own k r))) (length (front w))) (header_of none 0 w) ≡ true
gap_first dim w own k r x = rw (spot_way dim own k r 0 0 none w x 0 (length (front w)) (omega arith)) (header_same (header_of none 0 w))

-- within the top list
above_top : (dim : ℕ) (w : Way) (f : Forest) (ws : List ℕ) → Wf dim 0 0 (plug w f) → ws ≡ flat (plug w f) ++ (65535 ∷ []) → direct w ≡ true → Above w f ws
unfolding gap_ok
above_top dim w f ws x ew d =
    let h : header_of none 0 w ≡ none = direct_header none 0 w d in
    record {
      down = rw (h, direct_heads 0 w d) refl;
      depth = rw (h, direct_depth 0 w d) refl;
      type = rw (h, direct_type 0 w d) refl;
      gap = λ _. rw h (go f x ew);
    }
  where
    go : (f : Forest) → Wf dim 0 0 (plug w f) → ws ≡ flat (plug w f) ++ (65535 ∷ []) →
        (is_under (spot_in (spots 0 none 0 (plug w f)) (length (front w))) none || eqb (length (front w)) (length ws - 1)) ≡ true
    go nil x ew =
        let l = file_long (plug w nil) ws ew in
        let n : length (flat (plug w nil)) ≡ length (front w) = ap length (flat_plug w nil ∙ ap (λ e. front w ++ e) (direct_rear w d) ∙ append-nil (front w)) in
        or_right (is_under (spot_in (spots 0 none 0 (plug w nil)) (length (front w))) none) (eq-eqb (length (front w)) (length ws - 1) (omega arith))
    go (node own k r) x ew =
        or_left (eqb (length (front w)) (length ws - 1))
        (subst (λ h. is_under (spot_in (spots 0 none 0 (plug w (node own k r))) (length (front w))) h ≡ true) (direct_header none 0 w d) (gap_first dim w own k r x))

-- under the last header that the way goes into
module _ (dim : ℕ) (o : Way) (own : List ℕ) (r : Forest) (u : Way) (d : direct u ≡ true) (f : Forest) (ws : List ℕ)
    (x : Wf dim 0 0 (plug (then o (into own r u)) f)) (ew : ws ≡ flat (plug (then o (into own r u)) f) ++ (65535 ∷ [])) where
  last_tree : plug (then o (into own r u)) f ≡ plug o (node own (plug u f) r)
  last_tree = plug_then o (into own r u) f

  last_wf : Wf dim 0 0 (plug o (node own (plug u f) r))
  last_wf = subst (Wf dim 0 0) last_tree x

  last_header : header_of none 0 (then o (into own r u)) ≡ some (length (front o))
  last_header = header_then none 0 o (into own r u) (length (front o)) (omega arith) ∙ direct_header (some (length (front o))) (length (front o) + length own) u d

  last_spot : spot_in (spots 0 none 0 (plug (then o (into own r u)) f)) (length (front o))
      ≡ some (spot_of (length (front o)) (weight own (plug u f)) (depth_of 0 o) (header_of none 0 o))
  last_spot =
      ap (λ t. spot_in (spots 0 none 0 t) (length (front o))) last_tree
      ∙ spot_way dim own (plug u f) r 0 0 none o last_wf 0 (length (front o)) (omega arith)

  last_type : type_at ws (length (front o)) ≡ type_at own 0
  last_type =
      let s : Stands (flat (node own (plug u f) r)) (0 + length (front o)) ws =
      stands_way o (node own (plug u f) r) 0 ws (subst (λ t. Stands (flat t) 0 ws) last_tree (file_stands (plug (then o (into own r u)) f) ws ew)) in
      let two = own_two (elem_of dim own (plug u f) r 0 0 o last_wf).0 in
      let z : length (front o) ≡ 0 + length (front o) = omega arith in
      ap (type_at ws) z ∙ ap type_of (stands_first (own_stands own (plug u f) r s) (omega arith))

  last_gap : Heads (then o (into own r u)) →
      gap_ok (spots 0 none 0 (plug (then o (into own r u)) f)) ws (some (length (front o))) (length (front (then o (into own r u)))) ≡ true
  unfolding gap_ok
  last_gap h =
      let i = (Heads-after o (into own r u) h).0 in
      let a : starts_at (spots 0 none 0 (plug (then o (into own r u)) f)) (length (front o)) ≡ true = rw last_spot refl in
      let b : is_header (type_at ws (length (front o))) ≡ true = rw last_type i in
      both_and a (both_and b (go f x last_spot))
    where
      go : (f : Forest) → Wf dim 0 0 (plug (then o (into own r u)) f) →
          spot_in (spots 0 none 0 (plug (then o (into own r u)) f)) (length (front o)) ≡ some (spot_of (length (front o)) (weight own (plug u f)) (depth_of 0 o) (header_of none 0 o)) →
          (is_under (spot_in (spots 0 none 0 (plug (then o (into own r u)) f)) (length (front (then o (into own r u))))) (some (length (front o)))
          || ends_at (spot_in (spots 0 none 0 (plug (then o (into own r u)) f)) (length (front o))) (length (front (then o (into own r u))))) ≡ true
      go nil x s =
          let n : length (flat (plug u nil)) ≡ length (front u) = ap length (flat_plug u nil ∙ ap (λ e. front u ++ e) (direct_rear u d) ∙ append-nil (front u)) in
          let l : length (front (then o (into own r u))) ≡ length (front o) + (length own + length (front u)) = ap length (front_then o (into own r u)) ∙ simp length-append refl in
          or_right (is_under (spot_in (spots 0 none 0 (plug (then o (into own r u)) nil)) (length (front (then o (into own r u))))) (some (length (front o))))
          (rw s (eq-eqb (length (front o) + weight own (plug u nil)) (length (front (then o (into own r u)))) (omega arith)))
      go (node own₁ k₁ r₁) x s =
          or_left (ends_at (spot_in (spots 0 none 0 (plug (then o (into own r u)) (node own₁ k₁ r₁))) (length (front o))) (length (front (then o (into own r u)))))
          (subst (λ h. is_under (spot_in (spots 0 none 0 (plug (then o (into own r u)) (node own₁ k₁ r₁))) (length (front (then o (into own r u))))) h ≡ true) last_header
          (gap_first dim (then o (into own r u)) own₁ k₁ r₁ x))

  above_last : Above (then o (into own r u)) f ws
  above_last = record {
    down = rw last_header
        (ap (λ l. l ++ (length (front o) ∷ [])) (ap (λ t. around (spots 0 none 0 t) (length (front o))) last_tree ∙ around_way dim own (plug u f) r 0 0 none o last_wf 0 (length (front o)) (omega arith))
        ∙ sym (heads_then 0 o (into own r u) (length (front o)) (omega arith) ∙ ap (λ l. heads 0 o ++ (length (front o) ∷ l)) (direct_heads (length (front o) + length own) u d)));
    depth = rw (last_header, last_spot) (let e = depth_then 0 o (into own r u) ∙ direct_depth (suc (depth_of 0 o)) u d in omega arith);
    type = rw last_header (last_type ∙ sym (type_then 0 o (into own r u) ∙ direct_type (type_at own 0) u d));
    gap = λ h. rw last_header (last_gap h);
  }

pub above_way : (dim : ℕ) (w : Way) (f : Forest) (ws : List ℕ) → Wf dim 0 0 (plug w f) → ws ≡ flat (plug w f) ++ (65535 ∷ []) → Above w f ws
above_way dim w f ws x ew = go (direct w) refl
  where
    go : (b : Bool) → direct w ≡ b → Above w f ws
    go true d = above_top dim w f ws x ew d
    go false d =
        let l = last_of w d in
        subst (λ v. Above v f ws) (sym l.same)
        (above_last dim l.outer l.own l.after l.inner l.within f ws
        (subst (λ v. Wf dim 0 0 (plug v f)) l.same x) (subst (λ v. ws ≡ flat (plug v f) ++ (65535 ∷ [])) l.same ew))
