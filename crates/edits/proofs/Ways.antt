-- A place in a tree is the way to it from the top: over elements of a list, and into headers. The headers on the way grow
-- where an element comes in and shrink where one goes out; the grammar is kept, and there and back is nothing.
use Prim.Native.Nat.{ℕ, suc, ◌+◌, ◌≤◌}
use native.Mathlib.Omega.{arith}
use mathlib.Core.Path.{◌≡◌, refl, sym, ap, ◌∙◌}
use mathlib.Core.Bool.{Bool, true, false}
use mathlib.Core.List.{List, [], ◌∷◌, ◌++◌, append_assoc, append-nil}
use mathlib.Core.Option.{Option, some}
use lib.ListN.{length, length-append}
use Rattle.headers.specs.Header.{type_at}
use Rattle.kinds.specs.Kinds.{is_header}
use Rattle.grammar.proofs.Tests.{OwnTests, Extent}
use Rattle.grammar.proofs.Forest.{Forest, node, flat, num, weight, Wf}
use Rattle.edits.proofs.Grown.{grown, one, length_grown, type_grown, header_extent, own_up, up_back, own_down, down_back}

-- stop: here; past an element; into a header, before the elements that follow it
pub data Way : Type 0 where
  stop : Way
  past : List ℕ → Forest → Way → Way
  into : List ℕ → Forest → Way → Way

-- the tree with f at that place (f: the rest of the list that the way ends in)
abbrev pub plug : Way → Forest → Forest
plug stop f = f
plug (past own k w) f = node own k (plug w f)
plug (into own r w) f = node own (plug w f) r

-- the way ends in the list that it began in
abbrev pub direct : Way → Bool
direct stop = true
direct (past own k w) = direct w
direct (into own r w) = false

-- the headers on the way with n words more or less under them
abbrev pub lift : Bool → ℕ → Way → Way
lift up n stop = stop
lift up n (past own k w) = past own k (lift up n w)
lift up n (into own r w) = into (grown up n (direct w) own) r (lift up n w)

-- the words before the place, and those after its list
abbrev pub front : Way → List ℕ
front stop = []
front (past own k w) = own ++ (flat k ++ front w)
front (into own r w) = own ++ front w

abbrev pub rear : Way → List ℕ
rear stop = []
rear (past own k w) = rear w
rear (into own r w) = rear w ++ flat r

-- the places of the headers above, outermost first, where the list starts at the place at; the direct one's
abbrev pub heads : ℕ → Way → List ℕ
heads at stop = []
heads at (past own k w) = heads (at + weight own k) w
heads at (into own r w) = at ∷ heads (at + length own) w

abbrev pub header_of : Option ℕ → ℕ → Way → Option ℕ
header_of header at stop = header
header_of header at (past own k w) = header_of header (at + weight own k) w
header_of header at (into own r w) = header_of (some at) (at + length own) w

-- the type of the direct header and the depth at the place
abbrev pub type_over : ℕ → Way → ℕ
type_over under stop = under
type_over under (past own k w) = type_over under w
type_over under (into own r w) = type_over (type_at own 0) w

abbrev pub depth_of : ℕ → Way → ℕ
depth_of depth stop = depth
depth_of depth (past own k w) = depth_of depth w
depth_of depth (into own r w) = depth_of (suc depth) w

-- what stands above the place are headers; they have room for n more words where f is
abbrev pub Heads : Way → Type 0
Heads stop = Unit {0}
Heads (past own k w) = Heads w
Heads (into own r w) = (is_header (type_at own 0) ≡ true) × Heads w

abbrev pub Room : ℕ → Forest → Way → Type 0
Room n f stop = Unit {0}
Room n f (past own k w) = Room n f w
Room n f (into own r w) = (length own + length (flat (plug w f)) + n ≤ 65535) × Room n f w

-- one element
abbrev pub Elem : ℕ → ℕ → ℕ → List ℕ → Forest → Type 0
Elem dim depth under own k = OwnTests dim depth under own (length (flat k)) (num k) × Wf dim (suc depth) (type_at own 0) k

---- the words of a tree, around a place

pub flat_plug : (w : Way) (f : Forest) → flat (plug w f) ≡ front w ++ (flat f ++ rear w)
flat_plug stop f = sym (append-nil (flat f))
flat_plug (past own k w) f = rw (flat_plug w f) (simp append_assoc)
flat_plug (into own r w) f = rw (flat_plug w f) (simp append_assoc)

pub front_lift : (up : Bool) (n : ℕ) (w : Way) → length (front (lift up n w)) ≡ length (front w)
front_lift up n stop = refl
front_lift up n (past own k w) = let e = front_lift up n w in simp length-append (omega arith)
front_lift up n (into own r w) = let e = front_lift up n w in let e' = length_grown up n (direct w) own in simp length-append (omega arith)

pub rear_lift : (up : Bool) (n : ℕ) (w : Way) → rear (lift up n w) ≡ rear w
rear_lift up n stop = refl
rear_lift up n (past own k w) = rear_lift up n w
rear_lift up n (into own r w) = ap (λ l. l ++ flat r) (rear_lift up n w)

pub header_lift : (up : Bool) (n : ℕ) (header : Option ℕ) (at : ℕ) (w : Way) → header_of header at (lift up n w) ≡ header_of header at w
header_lift up n header at stop = refl
header_lift up n header at (past own k w) = header_lift up n header (at + weight own k) w
header_lift up n header at (into own r w) =
    header_lift up n (some at) (at + length (grown up n (direct w) own)) w ∙ ap (λ l. header_of (some at) (at + l) w) (length_grown up n (direct w) own)

pub direct_lift : (up : Bool) (n : ℕ) (w : Way) → direct (lift up n w) ≡ direct w
direct_lift up n stop = refl
direct_lift up n (past own k w) = direct_lift up n w
direct_lift up n (into own r w) = refl

pub type_lift : (up : Bool) (n under : ℕ) (w : Way) → type_over under (lift up n w) ≡ type_over under w
type_lift up n under stop = refl
type_lift up n under (past own k w) = type_lift up n under w
type_lift up n under (into own r w) =
    type_lift up n (type_at (grown up n (direct w) own) 0) w ∙ ap (λ t. type_over t w) (type_grown up n (direct w) own)

pub depth_lift : (up : Bool) (n depth : ℕ) (w : Way) → depth_of depth (lift up n w) ≡ depth_of depth w
depth_lift up n depth stop = refl
depth_lift up n depth (past own k w) = depth_lift up n depth w
depth_lift up n depth (into own r w) = depth_lift up n (suc depth) w

pub Heads-lift : (up : Bool) (n : ℕ) (w : Way) → Heads w → Heads (lift up n w)
Heads-lift up n stop h = tt
Heads-lift up n (past own k w) h = Heads-lift up n w h
Heads-lift up n (into own r w) h = (rw (type_grown up n (direct w) own) h.0, Heads-lift up n w h.1)

-- an element with components is a header
parent_header : {dim depth under inside k : ℕ} {own : List ℕ} → OwnTests dim depth under own inside (suc k) → is_header (type_at own 0) ≡ true
parent_header {inside = inside} {k} {own} o = go (is_header (type_at own 0)) o.extent
  where
    go : (b : Bool) → Extent b own inside (suc k) → b ≡ true
    go true x = refl
    go false x = let z = x.1 in absurd (omega arith)

---- an element comes in, or goes out

module _ (dim : ℕ) (own₀ : List ℕ) (k₀ f : Forest) where
  len_in : (up : Bool) (n : ℕ) (w : Way) → length (flat (plug (lift up n w) (node own₀ k₀ f))) ≡ length (flat (plug w f)) + weight own₀ k₀
  len_in up n w =
      let e = front_lift up n w in
      let e' = ap length (rear_lift up n w) in
      rw (flat_plug (lift up n w) (node own₀ k₀ f), flat_plug w f) (simp length-append (omega arith))

  num_in : (up : Bool) (n : ℕ) (w : Way) → num (plug (lift up n w) (node own₀ k₀ f)) ≡ num (plug w f) + one (direct w)
  num_in up n stop = omega arith
  num_in up n (past own k w) = let e = num_in up n w in omega arith
  num_in up n (into own r w) = omega arith

  -- an insert keeps the grammar
  pub wf_up : (depth under : ℕ) (w : Way) → Wf dim depth under (plug w f) → Heads w → Elem dim (depth_of depth w) (type_over under w) own₀ k₀ →
      Room (weight own₀ k₀) f w → Wf dim depth under (plug (lift true (weight own₀ k₀) w) (node own₀ k₀ f))
  wf_up depth under stop x h e m = (e.0, e.1, x)
  wf_up depth under (past own k w) x h e m = (x.0, x.1, wf_up depth under w x.2 h e m)
  wf_up depth under (into own r w) x h e m =
      let n = weight own₀ k₀ in (
        rw (len_in true n w, num_in true n w) (own_up x.0 h.0 n (direct w) m.0),
        rw (type_grown true n (direct w) own) (wf_up (suc depth) (type_at own 0) w x.1 h.1 e m.1),
        x.2,
      )

  -- and so does a remove
  len_out : (n : ℕ) (w : Way) → length (flat (plug w (node own₀ k₀ f))) ≡ length (flat (plug (lift false n w) f)) + weight own₀ k₀
  len_out n w =
      let e = front_lift false n w in
      let e' = ap length (rear_lift false n w) in
      rw (flat_plug (lift false n w) f, flat_plug w (node own₀ k₀ f)) (simp length-append (omega arith))

  num_out : (n : ℕ) (w : Way) → num (plug w (node own₀ k₀ f)) ≡ num (plug (lift false n w) f) + one (direct w)
  num_out n stop = omega arith
  num_out n (past own k w) = let e = num_out n w in omega arith
  num_out n (into own r w) = omega arith

  pub heads_of : (depth under : ℕ) (w : Way) → Wf dim depth under (plug w (node own₀ k₀ f)) → Heads w
  heads_of depth under stop x = tt
  heads_of depth under (past own k w) x = heads_of depth under w x.2
  heads_of depth under (into own r stop) x = (parent_header x.0, tt)
  heads_of depth under (into own r (past own₁ k₁ w)) x = (parent_header x.0, heads_of (suc depth) (type_at own 0) (past own₁ k₁ w) x.1)
  heads_of depth under (into own r (into own₁ r₁ w)) x = (parent_header x.0, heads_of (suc depth) (type_at own 0) (into own₁ r₁ w) x.1)

  pub elem_of : (depth under : ℕ) (w : Way) → Wf dim depth under (plug w (node own₀ k₀ f)) → Elem dim (depth_of depth w) (type_over under w) own₀ k₀
  elem_of depth under stop x = (x.0, x.1)
  elem_of depth under (past own k w) x = elem_of depth under w x.2
  elem_of depth under (into own r w) x = elem_of (suc depth) (type_at own 0) w x.1

  pub wf_down : (depth under : ℕ) (w : Way) → Wf dim depth under (plug w (node own₀ k₀ f)) → Heads w → Wf dim depth under (plug (lift false (weight own₀ k₀) w) f)
  wf_down depth under stop x h = x.2
  wf_down depth under (past own k w) x h = (x.0, x.1, wf_down depth under w x.2 h)
  wf_down depth under (into own r w) x h =
      let n = weight own₀ k₀ in
      let o : OwnTests dim depth under own (length (flat (plug (lift false n w) f)) + n) (num (plug (lift false n w) f) + one (direct w)) = rw (len_out n w, num_out n w) at x.0 in (
        own_down _ _ n (direct w) o h.0,
        rw (type_grown false n (direct w) own) (wf_down (suc depth) (type_at own 0) w x.1 h.1),
        x.2,
      )

  -- there and back
  pub up_down : (depth under : ℕ) (w : Way) → Wf dim depth under (plug w f) → Heads w → lift false (weight own₀ k₀) (lift true (weight own₀ k₀) w) ≡ w
  up_down depth under stop x h = refl
  up_down depth under (past own k w) x h = ap (past own k) (up_down depth under w x.2 h)
  up_down depth under (into own r w) x h =
      let n = weight own₀ k₀ in
      rw (direct_lift true n w, up_back x.0 h.0 n (direct w), up_down (suc depth) (type_at own 0) w x.1 h.1) refl

  pub down_up : (depth under : ℕ) (w : Way) → Wf dim depth under (plug w (node own₀ k₀ f)) → Heads w → lift true (weight own₀ k₀) (lift false (weight own₀ k₀) w) ≡ w
  down_up depth under stop x h = refl
  down_up depth under (past own k w) x h = ap (past own k) (down_up depth under w x.2 h)
  down_up depth under (into own r w) x h =
      let n = weight own₀ k₀ in
      let o : OwnTests dim depth under own (length (flat (plug (lift false n w) f)) + n) (num (plug (lift false n w) f) + one (direct w)) = rw (len_out n w, num_out n w) at x.0 in
      rw (direct_lift false n w, down_back _ _ n (direct w) o h.0, down_up (suc depth) (type_at own 0) w x.1 h.1) refl

  -- what goes out had room
  pub room_of : (depth under : ℕ) (w : Way) → Wf dim depth under (plug w (node own₀ k₀ f)) → Heads w → Room (weight own₀ k₀) f (lift false (weight own₀ k₀) w)
  room_of depth under stop x h = tt
  room_of depth under (past own k w) x h = room_of depth under w x.2 h
  room_of depth under (into own r w) x h =
      let n = weight own₀ k₀ in
      let z = (header_extent x.0 h.0).1 in
      let e = len_out n w in
      let l = length_grown false n (direct w) own in
      (omega arith, room_of (suc depth) (type_at own 0) w x.1 h.1)

---- another element of the same length in an element's place

module _ (dim : ℕ) (own₀ : List ℕ) (k₀ : Forest) (own₁ : List ℕ) (k₁ r₀ : Forest) (eq : weight own₁ k₁ ≡ weight own₀ k₀) where
  pub len_swap : (w : Way) → length (flat (plug w (node own₁ k₁ r₀))) ≡ length (flat (plug w (node own₀ k₀ r₀)))
  len_swap w = rw (flat_plug w (node own₁ k₁ r₀), flat_plug w (node own₀ k₀ r₀)) (simp length-append (omega arith))

  num_swap : (w : Way) → num (plug w (node own₁ k₁ r₀)) ≡ num (plug w (node own₀ k₀ r₀))
  num_swap stop = refl
  num_swap (past own k w) = ap suc (num_swap w)
  num_swap (into own r w) = refl

  pub wf_swap : (depth under : ℕ) (w : Way) → Wf dim depth under (plug w (node own₀ k₀ r₀)) → Elem dim (depth_of depth w) (type_over under w) own₁ k₁ →
      Wf dim depth under (plug w (node own₁ k₁ r₀))
  wf_swap depth under stop x e = (e.0, e.1, x.2)
  wf_swap depth under (past own k w) x e = (x.0, x.1, wf_swap depth under w x.2 e)
  wf_swap depth under (into own r w) x e = (rw (len_swap w, num_swap w) x.0, wf_swap (suc depth) (type_at own 0) w x.1 e, x.2)
