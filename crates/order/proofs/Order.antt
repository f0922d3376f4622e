-- The elements of an accepted file follow one another: so they are few, element number k is at `place_of` k, and each is the
-- one that is found at its place.
use Prim.Native.Nat.{ℕ, zero, suc, ◌+◌, ◌-◌, ◌*◌, ◌≤◌, ◌<◌}
use mathlib.Core.Path.{◌≡◌, refl, sym, ap, ◌∙◌, subst}
use mathlib.Core.Logic.{◌⊎◌, inl, inr}
use mathlib.Core.List.Memᴰ
use mathlib.Core.List.{List, [], ◌∷◌, ◌++◌, Memᴰ}
use mathlib.Core.Option.{Option, none, some}
use native.Mathlib.Omega.{arith}
use native.Mathlib.Numerals.{add-one}
use lib.ListN.{length, take, drop}
use lib.Seq.{drop-cons}
use borrow.Author.Tests.{eq-eqb, ne_eqb, le-leb, lt-leb}
use Rattle.words.specs.Words.{words, Below}
use Rattle.headers.specs.Header.{type_at, size_at}
use Rattle.headers.proofs.Laws.{size_small}
use Rattle.files.specs.Judge.{judge_of}
use Rattle.files.specs.Spots.{Spot, spots_of, spot_in}
use Rattle.grammar.proofs.Forest.{Forest, nil, node, flat, Wf, spots, weight, length_node, own_stands, components_stand, rest_stand}
use Rattle.grammar.proofs.Stands.{Stands}
use Rattle.grammar.proofs.Rules.{own_size}
use Rattle.grammar.proofs.Whole.{FileTree, file_tree}
use Rattle.grammar.proofs.Exact.{accepted_is}
use Rattle.order.specs.Order.{place_of, start_of, InOrder}
use Rattle.files.specs.Accepted.{accepted_with}

---- the elements of a tree

order_append : (ws : List ℕ) (at mid end : ℕ) (xs ys : List Spot) → InOrder ws at xs mid → InOrder ws mid ys end → InOrder ws at (xs ++ ys) end
order_append ws at mid end [] ys p q = subst (λ i. InOrder ws i ys end) (sym p) q
order_append ws at mid end (x ∷ xs) ys p q = (p.0, order_append ws (at + size_at ws at) mid end xs ys p.1 q)

order_tree : (dim : ℕ) (ws : List ℕ) (d under : ℕ) (header : Option ℕ) (at end : ℕ) (f : Forest) → Wf dim d under f → Stands (flat f) at ws →
    at + length (flat f) ≡ end → InOrder ws at (spots d header at f) end
order_tree dim ws d under header at end nil w s e = omega arith
order_tree dim ws d under header at end (node own k r) w s e =
    let m = length_node own k r in
    let z : at + size_at ws at ≡ at + length own = ap (λ n. at + n) (own_size w.0 (own_stands own k r s)) in (
      refl,
      subst (λ i. InOrder ws i (spots (suc d) (some at) (at + length own) k ++ spots d header (at + weight own k) r) end) (sym z)
          (order_append ws (at + length own) (at + weight own k) end (spots (suc d) (some at) (at + length own) k) (spots d header (at + weight own k) r)
          (order_tree dim ws (suc d) (type_at own 0) (some at) (at + length own) (at + weight own k) k w.1 (components_stand own k r s) (omega arith))
          (order_tree dim ws d under header (at + weight own k) end r w.2 (rest_stand own k r s) (omega arith))),
    )

---- elements in order

-- every element has two words
pub order_few : (ws : List ℕ) (at end : ℕ) (xs : List Spot) → InOrder ws at xs end → at + 2 * length xs ≤ end
order_few ws at end [] p = omega arith
order_few ws at end (x ∷ xs) p = let h = order_few ws (at + size_at ws at) end xs p.1 in omega arith

-- each of them starts from there on, and behind the own words of those before it
starts_from : (ws : List ℕ) (at end : ℕ) (xs : List Spot) → InOrder ws at xs end → (x : Spot) → Memᴰ x xs → at ≤ x.place
starts_from ws at end [] p x m = absurd (Memᴰ.not-nil m)
starts_from ws at end (z ∷ zs) p x m = go (starts_from ws (at + size_at ws at) end zs p.1 x) (Memᴰ.cases_cons m)
  where
    go : (Memᴰ x zs → at + size_at ws at ≤ x.place) → (x ≡ z) ⊎ Memᴰ x zs → at ≤ x.place
    go rest (inl e) = let a : x.place ≡ at = ap (λ u. u.place) e ∙ p.0 in omega arith
    go rest (inr n) = let h = rest n in omega arith

pub order_apart : (ws : List ℕ) (at end : ℕ) (xs : List Spot) → InOrder ws at xs end → (x y : Spot) → Memᴰ x xs → Memᴰ y xs → x.place < y.place →
    x.place + size_at ws x.place ≤ y.place
order_apart ws at end [] p x y m n h = absurd (Memᴰ.not-nil m)
order_apart ws at end (z ∷ zs) p x y m n h = go (λ a b. order_apart ws (at + size_at ws at) end zs p.1 x y a b h) (Memᴰ.cases_cons m) (Memᴰ.cases_cons n)
  where
    here : (u : Spot) → u ≡ z → u.place ≡ at
    here u e = ap (λ v. v.place) e ∙ p.0

    behind : (u : Spot) → Memᴰ u zs → at + size_at ws at ≤ u.place
    behind u k = starts_from ws (at + size_at ws at) end zs p.1 u k

    go : (Memᴰ x zs → Memᴰ y zs → x.place + size_at ws x.place ≤ y.place) → (x ≡ z) ⊎ Memᴰ x zs → (y ≡ z) ⊎ Memᴰ y zs →
        x.place + size_at ws x.place ≤ y.place
    go rest (inl a) (inl b) = let i = here x a in let j = here y b in absurd (omega arith)
    go rest (inl a) (inr b) = let j = behind y b in rw (here x a) j
    go rest (inr a) (inl b) = let i = behind x a in let j = here y b in absurd (omega arith)
    go rest (inr a) (inr b) = rest a b

-- from element number k on
pub order_from : (ws : List ℕ) (end : ℕ) (xs : List Spot) (k : ℕ) → k ≤ length xs → InOrder ws 0 xs end → InOrder ws (place_of ws k) (drop k xs) end
order_from ws end xs zero h p = p
order_from ws end xs (suc k) h p =
    let x : Spot = record { place = 0; end = 0; depth = 0; header = none } in
    let q = order_from ws end xs k (omega arith) p in
    let r = subst (λ ys. InOrder ws (place_of ws k) ys end) (drop-cons xs k x h) q in
    r.1

-- to the next element
pub place_next : (ws : List ℕ) (i at n : ℕ) → at ≡ place_of ws i → n ≡ size_at ws at → at + n ≡ place_of ws (i + 1)
place_next ws i at n e z = rw (add-one, z, e) refl

-- the place of an element by its number, and 0 of a number that no file has
pub start_there : (ws : List ℕ) (k : ℕ) → k ≤ 1048576 → start_of ws k ≡ place_of ws k
unfolding start_of
start_there ws k h = rw (le-leb k 1048576 h) refl

pub start_none : (ws : List ℕ) (k : ℕ) → 1048576 < k → start_of ws k ≡ 0
unfolding start_of
start_none ws k h = rw (lt-leb k 1048576 h) refl

-- places are small
pub place_small : (s : List ℕ) → Below 256 s → (k : ℕ) → place_of (words s) k ≤ 65537 * k
place_small s b zero = omega arith
place_small s b (suc k) = let h = place_small s b k in let z = size_small s b (place_of (words s) k) in omega arith

-- each of xs is the one that `all` has at its place
abbrev pub FoundIn : List Spot → List Spot → Type 0
FoundIn all [] = Unit {0}
FoundIn all (x ∷ xs) = (spot_in all x.place ≡ some x) × FoundIn all xs

found_behind : (ws : List ℕ) (at end : ℕ) (y : Spot) (all xs : List Spot) → y.place < at → InOrder ws at xs end → FoundIn all xs → FoundIn (y ∷ all) xs
found_behind ws at end y all [] h p q = tt
found_behind ws at end y all (x ∷ xs) h p q =
    let e = p.0 in (
      rw (ne_eqb y.place x.place (λ z. omega arith)) q.0,
      found_behind ws (at + size_at ws at) end y all xs (omega arith) p.1 q.1,
    )

found_all : (ws : List ℕ) (at end : ℕ) (xs : List Spot) → InOrder ws at xs end → FoundIn xs xs
found_all ws at end [] p = tt
found_all ws at end (x ∷ xs) p =
    let e = p.0 in (
      rw (eq-eqb x.place x.place refl) refl,
      found_behind ws (at + size_at ws at) end x xs xs (omega arith) p.1 (found_all ws (at + size_at ws at) end xs p.1),
    )

pub found_drop : (all xs : List Spot) (k : ℕ) → FoundIn all xs → FoundIn all (drop k xs)
found_drop all xs zero f = f
found_drop all [] (suc k) f = tt
found_drop all (x ∷ xs) (suc k) f = found_drop all xs k f.1

pub found_take : (all xs : List Spot) (k : ℕ) → FoundIn all xs → FoundIn all (take k xs)
found_take all xs zero f = tt
found_take all [] (suc k) f = tt
found_take all (x ∷ xs) (suc k) f = (f.0, found_take all xs k f.1)

---- an accepted file

module _ (dim : ℕ) (s : List ℕ) (e d m : ℕ) (accepted : judge_of dim s ≡ accepted_with e d m) where
  tree : FileTree dim (words s) (spots_of dim (words s)) m
  tree = file_tree (accepted_is dim s e d m accepted).file

  pub file_order : InOrder (words s) 0 (spots_of dim (words s)) m
  file_order =
      let l = tree.end in
      subst (λ xs. InOrder (words s) 0 xs m) tree.read (order_tree dim (words s) 0 0 none 0 m tree.tree tree.wf tree.stands (omega arith))

  pub count_is : e ≡ length (spots_of dim (words s))
  count_is = (accepted_is dim s e d m accepted).elements

  pub marker_inside : m < length (words s)
  marker_inside = let y = tree.ends.0 in let z = tree.end in omega arith

  -- each is found at its place
  pub file_found : FoundIn (spots_of dim (words s)) (spots_of dim (words s))
  file_found = found_all (words s) 0 m (spots_of dim (words s)) file_order
