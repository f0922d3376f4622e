-- The elements of an accepted file in small numbers: no more than its words, none deeper than 8, each and its header at a
-- word of the file.
use Prim.Native.Nat.{ℕ, suc, ◌+◌, ◌%◌, ◌<◌, ◌≤◌}
use mathlib.Core.Path.{◌≡◌, refl, subst}
use mathlib.Core.Bool.{Bool, true, false, and-eq-true_iff}
use mathlib.Core.List.{List, [], ◌∷◌, ◌++◌}
use mathlib.Core.Option.{Option, none, some}
use native.Mathlib.Omega.{arith}
use lib.ListN.{length, length-append}
use lib.Dec.{eqb, leb}
use borrow.Author.Tests.{eqb-true, leb-true}
use Rattle.words.specs.Words.{words}
use Rattle.words.proofs.Laws.{length_words}
use Rattle.headers.specs.Header.{type_at}
use Rattle.limits.specs.Limits.{dim_ok, size_ok, call_ok}
use Rattle.files.specs.Judge.{judge_of}
use Rattle.files.specs.Spots.{Spot, spots_of, first_if, spot_in}
use Rattle.grammar.proofs.Forest.{Forest, nil, node, flat, weight, Wf, spots, length_node}
use Rattle.grammar.proofs.Stands.{stands_fit}
use Rattle.grammar.proofs.Whole.{file_tree}
use Rattle.grammar.proofs.Exact.{accepted_is}
use Rattle.files.specs.Accepted.{accepted_with}

-- a call on a file has at most 524,288 words
pub call_words : (dim : ℕ) (s : List ℕ) → call_ok dim s ≡ true → length (words s) ≤ 524288
unfolding call_ok
call_words dim s c =
    let size = ((and-eq-true_iff (dim_ok dim) (size_ok (length s))).0 c).1 in
    let most = leb-true (length s) 1048576 ((and-eq-true_iff (eqb (length s % 2) 0) (leb (length s) 1048576)).0 size).1 in
    let l = length_words s in
    omega arith

-- a header, where there is one, and the element at p stand below the place b
abbrev pub HeaderBelow : ℕ → Option ℕ → Type 0
HeaderBelow b none = Unit {0}
HeaderBelow b (some h) = h < b

pub record Standing (b p : ℕ) (x : Spot) : Type 0 where
  pub place : x.place ≡ p
  pub below : p < b
  pub deep : x.depth ≤ 8
  pub header : HeaderBelow b x.header

abbrev AllStanding : ℕ → List Spot → Type 0
AllStanding b [] = Unit {0}
AllStanding b (x ∷ xs) = Standing b x.place x × AllStanding b xs

standing_append : (b : ℕ) (xs ys : List Spot) → AllStanding b xs → AllStanding b ys → AllStanding b (xs ++ ys)
standing_append b [] ys h l = l
standing_append b (x ∷ xs) ys h l = (h.0, standing_append b xs ys h.1 l)

-- the one found at a place
found_standing : (b : ℕ) (xs : List Spot) (p : ℕ) (x : Spot) → AllStanding b xs → spot_in xs p ≡ some x → Standing b p x
found_standing b [] p x h e = let z : ◌≡◌ {A = ℕ} 0 1 = cc in absurd (omega arith)
found_standing b (y ∷ ys) p x h e = go (eqb y.place p) refl (found_standing b ys p x h.1) e
  where
    go : (t : Bool) → eqb y.place p ≡ t → (spot_in ys p ≡ some x → Standing b p x) → first_if t y (spot_in ys p) ≡ some x → Standing b p x
    go true t f q = let z : y ≡ x = cc in subst (λ a. Standing b a x) (eqb-true x.place p (rw z at t)) (subst (λ a. Standing b a.place a) z h.0)
    go false t f q = f q

-- the elements of a tree whose words end by b
module _ (dim b : ℕ) where
  tree_standing : (depth under : ℕ) (header : Option ℕ) (at : ℕ) (f : Forest) → Wf dim depth under f → HeaderBelow b header → at + length (flat f) ≤ b →
      AllStanding b (spots depth header at f) × (length (spots depth header at f) ≤ length (flat f))
  tree_standing depth under header at nil w h l = (tt, omega arith)
  tree_standing depth under header at (node own k r) w h l =
      let n = length_node own k r in
      let size = w.0.size in
      let here : at < b = omega arith in
      let i = tree_standing (suc depth) (type_at own 0) (some at) (at + length own) k w.1 here (omega arith) in
      let j = tree_standing depth under header (at + weight own k) r w.2 h (omega arith) in
      let x = spots (suc depth) (some at) (at + length own) k in
      let y = spots depth header (at + weight own k) r in
      let a = length-append x y in
      ((record { place = refl; below = here; deep = w.0.deep; header = h }, standing_append b x y i.0 j.0), omega (arith, i.1, j.1))

-- the elements of an accepted file
module _ (dim : ℕ) (s : List ℕ) (e d m : ℕ) (q : judge_of dim s ≡ accepted_with e d m) where
  all_standing : AllStanding (length (words s)) (spots_of dim (words s)) × (length (spots_of dim (words s)) ≤ length (words s))
  all_standing =
      let t = file_tree (accepted_is dim s e d m q).file in
      let f = stands_fit t.stands (omega arith) in
      let r = tree_standing dim (length (words s)) 0 0 none 0 t.tree t.wf tt f in
      let l = r.1 in
      let few : length (spots 0 none 0 t.tree) ≤ length (words s) = omega arith in
      (rw t.read at r.0, rw t.read at few)

  pub elements_few : length (spots_of dim (words s)) ≤ 524288
  elements_few =
      let c = call_words dim s (accepted_is dim s e d m q).call in
      let a = all_standing.1 in
      omega arith

  pub element_standing : (p : ℕ) (x : Spot) → spot_in (spots_of dim (words s)) p ≡ some x → Standing 524288 p x
  element_standing p x i =
      let c = call_words dim s (accepted_is dim s e d m q).call in
      let y = found_standing (length (words s)) (spots_of dim (words s)) p x all_standing.0 i in
      record { place = y.place; below = omega arith; deep = y.deep; header = above x.header y.header }
    where
      above : (o : Option ℕ) → HeaderBelow (length (words s)) o → HeaderBelow 524288 o
      above none h = tt
      above (some a) h = omega (arith, call_words dim s (accepted_is dim s e d m q).call)
