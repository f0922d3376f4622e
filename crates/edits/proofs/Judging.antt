-- What judging says of a file's tree and of a piece, from the grammar: the list of the tree's elements, and that a piece is
-- good exactly where it is one element of the grammar with those under it.
use Prim.Native.Nat.{ℕ, ◌+◌, ◌-◌, ◌*◌}
use native.Mathlib.Omega.{arith}
use mathlib.Core.Path.{◌≡◌, refl, sym, ap, ◌∙◌}
use mathlib.Core.Bool.{Bool, true, false, cond}
use mathlib.Core.List.{List, [], ◌∷◌, ◌++◌}
use mathlib.Core.Option.{Option, none}
use lib.ListN.{length, take, length-append}
use lib.Seq.{take-length}
use lib.Dec.{eqb}
use borrow.Author.Tests.{eqb-true, eq-eqb}
use Rattle.std.specs.Prelude.{Err, Ok, Result}
use Rattle.refusals.specs.Refusals.{refused_with}
use Rattle.refusals.proofs.Laws.{given_is}
use Rattle.refusals.specs.declared.Refusal.{Refusal}
use Rattle.words.specs.Words.{words, Below}
use Rattle.files.specs.Judge.{element_of, top_of, answer, judge_of}
use Rattle.limits.specs.Limits.{call_ok}
use Rattle.files.specs.Spots.{Spot, deepest, spots_of}
use Rattle.files.specs.Accepted.{accepted_with}
use Rattle.files.specs.Judgement.{good_with}
use Rattle.files.specs.declared.Judgement.{Judgement}
use Rattle.grammar.specs.Grammar.{File}
use Rattle.grammar.proofs.Forest.{Forest, flat, num, weight, Wf, spots, components_tree, tree_components}
use Rattle.grammar.proofs.Stands.{Stands}
use Rattle.grammar.proofs.Sound.{element_sound}
use Rattle.grammar.proofs.Complete.{good, element_complete}
use Rattle.grammar.proofs.Whole.{file_spots, file_top, top_file}
use Rattle.edits.specs.Allowed.{fine, fault, depth_under, type_under, whole_by, piece_fault}
use Rattle.edits.proofs.Accepted.{Accepted}
use Rattle.edits.proofs.Ways.{Elem}

-- the tree of a file that ends at its marker is a file of the grammar
tree_grammar : (dim : ℕ) (f : Forest) (ws : List ℕ) → Wf dim 0 0 f → ws ≡ flat f ++ (65535 ∷ []) → File dim ws (spots 0 none 0 f) (length (flat f))
tree_grammar dim f ws x e = record { body = flat f; after = []; direct = num f; whole = e; elements = tree_components dim 0 0 none 0 f x; end = refl }

pub tree_spots : (dim : ℕ) (f : Forest) (ws : List ℕ) → Wf dim 0 0 f → ws ≡ flat f ++ (65535 ∷ []) → spots_of dim ws ≡ spots 0 none 0 f
tree_spots dim f ws x e = file_spots (tree_grammar dim f ws x e)

-- what judging accepts, by its list of top-level elements
pub judged_top : (dim : ℕ) (s : List ℕ) (e d m : ℕ) → judge_of dim s ≡ accepted_with e d m → (k : ℕ) × (top_of dim (words s) ≡ good_with m e d k)
unfolding judge_of
judged_top dim s e d m q = go (call_ok dim s) (top_of dim (words s)) refl q
  where
    go : (b : Bool) (v : Result Judgement Refusal) → top_of dim (words s) ≡ v → cond b (answer v) (refused_with 1 0) ≡ accepted_with e d m → (k : ℕ) × (top_of dim (words s) ≡ good_with m e d k)
    go true (Ok judged) t q = let same = given_is q in (judged.direct, t ∙ good (ap (λ a. a.marker) same) (ap (λ a. a.elements) same) (ap (λ a. a.deepest) same) refl)
    go true (Err refusal) t q = let z : ◌≡◌ {A = ℕ} 0 1 = cc in absurd (omega arith)
    go false v t q = let z : ◌≡◌ {A = ℕ} 0 1 = cc in absurd (omega arith)

-- what judging accepts with the marker as the last word is a tree
pub judged_tree : (dim : ℕ) (ws : List ℕ) (next e d k : ℕ) → Below 65536 ws → top_of dim ws ≡ good_with next e d k → next + 1 ≡ length ws → Accepted dim ws
judged_tree dim ws next e d k b q l =
    let f = (top_file dim ws next e d k q).0 in
    let t = components_tree f.elements in
    let n = ap length f.whole ∙ length-append f.body (65535 ∷ f.after) in
    let m = f.end in
    let z : f.after ≡ [] = empty f.after (omega arith) in
    record { tree = t.tree; wf = t.wf; words = f.whole ∙ ap (λ a. f.body ++ (65535 ∷ a)) z ∙ ap (λ a. a ++ (65535 ∷ [])) (sym t.words); below = b }
  where
    empty : (l : List ℕ) → length l ≡ 0 → l ≡ []
    empty [] e = refl
    empty (x ∷ l) e = absurd (omega arith)

-- and a tree is accepted so
pub tree_judged : (dim : ℕ) (ws : List ℕ) → Accepted dim ws → (e : ℕ) × (d : ℕ) × (k : ℕ) × (top_of dim ws ≡ good_with (length ws - 1) e d k)
tree_judged dim ws a =
    let f = tree_grammar dim a.tree ws a.wf a.words in
    let t = file_top f in
    let n = ap length a.words ∙ length-append (flat a.tree) (65535 ∷ []) in
    let l : length (flat a.tree) ≡ length ws - 1 = omega arith in
    let xs = spots 0 none 0 a.tree in
    (length xs, deepest xs, t.0, t.1 ∙ ap (λ m. good_with m (length xs) (deepest xs) t.0) l)

---- a piece

pub record Piece (dim depth under : ℕ) (x : List ℕ) : Type 0 where
  pub own : List ℕ
  pub components : Forest
  pub words : x ≡ own ++ flat components
  pub elem : Elem dim depth under own components

module _ (dim depth under : ℕ) where
  good_piece : (x : List ℕ) (e d k : ℕ) → element_of dim depth under x 0 (length x) ≡ good_with (length x) e d k → Piece dim depth under x
  unfolding element_of
  good_piece x e d k q =
      let r = element_sound dim x (2 * (length x - 0) + 1) depth under 0 (length x) (length x) e d k (omega arith) (omega arith) q in
      let l : length (r.own ++ flat r.components) ≡ length x = let s = r.last in length-append r.own (flat r.components) ∙ (omega arith) in
      record { own = r.own; components = r.components; words = sym (take-length x) ∙ ap (λ n. take n x) (sym l) ∙ r.stands.is; elem = (r.rules, r.wf) }

  -- a piece without fault is one element
  pub piece_found : (xs : List Spot) (ws : List ℕ) (h : Option ℕ) (x : List ℕ) → depth_under xs h ≡ depth → type_under ws h ≡ under → piece_fault dim xs ws h x ≡ fine → Piece dim depth under x
  unfolding piece_fault
  piece_found xs ws h x p q e = go (element_of dim depth under x 0 (length x)) refl (rw (p, q) at e)
    where
      go : (v : Result Judgement Refusal) → element_of dim depth under x 0 (length x) ≡ v → whole_by v (length x) ≡ fine → Piece dim depth under x
      go (Err refusal) r e = let z : ◌≡◌ {A = ℕ} 0 1 = cc in absurd (omega arith)
      go (Ok judged) r e = whole (eqb judged.next (length x)) refl e
        where
          whole : (b : Bool) → eqb judged.next (length x) ≡ b → cond b fine (fault 3 judged.next) ≡ fine → Piece dim depth under x
          whole true s e = good_piece x judged.elements judged.deepest judged.direct (r ∙ ap (λ n. good_with n judged.elements judged.deepest judged.direct) (eqb-true judged.next (length x) s))
          whole false s e = let z : ◌≡◌ {A = ℕ} 0 1 = cc in absurd (omega arith)

  -- one element is a piece without fault
  pub piece_fine : (xs : List Spot) (ws : List ℕ) (h : Option ℕ) (own : List ℕ) (k : Forest) → depth_under xs h ≡ depth → type_under ws h ≡ under → Elem dim depth under own k →
      piece_fault dim xs ws h (own ++ flat k) ≡ fine
  unfolding piece_fault element_of
  piece_fine xs ws h own k p q e =
      let x = own ++ flat k in
      let l = length-append own (flat k) in
      let g = element_complete dim x depth under 0 (length x) own k e.0 e.1 (stands_whole x) (omega arith) (2 * (length x - 0) + 1) (omega arith) in
      rw (p, q, g, eq-eqb (0 + weight own k) (length x) (omega arith)) refl
    where
      stands_whole : (x : List ℕ) → Stands x 0 x
      stands_whole x = record { is = take-length x }
