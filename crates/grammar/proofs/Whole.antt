-- A file as a tree that ends at its marker, there and back; and what its elements at the top are judged to be.
use Prim.Native.Nat.{ℕ, suc, ◌+◌, ◌*◌}
use mathlib.Core.Path.{◌≡◌, refl, sym, ap, ◌∙◌, subst}
use mathlib.Core.List.{List, [], ◌∷◌, ◌++◌}
use mathlib.Core.Option.{none}
use native.Mathlib.Omega.{arith}
use native.Mathlib.Nat.{zero-add}
use lib.ListN.{length, drop, length-append}
use lib.Seq.{get_or-append_seam, drop-cons}
use Rattle.words.specs.Words.{word_at}
use Rattle.files.specs.Judge.{top_of}
use Rattle.files.specs.Spots.{Spot, deepest, spots_of}
use Rattle.files.specs.Judgement.{good_with}
use Rattle.grammar.specs.Grammar.{Components, File}
use Rattle.grammar.proofs.Forest.{Forest, flat, num, Wf, spots, components_tree, tree_components}
use Rattle.grammar.proofs.Stands.{Stands, stands_append, stands_split}
use Rattle.grammar.proofs.Ends.{Ends}
use Rattle.grammar.proofs.Sound.{list_sound}
use Rattle.grammar.proofs.Complete.{good, list_complete, spots_complete}

---- a file is a tree that ends at its marker

pub record FileTree (dim : ℕ) (ws : List ℕ) (xs : List Spot) (marker : ℕ) : Type 0 where
  pub tree : Forest
  pub wf : Wf dim 0 0 tree
  pub stands : Stands (flat tree) 0 ws
  pub ends : Ends 0 ws (0 + length (flat tree)) (length ws)
  pub read : spots 0 none 0 tree ≡ xs
  pub end : length (flat tree) ≡ marker

pub file_tree : {dim : ℕ} {ws : List ℕ} {xs : List Spot} {marker : ℕ} → File dim ws xs marker → FileTree dim ws xs marker
file_tree {ws = ws} f =
    let t = components_tree f.elements in
    let l = ap length t.words in
    let e : 0 + length (flat t.tree) ≡ length f.body = omega arith in
    let n = ap length f.whole ∙ length-append f.body (65535 ∷ f.after) in
    record {
      tree = t.tree;
      wf = t.wf;
      stands = subst (λ v. Stands (flat t.tree) 0 v) (sym f.whole) (rw t.words (stands_append [] f.body (65535 ∷ f.after)));
      ends = (omega arith, rw e (ap (λ v. word_at v (length f.body)) f.whole ∙ get_or-append_seam f.body 65535 f.after 0));
      read = t.read;
      end = l ∙ f.end;
    }

pub tree_file : {dim : ℕ} {ws : List ℕ} {xs : List Spot} {marker : ℕ} → FileTree dim ws xs marker → File dim ws xs marker
tree_file {dim} {ws} f =
    let n = 0 + length (flat f.tree) in
    record {
      body = flat f.tree;
      after = drop (suc n) ws;
      direct = num f.tree;
      whole = stands_split f.stands ∙ ap (λ l. flat f.tree ++ l) (drop-cons ws n 0 f.ends.0 ∙ ap (λ w. w ∷ drop (suc n) ws) f.ends.1);
      elements = subst (λ ys. Components dim 0 0 none 0 (num f.tree) ys (flat f.tree)) f.read (tree_components dim 0 0 none 0 f.tree f.wf);
      end = f.end;
    }

---- a file of the grammar is read so

pub file_top : {dim : ℕ} {ws : List ℕ} {xs : List Spot} {marker : ℕ} → File dim ws xs marker → (direct : ℕ) × (top_of dim ws ≡ good_with marker (length xs) (deepest xs) direct)
unfolding top_of
file_top {dim} {ws} f =
    let t = file_tree f in (
      num t.tree,
      list_complete dim ws 0 0 none 0 (length ws) t.tree t.wf t.stands t.ends (2 * length ws + 2) (omega arith)
          ∙ good (zero-add _ ∙ t.end) (ap length t.read) (ap deepest t.read) refl,
    )

-- the list of its elements is that of the grammar
pub file_spots : {dim : ℕ} {ws : List ℕ} {xs : List Spot} {marker : ℕ} → File dim ws xs marker → spots_of dim ws ≡ xs
unfolding spots_of
file_spots {dim} {ws} f =
    let t = file_tree f in
    spots_complete dim ws 0 0 none 0 (length ws) t.tree t.wf t.stands t.ends (suc (length ws)) (omega arith) ∙ t.read

-- and what is read good is a file of the grammar
pub top_file : (dim : ℕ) (ws : List ℕ) (next e d k : ℕ) → top_of dim ws ≡ good_with next e d k →
    File dim ws (spots_of dim ws) next × (e ≡ length (spots_of dim ws)) × (d ≡ deepest (spots_of dim ws))
unfolding top_of
top_file dim ws next e d k q =
    let r = list_sound dim ws (2 * length ws + 2) 0 0 none 0 (length ws) next e d k (omega arith) (omega arith) q in
    let x = r.last in
    let t : FileTree dim ws (spots 0 none 0 r.tree) next =
    record { tree = r.tree; wf = r.wf; stands = r.stands; ends = rw r.last r.ends; read = refl; end = omega arith } in
    let s = file_spots (tree_file t) in
    (rw s (tree_file t), rw s (sym r.elements), rw s (sym r.deep))
