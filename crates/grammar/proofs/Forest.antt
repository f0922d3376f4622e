-- The tree of a file as one type, for proofs: an element's own words, the elements under it, and those that follow it
-- in the same list. The grammar's two meanings are this tree, there and back.
use Prim.Native.Nat.{ℕ, suc, ◌+◌, max}
use mathlib.Core.Path.{◌≡◌, refl, sym, ap, ◌∙◌, subst}
use mathlib.Core.List.{List, [], ◌∷◌, ◌++◌, append_assoc}
use mathlib.Core.Option.{Option, some}
use native.Mathlib.Nat.{add_assoc}
use native.Mathlib.Omega.{arith}
use lib.ListN.{length, length-append}
use Rattle.headers.specs.Header.{type_at}
use Rattle.files.specs.Spots.{Spot, deepest}
use Rattle.grammar.specs.Own.{Own}
use Rattle.grammar.specs.Grammar.{Element, element, Components, no_more, more}
use Rattle.grammar.proofs.Stands.{Stands, stands_left, stands_right}
use Rattle.grammar.proofs.Tests.{OwnTests}
use Rattle.grammar.proofs.Meaning.{own_tests, tests_own}

pub data Forest : Type 0 where
  nil : Forest
  node : List ℕ → Forest → Forest → Forest

-- its words
abbrev pub flat : Forest → List ℕ
flat nil = []
flat (node own k r) = own ++ (flat k ++ flat r)

-- the elements of the list itself
abbrev pub num : Forest → ℕ
num nil = 0
num (node own k r) = suc (num r)

-- the words of the first element with its extent
abbrev pub weight : List ℕ → Forest → ℕ
weight own k = length own + length (flat k)

-- each element is of the grammar
abbrev pub Wf : ℕ → ℕ → ℕ → Forest → Type 0
Wf dim depth under nil = Unit {0}
Wf dim depth under (node own k r) =
    OwnTests dim depth under own (length (flat k)) (num k) × Wf dim (suc depth) (type_at own 0) k × Wf dim depth under r

-- all elements in file order, the list starting at the place at
abbrev pub spots : ℕ → Option ℕ → ℕ → Forest → List Spot
spots depth header at nil = []
spots depth header at (node own k r) =
    record { place = at; end = at + weight own k; depth = depth; header = header }
    ∷ (spots (suc depth) (some at) (at + length own) k ++ spots depth header (at + weight own k) r)

-- the words of one element and those after it
pub length_node : (own : List ℕ) (k r : Forest) → length (flat (node own k r)) ≡ weight own k + length (flat r)
length_node own k r = simp (length-append, add_assoc)

---- a tree whose words stand at a place

pub own_stands : {ws : List ℕ} {at : ℕ} (own : List ℕ) (k r : Forest) → Stands (flat (node own k r)) at ws → Stands own at ws
own_stands own k r s = stands_left own (flat k ++ flat r) s

pub components_stand : {ws : List ℕ} {at : ℕ} (own : List ℕ) (k r : Forest) → Stands (flat (node own k r)) at ws → Stands (flat k) (at + length own) ws
components_stand own k r s = stands_left (flat k) (flat r) (stands_right own (flat k ++ flat r) s)

pub rest_stand : {ws : List ℕ} {at : ℕ} (own : List ℕ) (k r : Forest) → Stands (flat (node own k r)) at ws → Stands (flat r) (at + weight own k) ws
rest_stand {ws} {at} own k r s =
    subst (λ n. Stands (flat r) n ws) (omega arith) (stands_right (flat k) (flat r) (stands_right own (flat k ++ flat r) s))

-- the greatest depth of two lists
pub deepest_append : (xs ys : List Spot) → deepest (xs ++ ys) ≡ max (deepest xs) (deepest ys)
deepest_append [] ys = omega arith
deepest_append (x ∷ xs) ys = let e = deepest_append xs ys in omega arith

---- the grammar's lists of elements are the trees

-- a list of elements of the grammar, as a tree
pub record Tree (dim depth under : ℕ) (header : Option ℕ) (at n : ℕ) (xs : List Spot) (ws : List ℕ) : Type 0 where
  pub tree : Forest
  pub wf : Wf dim depth under tree
  pub words : flat tree ≡ ws
  pub count : num tree ≡ n
  pub read : spots depth header at tree ≡ xs

-- one element of the grammar: its own words and the tree under it
pub record One (dim depth under : ℕ) (header : Option ℕ) (at : ℕ) (xs : List Spot) (ws : List ℕ) : Type 0 where
  pub own : List ℕ
  pub components : Forest
  pub rules : OwnTests dim depth under own (length (flat components)) (num components)
  pub wf : Wf dim (suc depth) (type_at own 0) components
  pub words : own ++ flat components ≡ ws
  pub read : record { place = at; end = at + length ws; depth = depth; header = header } ∷ spots (suc depth) (some at) (at + length own) components ≡ xs

one_of : {dim depth under : ℕ} {header : Option ℕ} {at n : ℕ} {xs ys : List Spot} {ws : List ℕ} (own inside : List ℕ) →
    ws ≡ own ++ inside → xs ≡ record { place = at; end = at + length ws; depth = depth; header = header } ∷ ys →
    Own dim depth under own (length inside) n → Tree dim (suc depth) (type_at own 0) (some at) (at + length own) n ys inside →
    One dim depth under header at xs ws
one_of own inside e q o t = record {
  own = own;
  components = t.tree;
  rules = rw (t.words, t.count) (own_tests o);
  wf = t.wf;
  words = ap (λ l. own ++ l) t.words ∙ sym e;
  read = rw t.read (sym q);
}

tree_of : {dim depth under : ℕ} {header : Option ℕ} {at n : ℕ} {xs ys zs : List Spot} {ws : List ℕ} (x rest : List ℕ) →
    ws ≡ x ++ rest → xs ≡ ys ++ zs →
    One dim depth under header at ys x → Tree dim depth under header (at + length x) n zs rest → Tree dim depth under header at (suc n) xs ws
tree_of {zs = zs} x rest e q o t =
    let l : length x ≡ weight o.own o.components = sym (ap length o.words) ∙ length-append o.own (flat o.components) in
    record {
      tree = node o.own o.components t.tree;
      wf = (o.rules, o.wf, t.wf);
      words = sym (append_assoc o.own (flat o.components) (flat t.tree)) ∙ rw (o.words, t.words) (sym e);
      count = ap suc t.count;
      read = rw (← l, t.read) (ap (λ l. l ++ zs) o.read ∙ sym q);
    }

mutual
  pub element_tree : {dim depth under : ℕ} {header : Option ℕ} {at : ℕ} {xs : List Spot} {ws : List ℕ} → Element dim depth under header at xs ws → One dim depth under header at xs ws
  element_tree (element n own inside ys e q o k) = one_of own inside e q o (components_tree k)

  pub components_tree : {dim depth under : ℕ} {header : Option ℕ} {at n : ℕ} {xs : List Spot} {ws : List ℕ} →
      Components dim depth under header at n xs ws → Tree dim depth under header at n xs ws
  components_tree no_more = record { tree = nil; wf = tt; words = refl; count = refl; read = refl }
  components_tree (more x rest ys zs e q f r) = tree_of x rest e q (element_tree f) (components_tree r)

pub tree_components : (dim depth under : ℕ) (header : Option ℕ) (at : ℕ) (f : Forest) → Wf dim depth under f →
    Components dim depth under header at (num f) (spots depth header at f) (flat f)
tree_components dim depth under header at nil w = no_more
tree_components dim depth under header at (node own k r) w =
    let n = at + length own in
    rw (← length-append own (flat k))
    (more (own ++ flat k) (flat r) _ _ (sym (append_assoc own (flat k) (flat r))) refl
    (element (num k) own (flat k) _ refl refl (tests_own w.0) (tree_components dim (suc depth) (type_at own 0) (some at) n k w.1))
    (tree_components dim depth under header (at + length (own ++ flat k)) r w.2))
