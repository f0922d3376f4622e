-- The table of live cells. A store for a live cell changes no answer but its own: an earlier one ends before it, 32 words on at least. So the
-- loop over the elements marks those that it passed, and at the end all of the file.
use Prim.Native.Nat.{ℕ, zero, suc, ◌+◌, ◌/◌, ◌%◌, ◌≤◌, ◌<◌}
use mathlib.Core.Path.{◌≡◌, refl, sym, ap, ◌∙◌, subst}
use mathlib.Core.Logic.{◌≢◌, ⊎_elim}
use mathlib.Core.Bool.{Bool, true, false, cond, ◌&&◌, ◌||◌, false≢true, or-true, or-false, and-eq-true_iff}
use mathlib.Core.List.{List, [], ◌∷◌, ◌++◌, append-nil}
use mathlib.Core.Option.{Option, none, some}
use native.Mathlib.Omega.{arith}
use lib.ListN.{length, get_or, set, replicate, get_or-eq_default}
use lib.Seq.{append_snoc, get_or-set_same, get_or-set_other}
use lib.Dec.{eqb}
use borrow.Author.Tests.{eq-eqb, ne_eqb, eqb-true}
use Rattle.words.specs.Words.{words}
use Rattle.kinds.specs.Kinds.{is_cell, fixed_part}
use Rattle.kinds.proofs.Types.{each_named, both}
use Rattle.headers.specs.Header.{type_at, size_at, sizing_at}
use Rattle.files.specs.Judge.{judge_of}
use Rattle.files.specs.Spots.{Spot, spots_of, spot_in, first_if}
use Rattle.grammar.proofs.Forest.{Forest, nil, node, flat, Wf, spots, weight, own_stands, components_stand, rest_stand}
use Rattle.grammar.proofs.Stands.{Stands}
use Rattle.grammar.proofs.Rules.{own_type, own_size}
use Rattle.grammar.proofs.Whole.{file_tree}
use Rattle.grammar.proofs.Exact.{accepted_is}
use Rattle.sorting.proofs.Laws.{eq_or_ne}
use Rattle.cells.proofs.Own.{own_fixed}
use Rattle.finder.specs.Finder.{is_live}
use Rattle.finder.specs.Look.{InOrder}
use Rattle.finder.proofs.Order.{order_room}
use Rattle.lookup.specs.Live.{live_here, live_by, live_in}
use Rattle.lookup.specs.Table.{marked, Apart, TableTo}
use Rattle.files.specs.Accepted.{accepted_with}

---- one store

zeros_zero : (n i : ℕ) → ◌≡◌ {A = ℕ} (get_or (replicate n 0) i 0) 0
zeros_zero zero i = refl
zeros_zero (suc n) zero = refl
zeros_zero (suc n) (suc i) = zeros_zero n i

-- past its end nothing is marked
pub marked_beyond : (t : List ℕ) (place : ℕ) → length t ≤ place / 32 → false ≡ marked t place
marked_beyond t place h = sym (ap (λ x. eqb x (place % 32 + 1)) (get_or-eq_default t 0 h) ∙ ne_eqb 0 (place % 32 + 1) (λ e. omega arith))

-- in zeros nothing is marked
pub marked_none : (n place : ℕ) → marked (replicate n 0) place ≡ false
marked_none n place = ap (λ x. eqb x (place % 32 + 1)) (zeros_zero n (place / 32)) ∙ ne_eqb 0 (place % 32 + 1) (λ e. omega arith)

module _ (t : List ℕ) (at : ℕ) (room : at / 32 < length t) (low : (q : ℕ) → marked t q ≡ true → q + 32 ≤ at) where
  -- of the same 32 words no other is marked
  none_near : (q : ℕ) → q / 32 ≡ at / 32 → marked t q ≡ false
  none_near q e = go (marked t q) refl
    where
      go : (b : Bool) → marked t q ≡ b → b ≡ false
      go true h = let l = low q h in absurd (omega arith)
      go false h = refl

  put_same : (q : ℕ) → q / 32 ≡ at / 32 → marked (set t (at / 32) (at % 32 + 1)) q ≡ eqb (at % 32 + 1) (q % 32 + 1)
  put_same q e =
      ap (λ x. eqb x (q % 32 + 1)) (ap (λ i. get_or (set t (at / 32) (at % 32 + 1)) i 0) e ∙ get_or-set_same t (at / 32) (at % 32 + 1) 0 room)

  put_other : (q : ℕ) → q / 32 ≢ at / 32 → marked (set t (at / 32) (at % 32 + 1)) q ≡ marked t q
  put_other q n = ap (λ x. eqb x (q % 32 + 1)) (get_or-set_other t (at / 32) (q / 32) (at % 32 + 1) 0 n)

  marked_put : (q : ℕ) → marked (set t (at / 32) (at % 32 + 1)) q ≡ (eqb at q || marked t q)
  marked_put q =
      ⊎_elim
      (λ e. ⊎_elim
      (λ h. put_same q e ∙ eq-eqb (at % 32 + 1) (q % 32 + 1) (omega arith) ∙ sym (ap (λ b. b || marked t q) (eq-eqb at q h)))
      (λ h. put_same q e ∙ ne_eqb (at % 32 + 1) (q % 32 + 1) (λ k. h (omega arith)) ∙ sym (ap (λ b. b || marked t q) (ne_eqb at q h) ∙ none_near q e))
      (eq_or_ne at q))
      (λ n. put_other q n ∙ sym (ap (λ b. b || marked t q) (ne_eqb at q (λ h. n (omega arith)))))
      (eq_or_ne (q / 32) (at / 32))

---- the live cells of a list with one more

absorbed : (b e : Bool) → b ≡ (b || (e && b))
absorbed true e = refl
absorbed false true = refl
absorbed false false = refl

live_more : (xs : List Spot) (x : Spot) (ws : List ℕ) (q : ℕ) → live_in (xs ++ (x ∷ [])) ws q ≡ (live_in xs ws q || (eqb x.place q && live_here ws q))
live_more [] x ws q = go (eqb x.place q)
  where
    go : (b : Bool) → live_by (first_if b x none) ws q ≡ (false || (b && live_here ws q))
    go true = refl
    go false = refl
live_more (y ∷ xs) x ws q = go (eqb y.place q) (live_more xs x ws q)
  where
    go : (b : Bool) → live_in (xs ++ (x ∷ [])) ws q ≡ (live_in xs ws q || (eqb x.place q && live_here ws q)) →
        live_by (first_if b y (spot_in (xs ++ (x ∷ [])) q)) ws q ≡ (live_by (first_if b y (spot_in xs q)) ws q || (eqb x.place q && live_here ws q))
    go true r = absorbed (live_here ws q) (eqb x.place q)
    go false r = r

---- the loop

-- of the elements xs up to `to`, those before `at` are marked
pub record Marks (ws : List ℕ) (xs : List Spot) (to at : ℕ) (t : List ℕ) : Type 0 where
  pub past : List Spot
  pub rest : List Spot
  pub whole : xs ≡ past ++ rest
  pub after : InOrder ws at rest to
  pub apart : Apart ws rest
  pub exact : (q : ℕ) → marked t q ≡ live_in past ws q
  pub low : (q : ℕ) → marked t q ≡ true → q + 32 ≤ at

abbrev pub Filling : List ℕ → ℕ → ℕ → List ℕ → Type 0
Filling ws to at t = (xs : List Spot) → InOrder ws 0 xs to → Apart ws xs → Marks ws xs to at t

pub fill_none : {ws t : List ℕ} {to : ℕ} → ((q : ℕ) → marked t q ≡ false) → Filling ws to 0 t
fill_none h xs o a =
    record {
      past = [];
      rest = xs;
      whole = refl;
      after = o;
      apart = a;
      exact = h;
      low = λ q e. absurd (false≢true (sym (h q) ∙ e));
    }

module _ (ws t : List ℕ) (to at : ℕ) (f : Filling ws to at t) (more : at < to) (room : at / 32 < length t) where
  -- the next element is live, and a cell: it is marked
  marks_live : (xs : List Spot) (m : Marks ws xs to at t) (x : Spot) (rest : List Spot) → xs ≡ m.past ++ (x ∷ rest) → InOrder ws at (x ∷ rest) to → Apart ws (x ∷ rest) →
      live_here ws at ≡ true → Marks ws xs to (at + size_at ws at) (set t (at / 32) (at % 32 + 1))
  marks_live xs m x rest e o a h =
      record {
        past = m.past ++ (x ∷ []);
        rest = rest;
        whole = e ∙ sym (append_snoc m.past x rest);
        after = o.1;
        apart = a.1;
        exact = λ q. marked_put t at room m.low q ∙ ap (λ b. eqb at q || b) (m.exact q) ∙ here q (eqb at q) refl ∙ sym (live_more m.past x ws q ∙ ap (λ p. live_in m.past ws q || (eqb p q && live_here ws q)) o.0);
        low = λ q g. either q (eqb at q) refl (sym (marked_put t at room m.low q) ∙ g);
      }
    where
      long : 32 ≤ size_at ws at
      long = subst (λ p. 32 ≤ size_at ws p) o.0 (a.0 (ap (λ p. is_cell (type_at ws p)) o.0 ∙ ((and-eq-true_iff (is_cell (type_at ws at)) (is_live ws at)).0 h).0))

      here : (q : ℕ) (b : Bool) → eqb at q ≡ b → (b || live_in m.past ws q) ≡ (live_in m.past ws q || (b && live_here ws q))
      here q true g = sym (ap (λ c. live_in m.past ws q || c) (ap (live_here ws) (sym (eqb-true at q g)) ∙ h) ∙ or-true (live_in m.past ws q))
      here q false g = sym (or-false (live_in m.past ws q))

      either : (q : ℕ) (b : Bool) → eqb at q ≡ b → (b || marked t q) ≡ true → q + 32 ≤ at + size_at ws at
      either q true g k = let l = long in let z = eqb-true at q g in omega arith
      either q false g k = let l = m.low q k in omega arith

  -- it is not: nothing is marked
  marks_other : (xs : List Spot) (m : Marks ws xs to at t) (x : Spot) (rest : List Spot) → xs ≡ m.past ++ (x ∷ rest) → InOrder ws at (x ∷ rest) to → Apart ws (x ∷ rest) →
      live_here ws at ≡ false → Marks ws xs to (at + size_at ws at) t
  marks_other xs m x rest e o a h =
      record {
        past = m.past ++ (x ∷ []);
        rest = rest;
        whole = e ∙ sym (append_snoc m.past x rest);
        after = o.1;
        apart = a.1;
        exact = λ q. m.exact q ∙ here q (eqb at q) refl ∙ sym (live_more m.past x ws q ∙ ap (λ p. live_in m.past ws q || (eqb p q && live_here ws q)) o.0);
        low = λ q g. let l = m.low q g in omega arith;
      }
    where
      here : (q : ℕ) (b : Bool) → eqb at q ≡ b → live_in m.past ws q ≡ (live_in m.past ws q || (b && live_here ws q))
      here q true g = sym (ap (λ c. live_in m.past ws q || c) (ap (live_here ws) (sym (eqb-true at q g)) ∙ h) ∙ or-false (live_in m.past ws q))
      here q false g = sym (or-false (live_in m.past ws q))

  pub fill_more : (u : List ℕ) → u ≡ cond (live_here ws at) (set t (at / 32) (at % 32 + 1)) t → Filling ws to (at + size_at ws at) u
  fill_more u e xs o a = let m = f xs o a in go m m.rest m.whole m.after m.apart (live_here ws at) refl e
    where
      go : (m : Marks ws xs to at t) (rest : List Spot) → xs ≡ m.past ++ rest → InOrder ws at rest to → Apart ws rest → (b : Bool) → live_here ws at ≡ b →
          u ≡ cond b (set t (at / 32) (at % 32 + 1)) t → Marks ws xs to (at + size_at ws at) u
      go m [] w p k b h e = absurd (omega arith)
      go m (x ∷ rest) w p k true h e = subst (λ v. Marks ws xs to (at + size_at ws at) v) (sym e) (marks_live xs m x rest w p k h)
      go m (x ∷ rest) w p k false h e = subst (λ v. Marks ws xs to (at + size_at ws at) v) (sym e) (marks_other xs m x rest w p k h)

-- no element is left
pub fill_all : {ws t : List ℕ} {to at : ℕ} → Filling ws to at t → to ≤ at → TableTo ws to t
fill_all {ws} {t} {to} {at} f h xs o a q = let m = f xs o a in go m m.rest m.whole m.after
  where
    go : (m : Marks ws xs to at t) (rest : List Spot) → xs ≡ m.past ++ rest → InOrder ws at rest to → marked t q ≡ live_in xs ws q
    go m [] w p = m.exact q ∙ ap (λ l. live_in l ws q) (sym (w ∙ append-nil m.past))
    go m (x ∷ rest) w p = let r = order_room ws at to (x ∷ rest) p in absurd (omega arith)

---- the cells of an accepted file

-- a cell's fixed part
cell_least : (dim t n : ℕ) → is_cell t ≡ true → 35 ≤ fixed_part dim t n
unfolding fixed_part
cell_least dim t n = each_named (λ k. 35 ≤ fixed_part dim k n) (1 ∷ 2 ∷ []) t (omega arith, (both 35 46 62 (omega arith) (omega arith) (eqb dim 2), tt))

apart_append : (ws : List ℕ) (xs ys : List Spot) → Apart ws xs → Apart ws ys → Apart ws (xs ++ ys)
apart_append ws [] ys a b = b
apart_append ws (x ∷ xs) ys a b = (a.0, apart_append ws xs ys a.1 b)

tree_apart : (dim : ℕ) (ws : List ℕ) (depth under : ℕ) (header : Option ℕ) (at : ℕ) (f : Forest) → Wf dim depth under f → Stands (flat f) at ws →
    Apart ws (spots depth header at f)
tree_apart dim ws depth under header at nil w s = tt
tree_apart dim ws depth under header at (node own k r) w s = (
  λ c.
      let o = own_stands own k r s in
      let z = own_size w.0 o in
      let l = cell_least dim (type_at own 0) (sizing_at dim own 0) (ap is_cell (sym (own_type w.0 o)) ∙ c) in
      let g = own_fixed w.0 in
      omega arith,
  apart_append ws (spots (suc depth) (some at) (at + length own) k) (spots depth header (at + weight own k) r)
      (tree_apart dim ws (suc depth) (type_at own 0) (some at) (at + length own) k w.1 (components_stand own k r s))
      (tree_apart dim ws depth under header (at + weight own k) r w.2 (rest_stand own k r s)),
)

pub file_apart : (dim : ℕ) (s : List ℕ) (e d m : ℕ) → judge_of dim s ≡ accepted_with e d m → Apart (words s) (spots_of dim (words s))
file_apart dim s e d m q =
    let t = file_tree (accepted_is dim s e d m q).file in
    subst (Apart (words s)) t.read (tree_apart dim (words s) 0 0 none 0 t.tree t.wf t.stands)
