-- The headers that are kept, depth by depth, are those of the elements: within a list at a depth, what is kept up to that
-- depth stays.
use Prim.Native.Nat.{ℕ, zero, suc, ◌+◌, ◌≤◌, ◌<◌}
use mathlib.Core.Path.{◌≡◌, refl, sym, ap, ◌∙◌, subst}
use mathlib.Core.Bool.{Bool, true, false, cond}
use mathlib.Core.List.{List, [], ◌∷◌, ◌++◌}
use mathlib.Core.Option.{Option, some}
use native.Mathlib.Omega.{arith}
use lib.ListN.{length, get_or, set, length-set}
use lib.Seq.{get_or-set_same, get_or-set_other}
use lib.Dec.{ltb}
use borrow.Author.Tests.{lt-ltb, le-ltb}
use Rattle.headers.specs.Header.{type_at}
use Rattle.files.specs.Spots.{Spot}
use Rattle.grammar.proofs.Forest.{Forest, nil, node, Wf, spots, weight}
use Rattle.walking.proofs.Steps.{Same}
use Rattle.dgn_all_views.specs.Tour.{kept, header_in}

-- what is kept before an element: the headers, and the depth and place of the element before it
pub record Before : Type 0 where
  pub headers : List ℕ
  pub depth : ℕ
  pub place : ℕ

-- what is kept at an element of a depth, and behind it
abbrev pub at_depth : Before → ℕ → List ℕ
at_depth b d = kept b.headers b.depth b.place d

abbrev pub past : Before → Spot → Before
past b x = record { headers = at_depth b x.depth; depth = x.depth; place = x.place }

-- each element's header is the one that is kept at its depth, and then it is so kept
abbrev pub Heads : Before → List Spot → Before → Type 0
Heads b [] c = b ≡ c
Heads b (x ∷ xs) c = (header_in (at_depth b x.depth) x.depth ≡ x.header) × Heads (past b x) xs c

heads_append : (b c e : Before) (xs ys : List Spot) → Heads b xs c → Heads c ys e → Heads b (xs ++ ys) e
heads_append b c e [] ys p q = subst (λ z. Heads z ys e) (sym p) q
heads_append b c e (x ∷ xs) ys p q = (p.0, heads_append (past b x) c e xs ys p.1 q)

---- what is kept

pub kept_in : (hs : List ℕ) (depth place next : ℕ) → depth < next → kept hs depth place next ≡ set hs next place
kept_in hs depth place next h = rw (lt-ltb depth next h) refl

pub kept_out : (hs : List ℕ) (depth place next : ℕ) → next ≤ depth → kept hs depth place next ≡ hs
kept_out hs depth place next h = rw (le-ltb depth next h) refl

pub kept_length : (hs : List ℕ) (depth place next : ℕ) → length (kept hs depth place next) ≡ length hs
kept_length hs depth place next = go (ltb depth next)
  where
    go : (b : Bool) → length (cond b (set hs next place) hs) ≡ length hs
    go true = length-set hs next place
    go false = refl

-- below the depth of the next element nothing changes
kept_below : (hs : List ℕ) (depth place next j : ℕ) → j < next → get_or (kept hs depth place next) j 0 ≡ get_or hs j 0
kept_below hs depth place next j h = go (ltb depth next)
  where
    go : (b : Bool) → get_or (cond b (set hs next place) hs) j 0 ≡ get_or hs j 0
    go true = get_or-set_other hs next j place 0 (λ q. omega arith)
    go false = refl

same_header_lem : (d : ℕ) (a b : List ℕ) → Same d a b → header_in a d ≡ header_in b d
same_header_lem zero a b s = refl
same_header_lem (suc d) a b s = ap some (s (suc d) (omega arith))

---- through the elements of a tree

record Through (b : Before) (d : ℕ) (xs : List Spot) : Type 0 where
  last : Before
  nine : length last.headers ≡ 9
  heads : Heads b xs last
  floor : (i : ℕ) → i ≤ b.depth → i ≤ d → i ≤ last.depth
  same : Same d (at_depth last d) (at_depth b d)

-- an element, those under it, and the rest of its list
module _ (b : Before) (d at end : ℕ) (header : Option ℕ) (n : length b.headers ≡ 9) where
  abbrev own : Spot
  own = record { place = at; end = end; depth = d; header = header }

  abbrev own_past : Before
  own_past = past b own

  own_nine : length own_past.headers ≡ 9
  own_nine = kept_length b.headers b.depth b.place d ∙ n

  inside_header : suc d ≤ 8 → header_in (at_depth own_past (suc d)) (suc d) ≡ some at
  inside_header l =
      let k = own_nine in
      ap (λ hs. header_in hs (suc d)) (kept_in own_past.headers d at (suc d) (omega arith))
      ∙ ap some (get_or-set_same own_past.headers (suc d) at 0 (omega arith))

  module _ {xs : List Spot} (i : Through own_past (suc d) xs) where
    rest_below : d ≤ i.last.depth
    rest_below = i.floor d (omega arith) (omega arith)

    rest_same : Same d (at_depth i.last d) (at_depth b d)
    rest_same j l =
        ap (λ hs. get_or hs j 0) (kept_out i.last.headers i.last.depth i.last.place d rest_below)
        ∙ sym (kept_below i.last.headers i.last.depth i.last.place (suc d) j (omega arith))
        ∙ i.same j (omega arith)
        ∙ kept_below own_past.headers d at (suc d) j (omega arith)

    rest_header : header_in (at_depth b d) d ≡ header → header_in (at_depth i.last d) d ≡ header
    rest_header h = same_header_lem d (at_depth i.last d) (at_depth b d) rest_same ∙ h

    through_node : header_in (at_depth b d) d ≡ header → {ys : List Spot} → Through i.last d ys → Through b d (own ∷ (xs ++ ys))
    through_node h {ys} a =
        let low = rest_below in
        record {
          last = a.last;
          nine = a.nine;
          heads = (h, heads_append own_past i.last a.last xs ys i.heads a.heads);
          floor = λ j p q. a.floor j (omega arith) q;
          same = λ j l. a.same j l ∙ rest_same j l;
        }

through_tree : (dim d under : ℕ) (header : Option ℕ) (at : ℕ) (f : Forest) (b : Before) → Wf dim d under f → length b.headers ≡ 9 →
    (d ≤ 8 → header_in (at_depth b d) d ≡ header) → Through b d (spots d header at f)
through_tree dim d under header at nil b w n h = record { last = b; nine = n; heads = refl; floor = λ i p q. p; same = λ j l. refl }
through_tree dim d under header at (node own k r) b w n h =
    let end = at + weight own k in
    let i = through_tree dim (suc d) (type_at own 0) (some at) (at + length own) k (own_past b d at end header n) w.1 (own_nine b d at end header n) (inside_header b d at end header n) in
    through_node b d at end header n i (h w.0.deep)
    (through_tree dim d under header end r i.last w.2 i.nine (λ l. rest_header b d at end header n i (h l)))

pub heads_tree : (dim d under : ℕ) (header : Option ℕ) (at : ℕ) (f : Forest) (b : Before) → Wf dim d under f → length b.headers ≡ 9 →
    (d ≤ 8 → header_in (at_depth b d) d ≡ header) → (c : Before) × Heads b (spots d header at f) c
heads_tree dim d under header at f b w n h = let t = through_tree dim d under header at f b w n h in (t.last, t.heads)
