-- The cells of a judged file are met by rising places, so in its index the first entry of a name that is found is that of the first such
-- cell. The test of an entry, by its place, is the finder's of the cell.
use Prim.Native.Nat.{ℕ, zero, suc, ◌+◌, ◌-◌, ◌*◌, ◌/◌, ◌%◌, ◌^◌, ◌≤◌, ◌<◌, min}
use mathlib.Core.Path.{◌≡◌, refl, sym, ap, ◌∙◌, subst}
use mathlib.Core.Logic.{⊎_elim}
use mathlib.Core.Bool.{Bool, true, false, cond, ◌&&◌, and-eq-true_iff}
use mathlib.Core.List.{List, [], ◌∷◌, ◌++◌}
use mathlib.Core.Option.{Option, none, some}
use native.Mathlib.Omega.{arith}
use lib.ListN.{length, take, drop, replicate, length-take, get_or-eq_default}
use lib.Seq.{take_at, append_snoc}
use lib.Dec.{eqb, ltb, leb}
use borrow.Author.Tests.{lt-ltb, le-ltb, le-leb, leb-true, eq-eqb, ne_eqb, eqb-true, eqb-false}
use Rattle.words.specs.Words.{words, Below}
use Rattle.words.proofs.Laws.{words_below, length_words}
use Rattle.names.specs.Names.{packed}
use Rattle.names.proofs.OneToOne.{pack_stored}
use Rattle.limits.specs.Limits.{dim_ok, size_ok, call_ok}
use Rattle.kinds.specs.Kinds.{is_cell}
use Rattle.headers.specs.Header.{type_at, size_at, name_first, name_second}
use Rattle.files.specs.Judge.{judge_of}
use Rattle.files.specs.Spots.{Spot, spots_of, spot_in, first_if}
use Rattle.grammar.proofs.Exact.{accepted_is}
use Rattle.entries.specs.Entries.{name_of, place_of, entries, image, shown, entries_ok}
use Rattle.entries.proofs.Laws.{length_entries, length_image, entries_image, length_shown}
use Rattle.sorting.specs.Order.{ordered, All}
use Rattle.sorting.proofs.Laws.{le_or_lt, all_cons, all_ordered, ordered_sorted}
use Rattle.sorting.proofs.Members.{sorted_members, times_ordered}
use Rattle.cells.specs.Cells.{Cell, cell_if, cell_here, cells_in, cells_of, cells_from, cells_between}
use Rattle.cells.specs.Index.{cell_entry, entries_of, index_of}
use Rattle.cells.proofs.Index.{index_bytes_lem}
use Rattle.cells.proofs.Whole.{judged_cells}
use Rattle.finder.specs.declared.Wanted.{Wanted}
use Rattle.finder.specs.declared.Wanted.TheVariants.{Live, WithDeleted}
use Rattle.finder.specs.Finder as finder
use Rattle.finder.specs.Finder.{has_name, is_wanted, is_hit, hit_if, find_by, find_of}
use Rattle.lookup.specs.LookUp.{halved, missing, name_number, look_up_by, look_up_of, looks_of}
use Rattle.lookup.specs.Live.{live_here, live_by, live_in, live_cell, step_to, go_on, look_on, live_look_by, live_look_up_of}
use Rattle.lookup.specs.Finding.{IndexHolds, IndexOnly, outcome, LookUpFinds, LiveLookUpFinds, LooksBound}
use Rattle.lookup.proofs.Named.{place_found, all_live, looks_bound, is_found, first_found, FileOrder, look_up_finds}
use Rattle.std.specs.Prelude.{Err, Ok, Result}
use Rattle.files.specs.Accepted.{accepted_with}
use Rattle.files.specs.declared.Accepted.{Accepted}
use Rattle.finder.specs.Found.{found_with, missed_with}
use Rattle.finder.specs.declared.Found.{Found}
use Rattle.finder.specs.declared.Missed.{Missed}
use Rattle.names.specs.declared.Name.{Name}
use Rattle.refusals.specs.declared.Refusal.{Refusal}

---- the index

pub index_holds : IndexHolds
unfolding index_of
index_holds dim ws =
    let es = entries_of (cells_of dim ws) in
    record { sorted = ordered_sorted es; members = λ e. times_ordered e es }

pub index_only : IndexOnly
unfolding index_of
index_only dim ws index h = sorted_members index (entries_of (cells_of dim ws)) h.sorted h.members

---- cells by rising places, none of them beyond a long

-- the cell's words are words, and its place lies from p on, before q
pub record Within (p q : ℕ) (c : Cell) : Type 0 where
  pub first : c.first < 65536
  pub second : c.second < 65536
  pub from : p ≤ c.place
  pub before : c.place < q

-- each of the cells, and none before the one that is listed before it
abbrev pub Rising : ℕ → ℕ → List Cell → Type 0
Rising p q [] = Unit {0}
Rising p q (c ∷ cs) = Within p q c × Rising c.place q cs

rising_weaken : (p p' q : ℕ) (cs : List Cell) → p' ≤ p → Rising p q cs → Rising p' q cs
rising_weaken p p' q [] l r = tt
rising_weaken p p' q (c ∷ cs) l r =
    let w = r.0 in
    let f = w.from in
    (record { first = w.first; second = w.second; from = omega arith; before = w.before }, r.1)

rising_up : (p q q' : ℕ) (cs : List Cell) → q ≤ q' → Rising p q cs → Rising p q' cs
rising_up p q q' [] h r = tt
rising_up p q q' (c ∷ cs) h r =
    let w = r.0 in
    let b = w.before in
    (record { first = w.first; second = w.second; from = w.from; before = omega arith }, rising_up c.place q q' cs h r.1)

module _ (ws : List ℕ) (small : Below 65536 ws) where
  rising_if : (b : Bool) (at q : ℕ) (cs : List Cell) → at < q → Rising at q cs →
      Rising at q (cell_if b (record { first = name_first ws at; second = name_second ws at; place = at }) ++ cs)
  rising_if true at q cs l r = (record { first = small _; second = small _; from = omega arith; before = l }, r)
  rising_if false at q cs l r = r

  rising_from : (n at q : ℕ) → Rising at q (cells_from n ws at q)
  unfolding cells_from cell_here
  rising_from zero at q = tt
  rising_from (suc n) at q =
      ⊎_elim
      (λ l. rw (le-ltb at q l) tt)
      (λ l. rw (lt-ltb at q l)
      (rising_if (is_cell (type_at ws at)) at q (cells_from n ws (at + size_at ws at) q) l
      (rising_weaken (at + size_at ws at) at q (cells_from n ws (at + size_at ws at) q) (omega arith) (rising_from n (at + size_at ws at) q))))
      (le_or_lt q at)

  pub rising_between : (from to : ℕ) → length ws ≤ 4294967296 → Rising from 4294967296 (cells_between ws from to)
  unfolding cells_between
  rising_between from to l =
      let end = min to (length ws) in
      rising_up from end 4294967296 (cells_from (suc (length ws)) ws from end) (omega arith) (rising_from (suc (length ws)) from end)

---- their entries

entry_place : (p : ℕ) (c : Cell) → Within p 4294967296 c → place_of (cell_entry c) ≡ c.place
entry_place p c w = let b = w.before in let s = w.second in omega arith

entry_name : (p : ℕ) (c : Cell) → Within p 4294967296 c → name_of (cell_entry c) ≡ name_number c.first c.second
entry_name p c w = let b = w.before in let s = w.second in omega arith

entry_small : (p : ℕ) (c : Cell) → Within p 4294967296 c → cell_entry c < 2 ^ 64
entry_small p c w = let a = w.first in let b = w.before in let s = w.second in omega arith

places_from : (p : ℕ) (cs : List Cell) → Rising p 4294967296 cs → All (λ e. p ≤ place_of e) (entries_of cs)
places_from p [] r = λ i h. absurd (omega arith)
places_from p (c ∷ cs) r =
    let w = r.0 in
    let f = w.from in
    let e = entry_place p c w in
    all_cons (λ x. p ≤ place_of x) (cell_entry c) (entries_of cs) (omega arith) (places_from p cs (rising_weaken c.place p 4294967296 cs f r.1))

order_cons : (e : ℕ) (l : List ℕ) → All (λ x. place_of e ≤ place_of x) l → FileOrder l → FileOrder (e ∷ l)
order_cons e l a o zero zero h g = omega arith
order_cons e l a o zero (suc j) h g = a j (omega arith)
order_cons e l a o (suc i) zero h g = absurd (omega arith)
order_cons e l a o (suc i) (suc j) h g = o i j (omega arith) (omega arith)

pub rising_order : (p : ℕ) (cs : List Cell) → Rising p 4294967296 cs → FileOrder (entries_of cs)
rising_order p [] r = λ i j h g. absurd (omega arith)
rising_order p (c ∷ cs) r =
    let e = entry_place p c r.0 in
    order_cons (cell_entry c) (entries_of cs) (subst (λ q. All (λ x. q ≤ place_of x) (entries_of cs)) (sym e) (places_from c.place cs r.1)) (rising_order c.place cs r.1)

all_small : (p : ℕ) (cs : List Cell) → Rising p 4294967296 cs → All (λ e. e < 2 ^ 64) (entries_of cs)
all_small p [] r = λ i h. absurd (omega arith)
all_small p (c ∷ cs) r = all_cons (λ e. e < 2 ^ 64) (cell_entry c) (entries_of cs) (entry_small p c r.0) (all_small c.place cs r.1)

below_all : (n : ℕ) (l : List ℕ) → 0 < n → All (λ e. e < n) l → Below n l
below_all n l h a i = ⊎_elim (λ g. let d = get_or-eq_default l 0 g in omega arith) (λ g. a i g) (le_or_lt (length l) i)

---- the finder's answer over the cells

module _ (ws : List ℕ) (w : Wanted) (live : ℕ → Bool) where
  -- the test by a place answers of each cell as the finder
  abbrev Agrees : List Spot → Type 0
  Agrees [] = Unit {0}
  Agrees (x ∷ xs) = (is_cell (type_at ws x.place) ≡ true → live x.place ≡ is_wanted w ws x.place) × Agrees xs

  module _ (a b : ℕ) (small : a < 65536) (low : b < 65536) where
    -- an entry has the name that its cell has
    name_test : (p : ℕ) (c : Cell) → Within p 4294967296 c → eqb (name_of (cell_entry c)) (name_number a b) ≡ (eqb c.first a && eqb c.second b)
    name_test p c k = go (eqb c.first a) refl (eqb c.second b) refl
      where
        go : (x : Bool) → eqb c.first a ≡ x → (y : Bool) → eqb c.second b ≡ y → eqb (name_of (cell_entry c)) (name_number a b) ≡ (x && y)
        go true f true g =
            let e = entry_name p c k in
            let u = eqb-true c.first a f in
            let v = eqb-true c.second b g in
            eq-eqb (name_of (cell_entry c)) (name_number a b) (omega arith)
        go true f false g =
            let e = entry_name p c k in
            let s = k.second in
            ne_eqb (name_of (cell_entry c)) (name_number a b) (λ q. eqb-false c.second b g (omega arith))
        go false f y g =
            let e = entry_name p c k in
            let s = k.second in
            ne_eqb (name_of (cell_entry c)) (name_number a b) (λ q. eqb-false c.first a f (omega arith))

    -- after n others, the first entry that is found is that of the first cell
    abbrev First : ℕ → List Spot → Type 0
    First n xs = (p : ℕ) → Rising p 4294967296 (cells_in ws xs) → first_found live (name_number a b) (entries_of (cells_in ws xs)) ≡ place_found (finder.first_named w ws a b n xs)

    pub named_first : (p n : ℕ) (xs : List Spot) → Agrees xs → Rising p 4294967296 (cells_in ws xs) →
        first_found live (name_number a b) (entries_of (cells_in ws xs)) ≡ place_found (finder.first_named w ws a b n xs)
    unfolding cell_here has_name is_hit
    named_first p n [] g r = refl
    named_first p n (x ∷ xs) g r = go (λ q. named_first q (n + 1) xs g.1) (is_cell (type_at ws x.place)) refl r
      where
        c : Cell
        c = record { first = name_first ws x.place; second = name_second ws x.place; place = x.place }

        one : Bool → Bool
        one t = (t && (eqb (name_first ws x.place) a && eqb (name_second ws x.place) b)) && is_wanted w ws x.place

        picked : (t : Bool) (o : Option ℕ) (f : Result Found Missed) → o ≡ place_found f → cond t (some x.place) o ≡ place_found (hit_if t x.place n f)
        picked true o f e = refl
        picked false o f e = e

        same_test : is_cell (type_at ws x.place) ≡ true → Within p 4294967296 c → is_found live (name_number a b) (cell_entry c) ≡ one true
        same_test e k = rw (entry_place p c k, g.0 e, name_test p c k) refl

        go : First (n + 1) xs → (t : Bool) → is_cell (type_at ws x.place) ≡ t → Rising p 4294967296 (cell_if t c ++ cells_in ws xs) →
            first_found live (name_number a b) (entries_of (cell_if t c ++ cells_in ws xs)) ≡ place_found (hit_if (one t) x.place n (finder.first_named w ws a b (n + 1) xs))
        go rest true e r =
            rw (same_test e r.0, entry_place p c r.0)
            (picked (one true) (first_found live (name_number a b) (entries_of (cells_in ws xs))) (finder.first_named w ws a b (n + 1) xs) (rest x.place r.1))
        go rest false e r = rest p r

---- an answer by its place

abbrev outcome_by : Option ℕ → List ℕ
outcome_by (some place) = 0 ∷ place ∷ []
outcome_by none = 13 ∷ 0 ∷ []

steps_outcome : (live : ℕ → Bool) (name : ℕ) (es : List ℕ) (n : ℕ) → outcome (go_on live name es n) ≡ outcome_by (place_found (go_on live name es n))
steps_outcome live name [] n = refl
steps_outcome live name (e ∷ es) n = go (eqb (name_of e) name) (live (place_of e)) (steps_outcome live name es (step_to name es n))
  where
    go : (b c : Bool) → outcome (go_on live name es (step_to name es n)) ≡ outcome_by (place_found (go_on live name es (step_to name es n))) →
        outcome (cond b (cond c (found_with (place_of e) n) (go_on live name es (step_to name es n))) (missing n)) ≡
        outcome_by (place_found (cond b (cond c (found_with (place_of e) n) (go_on live name es (step_to name es n))) (missing n)))
    go true true r = refl
    go true false r = r
    go false c r = refl

looked_outcome : (live : ℕ → Bool) (es : List ℕ) (name : ℕ) → outcome (look_on live es name) ≡ outcome_by (place_found (look_on live es name))
unfolding look_on
looked_outcome live es name = go (ltb (halved es name).low (length es))
  where
    go : (b : Bool) →
        outcome (cond b (go_on live name (drop (halved es name).low es) ((halved es name).looks + 1)) (missing (halved es name).looks)) ≡
        outcome_by (place_found (cond b (go_on live name (drop (halved es name).low es) ((halved es name).looks + 1)) (missing (halved es name).looks)))
    go true = steps_outcome live name (drop (halved es name).low es) ((halved es name).looks + 1)
    go false = refl

first_outcome : (w : Wanted) (ws : List ℕ) (a b n : ℕ) (xs : List Spot) → outcome (finder.first_named w ws a b n xs) ≡ outcome_by (place_found (finder.first_named w ws a b n xs))
first_outcome w ws a b n [] = refl
first_outcome w ws a b n (x ∷ xs) = go (first_outcome w ws a b (n + 1) xs) (is_hit w ws x.place a b)
  where
    go : outcome (finder.first_named w ws a b (n + 1) xs) ≡ outcome_by (place_found (finder.first_named w ws a b (n + 1) xs)) → (t : Bool) →
        outcome (hit_if t x.place n (finder.first_named w ws a b (n + 1) xs)) ≡ outcome_by (place_found (hit_if t x.place n (finder.first_named w ws a b (n + 1) xs)))
    go rest true = refl
    go rest false = rest

---- the bytes of an index

-- the entries of the used bytes
held : (n : ℕ) (es : List ℕ) → Below (2 ^ 64) es → entries (take (8 * length es) (shown n es)) ≡ es
unfolding shown
held n es b = ap entries (take_at (image es) (replicate (n - 8 * length es) 0) (8 * length es) (length_image es)) ∙ entries_image es b

used_ok : (n : ℕ) (es : List ℕ) → 8 * length es ≤ n → entries_ok (length (shown n es)) (8 * length es) ≡ true
used_ok n es h =
    let l = length_shown n es h in
    (and-eq-true_iff _ _).1 (eq-eqb (8 * length es % 8) 0 (omega arith), le-leb (8 * length es) (length (shown n es)) (omega arith))

---- over the index of an accepted file

module _ (dim : ℕ) (s : List ℕ) (e d m : ℕ) (below : Below 256 s) (q : judge_of dim s ≡ accepted_with e d m) where
  most : length (words s) ≤ 4294967296
  unfolding call_ok
  most =
      let c = ((and-eq-true_iff (dim_ok dim) (size_ok (length s))).0 (accepted_is dim s e d m q).call).1 in
      let l = leb-true (length s) 1048576 ((and-eq-true_iff (eqb (length s % 2) 0) (leb (length s) 1048576)).0 c).1 in
      let w = length_words s in
      omega arith

  rises : Rising 0 4294967296 (cells_of dim (words s))
  rises = subst (Rising 0 4294967296) (sym (judged_cells dim s e d m q)) (rising_between (words s) (words_below s below) 0 m most)

  small : Below (2 ^ 64) (index_of dim (words s))
  unfolding index_of
  small =
      let es = entries_of (cells_of dim (words s)) in
      below_all (2 ^ 64) (ordered es) (omega arith) (all_ordered (λ x. x < 2 ^ 64) es (all_small 0 (cells_of dim (words s)) rises))

  -- by any test that agrees with the finder's
  found_by : (w : Wanted) (live : ℕ → Bool) (a b : ℕ) → a < 65536 → b < 65536 → Agrees (words s) w live (spots_of dim (words s)) →
      outcome (look_on live (index_of dim (words s)) (name_number a b)) ≡ outcome (finder.first_named w (words s) a b 0 (spots_of dim (words s)))
  unfolding index_of cells_of
  found_by w live a b u v g =
      let cs = cells_of dim (words s) in
      looked_outcome live (ordered (entries_of cs)) (name_number a b)
      ∙ ap outcome_by (look_up_finds live (name_number a b) (entries_of cs) (rising_order 0 cs rises) ∙ named_first (words s) w live a b u v 0 0 (spots_of dim (words s)) g rises)
      ∙ sym (first_outcome w (words s) a b 0 (spots_of dim (words s)))

---- with deleted cells: every entry is wanted

all_agree : (ws : List ℕ) (xs : List Spot) → Agrees ws WithDeleted (λ p. true) xs
all_agree ws [] = tt
all_agree ws (x ∷ xs) = (λ e. refl, all_agree ws xs)

found_as : (dim : ℕ) (s : List ℕ) (e d m : ℕ) → Below 256 s → judge_of dim s ≡ accepted_with e d m → (t : List ℕ) (p : Result Name Refusal) → packed t ≡ p →
    outcome (look_up_by p (index_of dim (words s))) ≡ outcome (find_by WithDeleted (accepted_with e d m) p (words s) (spots_of dim (words s)))
found_as dim s e d m below q t (Err refusal) i = refl
found_as dim s e d m below q t (Ok name) i =
    let st = pack_stored t name.first name.second i in
    ap outcome (all_live (index_of dim (words s)) (name_number name.first name.second))
    ∙ found_by dim s e d m below q WithDeleted (λ p. true) name.first name.second st.first st.second (all_agree (words s) (spots_of dim (words s)))

pub look_up_file : LookUpFinds
unfolding look_up_of find_of
look_up_file dim s n t e d m below q fits =
    let size = index_bytes_lem dim (words s) in
    rw (size, used_ok n (index_of dim (words s)) (omega arith), held n (index_of dim (words s)) (small dim s e d m below q), q) (found_as dim s e d m below q t (packed t) refl)

---- without them: an entry is live where its cell is

-- the element that starts at a place of the list
starts_there : (xs ys : List Spot) (x : Spot) (ws : List ℕ) → live_in (xs ++ (x ∷ ys)) ws x.place ≡ live_here ws x.place
starts_there [] ys x ws = rw (eq-eqb x.place x.place refl) refl
starts_there (y ∷ xs) ys x ws = go (eqb y.place x.place) (starts_there xs ys x ws)
  where
    go : (b : Bool) → live_in (xs ++ (x ∷ ys)) ws x.place ≡ live_here ws x.place →
        live_by (first_if b y (spot_in (xs ++ (x ∷ ys)) x.place)) ws x.place ≡ live_here ws x.place
    go true r = refl
    go false r = r

live_agree : (dim : ℕ) (ws : List ℕ) (past xs : List Spot) → spots_of dim ws ≡ past ++ xs → Agrees ws Live (live_cell dim ws) xs
unfolding live_cell
live_agree dim ws past [] e = tt
live_agree dim ws past (x ∷ xs) e =
    (λ c. ap (λ l. live_in l ws x.place) e ∙ starts_there past xs x ws ∙ rw c refl, live_agree dim ws (past ++ (x ∷ [])) xs (e ∙ sym (append_snoc past x xs)))

pub live_look_up_file : LiveLookUpFinds
unfolding live_look_up_of find_of
live_look_up_file dim s n t below fits =
    let size = index_bytes_lem dim (words s) in
    rw (size, used_ok n (index_of dim (words s)) (omega arith)) (go (judge_of dim s) refl (packed t) refl)
  where
    go : (j : Result Accepted Refusal) → judge_of dim s ≡ j → (p : Result Name Refusal) → packed t ≡ p →
        outcome (live_look_by j p (live_cell dim (words s)) (entries (take (8 * length (index_of dim (words s))) (shown n (index_of dim (words s)))))) ≡
        outcome (find_by Live j p (words s) (spots_of dim (words s)))
    go (Err refusal) q r i = refl
    go (Ok file) q (Err refusal) i = refl
    go (Ok file) q (Ok name) i =
        let st = pack_stored t name.first name.second i in
        rw (held n (index_of dim (words s)) (small dim s file.elements file.deepest file.marker below q))
        (found_by dim s file.elements file.deepest file.marker below q Live (live_cell dim (words s)) name.first name.second st.first st.second (live_agree dim (words s) [] (spots_of dim (words s)) refl))

---- the bound, over any bytes

pub entries_few : (used : ℕ) (s : List ℕ) (d : ℕ) → used / 8 < 2 ^ d → length (entries (take used s)) < 2 ^ d
entries_few used s d h =
    let l = length_entries (take used s) in
    let k = length-take used s in
    omega arith

pub looks_any : LooksBound
unfolding look_up_of
looks_any s used t d h = go (entries_ok (length s) used) (packed t)
  where
    go : (b : Bool) (p : Result Name Refusal) → looks_of (cond b (look_up_by p (entries (take used s))) (missed_with 1 0 0)) ≤ d + 1
    go false p = omega arith
    go true (Err refusal) = omega arith
    go true (Ok name) = looks_bound (entries (take used s)) (name_number name.first name.second) d (entries_few used s d h)
