-- A mark of a direct component takes it out of the live ones: the others stand before it or behind its extent, so their words, and the
-- cell's, are as they were.
use Prim.Native.Nat.{ℕ, ◌+◌, ◌≤◌, ◌<◌}
use mathlib.Core.Path.{◌≡◌, refl, sym, ap, ◌∙◌, subst}
use mathlib.Core.Bool.{Bool, true, false}
use mathlib.Core.List.{List, [], ◌∷◌, ◌++◌}
use mathlib.Core.Option.{Option, none, some}
use native.Mathlib.Nat.{add-zero}
use native.Mathlib.Omega.{arith}
use lib.Seq.{ext_get_or}
use lib.Dec.{eqb}
use borrow.Author.Tests.{eqb-true, eq-eqb, ne_eqb}
use Rattle.std.specs.Prelude.{Ok}
use Rattle.words.specs.Words.{word_at, Below}
use Rattle.kinds.specs.FirstWord.{type_of, deleted_of}
use Rattle.kinds.specs.Kinds.{is_cell, name_word}
use Rattle.headers.specs.Header.{type_at, size_at, sizing_at, extent_words}
use Rattle.files.specs.Spots.{Spot, first_if, spots_of, spot_in}
use Rattle.finder.specs.Finder.{is_live}
use Rattle.edits.specs.Edits.{mark, flagged, extent_in}
use Rattle.edits.specs.Allowed.{Fault?, fine, fault, or_else, unless, starts_at, flag_differs, mark_fault, edit_fault}
use Rattle.edits.specs.Calls.{Session, mark_call, words_of, step}
use Rattle.edits.specs.Book.{was_refused}
use Rattle.edits.specs.Demand.{used_bytes}
use Rattle.edits.specs.Marks.{MarkedIn, after_mark}
use Rattle.promises.specs.Components.{FoundAt, is_under, place_if, direct_places, Behind, Composed}
use Rattle.promises.proofs.Promises.{extent_two, place_found, components_are, made_exactly, mark_marks, mark_judged, mark_elements}
use Rattle.plates.specs.declared.Plate.{Plate}
use Rattle.plates.specs.Kinds.{is_kind}
use Rattle.plates.specs.Plates.{live_among, live_direct, count_of, levels_at, plate_on, plate_at, counts_of, plate_of}
use Rattle.plates.specs.Promises.{OneMore, Lowered, MarkLowers}
use Rattle.plates.proofs.Here.{name_word_lem}
use Rattle.plates.proofs.Counts.{counts_are, counted_in}
use Rattle.plates.proofs.Given.{Cell, cell_of, plate_given}
use Rattle.plates.proofs.Fixed.{cell_fixed}

---- the element among the direct components

record Split (qs : List ℕ) (p : ℕ) : Type 0 where
  before : List ℕ
  after : List ℕ
  is : qs ≡ before ++ (p ∷ after)

none_some : {x : Spot} → ◌≡◌ {A = Option Spot} none (some x) → ⊥
none_some e = let z : ◌≡◌ {A = ℕ} 0 1 = cc in omega arith

direct_has : (xs : List Spot) (p h : ℕ) (x : Spot) → spot_in xs p ≡ some x → x.header ≡ some h → Split (direct_places xs h) p
direct_has [] p h x f u = absurd (none_some f)
direct_has (y ∷ xs) p h x f u = go (eqb y.place p) refl f (λ g. direct_has xs p h x g u)
  where
    later : (b : Bool) → Split (direct_places xs h) p → Split (place_if b y.place (direct_places xs h)) p
    later true s = record { before = y.place ∷ s.before; after = s.after; is = ap (λ l. y.place ∷ l) s.is }
    later false s = s

    go : (b : Bool) → eqb y.place p ≡ b → first_if b y (spot_in xs p) ≡ some x → (spot_in xs p ≡ some x → Split (direct_places xs h) p) → Split (direct_places (y ∷ xs) h) p
    go true e f k =
        let same : y ≡ x = cc in
        let under : is_under y.header h ≡ true = ap (λ o. is_under o h) (ap (λ (z : Spot). z.header) same ∙ u) ∙ eq-eqb h h refl in
        record { before = []; after = direct_places xs h; is = rw under (ap (λ q. q ∷ direct_places xs h) (eqb-true y.place p e)) }
    go false e f k = later (is_under y.header h) (k f)

---- those before it, and those behind its extent

abbrev Each : (ℕ → Type 0) → List ℕ → Type 0
Each P [] = Unit {0}
Each P (q ∷ qs) = P q × Each P qs

each_map : {P Q : ℕ → Type 0} → ((q : ℕ) → P q → Q q) → (qs : List ℕ) → Each P qs → Each Q qs
each_map f [] e = tt
each_map f (q ∷ qs) e = (f q e.0, each_map f qs e.1)

module _ (ws : List ℕ) (end : ℕ) where
  -- elements one behind another stand from the first place on
  behind_from : (low here : ℕ) (qs : List ℕ) → low ≤ here → Behind ws here qs end → Each (λ q. low ≤ q) qs
  behind_from low here [] l b = tt
  behind_from low here (q ∷ qs) l b = (omega arith, behind_from low (here + extent_words ws here) qs (omega arith) b.1)

  record Sides (here p : ℕ) (before after : List ℕ) : Type 0 where
    from : here ≤ p
    low : Each (λ q. q < p) before
    high : Each (λ q. p + extent_words ws p ≤ q) after

  sides : (here p : ℕ) (before after : List ℕ) → Behind ws here (before ++ (p ∷ after)) end → Sides here p before after
  sides here p [] after b =
      let e = b.0 in
      record { from = omega arith; low = tt; high = rw e (behind_from (here + extent_words ws here) (here + extent_words ws here) after (omega arith) b.1) }
  sides here p (q ∷ before) after b =
      let s = sides (here + extent_words ws here) p before after b.1 in
      let t = extent_two ws here in
      let f = s.from in
      record { from = omega arith; low = (omega arith, s.low); high = s.high }

---- words that are the same at some places

module _ (ws vs : List ℕ) where
  abbrev Same : ℕ → Type 0
  Same q = word_at vs q ≡ word_at ws q

  live_same : (qs : List ℕ) → Each Same qs → live_among vs qs ≡ live_among ws qs
  live_same [] e = refl
  live_same (q ∷ qs) e = rw (e.0, live_same qs e.1) refl

  live_append : (us : List ℕ) (qs rs : List ℕ) → live_among us (qs ++ rs) ≡ live_among us qs ++ live_among us rs
  live_append us [] rs = refl
  live_append us (q ∷ qs) rs = go (is_live us q) (live_append us qs rs)
    where
      go : (b : Bool) → live_among us (qs ++ rs) ≡ live_among us qs ++ live_among us rs → place_if b q (live_among us (qs ++ rs)) ≡ place_if b q (live_among us qs) ++ live_among us rs
      go true r = ap (λ l. q ∷ l) r
      go false r = r

  each_append : (P : ℕ → Type 0) (qs rs : List ℕ) → Each P qs → Each P rs → Each P (qs ++ rs)
  each_append P [] rs e f = f
  each_append P (q ∷ qs) rs e f = (e.0, each_append P qs rs e.1 f)

  each_live : (qs : List ℕ) → Each Same qs → Each Same (live_among ws qs)
  each_live [] e = tt
  each_live (q ∷ qs) e = go (is_live ws q) (each_live qs e.1)
    where
      go : (b : Bool) → Each Same (live_among ws qs) → Each Same (place_if b q (live_among ws qs))
      go true r = (e.0, r)
      go false r = r

  count_same : (kind : ℕ → Bool) (qs : List ℕ) → Each Same qs → count_of kind vs qs ≡ count_of kind ws qs
  count_same kind [] e = refl
  count_same kind (q ∷ qs) e = rw (e.0, count_same kind qs e.1) refl

  plates_same : (at : ℕ) (qs : List ℕ) → Each Same qs → counts_of (plate_on vs at qs) ≡ counts_of (plate_on ws at qs)
  plates_same at qs e = ext_get_or 0 (counts_of (plate_on vs at qs)) (counts_of (plate_on ws at qs)) refl
      (λ k l. counts_are vs at qs k ∙ count_same (is_kind k) qs e ∙ sym (counts_are ws at qs k))

---- a mark that is made

flag_dead : (w : ℕ) → deleted_of (flagged true w) ≡ 1
flag_dead w = omega arith

-- it was live
was_live : (f : Fault?) (w : ℕ) → or_else f (unless (flag_differs true w) 14) ≡ fine → eqb (deleted_of w) 0 ≡ true
was_live (fault n q) w e = let z : ◌≡◌ {A = ℕ} 0 1 = cc in absurd (omega arith)
was_live fine w e = go (eqb (deleted_of w) 0) e
  where
    go : (b : Bool) → unless b 14 ≡ fine → b ≡ true
    go true e = refl
    go false e = let z : ◌≡◌ {A = ℕ} 0 1 = cc in absurd (omega arith)

module _ (dim : ℕ) (s : Session) (p h : ℕ) (x : Spot) (plate : Plate) (below : Below 256 s.file) (made : was_refused (step dim s (mark_call p true)).answer ≡ false)
    (found : spot_in (spots_of dim (words_of s)) p ≡ some x) (under : x.header ≡ some h) (counted : plate_of dim (used_bytes s) h ≡ Ok plate) where
  abbrev ws : List ℕ
  ws = words_of s

  abbrev vs : List ℕ
  vs = words_of (after_mark dim s p true)

  abbrev xs : List Spot
  xs = spots_of dim ws

  cell : Cell dim (used_bytes s) h plate
  cell = cell_of dim (used_bytes s) h plate counted

  there : FoundAt dim (used_bytes s) h cell.end
  there = place_found dim (used_bytes s) h cell.end cell.depth cell.above cell.found

  composed : Composed dim ws h there.spot
  composed = components_are dim (used_bytes s) there.elements there.deepest there.marker h there.spot there.judged there.is

  component : Composed dim ws p x
  component = components_are dim (used_bytes s) there.elements there.deepest there.marker p x there.judged found

  parts : Split (direct_places xs h) p
  parts = direct_has xs p h x found under

  stand : Sides ws there.spot.end (h + size_at ws h) p parts.before parts.after
  stand =
      sides ws there.spot.end (h + size_at ws h) p parts.before parts.after
      (subst (λ qs. Behind ws (h + size_at ws h) qs there.spot.end) parts.is composed.components)

  marked : MarkedIn dim ws p true vs
  marked = mark_marks dim s p true below made

  extent_is : extent_in xs p ≡ extent_words ws p
  extent_is = let a = component.place in let b = component.extent in rw found (omega arith)

  low_same : (q : ℕ) → q < p → Same ws vs q
  low_same q l = marked.others q (λ i. let f = i.from in omega arith)

  high_same : (q : ℕ) → p + extent_words ws p ≤ q → Same ws vs q
  high_same q l = marked.others q (λ i. let b = i.before in let e = extent_is in omega arith)

  before_same : Each (Same ws vs) parts.before
  before_same = each_map (λ q. low_same q) parts.before stand.low

  after_same : Each (Same ws vs) parts.after
  after_same = each_map (λ q. high_same q) parts.after stand.high

  -- the component was live and is not
  live_then : is_live ws p ≡ true
  unfolding edit_fault mark_fault
  live_then = was_live (unless (starts_at xs p) 13) (word_at ws p) ((made_exactly dim s (mark_call p true) (mark p true) refl).0 made).own

  dead_now : is_live vs p ≡ false
  dead_now =
      let e = extent_is in
      let t = extent_two ws p in
      let w = marked.flags p (record { starts = rw found refl; from = omega arith; before = omega arith }) in
      rw w (ne_eqb (deleted_of (flagged true (word_at ws p))) 0 (λ z. let d = flag_dead (word_at ws p) in omega arith))

  abbrev front : List ℕ
  front = live_among ws parts.before

  abbrev back : List ℕ
  back = live_among ws parts.after

  then_is : live_direct dim ws h ≡ front ++ (p ∷ back)
  unfolding live_direct
  then_is = ap (live_among ws) parts.is ∙ live_append ws vs ws parts.before (p ∷ parts.after) ∙ rw live_then refl

  now_is : live_direct dim vs h ≡ front ++ back
  unfolding live_direct
  now_is =
      ap (λ ys. live_among vs (direct_places ys h)) (mark_elements dim s p true below made) ∙ ap (live_among vs) parts.is ∙ live_append ws vs vs parts.before (p ∷ parts.after)
      ∙ rw (dead_now, live_same ws vs parts.before before_same, live_same ws vs parts.after after_same) refl

  lives_same : Each (Same ws vs) (front ++ back)
  lives_same = each_append ws vs (Same ws vs) front back (each_live ws vs parts.before before_same) (each_live ws vs parts.after after_same)

  -- the words of the cell up to its masks stand before the component
  own_same : (i : ℕ) → i < 35 → Same ws vs (h + i)
  own_same i l =
      let a = composed.fixed in
      let b = cell_fixed dim (type_at ws h) (sizing_at dim ws h) cell.cell in
      let c = stand.from in
      low_same (h + i) (omega arith)

  type_same : type_at vs h ≡ type_at ws h
  type_same = let z : h + 0 ≡ h = omega arith in ap type_of (rw z at (own_same 0 (omega arith)))

  name_same : (k : ℕ) → k ≤ 1 → word_at vs (h + name_word (type_at vs h) + k) ≡ word_at ws (h + name_word (type_at ws h) + k)
  name_same k l =
      let n = name_word_lem (type_at ws h) (name_word (type_at ws h)) refl in
      let z : h + (name_word (type_at ws h) + k) ≡ h + name_word (type_at ws h) + k = omega arith in
      ap (λ t. word_at vs (h + name_word t + k)) type_same ∙ rw z at (own_same (name_word (type_at ws h) + k) (omega arith))

  levels_same : levels_at vs h ≡ levels_at ws h
  unfolding levels_at
  levels_same = rw (own_same 22 (omega arith), own_same 23 (omega arith), own_same 24 (omega arith), own_same 25 (omega arith)) refl

  now_counted : plate_of dim (used_bytes (after_mark dim s p true)) h ≡ Ok (plate_at dim vs h)
  now_counted =
      (plate_given dim (used_bytes (after_mark dim s p true)) h there.elements there.deepest there.marker there.spot (mark_judged dim s p true below made ∙ there.judged)
      (ap (λ ys. spot_in ys h) (mark_elements dim s p true below made) ∙ there.is)).cell (ap is_cell type_same ∙ cell.cell)

  lowered : Lowered dim (used_bytes s) (used_bytes (after_mark dim s p true)) h p plate
  lowered =
      let one = counted_in ws h p front back in
      let was : counts_of plate ≡ counts_of (plate_on ws h (front ++ (p ∷ back))) = ap counts_of (cell.is ∙ ap (plate_on ws h) then_is) in
      let now : counts_of (plate_at dim vs h) ≡ counts_of (plate_on ws h (front ++ back)) = ap (λ qs. counts_of (plate_on vs h qs)) now_is ∙ plates_same ws vs h (front ++ back) lives_same in
      record {
        after = plate_at dim vs h;
        is = now_counted;
        kind = one.kind;
        of_kind = one.of_kind;
        less = subst (λ a. OneMore (counts_of (plate_at dim vs h)) a one.kind) (sym was) (subst (λ b. OneMore b (counts_of (plate_on ws h (front ++ (p ∷ back)))) one.kind) (sym now) one.counted);
        first = simp add-zero at (name_same 0 (omega arith)) ∙ sym (ap (λ (a : Plate). a.first) cell.is);
        second = name_same 1 (omega arith) ∙ sym (ap (λ (a : Plate). a.second) cell.is);
        levels = levels_same ∙ sym (ap (λ (a : Plate). a.levels) cell.is);
      }

pub mark_lowers : MarkLowers
mark_lowers = lowered
