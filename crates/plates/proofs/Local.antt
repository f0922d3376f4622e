-- A plate reads words of its cell's extent alone: each component stands in the extent, and of it are read its first two words and, of a
-- header, its total.
use Prim.Native.Nat.{ℕ, ◌+◌, ◌-◌, ◌*◌, ◌≤◌, ◌<◌}
use mathlib.Core.Path.{◌≡◌, refl, sym, ap, ap₂, ◌∙◌, subst}
use mathlib.Core.Bool.{Bool, true, false, cond}
use mathlib.Core.List.{List, [], ◌∷◌}
use native.Mathlib.Omega.{arith}
use lib.ListN.{length, take, drop, length-drop}
use lib.Seq.{get_or-take, get_or-drop, length-take-le}
use Rattle.std.specs.Prelude.{Ok}
use Rattle.words.specs.Words.{words, word_at}
use Rattle.kinds.specs.FirstWord.{type_of, bit}
use Rattle.kinds.specs.Kinds.{is_pointed, is_curve, is_header, name_word}
use Rattle.headers.specs.Header.{type_at, size_at, sizing_at, extent_at, extent_words}
use Rattle.files.specs.Spots.{spots_of}
use Rattle.places.specs.Extents.{extent_answer, extent_bytes}
use Rattle.finder.specs.Finder.{is_live}
use Rattle.promises.specs.Components.{place_if, direct_places, Behind}
use Rattle.promises.proofs.Promises.{words_part, extent_two, place_found, components_are}
use Rattle.plates.specs.declared.Plate.{Plate}
use Rattle.plates.specs.Kinds.{is_line, is_text, is_other}
use Rattle.plates.specs.Plates.{live_among, live_direct, count_of, levels_at, plate_on, plate_of}
use Rattle.plates.specs.Promises.{PlateLocal}
use Rattle.plates.proofs.Hops.{behind_by}
use Rattle.plates.proofs.Here.{name_word_lem}
use Rattle.plates.proofs.Fixed.{cell_fixed}
use Rattle.plates.proofs.Given.{cell_of}

---- two lists of words that agree from one place on in each, for n words

abbrev Agree : List ℕ → ℕ → List ℕ → ℕ → ℕ → Type 0
Agree ws p vs q n = (i : ℕ) → i < n → word_at ws (p + i) ≡ word_at vs (q + i)

-- an extent by its test
words_by : (ws : List ℕ) (at : ℕ) (b : Bool) → is_header (type_at ws at) ≡ b → extent_words ws at ≡ cond b (extent_at ws at) (size_at ws at)
unfolding extent_words
words_by ws at b e = rw e refl

---- the components

module _ (ws vs : List ℕ) where
  -- one element more in each list, with the same first word
  live_step : (kind : ℕ → Bool) (a b : ℕ) (qs rs : List ℕ) → word_at ws a ≡ word_at vs b → count_of kind ws (live_among ws qs) ≡ count_of kind vs (live_among vs rs) →
      count_of kind ws (live_among ws (a ∷ qs)) ≡ count_of kind vs (live_among vs (b ∷ rs))
  live_step kind a b qs rs w r = rw w (go (is_live vs b))
    where
      go : (t : Bool) → count_of kind ws (place_if t a (live_among ws qs)) ≡ count_of kind vs (place_if t b (live_among vs rs))
      go true = ap₂ (λ m n. bit (kind m) + n) (ap type_of w) r
      go false = r

  module _ (p q n : ℕ) (agree : Agree ws p vs q n) where
    word_there : (k here there i : ℕ) → here ≡ p + k → there ≡ q + k → k + i < n → word_at ws (here + i) ≡ word_at vs (there + i)
    word_there k here there i a b h =
        let x : here + i ≡ p + (k + i) = omega arith in
        let y : there + i ≡ q + (k + i) = omega arith in
        ap (word_at ws) x ∙ agree (k + i) h ∙ ap (word_at vs) (sym y)

    first_there : (k here there : ℕ) → here ≡ p + k → there ≡ q + k → k < n → word_at ws here ≡ word_at vs there
    first_there k here there a b h = ap (word_at ws) a ∙ agree k h ∙ ap (word_at vs) (sym b)

    extent_there : (k here there : ℕ) → here ≡ p + k → there ≡ q + k → here + extent_words ws here ≤ p + n → extent_words ws here ≡ extent_words vs there
    extent_there k here there a b l = go (is_header (type_at ws here)) refl
      where
        first : k < n → type_at ws here ≡ type_at vs there
        first h = ap type_of (first_there k here there a b h)

        go : (t : Bool) → is_header (type_at ws here) ≡ t → extent_words ws here ≡ extent_words vs there
        go true e =
            let x = words_by ws here true e in
            let f = first (omega arith) in
            let y = words_by vs there true (ap is_header (sym f) ∙ e) in
            let w = word_there k here there 18 a b (omega arith) in
            omega arith
        go false e =
            let x = words_by ws here false e in
            let f = first (omega arith) in
            let y = words_by vs there false (ap is_header (sym f) ∙ e) in
            let w = word_there k here there 1 a b (omega arith) in
            omega arith

    live_same : (k here there : ℕ) (qs rs : List ℕ) → here ≡ p + k → there ≡ q + k → Behind ws here qs (p + n) → Behind vs there rs (q + n) →
        (kind : ℕ → Bool) → count_of kind ws (live_among ws qs) ≡ count_of kind vs (live_among vs rs)
    live_same k here there [] [] a b c d kind = refl
    live_same k here there [] (r ∷ rs) a b c d kind =
        let t = extent_two vs there in
        let y = behind_by vs (q + n) (there + extent_words vs there) rs d.1 in
        absurd (omega arith)
    live_same k here there (x ∷ qs) [] a b c d kind =
        let t = extent_two ws here in
        let y = behind_by ws (p + n) (here + extent_words ws here) qs c.1 in
        absurd (omega arith)
    live_same k here there (x ∷ qs) (r ∷ rs) a b c d kind =
        let t = extent_two ws here in
        let y = behind_by ws (p + n) (here + extent_words ws here) qs c.1 in
        let e = extent_there k here there a b (omega arith) in
        let w : word_at ws x ≡ word_at vs r = ap (word_at ws) c.0 ∙ first_there k here there a b (omega arith) ∙ ap (word_at vs) (sym d.0) in
        live_step kind x r qs rs w (live_same (k + extent_words ws here) (here + extent_words ws here) (there + extent_words vs there) qs rs (omega arith) (omega arith) c.1 d.1 kind)

    -- of cells there, with their components
    plate_same : 35 ≤ n → (qs rs : List ℕ) → Behind ws (p + size_at ws p) qs (p + n) → Behind vs (q + size_at vs q) rs (q + n) → plate_on ws p (live_among ws qs) ≡ plate_on vs q (live_among vs rs)
    unfolding levels_at
    plate_same fixed qs rs own other =
        let t : type_at ws p ≡ type_at vs q = ap type_of (first_there 0 p q (omega arith) (omega arith) (omega arith)) in
        let z = name_word_lem (type_at ws p) (name_word (type_at ws p)) refl in
        let a = agree 1 (omega arith) in
        let count = live_same (size_at ws p) (p + size_at ws p) (q + size_at vs q) qs rs refl (omega arith) own other in
        let first = agree (name_word (type_at ws p)) (omega arith) ∙ ap (λ k. word_at vs (q + name_word k)) t in
        let second = word_there (name_word (type_at ws p)) (p + name_word (type_at ws p)) (q + name_word (type_at ws p)) 1 refl refl (omega arith) ∙ ap (λ k. word_at vs (q + name_word k + 1)) t in
        let levels : levels_at ws p ≡ levels_at vs q = rw (agree 22 (omega arith), agree 23 (omega arith), agree 24 (omega arith), agree 25 (omega arith)) refl in
        λ i. record {
          first = first i;
          second = second i;
          lines = count is_line i;
          pointed = count is_pointed i;
          texts = count is_text i;
          curves = count is_curve i;
          headers = count is_header i;
          others = count is_other i;
          levels = levels i;
        }

---- cells with the same bytes

-- a cell that is found: its extent of n words, in which its components stand
record Held (dim : ℕ) (s : List ℕ) (at : ℕ) : Type 0 where
  n : ℕ
  fixed : 35 ≤ n
  inside : at + n ≤ length (words s)
  bytes : words (extent_bytes dim s at) ≡ take n (drop at (words s))
  components : Behind (words s) (at + size_at (words s) at) (direct_places (spots_of dim (words s)) at) (at + n)

held : (dim : ℕ) (s : List ℕ) (at : ℕ) (a : Plate) → plate_of dim s at ≡ Ok a → Held dim s at
unfolding extent_bytes extent_answer
held dim s at a q =
    let c = cell_of dim s at a q in
    let g = place_found dim s at c.end c.depth c.above c.found in
    let x = components_are dim s g.elements g.deepest g.marker at g.spot g.judged g.is in
    let end = g.ends in
    let f = cell_fixed dim (type_at (words s) at) (sizing_at dim (words s) at) c.cell in
    let own = x.own in
    let fixed = x.fixed in
    let two : 2 * c.end - 2 * at ≡ 2 * (c.end - at) = omega arith in
    let whole : g.spot.end ≡ at + (c.end - at) = omega arith in
    record {
      n = c.end - at;
      fixed = omega arith;
      inside = let i = x.inside in omega arith;
      bytes = rw (c.found, two) (words_part (c.end - at) at s);
      components = subst (Behind (words s) (at + size_at (words s) at) (direct_places (spots_of dim (words s)) at)) whole x.components;
    }

-- the words of a part that is inside are those of the whole
part_word : (n at : ℕ) (ws : List ℕ) (i : ℕ) → i < n → word_at (take n (drop at ws)) i ≡ word_at ws (at + i)
part_word n at ws i h = get_or-take n (drop at ws) i 0 h ∙ get_or-drop at ws i 0

part_long : (n at : ℕ) (ws : List ℕ) → at + n ≤ length ws → length (take n (drop at ws)) ≡ n
part_long n at ws h = let d = length-drop at ws in length-take-le n (drop at ws) (omega arith)

pub plate_local : PlateLocal
unfolding live_direct
plate_local dim dim' s t p q a b x y same =
    let h = held dim s p a x in
    let k = held dim' t q b y in
    let ws = words s in
    let vs = words t in
    let part : take h.n (drop p (words s)) ≡ take k.n (drop q (words t)) = sym h.bytes ∙ ap words same ∙ k.bytes in
    let long : k.n ≡ h.n = sym (part_long k.n q vs k.inside) ∙ ap length (sym part) ∙ part_long h.n p ws h.inside in
    let agree : Agree (words s) p (words t) q h.n =
    (λ i l. sym (part_word h.n p ws i l) ∙ ap (λ l. word_at l i) part ∙ part_word k.n q vs i (omega arith)) in
    let other = subst (λ n. Behind (words t) (q + size_at (words t) q) (direct_places (spots_of dim' (words t)) q) (q + n)) long k.components in
    (cell_of dim s p a x).is ∙ plate_same ws vs p q h.n agree h.fixed (direct_places (spots_of dim ws) p) (direct_places (spots_of dim' vs) q) h.components other ∙ sym (cell_of dim' t q b y).is
