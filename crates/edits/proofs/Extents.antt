-- The elements of an extent: where they start, and the tree with other deleted flags, which has the same places, sizes,
-- types, totals, counts and names.
use Prim.Native.Nat.{ℕ, suc, ◌+◌, ◌*◌, ◌≤◌}
use native.Mathlib.Omega.{arith}
use mathlib.Core.Path.{◌≡◌, refl, sym, ap, ◌∙◌}
use mathlib.Core.Bool.{Bool, true, false, ◌&&◌, and-false}
use mathlib.Core.List.{List, [], ◌∷◌, ◌++◌, append-nil, append_assoc}
use mathlib.Core.Option.{Option, some}
use lib.ListN.{length, drop, length-append}
use lib.Dec.{leb, ltb}
use borrow.Author.Tests.{lt-ltb, le-ltb, le-leb, lt-leb}
use Rattle.headers.specs.Header.{type_at}
use Rattle.files.specs.Spots.{Spot}
use Rattle.words.specs.Words.{word_at}
use Rattle.grammar.proofs.Tests.{OwnTests}
use Rattle.grammar.proofs.Forest.{Forest, nil, node, flat, num, weight, Wf, spots, length_node}
use Rattle.grammar.proofs.Rules.{own_two}
use Rattle.edits.specs.Edits.{keep_if, places_from, flagged, with_flags}
use Rattle.edits.proofs.Parts.{read_first, set_first}
use Rattle.edits.proofs.Fields.{marked, length_marked, type_marked, own_marked}
use Rattle.edits.proofs.Flags.{with_append}
use Rattle.edits.proofs.Ways.{Way, stop, past, into, plug, front, flat_plug}

-- where the elements of a list start, all depths, in file order
abbrev pub starts : ℕ → Forest → List ℕ
starts at nil = []
starts at (node own k r) = at ∷ (starts (at + length own) k ++ starts (at + weight own k) r)

-- how many they are
abbrev pub number : Forest → ℕ
number nil = 0
number (node own k r) = suc (number k + number r)

pub length_starts : (at : ℕ) (f : Forest) → length (starts at f) ≡ number f
length_starts at nil = refl
length_starts at (node own k r) =
    ap suc (length-append (starts (at + length own) k) (starts (at + weight own k) r) ∙ rw (length_starts (at + length own) k, length_starts (at + weight own k) r) refl)

-- each has two words at least
pub number_long : (dim depth under : ℕ) (f : Forest) → Wf dim depth under f → 2 * number f ≤ length (flat f)
number_long dim depth under nil x = omega arith
number_long dim depth under (node own k r) x =
    let l = length_node own k r in
    let t = own_two x.0 in
    let a = number_long dim (suc depth) (type_at own 0) k x.1 in
    let b = number_long dim depth under r x.2 in
    omega arith

---- the list of a tree's elements, from a place on and before another

places_append : (xs ys : List Spot) (p q : ℕ) → places_from (xs ++ ys) p q ≡ places_from xs p q ++ places_from ys p q
places_append [] ys p q = refl
places_append (x ∷ xs) ys p q = go (leb p x.place && ltb x.place q) (places_append xs ys p q)
  where
    go : (b : Bool) → places_from (xs ++ ys) p q ≡ places_from xs p q ++ places_from ys p q →
        keep_if b x.place (places_from (xs ++ ys) p q) ≡ keep_if b x.place (places_from xs p q) ++ places_from ys p q
    go true e = ap (λ l. x.place ∷ l) e
    go false e = e

places_node : (depth : ℕ) (header : Option ℕ) (at : ℕ) (own : List ℕ) (k r : Forest) (p q : ℕ) (b : Bool) → (leb p at && ltb at q) ≡ b →
    places_from (spots depth header at (node own k r)) p q
    ≡ keep_if b at (places_from (spots (suc depth) (some at) (at + length own) k) p q ++ places_from (spots depth header (at + weight own k) r) p q)
places_node depth header at own k r p q b e =
    let under = spots (suc depth) (some at) (at + length own) k in
    let rest = spots depth header (at + weight own k) r in
    ap (λ t. keep_if t at (places_from (under ++ rest) p q)) e ∙ ap (keep_if b at) (places_append under rest p q)

-- a tree that begins at the end or past it
places_past : (depth : ℕ) (header : Option ℕ) (at : ℕ) (f : Forest) (p q : ℕ) → q ≤ at → places_from (spots depth header at f) p q ≡ []
places_past depth header at nil p q h = refl
places_past depth header at (node own k r) p q h =
    places_node depth header at own k r p q false (ap (λ b. leb p at && b) (le-ltb at q h) ∙ and-false (leb p at))
    ∙ rw (places_past (suc depth) (some at) (at + length own) k p q (omega arith), places_past depth header (at + weight own k) r p q (omega arith)) refl

module _ (dim : ℕ) where
  -- a tree that ends before
  places_before : (depth under : ℕ) (header : Option ℕ) (at : ℕ) (f : Forest) (p q : ℕ) → Wf dim depth under f → at + length (flat f) ≤ p → places_from (spots depth header at f) p q ≡ []
  places_before depth under header at nil p q x h = refl
  places_before depth under header at (node own k r) p q x h =
      let l = length_node own k r in
      let t = own_two x.0 in
      places_node depth header at own k r p q false (ap (λ b. b && ltb at q) (lt-leb p at (omega arith)))
      ∙ rw (places_before (suc depth) (type_at own 0) (some at) (at + length own) k p q x.1 (omega arith), places_before depth under header (at + weight own k) r p q x.2 (omega arith)) refl

  -- a tree in between
  places_all : (depth under : ℕ) (header : Option ℕ) (at : ℕ) (f : Forest) (p q : ℕ) → Wf dim depth under f → p ≤ at → at + length (flat f) ≤ q →
      places_from (spots depth header at f) p q ≡ starts at f
  places_all depth under header at nil p q x h g = refl
  places_all depth under header at (node own k r) p q x h g =
      let l = length_node own k r in
      let t = own_two x.0 in
      places_node depth header at own k r p q true (rw (le-leb p at h, lt-ltb at q (omega arith)) refl)
      ∙ rw (
        places_all (suc depth) (type_at own 0) (some at) (at + length own) k p q x.1 (omega arith) (omega arith),
        places_all depth under header (at + weight own k) r p q x.2 (omega arith) (omega arith),
      ) refl

  module _ (own₀ : List ℕ) (k₀ f : Forest) where
    whole_inside : (w : Way) → length (front w) + weight own₀ k₀ ≤ length (flat (plug w (node own₀ k₀ f)))
    whole_inside w = rw (flat_plug w (node own₀ k₀ f)) (simp length-append (omega arith))

    -- the extent of the element that a way leads to
    pub places_way : (depth under : ℕ) (header : Option ℕ) (w : Way) → Wf dim depth under (plug w (node own₀ k₀ f)) → (at p q : ℕ) → p ≡ at + length (front w) → q ≡ p + weight own₀ k₀ →
        places_from (spots depth header at (plug w (node own₀ k₀ f))) p q ≡ p ∷ starts (p + length own₀) k₀
    places_way depth under header stop x at p q e g =
        let a : at ≡ p = omega arith in
        let t = own_two x.0 in
        places_node depth header at own₀ k₀ f p q true (rw (le-leb p at (omega arith), lt-ltb at q (omega arith)) refl)
        ∙ rw (
          places_all (suc depth) (type_at own₀ 0) (some at) (at + length own₀) k₀ p q x.1 (omega arith) (omega arith),
          places_past depth header (at + weight own₀ k₀) f p q (omega arith),
        ) (ap (λ l. at ∷ l) (append-nil (starts (at + length own₀) k₀)) ∙ ap (λ n. n ∷ starts (n + length own₀) k₀) a)
    places_way depth under header (past own k w) x at p q e g =
        let l : length (front (past own k w)) ≡ weight own k + length (front w) = simp length-append (omega arith) in
        let t = own_two x.0 in
        places_node depth header at own k (plug w (node own₀ k₀ f)) p q false (ap (λ b. b && ltb at q) (lt-leb p at (omega arith)))
        ∙ rw (places_before (suc depth) (type_at own 0) (some at) (at + length own) k p q x.1 (omega arith)) (places_way depth under header w x.2 (at + weight own k) p q (omega arith) g)
    places_way depth under header (into own r w) x at p q e g =
        let l : length (front (into own r w)) ≡ length own + length (front w) = length-append own (front w) in
        let t = own_two x.0 in
        let i = whole_inside w in
        places_node depth header at own (plug w (node own₀ k₀ f)) r p q false (ap (λ b. b && ltb at q) (lt-leb p at (omega arith)))
        ∙ rw (places_past depth header (at + weight own (plug w (node own₀ k₀ f))) r p q (omega arith), places_way (suc depth) (type_at own 0) (some at) w x.1 (at + length own) p q (omega arith) g)
        (append-nil (p ∷ starts (p + length own₀) k₀))

---- a tree with other flags, in file order; where they run out, as it was

abbrev pub reflag : List Bool → Forest → Forest
reflag bs nil = nil
reflag [] (node own k r) = node own k r
reflag (b ∷ bs) (node own k r) = node (marked b own) (reflag bs k) (reflag (drop (number k) bs) r)

pub reflag_long : (bs : List Bool) (f : Forest) → length (flat (reflag bs f)) ≡ length (flat f)
reflag_long bs nil = refl
reflag_long [] (node own k r) = refl
reflag_long (b ∷ bs) (node own k r) =
    let m = length_marked b own in
    let a = reflag_long bs k in
    let c = reflag_long (drop (number k) bs) r in
    length_node (marked b own) (reflag bs k) (reflag (drop (number k) bs) r) ∙ (omega arith) ∙ sym (length_node own k r)

pub reflag_num : (bs : List Bool) (f : Forest) → num (reflag bs f) ≡ num f
reflag_num bs nil = refl
reflag_num [] (node own k r) = refl
reflag_num (b ∷ bs) (node own k r) = ap suc (reflag_num (drop (number k) bs) r)

pub reflag_spots : (bs : List Bool) (depth : ℕ) (header : Option ℕ) (at : ℕ) (f : Forest) → spots depth header at (reflag bs f) ≡ spots depth header at f
reflag_spots bs depth header at nil = refl
reflag_spots [] depth header at (node own k r) = refl
reflag_spots (b ∷ bs) depth header at (node own k r) =
    rw (
      length_marked b own,
      reflag_long bs k,
      reflag_spots bs (suc depth) (some at) (at + length own) k,
      reflag_spots (drop (number k) bs) depth header (at + weight own k) r,
    ) refl

-- the element's own rules, with other flags in it and under it
pub own_reflag : {dim depth under : ℕ} {own : List ℕ} (b : Bool) (bs : List Bool) (k : Forest) → OwnTests dim depth under own (length (flat k)) (num k) →
    OwnTests dim depth under (marked b own) (length (flat (reflag bs k))) (num (reflag bs k))
own_reflag b bs k o = rw (reflag_long bs k, reflag_num bs k) (own_marked b o)

pub reflag_wf : (dim depth under : ℕ) (bs : List Bool) (f : Forest) → Wf dim depth under f → Wf dim depth under (reflag bs f)
reflag_wf dim depth under bs nil x = tt
reflag_wf dim depth under [] (node own k r) x = x
reflag_wf dim depth under (b ∷ bs) (node own k r) x = (
  own_reflag b bs k x.0,
  rw (type_marked b own (own_two x.0)) (reflag_wf dim (suc depth) (type_at own 0) bs k x.1),
  reflag_wf dim depth under (drop (number k) bs) r x.2,
)

---- flags written in the words are flags in the tree

-- the first element's
pub first_words : (pre own post : List ℕ) (at : ℕ) (b : Bool) (bs : List Bool) (qs : List ℕ) → length pre ≡ at → 2 ≤ length own →
    with_flags (at ∷ qs) (b ∷ bs) (pre ++ (own ++ post)) ≡ with_flags qs bs ((pre ++ marked b own) ++ post)
first_words pre own post at b bs qs e l =
    ap (with_flags qs bs)
    (rw (read_first pre own post at e (omega arith)) (set_first pre own post at e (flagged b (word_at own 0)) (omega arith)) ∙ sym (append_assoc pre (marked b own) post))

pub reflag_words : (dim depth under : ℕ) (f : Forest) (bs : List Bool) (pre post : List ℕ) (at : ℕ) → Wf dim depth under f → length pre ≡ at →
    with_flags (starts at f) bs (pre ++ (flat f ++ post)) ≡ pre ++ (flat (reflag bs f) ++ post)
reflag_words dim depth under nil bs pre post at x e = refl
reflag_words dim depth under (node own k r) [] pre post at x e = refl
reflag_words dim depth under (node own k r) (b ∷ bs) pre post at x e =
    let qs = starts (at + length own) k in
    let rs = starts (at + weight own k) r in
    let pre₁ = pre ++ marked b own in
    let k' = reflag bs k in
    let m = length_marked b own in
    let l₁ : length pre₁ ≡ at + length own = length-append pre (marked b own) ∙ (omega arith) in
    let n = reflag_long bs k in
    let l₂ : length (pre₁ ++ flat k') ≡ at + weight own k = length-append pre₁ (flat k') ∙ (omega arith) in
    ap (λ l. with_flags (at ∷ (qs ++ rs)) (b ∷ bs) (pre ++ l)) (append_assoc own (flat k ++ flat r) post)
    ∙ first_words pre own ((flat k ++ flat r) ++ post) at b bs (qs ++ rs) e (own_two x.0)
    ∙ with_append qs rs bs (pre₁ ++ ((flat k ++ flat r) ++ post))
    ∙ ap (λ l. with_flags rs (drop (length qs) bs) (with_flags qs bs (pre₁ ++ l))) (append_assoc (flat k) (flat r) post)
    ∙ ap (with_flags rs (drop (length qs) bs)) (reflag_words dim (suc depth) (type_at own 0) k bs pre₁ (flat r ++ post) (at + length own) x.1 l₁ ∙ sym (append_assoc pre₁ (flat k') (flat r ++ post)))
    ∙ ap (λ c. with_flags rs (drop c bs) ((pre₁ ++ flat k') ++ (flat r ++ post))) (length_starts (at + length own) k)
    ∙ reflag_words dim depth under r (drop (number k) bs) (pre₁ ++ flat k') post (at + weight own k) x.2 l₂
    ∙ joined pre (marked b own) (flat k') (flat (reflag (drop (number k) bs) r)) post
  where
    joined : (a b c d e : List ℕ) → ((a ++ b) ++ c) ++ (d ++ e) ≡ a ++ ((b ++ (c ++ d)) ++ e)
    joined a b c d e = simp append_assoc
