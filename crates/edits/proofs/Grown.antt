-- A header's own words with its total raised or lowered, and its count where a component comes or goes directly under it.
-- They are corrected where they stand, are the header's of an extent so much longer or shorter, and there and back is nothing.
use Prim.Native.Nat.{ℕ, ◌+◌, ◌≤◌, ◌<◌}
use mathlib.Core.Path.{◌≡◌, refl, sym, ap, ◌∙◌, subst}
use mathlib.Core.Logic.{◌≢◌}
use mathlib.Core.Bool.{Bool, true, false, not, ◌&&◌, false≢true, and-eq-true_iff}
use mathlib.Core.List.{List, [], ◌∷◌, ◌++◌}
use native.Mathlib.Omega.{arith}
use lib.ListN.{length, set, length-set}
use lib.Seq.{get_or-set_same, get_or-set_other, ext_get_or}
use lib.Dec.{eqb}
use borrow.Author.Tests.{eqb-true, eqb-false, eq-eqb}
use Rattle.words.specs.Words.{Below, word_at}
use Rattle.names.specs.Names.{name_ok}
use Rattle.kinds.specs.FirstWord.{reserved_of, c_of, type_of}
use Rattle.headers.specs.Header.{type_at, sizing_at, count_at}
use Rattle.kinds.specs.Kinds.{is_header, is_counted, is_cell, name_word}
use Rattle.headers.proofs.Laws.{own_first, own_second}
use Rattle.elements.specs.Rules.{stored_name_ok, count_ok}
use Rattle.grammar.proofs.Tests.{OwnTests, Extent}
use Rattle.kinds.proofs.Types.{header_long, each_named}
use Rattle.edits.specs.Edits.{moved, count_moved, corrected}
use Rattle.edits.proofs.Tests.{both_and, rule_of, of_rule}
use Rattle.edits.proofs.Parts.{read_in, read_first, set_in}
use Rattle.cells.proofs.Own.{own_fixed}
use Rattle.edits.proofs.OwnLaws.{Alike, own_alike}

-- the header's own words, corrected
abbrev pub grown : Bool → ℕ → Bool → List ℕ → List ℕ
grown up n direct own = corrected up n direct 0 own

-- one component more or less where it comes or goes directly
abbrev pub one : Bool → ℕ
one true = 1
one false = 0

---- the words

length_count : (b up : Bool) (own : List ℕ) → length (count_moved b up 0 own) ≡ length own
length_count true up own = length-set own 19 _
length_count false up own = refl

count_other : (b up : Bool) (own : List ℕ) (i : ℕ) → i ≢ 19 → word_at (count_moved b up 0 own) i ≡ word_at own i
count_other true up own i h = get_or-set_other own 19 i _ 0 h
count_other false up own i h = refl

module _ (up : Bool) (n : ℕ) (direct : Bool) (own : List ℕ) where
  pub length_grown : length (grown up n direct own) ≡ length own
  unfolding corrected
  length_grown = length_count (direct && is_counted (type_at own 0)) up (set own 18 (moved up n (word_at own 18))) ∙ length-set own 18 _

  pub grown_other : (i : ℕ) → i ≢ 18 → i ≢ 19 → word_at (grown up n direct own) i ≡ word_at own i
  unfolding corrected
  grown_other i p q =
      count_other (direct && is_counted (type_at own 0)) up (set own 18 (moved up n (word_at own 18))) i q
      ∙ get_or-set_other own 18 i (moved up n (word_at own 18)) 0 p

  pub type_grown : type_at (grown up n direct own) 0 ≡ type_at own 0
  type_grown = ap type_of (grown_other 0 (omega arith) (omega arith))

  total_grown : 20 ≤ length own → word_at (grown up n direct own) 18 ≡ moved up n (word_at own 18)
  unfolding corrected
  total_grown h =
      count_other (direct && is_counted (type_at own 0)) up (set own 18 (moved up n (word_at own 18))) 18 (omega arith)
      ∙ get_or-set_same own 18 (moved up n (word_at own 18)) 0 (omega arith)

  count_grown : 20 ≤ length own → (direct && is_counted (type_at own 0)) ≡ true → word_at (grown up n direct own) 19 ≡ moved up 1 (word_at own 19)
  unfolding corrected
  count_grown h e =
      let v = moved up n (word_at own 18) in
      let l = length-set own 18 v in
      rw e (get_or-set_same (set own 18 v) 19 (moved up 1 (word_at (set own 18 v) 19)) 0 (omega arith)
      ∙ ap (moved up 1) (get_or-set_other own 18 19 v 0 (omega arith)))

  pub count_kept : (direct && is_counted (type_at own 0)) ≡ false → word_at (grown up n direct own) 19 ≡ word_at own 19
  unfolding corrected
  count_kept e = rw e (get_or-set_other own 18 19 (moved up n (word_at own 18)) 0 (omega arith))

---- where they stand

count_in : (b up : Bool) (pre own post : List ℕ) (q : ℕ) → length pre ≡ q → 20 ≤ length own →
    count_moved b up q (pre ++ (own ++ post)) ≡ pre ++ (count_moved b up 0 own ++ post)
count_in true up pre own post q e h =
    rw (read_in pre own post q e 19 (omega arith)) (set_in pre own post q e 19 (moved up 1 (word_at own 19)) (omega arith))
count_in false up pre own post q e h = refl

pub grown_in : (up : Bool) (n : ℕ) (direct : Bool) (pre own post : List ℕ) (q : ℕ) → length pre ≡ q → 20 ≤ length own →
    corrected up n direct q (pre ++ (own ++ post)) ≡ pre ++ (grown up n direct own ++ post)
unfolding corrected
grown_in up n direct pre own post q e h =
    let v = moved up n (word_at own 18) in
    let l = length-set own 18 v in
    rw (read_first pre own post q e (omega arith), read_in pre own post q e 18 (omega arith), set_in pre own post q e 18 v (omega arith))
    (count_in (direct && is_counted (type_at own 0)) up pre (set own 18 v) post q e (omega arith))

---- there and back

pub grown_back : (up : Bool) (n : ℕ) (direct : Bool) (own : List ℕ) → 20 ≤ length own → moved (not up) n (moved up n (word_at own 18)) ≡ word_at own 18 →
    ((direct && is_counted (type_at own 0)) ≡ true → moved (not up) 1 (moved up 1 (word_at own 19)) ≡ word_at own 19) →
    grown (not up) n direct (grown up n direct own) ≡ own
grown_back up n direct own h t c =
    let l = length_grown (not up) n direct (grown up n direct own) ∙ length_grown up n direct own in
    ext_get_or 0 _ own l (λ i _. at i (eqb i 18) (eqb i 19) refl refl)
  where
    long : 20 ≤ length (grown up n direct own)
    long = rw (length_grown up n direct own) h

    counted : (direct && is_counted (type_at (grown up n direct own) 0)) ≡ (direct && is_counted (type_at own 0))
    counted = rw (type_grown up n direct own) refl

    total_back : word_at (grown (not up) n direct (grown up n direct own)) 18 ≡ word_at own 18
    total_back = total_grown (not up) n direct (grown up n direct own) long ∙ ap (moved (not up) n) (total_grown up n direct own h) ∙ t

    count_back : (b : Bool) → (direct && is_counted (type_at own 0)) ≡ b → word_at (grown (not up) n direct (grown up n direct own)) 19 ≡ word_at own 19
    count_back true e = count_grown (not up) n direct (grown up n direct own) long (counted ∙ e) ∙ ap (moved (not up) 1) (count_grown up n direct own h e) ∙ c e
    count_back false e = count_kept (not up) n direct (grown up n direct own) (counted ∙ e) ∙ count_kept up n direct own e

    at : (i : ℕ) (a b : Bool) → eqb i 18 ≡ a → eqb i 19 ≡ b → word_at (grown (not up) n direct (grown up n direct own)) i ≡ word_at own i
    at i true b p q = rw (eqb-true i 18 p) total_back
    at i false true p q = rw (eqb-true i 19 q) (count_back (direct && is_counted (type_at own 0)) refl)
    at i false false p q =
        grown_other (not up) n direct (grown up n direct own) i (eqb-false i 18 p) (eqb-false i 19 q) ∙ grown_other up n direct own i (eqb-false i 18 p) (eqb-false i 19 q)

---- a header has no N, and a type 2 no count

pub cell_uncounted : (direct : Bool) (t : ℕ) → t ≡ 2 → (direct && is_counted t) ≡ false
cell_uncounted true t e = rw e refl
cell_uncounted false t e = refl

pub header_twenty : {dim depth under inside k : ℕ} {own : List ℕ} → OwnTests dim depth under own inside k → is_header (type_at own 0) ≡ true → 20 ≤ length own
header_twenty {dim} {own = own} o h = let a = own_fixed o in let b = header_long dim (type_at own 0) (sizing_at dim own 0) h in omega arith

-- a header's extent
pub header_extent : {dim depth under inside k : ℕ} {own : List ℕ} → OwnTests dim depth under own inside k → is_header (type_at own 0) ≡ true → Extent true own inside k
header_extent {inside = inside} {k} {own} o h = subst (λ b. Extent b own inside k) h o.extent

---- the header's own words again

name_grown : (up : Bool) (n : ℕ) (direct : Bool) (own : List ℕ) → stored_name_ok own 0 ≡ true → stored_name_ok (grown up n direct own) 0 ≡ true
unfolding stored_name_ok
name_grown up n direct own e = rw (own_first (grown up n direct own), own_second (grown up n direct own), type_grown up n direct own) (of_rule (is_cell (type_at own 0)) _ go)
  where
    kept : (t : ℕ) → type_at own 0 ≡ t → is_cell t ≡ true →
        (word_at (grown up n direct own) (name_word t) ≡ word_at own (name_word t)) × (word_at (grown up n direct own) (name_word t + 1) ≡ word_at own (name_word t + 1))
    kept t p c = each_named (λ k. type_at own 0 ≡ k → (word_at (grown up n direct own) (name_word k) ≡ word_at own (name_word k)) × (word_at (grown up n direct own) (name_word k + 1) ≡ word_at own (name_word k + 1)))
        (1 ∷ 2 ∷ []) t (
          λ q. (grown_other up n direct own 16 (omega arith) (omega arith), grown_other up n direct own 17 (omega arith) (omega arith)),
          (λ q. (count_kept up n direct own (cell_uncounted direct (type_at own 0) q), grown_other up n direct own 20 (omega arith) (omega arith)), tt),
        )
        c p

    go : is_cell (type_at own 0) ≡ true → name_ok (word_at (grown up n direct own) (name_word (type_at own 0))) (word_at (grown up n direct own) (name_word (type_at own 0) + 1)) ≡ true
    go c =
        let k = kept (type_at own 0) refl c in
        rw (k.0, k.1) (rule_of (is_cell (type_at own 0)) (name_ok (word_at own (name_word (type_at own 0))) (word_at own (name_word (type_at own 0) + 1))) (rw (own_first own, own_second own) at e) c)

module _ {dim depth under inside k : ℕ} {own : List ℕ} (o : OwnTests dim depth under own inside k) (h : is_header (type_at own 0) ≡ true) where
  alike_grown : (up : Bool) (n : ℕ) (direct : Bool) → Alike dim own (grown up n direct own)
  alike_grown up n direct =
      let first = grown_other up n direct own 0 (omega arith) (omega arith) in
      record {
        long = length_grown up n direct own;
        type = type_grown up n direct own;
        reserved = ap reserved_of first;
        c = ap c_of first;
        follow = grown_other up n direct own 1 (omega arith) (omega arith);
        simple = λ e. absurd (false≢true (sym e ∙ h));
        index = λ _. grown_other up n direct own 15 (omega arith) (omega arith);
        properties = λ _. grown_other up n direct own 16 (omega arith) (omega arith);
        tail = λ _ i b. let l = header_long dim (type_at own 0) (sizing_at dim own 0) h in grown_other up n direct own i (omega arith) (omega arith);
      }

  -- the count of a header that has one
  pub header_count : is_counted (type_at own 0) ≡ true → word_at own 19 ≡ k
  unfolding count_ok
  header_count e = eqb-true (word_at own 19) k (rule_of (is_counted (type_at own 0)) (eqb (count_at own 0) k) o.count e)

  own_grown : (up : Bool) (n : ℕ) (direct : Bool) (inside' k' : ℕ) → 19 + moved up n (word_at own 18) ≡ length own + inside' → length own + inside' ≤ 65535 →
      (direct ≡ true → is_counted (type_at own 0) ≡ true → k' ≡ moved up 1 k) → (direct ≡ false → k' ≡ k) → OwnTests dim depth under (grown up n direct own) inside' k'
  unfolding count_ok
  own_grown up n direct inside' k' x y c d =
      own_alike (alike_grown up n direct) inside' k' o
      (rw (type_grown up n direct own, h, length_grown up n direct own, total_grown up n direct own (header_twenty o h)) (x, y))
      (name_grown up n direct own o.name)
      (counts direct refl)
    where
      counts : (b : Bool) → direct ≡ b → count_ok (grown up n direct own) 0 k' ≡ true
      counts b e = of_rule (is_counted (type_at (grown up n direct own) 0)) (eqb (count_at (grown up n direct own) 0) k') (λ t. eq-eqb (count_at (grown up n direct own) 0) k' (is b e (rw (type_grown up n direct own) at t)))
        where
          is : (b : Bool) → direct ≡ b → is_counted (type_at own 0) ≡ true → count_at (grown up n direct own) 0 ≡ k'
          is true e u = count_grown up n direct own (header_twenty o h) (both_and e u) ∙ ap (moved up 1) (header_count u) ∙ sym (c e u)
          is false e u = count_kept up n direct own (rw e refl) ∙ header_count u ∙ sym (d e)

  pub own_up : (n : ℕ) (direct : Bool) → length own + inside + n ≤ 65535 → OwnTests dim depth under (grown true n direct own) (inside + n) (k + one direct)
  own_up n direct b =
      let x = (header_extent o h).0 in
      own_grown true n direct (inside + n) (k + one direct) (omega arith) (omega arith) (λ e _. rw e refl) (λ e. rw e (omega arith))

  pub up_back : (n : ℕ) (direct : Bool) → grown false n direct (grown true n direct own) ≡ own
  up_back n direct = grown_back true n direct own (header_twenty o h) (omega arith) (λ _. omega arith)

module _ {dim depth under : ℕ} {own : List ℕ} (inside k n : ℕ) (direct : Bool) (o : OwnTests dim depth under own (inside + n) (k + one direct)) (h : is_header (type_at own 0) ≡ true) where
  pub own_down : OwnTests dim depth under (grown false n direct own) inside k
  own_down =
      let x = header_extent o h in
      let s = x.0 in
      let b = x.1 in
      let l = header_twenty o h in
      own_grown o h false n direct inside k (omega arith) (omega arith) (λ e _. rw e (omega arith)) (λ e. rw e (omega arith))

  pub down_back : grown true n direct (grown false n direct own) ≡ own
  down_back =
      let s = (header_extent o h).0 in
      let l = header_twenty o h in
      grown_back false n direct own l (omega arith) (λ e.
      let p = (and-eq-true_iff direct (is_counted (type_at own 0))).0 e in
      let c = header_count o h p.1 in
      let d : k + one direct ≡ k + 1 = rw p.0 refl in
      omega arith)

---- its words fit

pub below_grown : {dim depth under inside k : ℕ} (up : Bool) (n : ℕ) (direct : Bool) (own : List ℕ) → Below 65536 own → is_header (type_at own 0) ≡ true →
    20 ≤ length own → OwnTests dim depth under (grown up n direct own) inside k → k ≤ 65535 → Below 65536 (grown up n direct own)
below_grown {dim} {depth} {under} {inside} {k} up n direct own b h long o m i = at (eqb i 18) (eqb i 19) (is_counted (type_at own 0)) refl refl refl
  where
    h' : is_header (type_at (grown up n direct own) 0) ≡ true
    h' = rw (type_grown up n direct own) h

    at : (r s t : Bool) → eqb i 18 ≡ r → eqb i 19 ≡ s → is_counted (type_at own 0) ≡ t → word_at (grown up n direct own) i < 65536
    at true s t p q u = let x = header_extent o h' in let y = x.0 in let z = x.1 in rw (eqb-true i 18 p) (omega arith)
    at false true true p q u = let c = header_count o h' (rw (type_grown up n direct own) u) in rw (eqb-true i 19 q) (omega arith)
    at false true false p q u =
        let c = count_kept up n direct own (no_count direct) in
        let w = b 19 in
        rw (eqb-true i 19 q) (omega arith)
      where
        no_count : (d : Bool) → (d && is_counted (type_at own 0)) ≡ false
        no_count true = u
        no_count false = refl
    at false false t p q u = let c = grown_other up n direct own i (eqb-false i 18 p) (eqb-false i 19 q) in let w = b i in omega arith
