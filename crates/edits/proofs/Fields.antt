-- An element's own words with its deleted flag turned, and a cell's with another name: an element's own words again, and
-- the old flag or name put back gives the old words.
use Prim.Native.Nat.{ℕ, ◌+◌, ◌≤◌, ◌<◌}
use mathlib.Core.Path.{◌≡◌, refl, sym, ap, ◌∙◌}
use mathlib.Core.Logic.{◌≢◌, ◌⊎◌, inl, inr}
use mathlib.Core.Bool.{Bool, true, false, false≢true}
use mathlib.Core.List.{List, [], ◌∷◌}
use native.Mathlib.Omega.{arith}
use lib.ListN.{length, set, length-set}
use lib.Seq.{get_or-set_same, get_or-set_other}
use Rattle.words.specs.Words.{Below, word_at}
use Rattle.names.specs.Names.{name_ok}
use Rattle.kinds.specs.FirstWord.{reserved_of, c_of, type_of}
use Rattle.headers.specs.Header.{type_at, sizing_at}
use Rattle.kinds.specs.Kinds.{is_header, is_counted, is_linked, is_cell, name_word, fixed_part}
use Rattle.headers.proofs.Laws.{own_first, own_second}
use Rattle.elements.specs.Rules.{stored_name_ok, count_ok}
use Rattle.grammar.proofs.Tests.{OwnTests, Extent}
use Rattle.kinds.proofs.Types.{linked_long, each_named, name_late}
use Rattle.grammar.proofs.Types.{cell_long}
use Rattle.edits.specs.Edits.{flagged}
use Rattle.edits.proofs.Tests.{rule_of}
use Rattle.edits.proofs.Parts.{set2, length_set2, set2_other, set2_first, set2_second, set2_back, below_set}
use Rattle.grammar.proofs.Rules.{own_two}
use Rattle.cells.proofs.Own.{own_fixed}
use Rattle.edits.proofs.OwnLaws.{Alike, own_alike}

-- the extent is the same where the total is
extent_alike : {dim : ℕ} {own own' : List ℕ} (inside k : ℕ) → Alike dim own own' → word_at own' 18 ≡ word_at own 18 →
    Extent (is_header (type_at own 0)) own inside k → Extent (is_header (type_at own' 0)) own' inside k
extent_alike {own = own} {own'} inside k a t x = rw a.type (go (is_header (type_at own 0)) x)
  where
    go : (b : Bool) → Extent b own inside k → Extent b own' inside k
    go true y = (rw (t, a.long) y.0, rw a.long y.1)
    go false y = y

---- the deleted flag

abbrev pub marked : Bool → List ℕ → List ℕ
marked deleted own = set own 0 (flagged deleted (word_at own 0))

pub type_flagged : (d : Bool) (w : ℕ) → type_of (flagged d w) ≡ type_of w
type_flagged true w = omega arith
type_flagged false w = omega arith

reserved_flagged : (d : Bool) (w : ℕ) → reserved_of (flagged d w) ≡ reserved_of w
reserved_flagged true w = omega arith
reserved_flagged false w = omega arith

c_flagged : (d : Bool) (w : ℕ) → c_of (flagged d w) ≡ c_of w
c_flagged true w = omega arith
c_flagged false w = omega arith

pub flagged_small : (d : Bool) (w : ℕ) → flagged d w < 65536
flagged_small true w = omega arith
flagged_small false w = omega arith

pub length_marked : (d : Bool) (own : List ℕ) → length (marked d own) ≡ length own
length_marked d own = length-set own 0 _

pub marked_first : (d : Bool) (own : List ℕ) → 2 ≤ length own → word_at (marked d own) 0 ≡ flagged d (word_at own 0)
marked_first d own h = get_or-set_same own 0 _ 0 (omega arith)

pub marked_other : (d : Bool) (own : List ℕ) (i : ℕ) → i ≢ 0 → word_at (marked d own) i ≡ word_at own i
marked_other d own i h = get_or-set_other own 0 i _ 0 h

pub type_marked : (d : Bool) (own : List ℕ) → 2 ≤ length own → type_at (marked d own) 0 ≡ type_at own 0
type_marked d own h = ap type_of (marked_first d own h) ∙ type_flagged d (word_at own 0)

pub own_marked : {dim depth under inside k : ℕ} {own : List ℕ} (d : Bool) → OwnTests dim depth under own inside k → OwnTests dim depth under (marked d own) inside k
unfolding stored_name_ok count_ok
own_marked {dim} {inside = inside} {k} {own} d o =
    own_alike alike inside k o (extent_alike inside k alike (marked_other d own 18 (omega arith)) o.extent) (named o.name) (counted o.count)
  where
    first : word_at (marked d own) 0 ≡ flagged d (word_at own 0)
    first = marked_first d own (own_two o)

    alike : Alike dim own (marked d own)
    alike = record {
      long = length_marked d own;
      type = type_marked d own (own_two o);
      reserved = ap reserved_of first ∙ reserved_flagged d (word_at own 0);
      c = ap c_of first ∙ c_flagged d (word_at own 0);
      follow = marked_other d own 1 (omega arith);
      simple = λ _ i h. marked_other d own i (omega arith);
      index = λ _. marked_other d own 15 (omega arith);
      properties = λ _. marked_other d own 16 (omega arith);
      tail = λ e i b. let l = linked_long dim (type_at own 0) (sizing_at dim own 0) e in marked_other d own i (omega arith);
    }

    named : stored_name_ok own 0 ≡ true → stored_name_ok (marked d own) 0 ≡ true
    named e =
        let t = type_at own 0 in
        let l = name_late t in
        rw (
          own_first (marked d own),
          own_second (marked d own),
          type_marked d own (own_two o),
          marked_other d own (name_word t) (omega arith),
          marked_other d own (name_word t + 1) (omega arith),
        ) (rw (own_first own, own_second own) at e)

    counted : count_ok own 0 k ≡ true → count_ok (marked d own) 0 k ≡ true
    counted e = rw (type_marked d own (own_two o), marked_other d own 19 (omega arith)) e

---- a cell's name

-- where it stands in the cell's own words
abbrev pub name_in : List ℕ → ℕ
name_in own = name_word (type_at own 0)

abbrev pub named : ℕ → ℕ → List ℕ → List ℕ
named a b own = set2 own (name_in own) a b

pub type_named : (a b : ℕ) (own : List ℕ) → type_at (named a b own) 0 ≡ type_at own 0
type_named a b own = let l = name_late (type_at own 0) in ap type_of (set2_other own (name_in own) a b 0 (omega arith) (omega arith))

pub name_same : (a b : ℕ) (own : List ℕ) → name_in (named a b own) ≡ name_in own
name_same a b own = ap name_word (type_named a b own)

pub named_back : (a b : ℕ) (own : List ℕ) → named (word_at own (name_in own)) (word_at own (name_in own + 1)) (named a b own) ≡ own
named_back a b own =
    ap (λ i. set2 (named a b own) i (word_at own (name_in own)) (word_at own (name_in own + 1))) (name_same a b own)
    ∙ set2_back own (name_in own) a b

-- the two types of cells
cell_types : (own : List ℕ) → is_cell (type_at own 0) ≡ true → (type_at own 0 ≡ 1) ⊎ (type_at own 0 ≡ 2)
cell_types own e = each_named (λ k. (k ≡ 1) ⊎ (k ≡ 2)) (1 ∷ 2 ∷ []) (type_at own 0) (inl refl, (inr refl, tt)) e

module _ {dim depth under inside k : ℕ} {own : List ℕ} (o : OwnTests dim depth under own inside k) where
  -- the name that stands there is one
  pub cell_named : is_cell (type_at own 0) ≡ true → name_ok (word_at own (name_in own)) (word_at own (name_in own + 1)) ≡ true
  unfolding stored_name_ok
  cell_named e = rule_of (is_cell (type_at own 0)) (name_ok (word_at own (name_in own)) (word_at own (name_in own + 1))) (rw (own_first own, own_second own) at o.name) e

  -- two words of the fixed part stored that no rule but the name's reads
  alike_two : (i a b : ℕ) → 2 ≤ i → is_header (type_at own 0) ≡ true → (is_linked (type_at own 0) ≡ true → (17 ≤ i) × (i + 1 < fixed_part dim (type_at own 0) (sizing_at dim own 0))) →
      Alike dim own (set2 own i a b)
  alike_two i a b h p l =
      let first = set2_other own i a b 0 (omega arith) (omega arith) in
      record {
        long = length_set2 own i a b;
        type = ap type_of first;
        reserved = ap reserved_of first;
        c = ap c_of first;
        follow = set2_other own i a b 1 (omega arith) (omega arith);
        simple = λ e. absurd (false≢true (sym e ∙ p));
        index = λ e. let m = (l e).0 in set2_other own i a b 15 (omega arith) (omega arith);
        properties = λ e. let m = (l e).0 in set2_other own i a b 16 (omega arith) (omega arith);
        tail = λ e j f. let m = (l e).1 in set2_other own i a b j (omega arith) (omega arith);
      }

  -- the store at the place of the type's name
  own_two_named : (i a b : ℕ) → Alike dim own (set2 own i a b) → word_at (set2 own i a b) 18 ≡ word_at own 18 → is_counted (type_at own 0) ≡ false →
      stored_name_ok (set2 own i a b) 0 ≡ true → OwnTests dim depth under (set2 own i a b) inside k
  unfolding count_ok
  own_two_named i a b l t c n = own_alike l inside k o (extent_alike inside k l t o.extent) n counted
    where
      counted : count_ok (set2 own i a b) 0 k ≡ true
      counted = rw (l.type, c) refl

  named_one : (a b : ℕ) → type_at own 0 ≡ 1 → name_ok a b ≡ true → OwnTests dim depth under (set2 own 16 a b) inside k
  unfolding stored_name_ok
  named_one a b t n =
      let l : Alike dim own (set2 own 16 a b) = alike_two 16 a b (omega arith) (rw t refl) (λ e. absurd (false≢true (rw t at e))) in
      own_two_named 16 a b l (set2_other own 16 a b 18 (omega arith) (omega arith)) (rw t refl) (ok l)
    where
      long : 21 ≤ length own
      long = let l = cell_long dim (type_at own 0) (sizing_at dim own 0) (rw t refl) in let f = own_fixed o in omega arith

      ok : Alike dim own (set2 own 16 a b) → stored_name_ok (set2 own 16 a b) 0 ≡ true
      ok l =
          let x = long in
          rw (l.type, t, set2_first own 16 a b (omega arith), set2_second own 16 a b (omega arith), n) refl

  named_two : (a b : ℕ) → type_at own 0 ≡ 2 → name_ok a b ≡ true → OwnTests dim depth under (set2 own 19 a b) inside k
  unfolding stored_name_ok
  named_two a b t n =
      let l : Alike dim own (set2 own 19 a b) = alike_two 19 a b (omega arith) (rw t refl) (λ _. (omega arith, far)) in
      own_two_named 19 a b l (set2_other own 19 a b 18 (omega arith) (omega arith)) (rw t refl) (ok l)
    where
      far : 20 < fixed_part dim (type_at own 0) (sizing_at dim own 0)
      far = cell_long dim (type_at own 0) (sizing_at dim own 0) (rw t refl)

      ok : Alike dim own (set2 own 19 a b) → stored_name_ok (set2 own 19 a b) 0 ≡ true
      ok l =
          let f = own_fixed o in
          let x = far in
          rw (l.type, t, set2_first own 19 a b (omega arith), set2_second own 19 a b (omega arith), n) refl

  pub own_named : (a b : ℕ) → is_cell (type_at own 0) ≡ true → name_ok a b ≡ true → OwnTests dim depth under (named a b own) inside k
  own_named a b e n = go (cell_types own e)
    where
      go : (type_at own 0 ≡ 1) ⊎ (type_at own 0 ≡ 2) → OwnTests dim depth under (named a b own) inside k
      go (inl t) = let i : name_in own ≡ 16 = rw t refl in rw i (named_one a b t n)
      go (inr t) = let i : name_in own ≡ 19 = rw t refl in rw i (named_two a b t n)

pub below_named : (a b : ℕ) (own : List ℕ) → Below 65536 own → a < 65536 → b < 65536 → Below 65536 (named a b own)
below_named a b own h p q = below_set (set own (name_in own) a) (name_in own + 1) b (below_set own (name_in own) a h p) q

pub below_marked : (d : Bool) (own : List ℕ) → Below 65536 own → Below 65536 (marked d own)
below_marked d own h = below_set own 0 _ h (flagged_small d (word_at own 0))
