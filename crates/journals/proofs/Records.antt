-- A record read: where it is well-formed, its six words and its payload give the record by its kind (`read_good`);
-- where it is not, there is none (`read_bad`). Then one law for each way out of `record_at` and `last_record`,
-- and the used length before the record.
use Prim.Native.Nat.{ℕ, ◌+◌, ◌-◌, ◌*◌, ◌/◌, ◌≤◌, ◌<◌}
use mathlib.Core.Path.{◌≡◌, refl, sym, ap, ◌∙◌}
use mathlib.Core.List.{List}
use mathlib.Core.Bool.{Bool, true, false, cond, and-eq-true_iff}
use mathlib.Core.Option.{Option}
use native.Mathlib.Omega.{arith}
use lib.ListN.{length, take, drop, length-take, length-drop}
use lib.Seq.{get_or-take, get_or-drop, length-take-le}
use lib.Dec.{eqb}
use borrow.Author.Tests.{le-leb, lt-leb, eq-eqb, ne_eqb, eqb-true}
use Rattle.words.specs.Words.{words, word_at, WordRead, LongRead}
use Rattle.words.proofs.Laws.{length_words}
use Rattle.edits.specs.Records.{keep, place_of, at_top, removes, no_kind, kind_of, formed, build, read_at, last_record}
use Rattle.journals.specs.Journals.{well_formed, RecordWithin, RecordRead, LastRead}
use Rattle.std.specs.Prelude.{None, Option as Maybe}
use Rattle.journals.specs.LastAnswers.{last_flag, last_inserted, last_removed, last_renamed}
use Rattle.journals.specs.declared.Last.{Last}

-- behind the other kinds, a record is well-formed where it is of the last
pub last_kind : (b : Bool) (h : Option ℕ) (n : ℕ) → formed (cond b removes no_kind) h n ≡ b
last_kind true h n = refl
last_kind false h n = refl

-- the words read of the record whose six words begin at word t, behind n payload words
pub record Six (j : List ℕ) (t n kind header p : ℕ) : Type 0 where
  pub behind : n ≤ t
  pub room : 2 * t + 12 ≤ length j
  pub kind_is : kind ≡ word_at (words j) t
  pub header_is : LongRead j (t + 1) header
  pub place_is : LongRead j (t + 3) p

module _ (j : List ℕ) (t n kind header p : ℕ) (R : Six j t n kind header p) where
  payload_long : length (take n (drop (t - n) (words j))) ≡ n
  payload_long = let e = length_words j in let h = R.behind in let l = R.room in simp (length-take, length-drop) (omega arith)

  read_by : read_at (words j) t n
      ≡ keep (well_formed kind (place_of header) n) (build (kind_of kind) (place_of header) p (take n (drop (t - n) (words j))) (take (t - n) (words j)))
  read_by = rw (le-leb n t R.behind, R.kind_is, R.header_is.is, R.place_is.is) refl

  pub read_bad : well_formed kind (place_of header) n ≡ false → RecordRead j t n None
  read_bad e =
      record { is = sym (read_by ∙ rw e refl); within = tt }

  -- the bytes before the record
  within_of : (k : ℕ) → k ≤ n → RecordWithin (length j) k p (2 * (t - n))
  within_of k h =
      record {
        even = omega arith;
        room = omega (arith, R.behind, R.room);
        small = R.place_is.small;
      }

  module _ (ok : well_formed kind (place_of header) n ≡ true) where
    -- the words before it end, and its payload begins, at the word that the used length before it says
    read_good : read_at (words j) t n ≡ build (kind_of kind) (place_of header) p (take n (drop (2 * (t - n) / 2) (words j))) (take (2 * (t - n) / 2) (words j))
    read_good =
        let half : 2 * (t - n) / 2 ≡ t - n = omega arith in
        rw half (read_by ∙ rw ok refl)

    pub read_flag : kind ≡ 1 → RecordRead j t n (last_flag p n (2 * (t - n)))
    read_flag k = record { is = sym (read_good ∙ rw (eq-eqb kind 1 k) refl); within = within_of n (omega arith) }

    -- a rename's payload has two words
    two : kind ≡ 2 → n ≡ 2
    two k =
        let e = rw (ne_eqb kind 1 (λ z. omega arith), eq-eqb kind 2 k) at ok in
        eqb-true n 2 ((and-eq-true_iff (at_top (place_of header)) (eqb n 2)).0 e).1

    payload_word : (i : ℕ) → i < n → word_at (take n (drop (2 * (t - n) / 2) (words j))) i ≡ word_at (words j) (t - n + i)
    payload_word i d =
        let at : 2 * (t - n) / 2 + i ≡ t - n + i = omega arith in
        get_or-take n (drop (2 * (t - n) / 2) (words j)) i 0 d ∙ get_or-drop (2 * (t - n) / 2) (words j) i 0 ∙ ap (word_at (words j)) at

    pub read_renamed : (x y : ℕ) → kind ≡ 2 → WordRead j (t - n) x → WordRead j (t - n + 1) y → RecordRead j t n (last_renamed p x y (2 * (t - n)))
    read_renamed x y k X Y =
        let d = two k in
        let from : t - n + 0 ≡ t - n = omega arith in
        let first : word_at (take n (drop (2 * (t - n) / 2) (words j))) 0 ≡ x = payload_word 0 (omega arith) ∙ ap (word_at (words j)) from ∙ sym X.is in
        let second : word_at (take n (drop (2 * (t - n) / 2) (words j))) 1 ≡ y = payload_word 1 (omega arith) ∙ sym Y.is in
        record {
          is = sym (read_good ∙ rw (ne_eqb kind 1 (λ z. omega arith), eq-eqb kind 2 k, first, second) refl);
          within = (X.small, Y.small, within_of 2 (omega arith));
        }

    pub read_inserted : kind ≡ 3 → RecordRead j t n (last_inserted header p (2 * (t - n)))
    read_inserted k =
        record {
          is = sym (read_good ∙ rw (ne_eqb kind 1 (λ z. omega arith), ne_eqb kind 2 (λ z. omega arith), eq-eqb kind 3 k) refl);
          within = (R.header_is.small, within_of 0 (omega arith));
        }

    pub read_removed : (kind ≡ 1 → ⊥) → (kind ≡ 2 → ⊥) → (kind ≡ 3 → ⊥) → RecordRead j t n (last_removed header p n (2 * (t - n)))
    read_removed k₁ k₂ k₃ =
        let e = rw (ne_eqb kind 1 k₁, ne_eqb kind 2 k₂, ne_eqb kind 3 k₃) at ok in
        record {
          is = sym (read_good ∙ rw (ne_eqb kind 1 k₁, ne_eqb kind 2 k₂, ne_eqb kind 3 k₃, sym (last_kind (eqb kind 4) (place_of header) n) ∙ e) refl);
          within = (R.header_is.small, within_of n (omega arith));
        }

---- the last record of a journal's bytes; n is its last word

pub last_short : (j : List ℕ) → length j / 2 < 6 → LastRead j None
unfolding last_record
last_short j h = let e = length_words j in record { is = rw (lt-leb 6 (length (words j)) (omega arith)) refl; within = tt }

module _ (j : List ℕ) (n : ℕ) (l : 6 ≤ length j / 2) (e : n ≡ word_at (words j) (length j / 2 - 6 + 5)) where
  last_at : last_record (words j) ≡ read_at (words j) (length j / 2 - 6) n
  unfolding last_record
  last_at = rw (length_words j, le-leb 6 (length j / 2) l, e) refl

  pub last_over : length j / 2 - 6 < n → LastRead j None
  last_over h = record { is = sym (last_at ∙ rw (lt-leb n (length j / 2 - 6) h) refl); within = tt }

  pub last_read : (r : Maybe Last) → RecordRead j (length j / 2 - 6) n r → LastRead j r
  last_read r R = record { is = R.is ∙ sym last_at; within = R.within }

-- the used length before a record that was read, by the words before it
pub before_length : (j : List ℕ) (n p before : ℕ) → RecordWithin (length j) n p before → 2 * length (take (before / 2) (words j)) ≡ before
before_length j n p before W =
    let even = W.even in
    let room = W.room in
    let l = length_words j in
    let t = length-take-le (before / 2) (words j) (omega arith) in
    omega arith
