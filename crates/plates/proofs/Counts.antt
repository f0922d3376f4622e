-- Each element adds one to the count of its kind alone, so the six counts add up to the number of elements.
use Prim.Native.Nat.{ℕ, zero, suc, ◌+◌, ◌<◌}
use mathlib.Core.Path.{◌≡◌, refl, sym, ap, ◌∙◌}
use mathlib.Core.Logic.{◌≢◌}
use mathlib.Core.Bool.{Bool, true, false}
use mathlib.Core.List.{List, [], ◌∷◌, ◌++◌}
use native.Mathlib.Omega.{arith}
use lib.ListN.{length, get_or}
use lib.Dec.{eqb}
use borrow.Author.Tests.{eq-eqb, ne_eqb}
use Rattle.words.specs.Words.{words, word_at}
use Rattle.kinds.specs.FirstWord.{bit}
use Rattle.headers.specs.Header.{type_at}
use Rattle.plates.specs.Kinds.{is_kind}
use Rattle.plates.specs.Plates.{count_of, plate_on, counts_of}
use Rattle.plates.specs.Hops.{kind_of}
use Rattle.plates.specs.Promises.{sum, CountedIn, CountedOnce}
use Rattle.plates.proofs.OneKind.{kind_small, kind_is, kind_there, kind_only, type_small}

module _ (ws : List ℕ) where
  type_below : (q : ℕ) → type_at ws q < 128
  type_below q = type_small (word_at ws q)

  -- by the number of the kind
  pub counts_are : (at : ℕ) (qs : List ℕ) (k : ℕ) → get_or (counts_of (plate_on ws at qs)) k 0 ≡ count_of (is_kind k) ws qs
  counts_are at qs zero = refl
  counts_are at qs (suc zero) = refl
  counts_are at qs (suc (suc zero)) = refl
  counts_are at qs (suc (suc (suc zero))) = refl
  counts_are at qs (suc (suc (suc (suc zero)))) = refl
  counts_are at qs (suc (suc (suc (suc (suc zero))))) = refl
  counts_are at qs (suc (suc (suc (suc (suc (suc k)))))) = sym (none qs)
    where
      none : (qs : List ℕ) → count_of (λ t. false) ws qs ≡ 0
      none [] = refl
      none (q ∷ qs) = let r = none qs in omega arith

  -- one element more, in between others
  count_between : (kind : ℕ → Bool) (before after : List ℕ) (q : ℕ) → count_of kind ws (before ++ (q ∷ after)) ≡ bit (kind (type_at ws q)) + count_of kind ws (before ++ after)
  count_between kind [] after q = refl
  count_between kind (p ∷ before) after q = let r = count_between kind before after q in omega arith

  module _ (at q : ℕ) (before after : List ℕ) where
    more_by : (k : ℕ) (b : Bool) → eqb (kind_of (type_at ws q)) k ≡ b →
        get_or (counts_of (plate_on ws at (before ++ (q ∷ after)))) k 0 ≡ bit b + get_or (counts_of (plate_on ws at (before ++ after))) k 0
    more_by k b e =
        counts_are at (before ++ (q ∷ after)) k ∙ count_between (is_kind k) before after q
        ∙ rw (kind_is (type_at ws q) k (type_below q), e, counts_are at (before ++ after) k) refl

    pub counted_in : CountedIn ws at q before after
    counted_in =
        let t = type_at ws q in
        record {
          kind = kind_of t;
          of_kind = kind_there t (type_below q);
          no_other = λ k h. kind_only t k (type_below q) h;
          counted = record {
            six = kind_small t (type_below q);
            more = let m = more_by (kind_of t) true (eq-eqb (kind_of t) (kind_of t) refl) in omega arith;
            others = λ k h. let m = more_by k false (ne_eqb (kind_of t) k (λ e. h (sym e))) in omega arith;
          };
        }

  ---- the sum

  -- one of the first n numbers of a list is one more
  sum_by : (a b : List ℕ) (kind : ℕ) → length a ≡ length b → kind < length a → get_or b kind 0 ≡ get_or a kind 0 + 1 → ((k : ℕ) → k ≢ kind → get_or b k 0 ≡ get_or a k 0) → sum b ≡ suc (sum a)
  sum_by [] b kind l h m o = absurd (omega arith)
  sum_by (x ∷ a) [] kind l h m o = absurd (omega arith)
  sum_by (x ∷ a) (y ∷ b) zero l h m o =
      let r = sum_same a b (omega arith) (λ k. o (suc k) (λ e. omega arith)) in
      omega arith
    where
      sum_same : (a b : List ℕ) → length a ≡ length b → ((k : ℕ) → get_or b k 0 ≡ get_or a k 0) → sum b ≡ sum a
      sum_same [] [] l o = refl
      sum_same [] (y ∷ b) l o = absurd (omega arith)
      sum_same (x ∷ a) [] l o = absurd (omega arith)
      sum_same (x ∷ a) (y ∷ b) l o = let r = sum_same a b (omega arith) (λ k. o (suc k)) in omega (arith, o 0)
  sum_by (x ∷ a) (y ∷ b) (suc kind) l h m o =
      let r = sum_by a b kind (omega arith) (omega arith) m (λ k e. o (suc k) (λ z. e (omega arith))) in
      omega (arith, o 0 (λ e. omega arith))

  pub sum_is : (at : ℕ) (qs : List ℕ) → sum (counts_of (plate_on ws at qs)) ≡ length qs
  sum_is at [] = refl
  sum_is at (q ∷ qs) =
      let c = (counted_in at q [] qs).counted in
      sum_by (counts_of (plate_on ws at qs)) (counts_of (plate_on ws at (q ∷ qs))) _ refl c.six c.more c.others ∙ ap suc (sum_is at qs)

pub counted_once : CountedOnce
counted_once dim s at q before after e = counted_in (words s) at q before after
