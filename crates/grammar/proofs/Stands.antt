-- Words that stand at a place of a file: what is read there is what is read of them alone. They stand there one after
-- another just where each of them does.
use Prim.Native.Nat.{ℕ, ◌+◌, ◌≤◌, ◌<◌}
use mathlib.Core.Path.{◌≡◌, refl, sym, ap, ◌∙◌}
use mathlib.Core.List.{List, [], ◌++◌, append_cancel_left}
use native.Mathlib.Omega.{arith}
use native.Mathlib.Nat.{add-zero}
use lib.ListN.{length, take, drop, length-append, length-take, length-drop, take-append-drop}
use lib.Seq.{take-add, drop-drop, get_or-take, get_or-drop, take-append_seam, drop-append_seam, length-take-le, take-take}
use Rattle.words.specs.Words.{word_at}

pub record Stands (own : List ℕ) (at : ℕ) (ws : List ℕ) : Type 0 where
  pub is : take (length own) (drop at ws) ≡ own

---- what is read there

pub stands_word : {own ws : List ℕ} {at : ℕ} → Stands own at ws → (i : ℕ) → i < length own → word_at ws (at + i) ≡ word_at own i
stands_word {own} {ws} {at} s i h =
    sym (get_or-take (length own) (drop at ws) i 0 h ∙ get_or-drop at ws i 0) ∙ ap (λ l. word_at l i) s.is

pub stands_first : {own ws : List ℕ} {at : ℕ} → Stands own at ws → 0 < length own → word_at ws at ≡ word_at own 0
stands_first {own} {ws} {at} s h = ap (word_at ws) (sym (add-zero at)) ∙ stands_word s 0 h

-- they end by the file's end
pub stands_fit : {own ws : List ℕ} {at : ℕ} → Stands own at ws → at ≤ length ws → at + length own ≤ length ws
stands_fit {own} {ws} {at} s h =
    let l = sym (length-take (length own) (drop at ws)) ∙ ap length s.is in
    let d = length-drop at ws in
    omega arith

---- where they stand

pub stands_nil : (at : ℕ) (ws : List ℕ) → Stands [] at ws
stands_nil at ws = record { is = refl }

-- any part of the file stands in its place
pub stands_part : (n at : ℕ) (ws : List ℕ) → at + n ≤ length ws → Stands (take n (drop at ws)) at ws
stands_part n at ws h =
    let l : length (take n (drop at ws)) ≡ n = let d = length-drop at ws in length-take-le n (drop at ws) (omega arith) in
    record { is = ap (λ m. take m (drop at ws)) l }

pub stands_append : (pre own post : List ℕ) → Stands own (length pre) (pre ++ (own ++ post))
stands_append pre own post = record { is = ap (take (length own)) (drop-append_seam pre (own ++ post)) ∙ take-append_seam own post }

-- the file around them
pub stands_split : {own ws : List ℕ} {at : ℕ} → Stands own at ws → ws ≡ take at ws ++ (own ++ drop (at + length own) ws)
stands_split {own} {ws} {at} s =
    sym (take-append-drop at ws) ∙ ap (λ l. take at ws ++ l)
    (sym (take-append-drop (length own) (drop at ws)) ∙ ap (λ l. take (length own) (drop at ws) ++ l) (drop-drop (length own) at ws)
    ∙ ap (λ l. l ++ drop (at + length own) ws) s.is)

---- one after another

joined : (a b : List ℕ) (at : ℕ) (ws : List ℕ) → take (length (a ++ b)) (drop at ws) ≡ take (length a) (drop at ws) ++ take (length b) (drop (at + length a) ws)
joined a b at ws =
    ap (λ n. take n (drop at ws)) (length-append a b) ∙ take-add (length a) (length b) (drop at ws)
    ∙ ap (λ l. take (length a) (drop at ws) ++ take (length b) l) (drop-drop (length a) at ws)

pub stands_join : {ws : List ℕ} {at : ℕ} (a b : List ℕ) → Stands a at ws → Stands b (at + length a) ws → Stands (a ++ b) at ws
stands_join {ws} {at} a b s t = record { is = joined a b at ws ∙ rw (s.is, t.is) refl }

pub stands_left : {ws : List ℕ} {at : ℕ} (a b : List ℕ) → Stands (a ++ b) at ws → Stands a at ws
stands_left {ws} {at} a b s = record {
  is =
      let l = length-append a b in
      sym (take-take (length a) (length (a ++ b)) (drop at ws) (omega arith)) ∙ ap (take (length a)) s.is ∙ take-append_seam a b;
}

pub stands_right : {ws : List ℕ} {at : ℕ} (a b : List ℕ) → Stands (a ++ b) at ws → Stands b (at + length a) ws
stands_right {ws} {at} a b s = record {
  is =
      append_cancel_left a _ _ (sym (rw (stands_left a b s).is at (joined a b at ws)) ∙ s.is);
}
