-- Judging accepts exactly the files of the grammar, with their one reading; words after the marker do not matter.
use Prim.Native.Nat.{ℕ, ◌+◌}
use mathlib.Core.Path.{◌≡◌, refl, sym, ap, ◌∙◌}
use mathlib.Core.Logic.{◌↔◌}
use mathlib.Core.Bool.{Bool, true, false, cond}
use mathlib.Core.List.{List, [], ◌∷◌, ◌++◌, append_assoc}
use native.Mathlib.Omega.{arith}
use lib.ListN.{length, take, drop, take-append-drop}
use lib.Seq.{take-append-add}
use Rattle.std.specs.Prelude.{Err, Ok, Result}
use Rattle.refusals.specs.Refusals.{refused_with}
use Rattle.refusals.specs.declared.Refusal.{Refusal}
use Rattle.refusals.proofs.Laws.{given_is}
use Rattle.words.specs.Words.{words}
use Rattle.limits.specs.Limits.{call_ok}
use Rattle.files.specs.Judge.{top_of, answer, judge_of}
use Rattle.files.specs.Spots.{Spot, deepest, spots_of}
use Rattle.files.specs.Accepted.{accepted_with}
use Rattle.files.specs.declared.Judgement.{Judgement}
use Rattle.grammar.specs.Grammar.{File}
use Rattle.grammar.specs.Reading.{Reading}
use Rattle.grammar.proofs.Whole.{file_top, file_spots, top_file}

-- an accepted file is of the grammar, and the numbers are those of its elements
pub accepted_is : (dim : ℕ) (s : List ℕ) (e d k : ℕ) → judge_of dim s ≡ accepted_with e d k → Reading dim s e d k
unfolding judge_of
accepted_is dim s e d k q = go (call_ok dim s) refl (top_of dim (words s)) refl q
  where
    go : (b : Bool) → call_ok dim s ≡ b → (v : Result Judgement Refusal) → top_of dim (words s) ≡ v → cond b (answer v) (refused_with 1 0) ≡ accepted_with e d k → Reading dim s e d k
    go false c v t q = let z : ◌≡◌ {A = ℕ} 0 1 = cc in absurd (omega arith)
    go true c (Err refusal) t q = let z : ◌≡◌ {A = ℕ} 0 1 = cc in absurd (omega arith)
    go true c (Ok judged) t q =
        let f = top_file dim (words s) judged.next judged.elements judged.deepest judged.direct t in
        let same = given_is q in
        let a = ap (λ a. a.marker) same in
        let b = ap (λ a. a.elements) same in
        let g = ap (λ a. a.deepest) same in
        record { call = c; file = rw a at f.0; elements = sym b ∙ f.1; deep = sym g ∙ f.2 }

-- a file of the grammar, of an allowed length and dimension, is accepted with its reading
pub is_accepted : (dim : ℕ) (s : List ℕ) (xs : List Spot) (k : ℕ) → call_ok dim s ≡ true → File dim (words s) xs k → judge_of dim s ≡ accepted_with (length xs) (deepest xs) k
unfolding judge_of
is_accepted dim s xs k c f = rw (c, (file_top f).1) refl

-- so a file is accepted exactly where it is of the grammar
pub accepted_exactly : (dim : ℕ) (s : List ℕ) (e d k : ℕ) → (judge_of dim s ≡ accepted_with e d k) ↔ Reading dim s e d k
accepted_exactly dim s e d k = (accepted_is dim s e d k, λ r. is_accepted dim s (spots_of dim (words s)) k r.call r.file ∙ rw (← r.elements, ← r.deep) refl)

-- and a refused one of an allowed length and dimension is none
pub refused_is_none : (dim : ℕ) (s : List ℕ) (n p : ℕ) → judge_of dim s ≡ refused_with n p → call_ok dim s ≡ true → (xs : List Spot) (k : ℕ) → File dim (words s) xs k → ⊥
refused_is_none dim s n p q c xs k f =
    let a = is_accepted dim s xs k c f in
    let z : ◌≡◌ {A = ℕ} 0 1 = cc in
    omega arith

-- the list of a file's elements is spotsOf
pub elements_are : (dim : ℕ) (ws : List ℕ) (xs : List Spot) (k : ℕ) → File dim ws xs k → xs ≡ spots_of dim ws
elements_are dim ws xs k f = sym (file_spots f)

-- words are a file of the grammar in one way at most: one list of elements, one marker's place
pub one_reading : (dim : ℕ) (ws : List ℕ) (xs ys : List Spot) (k j : ℕ) → File dim ws xs k → File dim ws ys j → (xs ≡ ys) × (k ≡ j)
one_reading dim ws xs ys k j f g =
    let a = (file_top f).1 in
    let b = (file_top g).1 in
    (elements_are dim ws xs k f ∙ file_spots g, ap (λ j. j.next) (given_is (sym a ∙ b)))

-- a file is decided by its words up to its marker's
pub file_before : {dim : ℕ} {ws vs : List ℕ} {xs : List Spot} {k : ℕ} → File dim ws xs k → take (k + 1) vs ≡ take (k + 1) ws → File dim vs xs k
file_before {ws = ws} {vs = vs} {k = k} f e =
    let t : take (k + 1) vs ≡ f.body ++ (65535 ∷ []) =
    e ∙ ap (λ n. take (n + 1) ws) (sym f.end) ∙ ap (take (length f.body + 1)) f.whole ∙ take-append-add f.body (65535 ∷ f.after) 1 in
    let w : vs ≡ f.body ++ (65535 ∷ drop (k + 1) vs) =
    sym (take-append-drop (k + 1) vs) ∙ ap (λ l. l ++ drop (k + 1) vs) t ∙ append_assoc f.body (65535 ∷ []) (drop (k + 1) vs) in
    record { body = f.body; after = drop (k + 1) vs; direct = f.direct; whole = w; elements = f.elements; end = f.end }

-- words after the marker do not matter: files with the same words up to the marker's are judged alike
pub judged_after_marker : (dim : ℕ) (s t : List ℕ) (e d k : ℕ) → judge_of dim s ≡ accepted_with e d k → call_ok dim t ≡ true → take (k + 1) (words t) ≡ take (k + 1) (words s) →
    judge_of dim t ≡ accepted_with e d k
judged_after_marker dim s t e d k q c h =
    let r = accepted_is dim s e d k q in
    is_accepted dim t (spots_of dim (words s)) k c (file_before r.file h) ∙ rw (← r.elements, ← r.deep) refl

-- the count that judging reports is the length of the list of elements
pub count_is_length : (dim : ℕ) (s : List ℕ) (e d k : ℕ) → judge_of dim s ≡ accepted_with e d k → e ≡ length (spots_of dim (words s))
count_is_length dim s e d k q = (accepted_is dim s e d k q).elements
