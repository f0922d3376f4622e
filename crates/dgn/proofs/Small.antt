-- Every refusal of judging and of the finder is small: its number and its detail can be taken apart again.
use Prim.Native.Nat.{ℕ, ◌+◌, ◌≤◌}
use mathlib.Core.Path.{◌≡◌, refl, ap}
use mathlib.Core.Bool.{Bool, true, false, cond}
use mathlib.Core.List.{List, [], ◌∷◌}
use native.Mathlib.Omega.{arith}
use lib.ListN.{length}
use lib.Dec.{eqb}
use Rattle.words.specs.Words.{words}
use Rattle.names.specs.Names.{packed}
use Rattle.files.specs.Judge.{judge_of}
use Rattle.files.specs.Spots.{Spot, spots_of}
use Rattle.finder.specs.Finder.{is_hit, hit_if, first_named, find_by, find_of}
use Rattle.finder.specs.declared.Wanted.{Wanted}
use Rattle.finder.proofs.Refusals.{find_refused}
use Rattle.answers.specs.Answers.{Small, SmallReply}
use Rattle.answers.proofs.Elements.{elements_few}
use Rattle.answers.proofs.Refusals.{file_small, call_small}
use Rattle.dgn.specs.JudgeFind.{judge_reply, find_detail, find_reply}
use Rattle.std.specs.Prelude.{Err, Ok, Result}
use Rattle.files.specs.declared.Accepted.{Accepted}
use Rattle.refusals.proofs.Laws.{refusal_is}
use Rattle.finder.specs.declared.Found.{Found}
use Rattle.finder.specs.declared.Missed.{Missed}
use Rattle.names.specs.declared.Name.{Name}
use Rattle.refusals.specs.declared.Refusal.{Refusal}

pub judge_small : (dim : ℕ) (s : List ℕ) → SmallReply (judge_reply (judge_of dim s))
judge_small dim s = go (judge_of dim s) refl
  where
    go : (r : Result Accepted Refusal) → judge_of dim s ≡ r → SmallReply (judge_reply r)
    go (Ok file) q = tt
    go (Err refusal) q = file_small dim s refusal.number refusal.place q

-- among the elements the count is theirs
count_by : (v : Wanted) (ws : List ℕ) (a b k : ℕ) (xs : List Spot) (missed : Missed) → first_named v ws a b k xs ≡ Err missed → missed.looks ≤ k + length xs
count_by v ws a b k [] missed q = let z = ap (λ (m : Missed). m.looks) (refusal_is q) in omega arith
count_by v ws a b k (x ∷ xs) missed q = go (is_hit v ws x.place a b) (count_by v ws a b (k + 1) xs missed) q
  where
    go : (h : Bool) → (first_named v ws a b (k + 1) xs ≡ Err missed → missed.looks ≤ k + 1 + length xs) →
        hit_if h x.place k (first_named v ws a b (k + 1) xs) ≡ Err missed → missed.looks ≤ k + length (x ∷ xs)
    go true f q = absurd (cc)
    go false f q = let l = f q in omega arith

module _ (v : Wanted) (dim : ℕ) (s t : List ℕ) where
  count_few : (missed : Missed) → find_of v dim s t ≡ Err missed → missed.looks ≤ 524288
  unfolding find_of
  count_few missed q = go (judge_of dim s) refl (packed t) q
    where
      go : (j : Result Accepted Refusal) → judge_of dim s ≡ j → (w : Result Name Refusal) → find_by v j w (words s) (spots_of dim (words s)) ≡ Err missed → missed.looks ≤ 524288
      go (Err refusal) h w q = let z = ap (λ (m : Missed). m.looks) (refusal_is q) in omega arith
      go (Ok file) h (Err refusal) q = let z = ap (λ (m : Missed). m.looks) (refusal_is q) in omega arith
      go (Ok file) h (Ok name) q =
          let l = elements_few dim s file.elements file.deepest file.marker h in
          let y = count_by v (words s) name.first name.second 0 (spots_of dim (words s)) missed q in
          omega arith

  found_small : (missed : Missed) → find_of v dim s t ≡ Err missed → Small missed.refusal.number (find_detail missed.refusal.number missed.refusal.place missed.looks)
  found_small missed q =
      let refusal = missed.refusal in
      go (eqb refusal.number 13) (call_small dim s refusal.number refusal.place (find_refused v dim s t refusal.number refusal.place missed.looks q)) (count_few missed q)
    where
      go : (b : Bool) → Small missed.refusal.number missed.refusal.place → missed.looks ≤ 524288 → Small missed.refusal.number (cond b missed.looks missed.refusal.place)
      go true h l = (h.0, h.1, l)
      go false h l = h

  pub find_small : SmallReply (find_reply (find_of v dim s t))
  find_small = go (find_of v dim s t) refl
    where
      go : (r : Result Found Missed) → find_of v dim s t ≡ r → SmallReply (find_reply r)
      go (Ok found) q = tt
      go (Err missed) q = found_small missed q
