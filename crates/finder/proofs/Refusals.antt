-- The finder is refused as judging refuses the file, or with 12 or 13 at 0.
use Prim.Native.Nat.{ℕ, ◌+◌}
use mathlib.Core.Path.{◌≡◌, refl, sym, ap, ◌∙◌}
use mathlib.Core.Logic.{inl, inr}
use mathlib.Core.Bool.{Bool, true, false}
use mathlib.Core.List.{List, [], ◌∷◌}
use Rattle.words.specs.Words.{words}
use Rattle.names.specs.Names.{packed}
use Rattle.names.proofs.Refusals.{pack_refused}
use Rattle.files.specs.Judge.{judge_of}
use Rattle.files.specs.Spots.{Spot, spots_of}
use Rattle.files.specs.Refused.{RefusedBy}
use Rattle.finder.specs.declared.Wanted.{Wanted}
use Rattle.finder.specs.Finder.{is_hit, hit_if, first_named, find_by, find_of}
use Rattle.std.specs.Prelude.{Err, Ok, Result}
use Rattle.files.specs.declared.Accepted.{Accepted}
use Rattle.finder.specs.declared.Missed.{Missed}
use Rattle.finder.specs.Found.{missed_with}
use Rattle.refusals.specs.Refusals.{refusal_of}
use Rattle.refusals.proofs.Laws.{refusal_is}
use Rattle.names.specs.declared.Name.{Name}
use Rattle.refusals.specs.declared.Refusal.{Refusal}

-- among the elements 13 at 0 alone
first_refused : (w : Wanted) (ws : List ℕ) (a b k : ℕ) (xs : List Spot) (missed : Missed) → first_named w ws a b k xs ≡ Err missed → refusal_of 13 0 ≡ missed.refusal
first_refused w ws a b k [] missed q = ap (λ (m : Missed). m.refusal) (refusal_is q)
first_refused w ws a b k (x ∷ xs) missed q = go (is_hit w ws x.place a b) (first_refused w ws a b (k + 1) xs missed) q
  where
    go : (h : Bool) → (first_named w ws a b (k + 1) xs ≡ Err missed → refusal_of 13 0 ≡ missed.refusal) →
        hit_if h x.place k (first_named w ws a b (k + 1) xs) ≡ Err missed → refusal_of 13 0 ≡ missed.refusal
    go true f q = absurd (cc)
    go false f q = f q

pub find_refused : (v : Wanted) (dim : ℕ) (s t : List ℕ) (n p c : ℕ) → find_of v dim s t ≡ missed_with n p c → RefusedBy dim s (12 ∷ 13 ∷ []) n p
unfolding find_of
find_refused v dim s t n p c q = go (judge_of dim s) refl (packed t) refl q
  where
    go : (j : Result Accepted Refusal) → judge_of dim s ≡ j → (w : Result Name Refusal) → packed t ≡ w → find_by v j w (words s) (spots_of dim (words s)) ≡ missed_with n p c → RefusedBy dim s (12 ∷ 13 ∷ []) n p
    go (Err refusal) h w i q = inl (h ∙ ap (λ (m : Missed). Err m.refusal) (refusal_is q))
    go (Ok file) h (Err refusal) i q = let x = pack_refused t n p (i ∙ ap (λ (m : Missed). Err m.refusal) (refusal_is q)) in inr (inl x.0, x.1)
    go (Ok file) h (Ok name) i q =
        let x = first_refused v (words s) name.first name.second 0 (spots_of dim (words s)) _ q in
        inr (inr (inl (ap (λ (r : Refusal). r.number) (sym x))), ap (λ (r : Refusal). r.place) (sym x))
