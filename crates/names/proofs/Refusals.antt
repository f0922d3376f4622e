-- A text and a word pair are refused with 12 at 0 alone, the pair with six zeros.
use Prim.Native.Nat.{ℕ}
use mathlib.Core.Path.{◌≡◌, sym, ap}
use mathlib.Core.Bool.{Bool, true, false, cond}
use mathlib.Core.List.{List}
use lib.ListN.{replicate}
use Rattle.names.specs.Names.{word_from, good_text, packed, name_ok, text_of, text_answer, unpacked}
use Rattle.names.specs.Name.{packed_to, no_text_with}
use Rattle.refusals.specs.Refusals.{refused_with}
use Rattle.refusals.proofs.Laws.{refused_is, refusal_is}
use Rattle.std.specs.Prelude.{Ok}

pub pack_refused : (t : List ℕ) (n p : ℕ) → packed t ≡ refused_with n p → (n ≡ 12) × (p ≡ 0)
unfolding packed
pack_refused t n p q = go (good_text t) q
  where
    go : (b : Bool) → cond b (packed_to (word_from t 0) (word_from t 3)) (refused_with 12 0) ≡ refused_with n p → (n ≡ 12) × (p ≡ 0)
    go true q = absurd (cc)
    go false q = refused_is (sym q)

pub unpack_refused : (a b n p : ℕ) (letters : List ℕ) → unpacked a b ≡ no_text_with n p letters → (n ≡ 12) × (p ≡ 0) × (letters ≡ replicate 6 0)
unfolding unpacked
unpack_refused a b n p letters q = go (name_ok a b) q
  where
    go : (c : Bool) → cond c (Ok (text_answer (text_of a b))) (no_text_with 12 0 (replicate 6 0)) ≡ no_text_with n p letters → (n ≡ 12) × (p ≡ 0) × (letters ≡ replicate 6 0)
    go true q = absurd (cc)
    go false q =
        let r = refusal_is (sym q) in
        (ap (λ e. e.refusal.number) r, ap (λ e. e.refusal.place) r, ap (λ e. e.letters) r)
