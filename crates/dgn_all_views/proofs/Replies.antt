-- Each case of the answer: refused at once, no room for one view, done.
use Prim.Native.Nat.{ℕ, zero, suc, ◌+◌, ◌*◌, ◌≤◌, ◌<◌}
use mathlib.Core.Path.{◌≡◌, refl, sym, ap, ◌∙◌, subst}
use mathlib.Core.Bool.{true, false}
use mathlib.Core.List.{List, [], ◌∷◌}
use native.Mathlib.Omega.{arith}
use lib.IntN.{ℤ}
use lib.ListN.{length, set}
use lib.Seq.{sets}
use Rattle.words.specs.Words.{words, Below}
use Rattle.files.specs.Judge.{judge_of}
use Rattle.order.specs.Calls.{begun_of, none_fits}
use Rattle.order.proofs.Calls.{GoesOn, goes_few, call_refused, call_full, call_done}
use Rattle.dgn_all_views.specs.Views.{views_many, views_part, Begins, PartPut}
use Rattle.dgn_all_views.specs.Answers.{views_count, views_reply, ViewsGiven}
use Rattle.dgn_all_views.proofs.Tours.{views_are, tour_inside}
use Rattle.std.specs.Prelude.{Err}

module _ (dim : ℕ) (s : List ℕ) (k : ℕ) (views : List ℤ) (out : List ℕ) where
  abbrev many : ℕ
  many = views_count (judge_of dim s) (length views) k

  pub views_refused : (a : ℕ) → begun_of dim s 1 (length out) ≡ Err a → ViewsGiven dim s k views out a views out
  unfolding views_reply
  views_refused a q =
      let g = call_refused dim s 1 many k (many ∷ []) out (sets views 0 (views_part dim s k many)) views a q in
      record { replied = g.0; given = g.1 }

  module _ (e : ℕ) (on : GoesOn dim s 1 (length out) e) (n : ℕ) (count : n ≡ views_many (length views) k e) where
    counted : n ≡ many
    counted = count ∙ sym (ap (λ v. views_count v (length views) k) on.accepted)

    -- so many fit, and the walk from any element at the top comes to words of the file
    pub views_fit : (32 * n ≤ length views) × (0 < n → (k + n ≤ 1048576) × Begins (words s) k n)
    views_fit =
        let f = goes_few dim s 1 (length out) e on in
        let few : 0 < n → k + n ≤ e = λ z. omega arith in
        (omega arith, λ z. (omega (arith, few z), λ r b i h. tour_inside dim s e on.deepest on.marker on.accepted k r b (omega (arith, few z)) n i (few z) h))

    pub views_full : true ≡ none_fits n k e → ViewsGiven dim s k views out 15 views out
    unfolding views_reply
    views_full f =
        let g = call_full dim s 1 many k (many ∷ []) out (sets views 0 (views_part dim s k many)) views e on (f ∙ ap (λ i. none_fits i k e) counted) in
        record { replied = g.0; given = g.1 }

    -- what is put is those of the elements
    part_is : Below 256 s → (t : List ℤ) → PartPut (words s) k n views t → t ≡ sets views 0 (views_part dim s k n)
    unfolding views_part
    part_is b t h = go n refl
      where
        go : (i : ℕ) → n ≡ i → t ≡ sets views 0 (views_part dim s k n)
        go zero z = h.given ∙ rw z refl
        go (suc i) z = h.given ∙ ap (sets views 0) (views_are dim s e on.deepest on.marker on.accepted b k n h.from (h.top (omega arith)) (omega arith) (omega arith))

    pub views_done : false ≡ none_fits n k e → Below 256 s → (t : List ℤ) → PartPut (words s) k n views t → ViewsGiven dim s k views out 0 t (set out 0 n)
    unfolding views_reply
    views_done f b t h =
        let z = part_is b t h ∙ ap (λ i. sets views 0 (views_part dim s k i)) counted in
        let g = call_done dim s 1 many k (many ∷ []) out (sets views 0 (views_part dim s k many)) views e on (f ∙ ap (λ i. none_fits i k e) counted) in
        subst (λ i. ViewsGiven dim s k views out 0 t (set out 0 i)) (sym counted) (record { replied = g.0; given = z ∙ g.1 })
