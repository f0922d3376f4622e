-- The walk that keeps the headers is, element for element, at the place, the depth and the header that the list of elements
-- has; so its views are those that a call at each place gives.
use Prim.Native.Nat.{ℕ, zero, suc, ◌+◌, ◌-◌, ◌*◌, ◌≤◌, ◌<◌}
use mathlib.Core.Path.{◌≡◌, refl, sym, ap, ◌∙◌, subst}
use mathlib.Core.Logic.{◌⊎◌, inl, inr}
use mathlib.Core.Bool.{true, false}
use mathlib.Core.List.{List, [], ◌∷◌, ◌++◌, map}
use mathlib.Core.Option.{none, some}
use native.Mathlib.Omega.{arith}
use lib.ListN.{length, get_or, take, drop, replicate, length-drop}
use lib.Seq.{drop-cons, drop-drop}
use Rattle.words.specs.Words.{words, word_at, Below}
use Rattle.headers.specs.Flags.{place_ok}
use Rattle.files.specs.Judge.{judge_of}
use Rattle.files.specs.Spots.{Spot, spots_of, spot_in}
use Rattle.grammar.proofs.Whole.{file_tree}
use Rattle.grammar.proofs.Exact.{accepted_is}
use Rattle.walking.specs.Walk.{next_of}
use Rattle.walking.proofs.Walks.{walked, walk_is}
use Rattle.places.specs.Places.{above_of, found_by}
use Rattle.places.proofs.Places.{spotted_found}
use Rattle.views.specs.Views.{view_by, view_of, element_view}
use Rattle.view_numbers.specs.Numbers.{view_numbers, as_signed}
use Rattle.view_numbers.proofs.Small.{given_as_is, view_numbers_small}
use Rattle.order.specs.Order.{place_of, InOrder}
use Rattle.order.proofs.Order.{FoundIn, order_few, order_from, found_drop, file_order, file_found, count_is, marker_inside}
use Rattle.dgn_all_views.specs.declared.Numbered.{Numbered}
use Rattle.dgn_all_views.specs.Tour.{Tour, header_in, tour_at, tour_next, tour_of, TopBefore}
use Rattle.dgn_all_views.specs.Views.{seen_numbers, views_of, views_part, shown_at, tour_view, views_from}
use Rattle.dgn_all_views.proofs.Heads.{Before, at_depth, past, Heads, heads_tree, kept_length}
use Rattle.dgn_all_views.proofs.Alike.{Alike, alike_next, alike_header, next_nine}
use Rattle.dgn_all_views.proofs.Tops.{Placed, placed_drop, file_placed, no_depth}
use Rattle.std.specs.Prelude.{Ok}
use Rattle.files.specs.Accepted.{accepted_with}

-- from t the tour is at the elements of a list, one after another
abbrev Toured : List ℕ → Tour → List Spot → Type 0
Toured ws t [] = Unit {0}
Toured ws t (x ∷ xs) =
    (t.walk.place ≡ x.place) × (t.walk.depth ≡ x.depth) × (header_in t.headers t.walk.depth ≡ x.header) × Toured ws (tour_next ws t) xs

-- the first of a list of places and depths, and the others
abbrev first : List (ℕ × ℕ) → ℕ × ℕ
first [] = (0, 0)
first (x ∷ xs) = x

abbrev others : List (ℕ × ℕ) → List (ℕ × ℕ)
others [] = []
others (x ∷ xs) = xs

toured : (ws : List ℕ) (t : Tour) (b c : Before) (xs : List Spot) → walked (length xs) ws t.walk ≡ map (λ x. (x.place, x.depth)) xs → Heads b xs c →
    t.headers ≡ at_depth b t.walk.depth → Toured ws t xs
toured ws t b c [] w h k = tt
toured ws t b c (x ∷ xs) w h k =
    let p : t.walk.place ≡ x.place = ap (λ l. (first l).0) w in
    let d : t.walk.depth ≡ x.depth = ap (λ l. (first l).1) w in
    let k' : t.headers ≡ at_depth b x.depth = k ∙ ap (at_depth b) d in (
      p,
      d,
      rw (k', d) h.0,
      toured ws (tour_next ws t) (past b x) c xs (ap others w) h.1 (rw (k', d, p) refl),
    )

toured_from : (ws : List ℕ) (top : ℕ) (xs : List Spot) (k : ℕ) → k ≤ length xs → Toured ws (tour_at top) xs → Toured ws (tour_of ws top k) (drop k xs)
toured_from ws top xs zero h p = p
toured_from ws top xs (suc k) h p =
    let x : Spot = record { place = 0; end = 0; depth = 0; header = none } in
    (subst (Toured ws (tour_of ws top k)) (drop-cons xs k x h) (toured_from ws top xs k (omega arith) p)).3

-- a tour that is alike goes over the same elements
toured_alike : (ws : List ℕ) (t u : Tour) (xs : List Spot) → Alike t u → Toured ws u xs → Toured ws t xs
toured_alike ws t u [] a p = tt
toured_alike ws t u (x ∷ xs) a p =
    (a.place ∙ p.0, a.depth ∙ p.1, alike_header t u a ∙ p.2, toured_alike ws (tour_next ws t) (tour_next ws u) xs (alike_next ws t u a) p.3)

tour_nine : (ws : List ℕ) (top k : ℕ) → (length (tour_of ws top k).walk.ends ≡ 9) × (length (tour_of ws top k).headers ≡ 9)
tour_nine ws top zero = (refl, refl)
tour_nine ws top (suc k) =
    let i = tour_nine ws top k in
    let t = tour_of ws top k in
    (next_nine ws t i.0, kept_length t.headers t.walk.depth t.walk.place (next_of ws t.walk).depth ∙ i.1)

-- one that begins at the top where another is at the top
at_top : (ws : List ℕ) (top from k : ℕ) → (tour_of ws from k).walk.place ≡ top → (tour_of ws from k).walk.depth ≡ 0 → Alike (tour_at top) (tour_of ws from k)
at_top ws top from k p d =
    let n = tour_nine ws from k in record {
      place = sym p;
      depth = sym d;
      ends = λ j a b. absurd (omega arith);
      headers = λ j a b. absurd (omega arith);
      nine = (refl, refl, n.0, n.1);
    }

tour_view_lem : (ws : List ℕ) (t : Tour) (x : Spot) → t.walk.place ≡ x.place → t.walk.depth ≡ x.depth → header_in t.headers t.walk.depth ≡ x.header →
    tour_view ws t ≡ view_numbers as_signed x.place (element_view ws x.place x.depth (above_of x.header))
unfolding shown_at
tour_view_lem ws t x p d h =
    ap (λ o. view_numbers as_signed t.walk.place (element_view ws t.walk.place t.walk.depth (above_of o))) h
    ∙ ap (λ i. view_numbers as_signed i (element_view ws i t.walk.depth (above_of x.header))) p
    ∙ ap (λ i. view_numbers as_signed x.place (element_view ws x.place i (above_of x.header))) d

---- an accepted file

module _ (dim : ℕ) (s : List ℕ) (e d m : ℕ) (accepted : judge_of dim s ≡ accepted_with e d m) where
  file_toured : Toured (words s) (tour_at 0) (spots_of dim (words s))
  file_toured =
      let t = file_tree (accepted_is dim s e d m accepted).file in
      let b : Before = record { headers = replicate 9 0; depth = 0; place = 0 } in
      let h = heads_tree dim 0 0 none 0 t.tree b t.wf refl (λ l. refl) in
      toured (words s) (tour_at 0) b h.0 (spots_of dim (words s)) (walk_is dim s e d m accepted).0 (subst (λ xs. Heads b xs h.0) t.read h.1) refl

  -- what a call at the place of an element gives
  pub seen : (x : Spot) → spot_in (spots_of dim (words s)) x.place ≡ some x →
      view_of dim s x.place ≡ Ok (element_view (words s) x.place x.depth (above_of x.header))
  unfolding view_of
  seen x f = ap (λ o. view_by o (words s) x.place) (spotted_found dim s x.place e d m accepted ∙ ap found_by f)

  ---- an element by its number

  abbrev all : List Spot
  all = spots_of dim (words s)

  abbrev none_there : Spot
  none_there = record { place = 0; end = 0; depth = 0; header = none }

  -- the k-th of a tour from element number j on is number j + k, at its place, a word of the file
  placed_at : (top j k : ℕ) → j + k < e → Toured (words s) (tour_at top) (drop j all) →
      ((tour_of (words s) top k).walk.place ≡ place_of (words s) (j + k)) × (place_of (words s) (j + k) < length (words s))
  placed_at top j k h p =
      let c = count_is dim s e d m accepted in
      let l = length-drop j all in
      let cons = drop-drop k j all ∙ drop-cons all (j + k) none_there (omega arith) in
      let t = subst (Toured (words s) (tour_of (words s) top k)) cons (toured_from (words s) top (drop j all) k (omega arith) p) in
      let o = subst (λ ys. InOrder (words s) (place_of (words s) (j + k)) ys m) (drop-cons all (j + k) none_there (omega arith))
      (order_from (words s) m all (j + k) (omega arith) (file_order dim s e d m accepted)) in
      let few : place_of (words s) (j + k) + 2 * suc (length (drop (suc (j + k)) all)) ≤ m =
      order_few (words s) (place_of (words s) (j + k)) m (get_or all (j + k) none_there ∷ drop (suc (j + k)) all) o in
      let n = marker_inside dim s e d m accepted in
      (t.0 ∙ o.0, omega arith)

  -- a tour from an element that is at the top
  module _ (k : ℕ) (r : Numbered) (b : TopBefore (words s) k r) (h : k < e) where
    from_first : ((tour_of (words s) 0 r.number).walk.place ≡ r.place) × ((tour_of (words s) 0 r.number).walk.depth ≡ 0)
    from_first =
        let c = count_is dim s e d m accepted in
        let u = b.upto in
        let cons = drop-cons all r.number none_there (omega arith) in
        let t = subst (Toured (words s) (tour_of (words s) 0 r.number)) cons (toured_from (words s) 0 all r.number (omega arith) file_toured) in
        let o = subst (λ ys. InOrder (words s) (place_of (words s) r.number) ys m) cons (order_from (words s) m all r.number (omega arith) (file_order dim s e d m accepted)) in
        let p = subst (Placed (words s)) cons (placed_drop (words s) all r.number (file_placed dim s e d m accepted)) in
        let x = get_or all r.number none_there in
        let here : x.place ≡ r.place = o.0 ∙ sym b.at_place in
        (t.0 ∙ here, go b.top t.1 here p.0)
      where
        go : (r.number ≡ 0) ⊎ (place_ok 1 (word_at (words s) r.place) ≡ false) → (tour_of (words s) 0 r.number).walk.depth ≡ (get_or all r.number none_there).depth →
            (get_or all r.number none_there).place ≡ r.place → place_ok (get_or all r.number none_there).depth (word_at (words s) (get_or all r.number none_there).place) ≡ true →
            (tour_of (words s) 0 r.number).walk.depth ≡ 0
        go (inl z) q w p = ap (λ n. (tour_of (words s) 0 n).walk.depth) z
        go (inr f) q w p = q ∙ no_depth (get_or all r.number none_there).depth (word_at (words s) r.place) (rw w at p) f

    pub top_toured : Toured (words s) (tour_at r.place) (drop r.number all)
    top_toured =
        let c = count_is dim s e d m accepted in
        let u = b.upto in
        toured_alike (words s) (tour_at r.place) (tour_of (words s) 0 r.number) (drop r.number all)
        (at_top (words s) r.place 0 r.number from_first.0 from_first.1) (toured_from (words s) 0 all r.number (omega arith) file_toured)

    -- each of its elements is at a word of the file
    pub tour_inside : (n i : ℕ) → k + n ≤ e → i < k - r.number + n → (tour_of (words s) r.place i).walk.place < length (words s)
    tour_inside n i l q =
        let u = b.upto in
        let p = placed_at r.place r.number i (omega arith) top_toured in
        rw p.0 p.1

  ---- the views

  views_toured : Below 256 s → (top n k : ℕ) (xs : List Spot) → n ≤ length xs → FoundIn (spots_of dim (words s)) xs → Toured (words s) (tour_of (words s) top k) xs →
      views_from n (words s) top k ≡ views_of dim s (take n xs)
  views_toured b top zero k xs h f t = refl
  views_toured b top (suc n) k [] h f t = absurd (omega arith)
  views_toured b top (suc n) k (x ∷ xs) h f t =
      let v = element_view (words s) x.place x.depth (above_of x.header) in
      let i = given_as_is x.place v (view_numbers_small dim s x.place v b (seen x f.0)) in
      ap (λ l. l ++ views_from n (words s) top (suc k)) (tour_view_lem (words s) (tour_of (words s) top k) x t.0 t.1 t.2 ∙ i ∙ sym (ap (seen_numbers x.place) (seen x f.0)))
      ∙ ap (λ l. seen_numbers x.place (view_of dim s x.place) ++ l) (views_toured b top n (suc k) xs (omega arith) f.1 t.3)

  -- those of n elements from number k on
  pub views_are : Below 256 s → (k n : ℕ) (r : Numbered) → TopBefore (words s) k r → k < e → k + n ≤ e →
      views_from n (words s) r.place (k - r.number) ≡ views_part dim s k n
  unfolding views_part
  views_are b k n r top h l =
      let c = count_is dim s e d m accepted in
      let u = top.upto in
      let long = length-drop k all in
      let first = length-drop r.number all in
      let j : r.number + (k - r.number) ≡ k = omega arith in
      let rest : drop (k - r.number) (drop r.number all) ≡ drop k all = drop-drop (k - r.number) r.number all ∙ ap (λ i. drop i all) j in
      views_toured b r.place n (k - r.number) (drop k all) (omega arith) (found_drop all all k (file_found dim s e d m accepted))
      (subst (Toured (words s) (tour_of (words s) r.place (k - r.number))) rest
      (toured_from (words s) r.place (drop r.number all) (k - r.number) (omega arith) (top_toured k r top h)))
