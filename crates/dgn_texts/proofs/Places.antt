-- The walk is at the elements of an accepted file, one after another; so the texts that it finds are those of the list of elements.
use Prim.Native.Nat.{ℕ, zero, suc, ◌+◌, ◌-◌, ◌≤◌, ◌<◌}
use mathlib.Core.Path.{◌≡◌, refl, sym, ap, ◌∙◌, subst}
use mathlib.Core.Bool.{Bool, true, false}
use mathlib.Core.List.{List, [], ◌∷◌, map}
use mathlib.Core.Option.{none, some}
use native.Mathlib.Omega.{arith}
use lib.IntN.{ℤ}
use lib.ListN.{length, get_or, drop, length-drop, drop_of_length-le}
use lib.Seq.{drop-cons}
use lib.Dec.{leb}
use borrow.Author.Tests.{leb-true, leb-false, le-leb, lt-ltb, le-ltb}
use Rattle.words.specs.Words.{words}
use Rattle.files.specs.Judge.{judge_of}
use Rattle.files.specs.Spots.{Spot, spots_of, spot_in}
use Rattle.walking.specs.declared.Walk.{Walk}
use Rattle.walking.specs.Walk.{walk_start, next_of}
use Rattle.walking.proofs.Walks.{walked, walk_is}
use Rattle.places.specs.Places.{found_by}
use Rattle.places.proofs.Places.{spot_inside, spotted_found}
use Rattle.order.specs.Fitting.{part_of, items_from}
use Rattle.order.proofs.Order.{FoundIn, found_drop, file_found, count_is}
use Rattle.text_views.specs.TextViews.{text_in, text_of}
use Rattle.dgn_texts.specs.Texts.{entry_by, text_entry, texts_part, walk_of, entry_at, texts_from, from_number}
use Rattle.files.specs.Accepted.{accepted_with}

-- the numbers that are taken of element number i
abbrev pub numbers_of : ℕ → List ℕ → ℕ → ℕ → List ℤ
numbers_of dim file k i = from_number k i (entry_at dim (words file) (walk_of (words file) i))

---- from element number k on

-- elements before number k have no numbers, so that taking from the first on is taking from k on
module _ (k room : ℕ) (f : ℕ → List ℤ) where
  abbrev late : ℕ → List ℤ
  late i = from_number k i (f i)

  same_late : (n i : ℕ) → k ≤ i → items_from n late i ≡ items_from n f i
  same_late zero i h = refl
  same_late (suc n) i h = rw (le-ltb i k h, same_late n (suc i) (omega arith)) refl

  skip : (d n i : ℕ) → i + d ≡ k → part_of room i (items_from (d + n) late i) ≡ part_of room k (items_from n late k)
  skip zero n i e =
      let a : i ≡ k = omega arith in
      let b : zero + n ≡ n = omega arith in
      rw (a, b) refl
  skip (suc d) n i e =
      let a : suc d + n ≡ suc (d + n) = omega arith in
      let none : late i ≡ [] = rw (lt-ltb i k (omega arith)) refl in
      let z : room - 0 ≡ room = omega arith in
      rw (a, none, le-leb 0 room (omega arith), z) (skip d n (suc i) (omega arith))

  pub from_first : (n : ℕ) → k ≤ n → part_of room 0 (items_from (n - 0) late 0) ≡ part_of room k (items_from (n - k) f k)
  from_first n h =
      let a : n - 0 ≡ k + (n - k) = omega arith in
      ap (λ m. part_of room 0 (items_from m late 0)) a ∙ skip k (n - k) 0 (omega arith) ∙ ap (part_of room k) (same_late (n - k) k (omega arith))

---- the walk and the list

-- from w the walk is at the elements of a list, one after another
abbrev Along : List ℕ → Walk → List Spot → Type 0
Along ws w [] = Unit {0}
Along ws w (x ∷ xs) = (w.place ≡ x.place) × (w.depth ≡ x.depth) × Along ws (next_of ws w) xs

abbrev first : List (ℕ × ℕ) → ℕ × ℕ
first [] = (0, 0)
first (x ∷ xs) = x

abbrev others : List (ℕ × ℕ) → List (ℕ × ℕ)
others [] = []
others (x ∷ xs) = xs

along : (ws : List ℕ) (w : Walk) (xs : List Spot) → walked (length xs) ws w ≡ map (λ x. (x.place, x.depth)) xs → Along ws w xs
along ws w [] e = tt
along ws w (x ∷ xs) e = (ap (λ l. (first l).0) e, ap (λ l. (first l).1) e, along ws (next_of ws w) xs (ap others e))

along_from : (ws : List ℕ) (xs : List Spot) (k : ℕ) → k ≤ length xs → Along ws walk_start xs → Along ws (walk_of ws k) (drop k xs)
along_from ws xs zero h p = p
along_from ws xs (suc k) h p =
    let x : Spot = record { place = 0; end = 0; depth = 0; header = none } in
    (subst (Along ws (walk_of ws k)) (drop-cons xs k x h) (along_from ws xs k (omega arith) p)).2

---- an accepted file

module _ (dim : ℕ) (s : List ℕ) (e d m : ℕ) (accepted : judge_of dim s ≡ accepted_with e d m) where
  abbrev all : List Spot
  all = spots_of dim (words s)

  file_along : Along (words s) walk_start all
  file_along = along (words s) walk_start all (walk_is dim s e d m accepted).0

  -- what a call at the place of an element reads is what stands there
  pub read_there : (x : Spot) → spot_in all x.place ≡ some x → text_of dim s x.place ≡ text_in dim (words s) x.place
  unfolding text_of
  read_there x f = rw (spotted_found dim s x.place e d m accepted ∙ ap found_by f) refl

  by_walk : (k : ℕ) (xs : List Spot) → FoundIn all xs → Along (words s) (walk_of (words s) k) xs → map (text_entry dim s) xs ≡ texts_from (length xs) dim (words s) k
  by_walk k [] f a = refl
  by_walk k (x ∷ xs) f a =
      let v = ap (λ t. entry_by t dim (words s) x.place x.depth) (read_there x f.0) in
      let w : entry_at dim (words s) (walk_of (words s) k) ≡ entry_by (text_in dim (words s) x.place) dim (words s) x.place x.depth =
      ap (λ p. entry_by (text_in dim (words s) p) dim (words s) p (walk_of (words s) k).depth) a.0
      ∙ ap (λ h. entry_by (text_in dim (words s) x.place) dim (words s) x.place h) a.1 in
      rw (v, w, by_walk (suc k) xs f.1 a.2) refl

  pub texts_are : (room k : ℕ) → part_of room k (texts_from (e - k) dim (words s) k) ≡ texts_part dim s room k
  unfolding texts_part
  texts_are room k = ap (part_of room k) (go (leb k (length all)) refl)
    where
      go : (b : Bool) → leb k (length all) ≡ b → texts_from (e - k) dim (words s) k ≡ map (text_entry dim s) (drop k all)
      go true q =
          let n : length (drop k all) ≡ e - k = length-drop k all ∙ ap (λ n. n - k) (sym (count_is dim s e d m accepted)) in
          ap (λ n. texts_from n dim (words s) k) (sym n)
          ∙ sym (by_walk k (drop k all) (found_drop all all k (file_found dim s e d m accepted)) (along_from (words s) all k (leb-true k (length all) q) file_along))
      go false q =
          let h = leb-false k (length all) q in
          let c = count_is dim s e d m accepted in
          let z : e - k ≡ 0 = omega arith in
          rw (z, drop_of_length-le all {i = k} (omega arith)) refl

  -- each element is at a word of the file
  pub walk_inside : (i : ℕ) → i < e → (walk_of (words s) i).place < length (words s)
  walk_inside i h =
      let c = count_is dim s e d m accepted in
      let x : Spot = record { place = 0; end = 0; depth = 0; header = none } in
      let cons = drop-cons all i x (omega arith) in
      let a = subst (Along (words s) (walk_of (words s) i)) cons (along_from (words s) all i (omega arith) file_along) in
      let f = subst (FoundIn all) cons (found_drop all all i (file_found dim s e d m accepted)) in
      let y = get_or all i x in
      let inside = spot_inside dim s e d m accepted y.place y f.0 in
      let p = a.0 in
      omega arith
