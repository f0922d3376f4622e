-- A call that takes elements and is done gives those that it took, whole; where no element has more items than a bound, calls one after
-- another give all.
use Prim.Native.Nat.{ℕ, zero, suc, ◌+◌, ◌-◌, ◌≤◌, ◌<◌}
use mathlib.Core.Path.{◌≡◌, refl, sym, ap, ◌∙◌}
use mathlib.Core.Bool.{Bool, true, false, cond, and-eq-true_iff}
use mathlib.Core.List.{List, [], ◌∷◌, ◌++◌, append_assoc, map}
use mathlib.Core.Option.{some}
use native.Mathlib.Omega.{arith}
use lib.IntN.{ℤ}
use lib.ListN.{length, get_or, take, drop, length-append, length-drop, length-map}
use lib.Dec.{leb}
use borrow.Author.Tests.{leb-true, leb-false}
use Rattle.words.specs.Words.{words}
use Rattle.files.specs.Judge.{judge_of}
use Rattle.files.specs.Spots.{Spot, spots_of, spot_in}
use Rattle.answers.specs.Answers.{with_room, Replied}
use Rattle.answers.specs.Besides.{if_done}
use Rattle.answers.proofs.Besides.{front_read, front_at}
use Rattle.order.specs.Calls.{reply_by}
use Rattle.order.specs.Fitting.{Fitting, behind, part_of, all_of, Slices, in_numbers}
use Rattle.order.specs.Parts.{InParts, Called, GivesAll, Lent, numbers_call}
use Rattle.order.proofs.Order.{FoundIn, found_drop, file_found, count_is}
use Rattle.order.proofs.Parts.{Gave, Joins, Step, gives_all}
use Rattle.order.proofs.Answers.{some_put, none_left, Done, when_done, done_when}
use Rattle.files.specs.Accepted.{accepted_with}

pub all_append : {A : Type 0} (g : Spot → List A) (xs ys : List Spot) → all_of g (xs ++ ys) ≡ all_of g xs ++ all_of g ys
all_append g [] ys = refl
all_append g (x ∷ xs) ys = ap (λ l. g x ++ l) (all_append g xs ys) ∙ sym (append_assoc (g x) (all_of g xs) (all_of g ys))

---- the elements that are taken

abbrev pub joined : {A : Type 0} → List (List A) → List A
joined [] = []
joined (e ∷ es) = e ++ joined es

-- so many of a list, which fit, and the next one does not
pub record Took {A : Type 0} (room k : ℕ) (es : List (List A)) (q : Fitting A) : Type 0 where
  pub many : ℕ
  pub next : q.next ≡ k + many
  pub by : many ≤ length es
  pub given : q.given ≡ joined (take many es)
  pub fits : length q.given ≤ room
  pub stuck : many < length es → room < length q.given + length (get_or es many [])

pub took : {A : Type 0} (room k : ℕ) (es : List (List A)) → Took room k es (part_of room k es)
took room k [] = record { many = 0; next = omega arith; by = omega arith; given = refl; fits = omega arith; stuck = λ h. absurd (omega arith) }
took room k (e ∷ es) = go (leb (length e) room) refl (took (room - length e) (suc k) es)
  where
    go : (b : Bool) → leb (length e) room ≡ b → Took (room - length e) (suc k) es (part_of (room - length e) (suc k) es) →
        Took room k (e ∷ es) (cond b (behind e (part_of (room - length e) (suc k) es)) (record { next = k; given = [] }))
    go true q t =
        let l = leb-true (length e) room q in
        let n = t.next in
        let f = t.fits in
        let a = length-append e (part_of (room - length e) (suc k) es).given in
        record {
          many = suc t.many;
          next = omega arith;
          by = omega (arith, t.by);
          given = ap (λ l. e ++ l) t.given;
          fits = omega arith;
          stuck = λ h. let s = t.stuck (omega arith) in omega arith;
        }
    go false q t =
        let l = leb-false (length e) room q in
        record { many = 0; next = omega arith; by = omega arith; given = refl; fits = omega arith; stuck = λ h. omega arith }

---- calls

-- a call whose slices take items: which of what it is lent these slices are, and its answer, whose first number is that of the element to go on
-- with and whose second `second` makes of how many items there are; with slices that are long enough any element and the answer fit
pub record Takes {L G S A : Type 0} (p : InParts L G) (into : Slices S A) (slices : L → S) (out : L → List ℕ) (g : Spot → List A) (shown : List A → G) (bound : ℕ)
    (second : ℕ → ℕ) : Type 0 where
  pub next : (k : ℕ) (y : L) → p.next k y ≡ get_or (out y) 0 0
  pub reads : (y : L) (s : S) (xs : List Spot) → length (all_of g xs) ≤ into.room s → slices y ≡ into.put s 0 (all_of g xs) → get_or (out y) 1 0 ≡ second (length (all_of g xs)) →
      p.gives y ≡ shown (all_of g xs)
  pub enough : (x : L) → p.enough x ≡ true → (bound ≤ into.room (slices x)) × (2 ≤ length (out x))
  pub joins : Joins p (λ xs. shown (all_of g xs))

-- of an accepted file: each element x has the items f x, which are those that g says, and are few
module _ {L G S A : Type 0} (p : InParts L G) (into : Slices S A) (slices : L → S) (out : L → List ℕ) (dim : ℕ) (s : List ℕ) (e d m : ℕ) (j : judge_of dim s ≡ accepted_with e d m) (f g : Spot → List A)
    (shown : List A → G) (bound : ℕ) (second : ℕ → ℕ) (takes : Takes p into slices out g shown bound second)
    (same : (x : Spot) → spot_in (spots_of dim (words s)) x.place ≡ some x → f x ≡ g x)
    (few : (x : Spot) → spot_in (spots_of dim (words s)) x.place ≡ some x → length (f x) ≤ bound) where
  abbrev all : List Spot
  all = spots_of dim (words s)

  each_few : (xs : List Spot) → FoundIn all xs → (i : ℕ) → length (get_or (map f xs) i []) ≤ bound
  each_few [] h i = omega arith
  each_few (x ∷ xs) h zero = few x h.0
  each_few (x ∷ xs) h (suc i) = each_few xs h.1 i

  each_are : (n : ℕ) (xs : List Spot) → FoundIn all xs → joined (take n (map f xs)) ≡ all_of g (take n xs)
  each_are zero xs h = refl
  each_are (suc n) [] h = refl
  each_are (suc n) (x ∷ xs) h = rw (same x h.0, each_are n xs h.1) refl

  module _ (k : ℕ) (x y : L) (h : k ≤ length (spots_of dim (words s))) where
    abbrev part : Fitting A
    part = part_of (into.room (slices x)) k (map f (drop k all))

    abbrev answer : List ℕ
    answer = part.next ∷ second (length part.given) ∷ []

    abbrev made : S
    made = into.put (slices x) 0 part.given

    taken : Took (into.room (slices x)) k (map f (drop k all)) part
    taken = took (into.room (slices x)) k (map f (drop k all))

    found : FoundIn all (drop k all)
    found = found_drop all all k (file_found dim s e d m j)

    long : length (map f (drop k all)) ≡ e - k
    long = let c = count_is dim s e d m j in let l = length-drop k all in length-map (drop k all) f ∙ omega arith

    abbrev IsDone : Type 0
    IsDone = Done 2 (length part.given) part.next e answer (out x) (out y) made (slices y)

    -- it took one, or none was left
    went_on : (i : ℕ) → taken.many ≡ i → IsDone → k < length all → 1 ≤ i
    went_on zero q w i =
        let n = taken.next in
        let c = count_is dim s e d m j in
        let none : length part.given ≡ 0 = ap length (taken.given ∙ ap (λ a. joined (take a (map f (drop k all)))) q) in
        let u = some_put (length part.given) part.next e w.fits (omega arith) in
        absurd (omega arith)
    went_on (suc a) q w i = omega arith

    -- what one that is done gives
    gave : IsDone → Gave all (λ xs. shown (all_of g xs)) k (p.next k y) (p.gives y)
    gave w =
        let t = taken in
        let c = count_is dim s e d m j in
        let l = long in
        let n = t.next in
        let b = t.by in
        let is : part.given ≡ all_of g (take t.many (drop k all)) = t.given ∙ each_are t.many (drop k all) found in
        let onto : p.next k y ≡ part.next = takes.next k y ∙ ap (λ o. get_or o 0 0) w.answer ∙ front_at answer (out x) 0 0 (omega arith) w.room in
        let number : get_or (out y) 1 0 ≡ second (length (all_of g (take t.many (drop k all)))) =
        ap (λ o. get_or o 1 0) w.answer ∙ front_at answer (out x) 1 0 (omega arith) w.room ∙ ap (λ l. second (length l)) is in
        let fits : length (all_of g (take t.many (drop k all))) ≤ into.room (slices x) = rw (← is) t.fits in
        let back : t.many ≡ p.next k y - k = omega arith in
        record {
          on = omega arith;
          by = omega arith;
          some = λ i. omega (arith, went_on t.many refl w i);
          is = takes.reads y (slices x) (take t.many (drop k all)) fits (w.numbers ∙ ap (into.put (slices x) 0) is) number
              ∙ ap (λ i. shown (all_of g (take i (drop k all)))) back;
        }

    -- with slices that are long enough an element fits
    fitting : bound ≤ into.room (slices x) → part.next < e → 1 ≤ length part.given
    fitting r i =
        let t = taken in
        let n = t.next in
        let l = long in
        let s = t.stuck (omega arith) in
        let u = each_few (drop k all) found t.many in
        omega arith

  module _ (replied : (k : ℕ) (x : L) (n : ℕ) (y : L) (h : k ≤ length (spots_of dim (words s))) → p.Answers k x n y →
      Replied 2 (reply_by (judge_of dim s) (length (part k x y h).given) (part k x y h).next (answer k x y h)) (out x) n (out y))
      (given : (k : ℕ) (x : L) (n : ℕ) (y : L) (h : k ≤ length (spots_of dim (words s))) → p.Answers k x n y →
      slices y ≡ if_done (with_room 2 (reply_by (judge_of dim s) (length (part k x y h).given) (part k x y h).next (answer k x y h)) (out x)) (made k x y h) (slices x)) where
    step : (k : ℕ) (x : L) (n : ℕ) (y : L) → k ≤ length (spots_of dim (words s)) → p.Answers k x n y → Step p all (λ xs. shown (all_of g xs)) k x n y
    step k x n y h a =
        let q = part k x y h in
        let r = replied k x n y h a in
        record {
          gives = λ z. gave k x y h (when_done (judge_of dim s) j 2 (length q.given) q.next (answer k x y h) (out x) r (made k x y h) (slices x) (slices y) (given k x n y h a) z);
          done = λ u. let v = takes.enough x u in
              done_when (judge_of dim s) j 2 (length q.given) q.next (answer k x y h) (out x) r v.1 (none_left (length q.given) q.next e (fitting k x y h v.0));
        }

    pub all_taken : (calls : List L) (got : G) (last : ℕ) → Called p 0 calls got last → GivesAll p all (λ xs. shown (all_of g xs)) calls got last
    all_taken calls got last c = gives_all p all (λ xs. shown (all_of g xs)) takes.joins step c

---- calls that give numbers

-- the answer's second number is one from which `size` makes how many numbers there are
module _ (answers : ℕ → Lent → ℕ → Lent → Type 0) (g : Spot → List ℤ) (bound : ℕ) (second size : ℕ → ℕ)
    (whole : (xs : List Spot) → size (second (length (all_of g xs))) ≡ length (all_of g xs)) where
  abbrev pub taking_call : InParts Lent (List ℤ)
  taking_call = numbers_call answers (λ k out. get_or out 0 0) (λ out. size (get_or out 1 0)) bound 2

  pub takes_numbers : Takes taking_call in_numbers (λ x. x.numbers) (λ x. x.out) g (λ l. l) bound second
  takes_numbers = record {
    next = λ k y. refl;
    reads = λ y s xs fits put number.
        ap (λ i. take (size i) y.numbers) number ∙ ap (λ i. take i y.numbers) (whole xs) ∙ ap (take (length (all_of g xs))) put ∙ front_read (all_of g xs) s fits;
    enough = λ x h.
        let both = (and-eq-true_iff (leb bound (length x.numbers)) (leb 2 (length x.out))).0 h in
        (leb-true bound (length x.numbers) both.0, leb-true 2 (length x.out) both.1);
    joins = record { append = all_append g; empty = refl; unit = λ l. refl };
  }
