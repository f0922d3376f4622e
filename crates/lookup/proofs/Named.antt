-- A look-up over a built index answers as the finder does over the entries in file order: the entries of the name stand together, from
-- entry low on, by place.
use Prim.Native.Nat.{ℕ, zero, suc, ◌+◌, ◌-◌, ◌^◌, ◌≤◌, ◌<◌}
use mathlib.Core.Path.{◌≡◌, refl, sym, ap, ◌∙◌}
use mathlib.Core.Logic.{◌≢◌, ⊎_elim}
use mathlib.Core.Bool.{Bool, true, false, cond, ◌&&◌, and-eq-true_iff}
use mathlib.Core.List.{List, [], ◌∷◌}
use mathlib.Core.Option.{Option, none, some}
use native.Mathlib.Omega.{arith}
use lib.ListN.{length, get_or, drop, length-drop}
use lib.Seq.{get_or-drop}
use lib.Dec.{ltb, eqb}
use borrow.Author.Tests.{lt-ltb, le-ltb, eqb-true, eqb-false, ne_eqb}
use Rattle.entries.specs.Entries.{name_of, place_of}
use Rattle.sorting.specs.Order.{insert, ordered, All, Sorted}
use Rattle.sorting.proofs.Laws.{le_or_lt, insert_here, insert_later, all_tail, all_ordered, sorted_head, sorted_tail, ordered_sorted}
use Rattle.lookup.specs.declared.Halved.{Halved}
use Rattle.lookup.specs.LookUp.{halved, missing, last_look, look_up, looks_of}
use Rattle.lookup.specs.Live.{step_to, go_on, last_looks, look_on}
use Rattle.lookup.proofs.Halving.{Parted, halved_bound, halved_parted}
use Rattle.lookup.proofs.Steps.{next_entry}
use Rattle.std.specs.Prelude.{Err, Ok, Result}
use Rattle.finder.specs.Found.{found_with}
use Rattle.finder.specs.declared.Found.{Found}
use Rattle.finder.specs.declared.Missed.{Missed}

-- the place of an answer
abbrev pub place_found : Result Found Missed → Option ℕ
place_found (Ok found) = some found.place
place_found (Err missed) = none

---- the rule with every entry live

-- CR 4's look-up is the one that passes over none
pub all_live : (es : List ℕ) (name : ℕ) → look_up es name ≡ look_on (λ p. true) es name
unfolding look_up look_on
all_live es name =
    let h = halved es name in
    ⊎_elim
    (λ l. rw (le-ltb h.low (length es) l) refl)
    (λ l. rw (lt-ltb h.low (length es) l, next_entry (λ p. true) es name h.low l) refl)
    (le_or_lt (length es) h.low)

-- over any entries whatever: d binary digits hold their number
last_bound : (es : List ℕ) (name : ℕ) (h : Halved) (d : ℕ) → h.looks ≤ d → looks_of (last_look es name h) ≤ d + 1
last_bound es name h d l = go (ltb h.low (length es)) (eqb (name_of (get_or es h.low 0)) name)
  where
    go : (b c : Bool)
        → looks_of (cond b (cond c (found_with (place_of (get_or es h.low 0)) (h.looks + 1)) (missing (h.looks + 1))) (missing h.looks)) ≤ d + 1
    go true true = omega arith
    go true false = omega arith
    go false c = omega arith

pub looks_bound : (es : List ℕ) (name d : ℕ) → length es < 2 ^ d → looks_of (look_up es name) ≤ d + 1
unfolding look_up
looks_bound es name d h = last_bound es name (halved es name) d (halved_bound es name d h)

---- the first live entry of a name

-- entries in file order: no place is below that of an entry before it
abbrev pub FileOrder : List ℕ → Type 0
FileOrder es = (i j : ℕ) → i ≤ j → j < length es → place_of (get_or es i 0) ≤ place_of (get_or es j 0)

sorted_drop : (es : List ℕ) (k : ℕ) → Sorted es → Sorted (drop k es)
sorted_drop es k s i j h g =
    let l = length-drop k es in
    let a = get_or-drop k es i 0 in
    let b = get_or-drop k es j 0 in
    let o = s (k + i) (k + j) (omega arith) (omega arith) in
    omega arith

module _ (live : ℕ → Bool) (name : ℕ) where
  -- an entry that is found, and the first place of one
  abbrev pub is_found : ℕ → Bool
  is_found e = eqb (name_of e) name && live (place_of e)

  abbrev pub first_found : List ℕ → Option ℕ
  first_found [] = none
  first_found (e ∷ es) = cond (is_found e) (some (place_of e)) (first_found es)

  first_here : (e : ℕ) (es : List ℕ) → is_found e ≡ true → first_found (e ∷ es) ≡ some (place_of e)
  first_here e es h = rw h refl

  first_later : (e : ℕ) (es : List ℕ) → is_found e ≡ false → first_found (e ∷ es) ≡ first_found es
  first_later e es h = rw h refl

  other_name : (e : ℕ) → name_of e ≢ name → is_found e ≡ false
  other_name e h = rw (ne_eqb (name_of e) name h) refl

  first_none : (es : List ℕ) → All (λ e. name_of e ≢ name) es → first_found es ≡ none
  first_none [] a = refl
  first_none (x ∷ es) a = first_later x es (other_name x (a 0 (omega arith))) ∙ first_none es (all_tail (λ e. name_of e ≢ name) x es a)

  -- entries of smaller names may be left out
  first_drop : (es : List ℕ) (k : ℕ) → ((i : ℕ) → i < k → name_of (get_or es i 0) < name) → k ≤ length es → first_found (drop k es) ≡ first_found es
  first_drop es zero b l = refl
  first_drop [] (suc k) b l = absurd (omega arith)
  first_drop (x ∷ es) (suc k) b l =
      let p = b 0 (omega arith) in
      first_drop es k (λ i h. b (suc i) (omega arith)) (omega arith) ∙ sym (first_later x es (other_name x (λ e. omega arith)))

  -- over entries in order, none of a smaller name, the steps lead to it
  steps_first : (es : List ℕ) (n : ℕ) → Sorted es → All (λ e. name ≤ name_of e) es → place_found (go_on live name es n) ≡ first_found es
  steps_first [] n s a = refl
  steps_first (x ∷ es) n s a =
      go (eqb (name_of x) name) refl (live (place_of x))
      (steps_first es (step_to name es n) (sorted_tail x es s) (all_tail (λ e. name ≤ name_of e) x es a))
    where
      rest : name_of x ≢ name → first_found es ≡ none
      rest h = first_none es (λ i g. let o = sorted_head x es s i g in let p = a 0 (omega arith) in λ e. h (omega arith))

      go : (b : Bool) → eqb (name_of x) name ≡ b → (c : Bool) → place_found (go_on live name es (step_to name es n)) ≡ first_found es →
          place_found (cond b (cond c (found_with (place_of x) n) (go_on live name es (step_to name es n))) (missing n)) ≡ cond (b && c) (some (place_of x)) (first_found es)
      go true q true r = refl
      go true q false r = r
      go false q c r = sym (rest (eqb-false (name_of x) name q))

  last_first : (es : List ℕ) (h : Halved) → Sorted es → Parted es name h.low → place_found (last_looks live es name h) ≡ first_found es
  last_first es h s p =
      ⊎_elim
      (λ l. rw (le-ltb h.low (length es) l) (sym (first_none es (λ i g. let b = p.before i (omega arith) in λ e. omega arith))))
      (λ l. rw (lt-ltb h.low (length es) l)
      (steps_first (drop h.low es) (h.looks + 1) (sorted_drop es h.low s) (λ i g. behind i (rw (length-drop h.low es) at g)) ∙ first_drop es h.low p.before p.top))
      (le_or_lt (length es) h.low)
    where
      behind : (i : ℕ) → i < length es - h.low → name ≤ name_of (get_or (drop h.low es) i 0)
      behind i g = rw (get_or-drop h.low es i 0) (p.behind (h.low + i) (omega arith) (omega arith))

  ---- in order the first of a name is the first in the file

  insert_other : (k : ℕ) (es : List ℕ) → is_found k ≡ false → first_found (insert k es) ≡ first_found es
  insert_other k [] h = first_later k [] h
  insert_other k (x ∷ es) h =
      ⊎_elim
      (λ l. ap first_found (insert_here k x es l) ∙ first_later k (x ∷ es) h)
      (λ l. ap first_found (insert_later k x es l) ∙ ap (λ r. cond (is_found x) (some (place_of x)) r) (insert_other k es h))
      (le_or_lt k x)

  insert_first : (k : ℕ) (es : List ℕ) → is_found k ≡ true → All (λ e. place_of k ≤ place_of e) es → first_found (insert k es) ≡ some (place_of k)
  insert_first k [] h a = first_here k [] h
  insert_first k (x ∷ es) h a =
      let p = a 0 (omega arith) in
      let q = eqb-true (name_of k) name ((and-eq-true_iff (eqb (name_of k) name) (live (place_of k))).0 h).0 in
      ⊎_elim
      (λ l. ap first_found (insert_here k x es l) ∙ first_here k (x ∷ es) h)
      (λ l. ap first_found (insert_later k x es l) ∙ first_later x (insert k es) (other_name x (λ e. omega arith))
      ∙ insert_first k es h (all_tail (λ e. place_of k ≤ place_of e) x es a))
      (le_or_lt k x)

  ordered_first : (es : List ℕ) → FileOrder es → first_found (ordered es) ≡ first_found es
  ordered_first [] f = refl
  ordered_first (x ∷ es) f =
      go (is_found x) refl (ordered_first es (λ i j h g. f (suc i) (suc j) (omega arith) (omega arith)))
    where
      go : (b : Bool) → is_found x ≡ b → first_found (ordered es) ≡ first_found es → first_found (insert x (ordered es)) ≡ cond b (some (place_of x)) (first_found es)
      go true q r = insert_first x (ordered es) q (all_ordered (λ y. place_of x ≤ place_of y) es (λ i h. f 0 (suc i) (omega arith) (omega arith)))
      go false q r = insert_other x (ordered es) q ∙ r

  -- a built index answers as the finder
  pub look_up_finds : (es : List ℕ) → FileOrder es → place_found (look_on live (ordered es) name) ≡ first_found es
  unfolding look_on
  look_up_finds es f =
      last_first (ordered es) (halved (ordered es) name) (ordered_sorted es) (halved_parted (ordered es) name (ordered_sorted es)) ∙ ordered_first es f
