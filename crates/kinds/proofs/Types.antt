-- Laws of the types: what an arm of a `match` says of a type, and how long the fixed part of a known type is at least.
use Prim.Native.Nat.{ℕ, ◌+◌, ◌*◌, ◌≤◌, ◌<◌}
use mathlib.Core.Path.{◌≡◌, refl, sym, ap, subst⁻¹, ◌∙◌}
use mathlib.Core.Logic.{⊎_elim, inl, inr}
use mathlib.Core.List.{List, [], ◌∷◌}
use mathlib.Core.Bool.{Bool, true, false, cond, not, ◌&&◌, ◌||◌, false≢true, or-false, and-true, and-false, and-eq-true_iff}
use native.Mathlib.Omega.{arith}
use borrow.Author.Tests.{ne_eqb, eqb-true}
use types.Run.{OneOf}
use lib.Dec.{eqb, ltb}
use Rattle.kinds.specs.Kinds.{one_of, is_header, is_counted, is_pointed, is_sized, sizing_word, is_curve, is_linked, is_unread, fixed_part, may_stand, name_word}
use Rattle.texts.specs.Texts.{counts_word, text_part}
use Rattle.texts.proofs.Laws.{counts_late, text_long, text_past}

-- a property of each number of a list
abbrev pub Each : (ℕ → Type 0) → List ℕ → Type 0
Each P [] = Unit
Each P (k ∷ ks) = P k × Each P ks

-- what holds of each number of an arm holds of the type there
pub in_arm : (P : ℕ → Type 0) (ks : List ℕ) (t : ℕ) → Each P ks → OneOf ks t → P t
in_arm P [] t p h = absurd h
in_arm P (k ∷ []) t p h = subst⁻¹ P h p.0
in_arm P (k ∷ k' ∷ ks) t p h = ⊎_elim (λ e. subst⁻¹ P e p.0) (λ r. in_arm P (k' ∷ ks) t p.1 r) h

-- a type that an arm does not name is none of the arm's list
pub none_of : (ks : List ℕ) (t : ℕ) → (OneOf ks t → ⊥) → one_of ks t ≡ false
none_of [] t h = refl
none_of (k ∷ []) t h = simp (ne_eqb t k h)
none_of (k ∷ k' ∷ ks) t h = simp (ne_eqb t k (λ e. h (inl e)), none_of (k' ∷ ks) t (λ r. h (inr r)))

-- a list of types in two arms: each of the list is in one of the arms
abbrev pub covered : List ℕ → List ℕ → List ℕ → Bool
covered xs ys [] = true
covered xs ys (k ∷ ks) = (one_of xs k || one_of ys k) && covered xs ys ks

-- a type that neither arm names is none of the list
pub none_in : (xs ys ks : List ℕ) (t : ℕ) → (OneOf xs t → ⊥) → (OneOf ys t → ⊥) → covered xs ys ks ≡ true → one_of ks t ≡ false
none_in xs ys [] t p q c = refl
none_in xs ys (k ∷ ks) t p q c =
    let both = (and-eq-true_iff (one_of xs k || one_of ys k) (covered xs ys ks)).0 c in
    let other : t ≡ k → ⊥ = λ e. false≢true (rw (rw e at (none_of xs t p), rw e at (none_of ys t q)) at both.0) in
    simp (ne_eqb t k other, none_in xs ys ks t p q both.1)

-- a cell's name begins from word 16 to word 19
pub name_late : (t : ℕ) → 16 ≤ name_word t
name_late t = go (eqb t 1)
  where
    go : (b : Bool) → 16 ≤ cond b 16 19
    go true = omega arith
    go false = omega arith

pub name_early : (t : ℕ) → name_word t ≤ 19
name_early t = go (eqb t 1)
  where
    go : (b : Bool) → cond b 16 19 ≤ 19
    go true = omega arith
    go false = omega arith

-- from either of two tests
or_else : {A : Type 0} (b c : Bool) → (b ≡ true → A) → (c ≡ true → A) → (b || c) ≡ true → A
or_else true c f g e = f refl
or_else false c f g e = g e

-- what holds of each type of a list holds of a type that the list names
pub each_named : (P : ℕ → Type 0) (ks : List ℕ) (t : ℕ) → Each P ks → one_of ks t ≡ true → P t
each_named P [] t p e = absurd (false≢true e)
each_named P (k ∷ ks) t p e =
    or_else (eqb t k) (one_of ks t)
    (λ h. subst⁻¹ P (eqb-true t k h) p.0)
    (λ h. each_named P ks t p.1 h)
    e

-- a bound below both dimensions' numbers
pub both : (m x y : ℕ) → m ≤ x → m ≤ y → (b : Bool) → m ≤ cond b x y
both m x y p q true = p
both m x y p q false = q

-- a header has at least 20 words
pub header_long : (dim t n : ℕ) → is_header t ≡ true → 20 ≤ fixed_part dim t n
unfolding fixed_part
header_long dim t n =
    let two = both 20 46 62 (omega arith) (omega arith) (eqb dim 2) in
    let seven = both 20 35 43 (omega arith) (omega arith) (eqb dim 2) in
    each_named (λ (t : ℕ). 20 ≤ fixed_part dim t n) (1 ∷ 2 ∷ 7 ∷ 12 ∷ 14 ∷ 18 ∷ 19 ∷ []) t
    (omega arith, (two, (seven, (omega arith, (omega arith, (omega arith, (omega arith, tt)))))))

-- an element that may have attributes has at least 18 words
pub linked_long : (dim t n : ℕ) → is_linked t ≡ true → 18 ≤ fixed_part dim t n
unfolding fixed_part
linked_long dim t n =
    let two = both 18 46 62 (omega arith) (omega arith) (eqb dim 2) in
    let three = both 18 26 30 (omega arith) (omega arith) (eqb dim 2) in
    let points = both 18 (19 + 4 * n) (19 + 6 * n) (omega arith) (omega arith) (eqb dim 2) in
    let seven = both 18 35 43 (omega arith) (omega arith) (eqb dim 2) in
    let ellipse = both 18 36 46 (omega arith) (omega arith) (eqb dim 2) in
    let arc = both 18 40 50 (omega arith) (omega arith) (eqb dim 2) in
    let text : 18 ≤ text_part dim n = omega (arith, text_long dim n) in
    each_named (λ (t : ℕ). 18 ≤ fixed_part dim t n) (2 ∷ 3 ∷ 4 ∷ 6 ∷ 7 ∷ 11 ∷ 12 ∷ 14 ∷ 15 ∷ 16 ∷ 17 ∷ 18 ∷ 19 ∷ 21 ∷ []) t
    (two, (three, (points, (points, (seven, (points, (omega arith, (omega arith, (ellipse, (arc, (text, (omega arith, (omega arith, (points, tt))))))))))))))

---- the word that sizes a fixed part

-- a type that a list does not name is none of its types
apart : (ks : List ℕ) (t k : ℕ) → one_of ks t ≡ false → one_of ks k ≡ true → eqb t k ≡ false
apart ks t k out named = ne_eqb t k (λ e. false≢true (sym (rw e at out) ∙ named))

-- a type that no word sizes is no text and has no points
not_sized : (t k : ℕ) → is_sized t ≡ false → is_sized k ≡ true → eqb t k ≡ false
not_sized t k = apart (4 ∷ 6 ∷ 11 ∷ 17 ∷ 21 ∷ []) t k

pub unsized_no_text : (t : ℕ) → is_sized t ≡ false → eqb t 17 ≡ false
unsized_no_text t e = not_sized t 17 e refl

pub unsized_pointless : (t : ℕ) → is_sized t ≡ false → is_pointed t ≡ false
unsized_pointless t e = simp (not_sized t 4 e refl, not_sized t 6 e refl, not_sized t 11 e refl, not_sized t 21 e refl)

-- and no word has a part in its fixed part
pub fixed_any : (dim t m n : ℕ) → is_sized t ≡ false → fixed_part dim t m ≡ fixed_part dim t n
unfolding fixed_part
fixed_any dim t m n e = rw (unsized_pointless t e, unsized_no_text t e)

-- a word that sizes a fixed part stands in it
pub sized_long : (dim t n : ℕ) → is_sized t ≡ true → sizing_word dim t < fixed_part dim t n
unfolding fixed_part
sized_long dim t n =
    let points = both 19 (19 + 4 * n) (19 + 6 * n) (omega arith) (omega arith) (eqb dim 2) in
    each_named (λ (t : ℕ). sizing_word dim t < fixed_part dim t n) (4 ∷ 6 ∷ 11 ∷ 17 ∷ 21 ∷ []) t
    (points, (points, (points, (text_past dim n, (points, tt)))))

-- it is word 18 or a later one; of the types with points it is word 18
pub sizing_late : (dim t : ℕ) → 18 ≤ sizing_word dim t
sizing_late dim t =
    let l = counts_late dim in
    both 18 (counts_word dim) 18 (omega arith) (omega arith) (eqb t 17)

pub pointed_sized : (dim t : ℕ) → is_pointed t ≡ true → (is_sized t ≡ true) × (sizing_word dim t ≡ 18)
pointed_sized dim t =
    each_named (λ (t : ℕ). (is_sized t ≡ true) × (sizing_word dim t ≡ 18)) (4 ∷ 6 ∷ 11 ∷ 21 ∷ []) t
    ((refl, refl), ((refl, refl), ((refl, refl), ((refl, refl), tt))))

---- the three kinds of types: headers, other known types, raw types

pub not_header : (t k : ℕ) → is_header t ≡ false → is_header k ≡ true → eqb t k ≡ false
not_header t k = apart (1 ∷ 2 ∷ 7 ∷ 12 ∷ 14 ∷ 18 ∷ 19 ∷ []) t k

not_linked : (t k : ℕ) → is_linked t ≡ false → is_linked k ≡ true → eqb t k ≡ false
not_linked t k = apart (2 ∷ 3 ∷ 4 ∷ 6 ∷ 7 ∷ 11 ∷ 12 ∷ 14 ∷ 15 ∷ 16 ∷ 17 ∷ 18 ∷ 19 ∷ 21 ∷ []) t k

-- where a type that is no header may stand
under_seven : (u t : Bool) → not (u && not t) ≡ (not u || t)
under_seven true true = refl
under_seven true false = refl
under_seven false t = refl

pub stands : (dim under t : ℕ) → is_header t ≡ false → may_stand dim under t ≡ (not (is_unread t) && (not (eqb under 7) || eqb t 17))
unfolding may_stand
stands dim under t h =
    simp (
      not_header t 1 h refl,
      not_header t 2 h refl,
      not_header t 7 h refl,
      not_header t 12 h refl,
      not_header t 14 h refl,
      not_header t 18 h refl,
      not_header t 19 h refl,
      and-false,
      and-true,
      under_seven (eqb under 7) (eqb t 17),
    )

-- a known type is read
linked_read : (t : ℕ) → is_linked t ≡ true → is_unread t ≡ false
linked_read t k = each_named (λ (t : ℕ). is_unread t ≡ false) (2 ∷ 3 ∷ 4 ∷ 6 ∷ 7 ∷ 11 ∷ 12 ∷ 14 ∷ 15 ∷ 16 ∷ 17 ∷ 18 ∷ 19 ∷ 21 ∷ []) t (refl, (refl, (refl, (refl, (refl, (refl, (refl, (refl, (refl, (refl, (refl, (refl, (refl, (refl, tt)))))))))))))) k

pub stands_plain : (dim under t : ℕ) → is_header t ≡ false → is_linked t ≡ true → may_stand dim under t ≡ (not (eqb under 7) || eqb t 17)
stands_plain dim under t h k = stands dim under t h ∙ ap (λ (b : Bool). not b && (not (eqb under 7) || eqb t 17)) (linked_read t k)

pub stands_raw : (dim under t : ℕ) → is_header t ≡ false → is_linked t ≡ false → may_stand dim under t ≡ (not (is_unread t) && not (eqb under 7))
stands_raw dim under t h k =
    stands dim under t h
    ∙ ap (λ (b : Bool). not (is_unread t) && (not (eqb under 7) || b)) (not_linked t 17 k refl)
    ∙ ap (λ (b : Bool). not (is_unread t) && b) (or-false (not (eqb under 7)))

other : {P : Type 0} → true ≡ false → P
other e = absurd (false≢true (sym e))

-- of the known types that are no headers 15, 16 and 17 are those from 15 on but 21
pub plain_late : (t : ℕ) → is_linked t ≡ true → is_header t ≡ false → cond (ltb t 15) false (not (eqb t 21)) ≡ (is_curve t || eqb t 17)
plain_late t =
    each_named (λ (t : ℕ). is_header t ≡ false → cond (ltb t 15) false (not (eqb t 21)) ≡ (is_curve t || eqb t 17))
    (2 ∷ 3 ∷ 4 ∷ 6 ∷ 7 ∷ 11 ∷ 12 ∷ 14 ∷ 15 ∷ 16 ∷ 17 ∷ 18 ∷ 19 ∷ 21 ∷ []) t
    (λ h. refl, (λ h. refl, (λ h. refl, (λ h. refl, (λ h. refl, (λ h. refl, (λ h. refl, (λ h. refl, (λ h. refl, (λ h. refl, (λ h. refl, (other, (other, (λ h. refl, tt))))))))))))))

-- a known type that is no header, 3, 15, 16 or 17 has points
pub plain_pointed : (t : ℕ) → is_linked t ≡ true → is_header t ≡ false → eqb t 3 ≡ false → is_curve t ≡ false → eqb t 17 ≡ false → is_pointed t ≡ true
plain_pointed t =
    each_named (λ (t : ℕ). is_header t ≡ false → eqb t 3 ≡ false → is_curve t ≡ false → eqb t 17 ≡ false → is_pointed t ≡ true)
    (2 ∷ 3 ∷ 4 ∷ 6 ∷ 7 ∷ 11 ∷ 12 ∷ 14 ∷ 15 ∷ 16 ∷ 17 ∷ 18 ∷ 19 ∷ 21 ∷ []) t
    (header, (λ h a d b. other a, (points, (points, (header, (points, (header, (header, (curve, (curve, (λ h a d b. other b, (header, (header, (points, tt))))))))))))))
  where
    header : {P : Type 0} {a d b : Bool} → true ≡ false → a ≡ false → d ≡ false → b ≡ false → P
    header h a d b = other h

    curve : {P : Type 0} {h a b : Bool} → h ≡ false → a ≡ false → true ≡ false → b ≡ false → P
    curve h a d b = other d

    points : {h a d b : Bool} → h ≡ false → a ≡ false → d ≡ false → b ≡ false → true ≡ true
    points h a d b = refl

pub pointed_part : (dim t n : ℕ) → is_pointed t ≡ true → fixed_part dim t n ≡ cond (eqb dim 2) (19 + 4 * n) (19 + 6 * n)
unfolding fixed_part
pointed_part dim t n = each_named (λ (t : ℕ). fixed_part dim t n ≡ cond (eqb dim 2) (19 + 4 * n) (19 + 6 * n)) (4 ∷ 6 ∷ 11 ∷ 21 ∷ []) t (refl, (refl, (refl, (refl, tt))))

-- an ellipse or an arc is a known type and no header; no word sizes it, and it is no text
pub record CurveType (t : ℕ) : Type 0 where
  pub linked : is_linked t ≡ true
  pub simple : is_header t ≡ false
  pub unsized : is_sized t ≡ false
  pub other : eqb t 17 ≡ false

pub curve_type : (t : ℕ) → is_curve t ≡ true → CurveType t
curve_type t =
    each_named CurveType (15 ∷ 16 ∷ []) t
    (record { linked = refl; simple = refl; unsized = refl; other = refl }, (record { linked = refl; simple = refl; unsized = refl; other = refl }, tt))

pub curve_part : (dim t n : ℕ) → is_curve t ≡ true → fixed_part dim t n ≡ cond (eqb t 15) (cond (eqb dim 2) 36 46) (cond (eqb dim 2) 40 50)
unfolding fixed_part
curve_part dim t n = each_named (λ (t : ℕ). fixed_part dim t n ≡ cond (eqb t 15) (cond (eqb dim 2) 36 46) (cond (eqb dim 2) 40 50)) (15 ∷ 16 ∷ []) t (refl, (refl, tt))

-- no word sizes a raw type, and its fixed part is two words
pub raw_unsized : (t : ℕ) → is_linked t ≡ false → is_sized t ≡ false
raw_unsized t k = simp (not_linked t 4 k refl, not_linked t 6 k refl, not_linked t 11 k refl, not_linked t 17 k refl, not_linked t 21 k refl)

pub raw_no_curve : (t : ℕ) → is_linked t ≡ false → is_curve t ≡ false
raw_no_curve t k = simp (not_linked t 15 k refl, not_linked t 16 k refl)

pub header_no_curve : (t : ℕ) → is_header t ≡ true → is_curve t ≡ false
header_no_curve t = each_named (λ (t : ℕ). is_curve t ≡ false) (1 ∷ 2 ∷ 7 ∷ 12 ∷ 14 ∷ 18 ∷ 19 ∷ []) t (refl, (refl, (refl, (refl, (refl, (refl, (refl, tt)))))))

pub raw_part : (dim t n : ℕ) → is_header t ≡ false → is_linked t ≡ false → fixed_part dim t n ≡ 2
unfolding fixed_part
raw_part dim t n h k =
    simp (
      not_header t 1 h refl,
      not_linked t 2 k refl,
      not_linked t 3 k refl,
      not_linked t 4 k refl,
      not_linked t 6 k refl,
      not_linked t 7 k refl,
      not_linked t 11 k refl,
      not_linked t 12 k refl,
      not_linked t 14 k refl,
      not_linked t 15 k refl,
      not_linked t 16 k refl,
      not_linked t 17 k refl,
      not_linked t 18 k refl,
      not_linked t 19 k refl,
      not_linked t 21 k refl,
    )

-- no word sizes a header's fixed part, and it has attributes unless it is of type 1
pub header_unsized : (t : ℕ) → is_header t ≡ true → is_sized t ≡ false
header_unsized t = each_named (λ (t : ℕ). is_sized t ≡ false) (1 ∷ 2 ∷ 7 ∷ 12 ∷ 14 ∷ 18 ∷ 19 ∷ []) t (refl, (refl, (refl, (refl, (refl, (refl, (refl, tt)))))))

pub sized_simple : (t : ℕ) → is_sized t ≡ true → is_header t ≡ false
sized_simple t = each_named (λ (t : ℕ). is_header t ≡ false) (4 ∷ 6 ∷ 11 ∷ 17 ∷ 21 ∷ []) t (refl, (refl, (refl, (refl, (refl, tt)))))

pub header_linked : (t : ℕ) → is_header t ≡ true → eqb t 1 ≡ false → is_linked t ≡ true
header_linked t =
    each_named (λ (t : ℕ). eqb t 1 ≡ false → is_linked t ≡ true) (1 ∷ 2 ∷ 7 ∷ 12 ∷ 14 ∷ 18 ∷ 19 ∷ []) t
    (other, (λ e. refl, (λ e. refl, (λ e. refl, (λ e. refl, (λ e. refl, (λ e. refl, tt)))))))

-- a header is read but for 18 and 19 in a 2D file; type 1 stands only at the top, and no header under one with a count
neither : (a b : Bool) → (not a && not b) ≡ not (a || b)
neither true b = refl
neither false b = refl

pub twice : (b : Bool) → not (not b) ≡ b
twice true = refl
twice false = refl

header_read : (t : ℕ) → is_header t ≡ true → (is_unread t ≡ false) × (eqb t 17 ≡ false)
header_read t = each_named (λ (t : ℕ). (is_unread t ≡ false) × (eqb t 17 ≡ false)) (1 ∷ 2 ∷ 7 ∷ 12 ∷ 14 ∷ 18 ∷ 19 ∷ []) t ((refl, refl), ((refl, refl), ((refl, refl), ((refl, refl), ((refl, refl), ((refl, refl), ((refl, refl), tt)))))))

pub stands_header : (dim under t : ℕ) → is_header t ≡ true → may_stand dim under t ≡ (not (eqb dim 2 && one_of (18 ∷ 19 ∷ []) t) && (not (eqb t 1 && not (eqb under 0)) && not (is_counted under)))
unfolding may_stand
stands_header dim under t h =
    simp (
      (header_read t h).0,
      (header_read t h).1,
      h,
      and-true,
      neither (eqb under 7) (one_of (12 ∷ 14 ∷ 18 ∷ 19 ∷ []) under),
    )

-- of the headers 18 and 19 are the types above 17
pub header_solid : (t : ℕ) → is_header t ≡ true → one_of (18 ∷ 19 ∷ []) t ≡ ltb 17 t
header_solid t = each_named (λ (t : ℕ). one_of (18 ∷ 19 ∷ []) t ≡ ltb 17 t) (1 ∷ 2 ∷ 7 ∷ 12 ∷ 14 ∷ 18 ∷ 19 ∷ []) t (refl, (refl, (refl, (refl, (refl, (refl, (refl, tt)))))))

-- the fixed part of a header, by tests that order the types
pub header_fixed : (dim t : ℕ) → is_header t ≡ true → cond (ltb t 12) (cond (eqb t 1) 35 (cond (eqb t 2) (cond (eqb dim 2) 46 62) (cond (eqb dim 2) 35 43))) (cond (ltb t 18) 20 21) ≡ fixed_part dim t 0
unfolding fixed_part
header_fixed dim t =
    each_named
    (λ (t : ℕ). cond (ltb t 12) (cond (eqb t 1) 35 (cond (eqb t 2) (cond (eqb dim 2) 46 62) (cond (eqb dim 2) 35 43))) (cond (ltb t 18) 20 21) ≡ fixed_part dim t 0)
    (1 ∷ 2 ∷ 7 ∷ 12 ∷ 14 ∷ 18 ∷ 19 ∷ []) t (refl, (refl, (refl, (refl, (refl, (refl, (refl, tt)))))))
