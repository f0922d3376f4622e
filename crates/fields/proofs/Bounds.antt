-- What the tests of a call say of its numbers, and back: each field's bound, and how many words the fixed part has.
use Prim.Native.Nat.{ℕ, ◌+◌, ◌-◌, ◌*◌, ◌/◌, ◌%◌, ◌≤◌, ◌<◌}
use mathlib.Core.Path.{◌≡◌, refl, subst⁻¹}
use mathlib.Core.Bool.{Bool, true, false, cond, ◌&&◌, and-eq-true_iff}
use mathlib.Core.List.{List, [], ◌∷◌}
use native.Mathlib.Omega.{arith}
use lib.ListN.{length}
use lib.Dec.{eqb, leb}
use lib.IntN.{ℤ}
use lib.Signed.{mag}
use borrow.Author.Tests.{leb-true, le-leb, ltb-true, lt-ltb, eqb-true, eq-eqb, ne_eqb}
use Rattle.ranges.specs.Ranges.{is_coordinate}
use Rattle.limits.specs.Limits.{dim_ok}
use Rattle.limits.proofs.Dimensions.{by_dims}
use Rattle.kinds.specs.Kinds.{is_pointed, fixed_part}
use Rattle.kinds.proofs.Types.{Each, each_named}
use Rattle.fields.specs.Words.{range_coordinates, count_words}
use Rattle.fields.specs.Faults.{each_at_most, each_coordinate, is_written, words_ok, symbology_ok, fields_ok, points_fit, arguments_ok, point_number_ok}
use Rattle.fields.specs.declared.Fields.{Fields}

---- tests of two parts

pub both : (a b : Bool) → (a && b) ≡ true → (a ≡ true) × (b ≡ true)
both a b e = (and-eq-true_iff a b).0 e

pub and-true : {a b : Bool} → a ≡ true → b ≡ true → (a && b) ≡ true
and-true {a} {b} p q = (and-eq-true_iff a b).1 (p, q)

-- tests that are all to pass
abbrev pub all_of : List Bool → Bool
all_of [] = true
all_of (a ∷ []) = a
all_of (a ∷ b ∷ r) = a && all_of (b ∷ r)

-- the answer of a test of two parts, from its first part
pub and_no : {a : Bool} (b : Bool) → a ≡ false → false ≡ (a && b)
and_no b e = rw e refl

pub and_on : {a b r : Bool} → a ≡ true → r ≡ b → r ≡ (a && b)
and_on e q = rw e q

-- the last of a list of tests
pub and_last : (a : Bool) → a ≡ (a && true)
and_last true = refl
and_last false = refl

-- a bit is 1 exactly where it is not 0
pub one_not : (n : ℕ) → n ≡ 0 → eqb n 1 ≡ false
one_not n z = ne_eqb n 1 (λ o. omega arith)

pub one_else : (n : ℕ) → (n % 2 ≡ 0 → ⊥) → eqb (n % 2) 1 ≡ true
one_else n h = eq-eqb (n % 2) 1 (go (n % 2) h (omega arith))
  where
    go : (m : ℕ) → (m ≡ 0 → ⊥) → m ≤ 1 → m ≡ 1
    go m z l = let o : 1 ≤ m = omega arith in omega arith

pub each_least : (m : ℕ) (xs : List ℕ) → each_at_most m xs ≡ true → Each (λ x. x ≤ m) xs
each_least m [] e = tt
each_least m (x ∷ xs) e = (leb-true x m (both (leb x m) _ e).0, each_least m xs (both (leb x m) _ e).1)

pub least_each : (m : ℕ) (xs : List ℕ) → Each (λ x. x ≤ m) xs → each_at_most m xs ≡ true
least_each m [] e = refl
least_each m (x ∷ xs) e = and-true (le-leb x m e.0) (least_each m xs e.1)

-- each of a list is a coordinate
abbrev pub Coordinates : List ℤ → Type 0
Coordinates [] = Unit {0}
Coordinates (z ∷ zs) = (mag z < 2147483648) × Coordinates zs

coordinates : (zs : List ℤ) → each_coordinate zs ≡ true → Coordinates zs
coordinates [] e = tt
coordinates (z ∷ zs) e = (ltb-true (mag z) 2147483648 (both (is_coordinate z) _ e).0, coordinates zs (both (is_coordinate z) _ e).1)

coordinates_ok : (zs : List ℤ) → Coordinates zs → each_coordinate zs ≡ true
coordinates_ok [] e = refl
coordinates_ok (z ∷ zs) e = and-true (lt-ltb (mag z) 2147483648 e.0) (coordinates_ok zs e.1)

---- the fields

pub record Bounds (f : Fields) : Type 0 where
  pub level : f.level ≤ 63
  pub range : Coordinates (range_coordinates f)
  pub words : Each (λ x. x ≤ 65535) (f.group ∷ f.index ∷ f.properties ∷ [])
  pub style : f.style ≤ 7
  pub weight : f.weight ≤ 31
  pub colour : f.colour ≤ 255

pub bounds : (f : Fields) → fields_ok f ≡ true → Bounds f
unfolding fields_ok
bounds f e =
    let a = both (leb f.level 63) _ e in
    let b = both (each_coordinate (range_coordinates f)) (words_ok f && symbology_ok f) a.1 in
    let c = both (words_ok f) (symbology_ok f) b.1 in
    let d = both (leb f.style 7) _ c.1 in
    let g = both (leb f.weight 31) _ d.1 in
    record {
      level = leb-true f.level 63 a.0;
      range = coordinates (range_coordinates f) b.0;
      words = each_least 65535 (f.group ∷ f.index ∷ f.properties ∷ []) c.0;
      style = leb-true f.style 7 d.0;
      weight = leb-true f.weight 31 g.0;
      colour = leb-true f.colour 255 g.1;
    }

pub bounds_ok : (f : Fields) → Bounds f → fields_ok f ≡ true
unfolding fields_ok
bounds_ok f b =
    and-true (le-leb f.level 63 b.level)
    (and-true (coordinates_ok (range_coordinates f) b.range)
    (and-true (least_each 65535 (f.group ∷ f.index ∷ f.properties ∷ []) b.words)
    (and-true (le-leb f.style 7 b.style) (and-true (le-leb f.weight 31 b.weight) (le-leb f.colour 255 b.colour)))))

---- the call

pub record Called (dim : ℕ) (f : Fields) (points tail : ℕ) : Type 0 where
  pub dims : dim_ok dim ≡ true
  pub kind : is_written f.kind ≡ true
  pub fields : fields_ok f ≡ true
  pub fit : points_fit dim f.kind points ≡ true
  pub even : tail % 2 ≡ 0

pub called : {dim : ℕ} {f : Fields} {points tail : ℕ} → arguments_ok dim f points tail ≡ true → Called dim f points tail
unfolding arguments_ok
called {dim} {f} {points} {tail} e =
    let a = both (dim_ok dim) _ e in
    let b = both (is_written f.kind) _ a.1 in
    let c = both (fields_ok f) _ b.1 in
    let d = both (points_fit dim f.kind points) _ c.1 in
    record { dims = a.0; kind = b.0; fields = c.0; fit = d.0; even = eqb-true (tail % 2) 0 d.1 }

pub called_ok : {dim : ℕ} {f : Fields} {points tail : ℕ} → Called dim f points tail → arguments_ok dim f points tail ≡ true
unfolding arguments_ok
called_ok {dim} {f} {points} {tail} c =
    and-true c.dims (and-true c.kind (and-true c.fields (and-true c.fit (eq-eqb (tail % 2) 0 c.even))))

---- the fixed part

-- what holds of type 3, and of the types with N
pub by_kinds : (P : ℕ → Type 0) (kind : ℕ) → is_written kind ≡ true → P 3 → P 4 → P 6 → P 11 → P kind
by_kinds P kind k p q r s = each_named P (3 ∷ 4 ∷ 6 ∷ 11 ∷ []) kind (p, (q, (r, (s, tt)))) k

-- the number of points, for a dimension
pub counted : (dim n : ℕ) {r : ℕ} → dim_ok dim ≡ true → r ≡ cond (dim_ok dim) (n / dim) 0 → r ≡ n / dim
counted dim n d e = rw d at e

-- their coordinates, and what is left of all
pub counted_left : (dim n : ℕ) {r : ℕ} → dim_ok dim ≡ true → r ≡ cond (dim_ok dim) (n / dim) 0 → (dim * r ≤ n) × (n - dim * r ≡ n % dim)
counted_left dim n d e =
    subst⁻¹ (λ m. (dim * m ≤ n) × (n - dim * m ≡ n % dim)) (counted dim n d e)
    (by_dims (λ m. (m * (n / m) ≤ n) × (n - m * (n / m) ≡ n % m)) dim d (omega arith, omega arith) (omega arith, omega arith))

length_count : (kind n : ℕ) → length (count_words kind n) ≤ 1
length_count kind n = go (is_pointed kind)
  where
    go : (b : Bool) → length (cond b (n ∷ []) []) ≤ 1
    go true = omega arith
    go false = omega arith

module _ (dim kind p : ℕ) (d : dim_ok dim ≡ true) (k : is_written kind ≡ true) (fit : points_fit dim kind p ≡ true) where
  -- 18 words of the header, N, and two words for each coordinate
  pub fixed_is : fixed_part dim kind (p / dim) ≡ 18 + (length (count_words kind (p / dim)) + 2 * p)
  unfolding fixed_part points_fit
  fixed_is =
      let line = by_dims (λ m. eqb p (2 * m) ≡ true → cond (eqb m 2) 26 30 ≡ 18 + (0 + 2 * p)) dim d (λ e. omega (arith, eqb-true p 4 e)) (λ e. omega (arith, eqb-true p 6 e)) in
      let many = by_dims (λ m. eqb (p % m) 0 ≡ true → cond (eqb m 2) (19 + 4 * (p / m)) (19 + 6 * (p / m)) ≡ 18 + (1 + 2 * p)) dim d
      (λ e. omega (arith, eqb-true (p % 2) 0 e)) (λ e. omega (arith, eqb-true (p % 3) 0 e)) in
      by_kinds (λ t. points_fit dim t p ≡ true → fixed_part dim t (p / dim) ≡ 18 + (length (count_words t (p / dim)) + 2 * p)) kind k line many many many fit

  pub fixed_most : fixed_part dim kind (p / dim) ≤ 19 + 2 * p
  fixed_most = let e = fixed_is in let l = length_count kind (p / dim) in omega arith

  pub fixed_least : 19 ≤ fixed_part dim kind (p / dim)
  unfolding fixed_part
  fixed_least =
      let line = by_dims (λ m. 19 ≤ cond (eqb m 2) 26 30) dim d (omega arith) (omega arith) in
      let many = by_dims (λ m. 19 ≤ cond (eqb m 2) (19 + 4 * (p / m)) (19 + 6 * (p / m))) dim d (omega arith) (omega arith) in
      by_kinds (λ t. 19 ≤ fixed_part dim t (p / dim)) kind k line many many many

  -- N is small where it is from 2 to 101, and of type 3 it is 2
  pub count_small : point_number_ok kind (p / dim) ≡ true → p / dim ≤ 101
  unfolding points_fit point_number_ok
  count_small =
      let line = by_dims (λ m. eqb p (2 * m) ≡ true → p / m ≤ 101) dim d (λ e. omega (arith, eqb-true p 4 e)) (λ e. omega (arith, eqb-true p 6 e)) in
      let many : (leb 2 (p / dim) && leb (p / dim) 101) ≡ true → p / dim ≤ 101 = λ e. leb-true (p / dim) 101 (both (leb 2 (p / dim)) _ e).1 in
      by_kinds (λ t. points_fit dim t p ≡ true → point_number_ok t (p / dim) ≡ true → p / dim ≤ 101) kind k (λ e c. line e) (λ e. many) (λ e. many) (λ e. many) fit

  -- the coordinates are as many as the points have
  pub count_whole : p ≡ dim * (p / dim)
  unfolding points_fit
  count_whole =
      by_kinds (λ t. points_fit dim t p ≡ true → p ≡ dim * (p / dim)) kind k
      (by_dims (λ m. eqb p (2 * m) ≡ true → p ≡ m * (p / m)) dim d (λ e. omega (arith, eqb-true p 4 e)) (λ e. omega (arith, eqb-true p 6 e)))
      many many many fit
    where
      many : eqb (p % dim) 0 ≡ true → p ≡ dim * (p / dim)
      many = by_dims (λ m. eqb (p % m) 0 ≡ true → p ≡ m * (p / m)) dim d (λ e. omega (arith, eqb-true (p % 2) 0 e)) (λ e. omega (arith, eqb-true (p % 3) 0 e))
