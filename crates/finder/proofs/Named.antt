-- What the finder answers on an accepted file: the first element in file order that has the name, and how many were
-- looked at, itself counted. The theorems:
--     finder-count     the count is the element's ordinal plus one; 13 carries the count of all elements
--     no-such-exactly  13 is answered exactly where no element has the name and is wanted
--     found-accepted   a place is answered only of an accepted file and a good text
--     found-live       where deleted cells are passed over, the cell that is found is live
--     never-another    the stored name of the cell that is found unpacks to the text
--     one-text         two texts that find the same place are the same text
use Prim.Native.Nat.{ℕ, ◌+◌}
use mathlib.Core.Path.{◌≡◌, refl, sym, ap, ap₂, ◌∙◌, subst}
use mathlib.Core.Logic.{◌↔◌}
use mathlib.Core.Bool.{Bool, true, false, cond, ◌&&◌, ◌||◌, or-false, and-eq-true_iff}
use mathlib.Core.List.{List, [], ◌∷◌, ◌++◌, append-nil}
use native.Mathlib.Omega.{arith}
use lib.ListN.{length, length-append}
use lib.Seq.{append_snoc}
use lib.Dec.{eqb}
use borrow.Author.Tests.{eqb-true, ne_eqb}
use Rattle.words.specs.Words.{words, word_at}
use Rattle.kinds.specs.FirstWord.{deleted_of}
use Rattle.kinds.specs.Kinds.{is_cell}
use Rattle.headers.specs.Header.{type_at, name_first, name_second}
use Rattle.names.specs.Names.{packed, unpacked, text_answer}
use Rattle.names.proofs.OneToOne.{unpack_pack, no_two_share}
use Rattle.files.specs.Judge.{judge_of}
use Rattle.files.specs.Spots.{Spot, spots_of}
use Rattle.finder.specs.declared.Wanted.{Wanted}
use Rattle.finder.specs.declared.Wanted.TheVariants.{Live}
use Rattle.finder.specs.Finder.{has_name, is_wanted, is_hit, hit_if, first_named, find_by, find_of}
use Rattle.finder.specs.Meaning.{NoneNamed, FirstAt, Finds, Stored}
use Rattle.std.specs.Prelude.{Err, Ok, Result}
use Rattle.files.specs.Accepted.{accepted_with}
use Rattle.files.specs.declared.Accepted.{Accepted}
use Rattle.finder.specs.Found.{found_with, missed_with}
use Rattle.names.specs.Name.{packed_to}
use Rattle.names.specs.declared.Name.{Name}
use Rattle.refusals.specs.declared.Refusal.{Refusal}

---- an element that has the name, by its type

module _ (ws : List ℕ) (at a b : ℕ) where
  -- the two words of a name from word k on
  abbrev Words? : ℕ → Bool
  Words? k = eqb (word_at ws (at + k)) a && eqb (word_at ws (at + k + 1)) b

  by_type : has_name ws at a b ≡ ((eqb (type_at ws at) 1 && Words? 16) || (eqb (type_at ws at) 2 && Words? 19))
  unfolding has_name
  by_type = go (eqb (type_at ws at) 1) (eqb (type_at ws at) 2) refl refl
    where
      go : (x y : Bool) → eqb (type_at ws at) 1 ≡ x → eqb (type_at ws at) 2 ≡ y → ((x || (y || false)) && Words? (cond x 16 19)) ≡ ((x && Words? 16) || (y && Words? 19))
      go true true p q = absurd (omega (arith, eqb-true (type_at ws at) 1 p, eqb-true (type_at ws at) 2 q))
      go true false p q = sym (or-false (Words? 16))
      go false true p q = refl
      go false false p q = refl

  pub name_one : {t : Bool} → t ≡ (eqb (type_at ws at) 1 && Words? 16) → t ≡ true → true ≡ has_name ws at a b
  name_one e q = rw (by_type, sym e ∙ q) refl

  pub name_two : {t r : Bool} → t ≡ (eqb (type_at ws at) 1 && Words? 16) → t ≡ false →
      r ≡ (eqb (type_at ws at) 2 && Words? 19) → r ≡ has_name ws at a b
  name_two e q f = rw (by_type, sym e ∙ q) f

  pub name_none : (type_at ws at ≡ 1 → ⊥) → (type_at ws at ≡ 2 → ⊥) → false ≡ has_name ws at a b
  unfolding has_name
  name_none p q = rw (ne_eqb (type_at ws at) 1 p, ne_eqb (type_at ws at) 2 q) refl

-- a wanted cell with the name: the name is asked first
module _ (w : Wanted) (ws : List ℕ) (at a b : ℕ) where
  pub hit_none : has_name ws at a b ≡ false → is_hit w ws at a b ≡ false
  unfolding is_hit
  hit_none e = rw e refl

  pub hit_wanted : {h r : Bool} → h ≡ has_name ws at a b → h ≡ true → r ≡ is_wanted w ws at → r ≡ is_hit w ws at a b
  unfolding is_hit
  hit_wanted e q f = rw (sym e ∙ q) f

  hit_both : is_hit w ws at a b ≡ true → (has_name ws at a b ≡ true) × (is_wanted w ws at ≡ true)
  unfolding is_hit
  hit_both e = (and-eq-true_iff (has_name ws at a b) (is_wanted w ws at)).0 e

-- the words asked before the type
module _ (ws : List ℕ) (at t k a b : ℕ) {w : Bool} (e : w ≡ (eqb (word_at ws (at + k)) a && eqb (word_at ws (at + k + 1)) b)) where
  and_yes : (x : Bool) → x ≡ (x && true)
  and_yes true = refl
  and_yes false = refl

  and_no : (x : Bool) → false ≡ (x && false)
  and_no true = refl
  and_no false = refl

  pub words_first : {n : ℕ} {r : Bool} → w ≡ true → n ≡ type_at ws at → r ≡ eqb n t → r ≡ (eqb (type_at ws at) t && (eqb (word_at ws (at + k)) a && eqb (word_at ws (at + k + 1)) b))
  words_first q o f = rw (sym e ∙ q, sym o) (f ∙ and_yes _)

  pub words_fail : w ≡ false → false ≡ (eqb (type_at ws at) t && (eqb (word_at ws (at + k)) a && eqb (word_at ws (at + k + 1)) b))
  words_fail q = rw (sym e ∙ q) (and_no (eqb (type_at ws at) t))

---- the first of a list that has the name

none_more : (w : Wanted) (ws : List ℕ) (a b : ℕ) (xs : List Spot) (x : Spot) → NoneNamed w ws a b xs → is_hit w ws x.place a b ≡ false → NoneNamed w ws a b (xs ++ (x ∷ []))
none_more w ws a b [] x n h = (h, tt)
none_more w ws a b (y ∷ xs) x n h = (n.0, none_more w ws a b xs x n.1 h)

first_of : (w : Wanted) (ws : List ℕ) (a b : ℕ) (all past xs : List Spot) (n : ℕ) → all ≡ past ++ xs → n ≡ length past → NoneNamed w ws a b past → Finds w ws a b all (first_named w ws a b n xs)
first_of w ws a b all past [] n e l h =
    let q = e ∙ append-nil past in
    (refl, refl, l ∙ ap length (sym q), subst (NoneNamed w ws a b) (sym q) h)
first_of w ws a b all past (x ∷ xs) n e l h =
    go (is_hit w ws x.place a b) refl
    (λ q. first_of w ws a b all (past ++ (x ∷ [])) xs (n + 1) (e ∙ sym (append_snoc past x xs)) (ap (λ k. k + 1) l ∙ sym (length-append past (x ∷ []))) (none_more w ws a b past x h q))
  where
    go : (t : Bool) → is_hit w ws x.place a b ≡ t → (is_hit w ws x.place a b ≡ false → Finds w ws a b all (first_named w ws a b (n + 1) xs)) →
        Finds w ws a b all (hit_if t x.place n (first_named w ws a b (n + 1) xs))
    go true q r =
        let both = hit_both w ws x.place a b q in
        record { before = past; one = x; after = xs; whole = e; at = refl; counted = ap (λ k. k + 1) l; named = both.0; wanted = both.1; others = h }
    go false q r = r q

---- an accepted file

-- the finder looks at the elements in file order: the count of an answer is the element's ordinal plus one, or of all
pub finder_count : (w : Wanted) (dim : ℕ) (s t : List ℕ) (e d m a b : ℕ) → judge_of dim s ≡ accepted_with e d m → packed t ≡ packed_to a b →
    Finds w (words s) a b (spots_of dim (words s)) (find_of w dim s t)
unfolding find_of
finder_count w dim s t e d m a b q p = rw (q, p) (first_of w (words s) a b (spots_of dim (words s)) [] (spots_of dim (words s)) 0 refl refl tt)

-- with none among them the answer is 13 and the count of all
none_refused : (w : Wanted) (ws : List ℕ) (a b n : ℕ) (xs : List Spot) → NoneNamed w ws a b xs → first_named w ws a b n xs ≡ missed_with 13 0 (n + length xs)
none_refused w ws a b n [] h = ap (missed_with 13 0) (omega arith)
none_refused w ws a b n (x ∷ xs) h = rw h.0 (none_refused w ws a b (n + 1) xs h.1 ∙ ap (missed_with 13 0) (omega arith))

pub no_such_exactly : (w : Wanted) (dim : ℕ) (s t : List ℕ) (e d m a b : ℕ) → judge_of dim s ≡ accepted_with e d m → packed t ≡ packed_to a b →
    (find_of w dim s t ≡ missed_with 13 0 (length (spots_of dim (words s)))) ↔ NoneNamed w (words s) a b (spots_of dim (words s))
unfolding find_of
no_such_exactly w dim s t e d m a b q p = (
  λ h. (subst (Finds w (words s) a b (spots_of dim (words s))) h (finder_count w dim s t e d m a b q p)).3,
  λ h. rw (q, p) (none_refused w (words s) a b 0 (spots_of dim (words s)) h ∙ ap (missed_with 13 0) (omega arith)),
)

-- the cell that an answer names
pub record FoundCell (w : Wanted) (dim : ℕ) (s t : List ℕ) (place looked : ℕ) : Type 0 where
  pub elements : ℕ
  pub deepest : ℕ
  pub marker : ℕ
  pub first : ℕ
  pub second : ℕ
  pub accepted : judge_of dim s ≡ accepted_with elements deepest marker
  pub packs : packed t ≡ packed_to first second
  pub cell : FirstAt w (words s) first second (spots_of dim (words s)) place looked

pub found_accepted : (w : Wanted) (dim : ℕ) (s t : List ℕ) (place looked : ℕ) → find_of w dim s t ≡ found_with place looked → FoundCell w dim s t place looked
unfolding find_of
found_accepted w dim s t place looked q = go (judge_of dim s) refl (packed t) refl q
  where
    go : (j : Result Accepted Refusal) → judge_of dim s ≡ j → (p : Result Name Refusal) → packed t ≡ p → find_by w j p (words s) (spots_of dim (words s)) ≡ found_with place looked → FoundCell w dim s t place looked
    go (Err refusal) e p f h = absurd (cc)
    go (Ok file) e (Err refusal) f h = absurd (cc)
    go (Ok file) e (Ok name) f h =
        record {
          elements = file.elements;
          deepest = file.deepest;
          marker = file.marker;
          first = name.first;
          second = name.second;
          accepted = e;
          packs = f;
          cell = subst (Finds w (words s) name.first name.second (spots_of dim (words s))) q (finder_count w dim s t file.elements file.deepest file.marker name.first name.second e f);
        }

-- where deleted cells are passed over it is live
pub found_live : (dim : ℕ) (s t : List ℕ) (place looked : ℕ) → find_of Live dim s t ≡ found_with place looked → deleted_of (word_at (words s) place) ≡ 0
found_live dim s t place looked q = eqb-true _ _ (found_accepted Live dim s t place looked q).cell.wanted

---- its stored name

-- two words are those of a name
abbrev pub Both : ℕ → ℕ → ℕ → ℕ → Type 0
Both a b x y = (x ≡ a) × (y ≡ b)

pub named_stored : (ws : List ℕ) (at a b : ℕ) → has_name ws at a b ≡ true → Stored ws at (Both a b)
unfolding has_name
named_stored ws at a b e =
    let p = (and-eq-true_iff (is_cell (type_at ws at)) (eqb (name_first ws at) a && eqb (name_second ws at) b)).0 e in
    let q = (and-eq-true_iff (eqb (name_first ws at) a) (eqb (name_second ws at) b)).0 p.1 in
    (p.0, (eqb-true _ _ q.0, eqb-true _ _ q.1))

-- the stored name of the cell that is found unpacks to the text
pub never_another : (w : Wanted) (dim : ℕ) (s t : List ℕ) (place looked : ℕ) → find_of w dim s t ≡ found_with place looked →
    Stored (words s) place (λ x y. unpacked x y ≡ Ok (text_answer t))
never_another w dim s t place looked q =
    let c = found_accepted w dim s t place looked q in
    let u = unpack_pack t c.first c.second c.packs in
    let h = named_stored (words s) place c.first c.second c.cell.named in
    (h.0, ap₂ unpacked h.1.0 h.1.1 ∙ u)

-- a cell stores one name
stored_one : (ws : List ℕ) (at a b c d : ℕ) → Stored ws at (Both a b) → Stored ws at (Both c d) → (a ≡ c) × (b ≡ d)
stored_one ws at a b c d p q = (sym p.1.0 ∙ q.1.0, sym p.1.1 ∙ q.1.1)

-- so two texts that find the same place are the same: 00417 never finds 417
pub one_text : (w v : Wanted) (dim : ℕ) (s t u : List ℕ) (place n k : ℕ) → find_of w dim s t ≡ found_with place n → find_of v dim s u ≡ found_with place k → t ≡ u
one_text w v dim s t u place n k p q =
    let c = found_accepted w dim s t place n p in
    let d = found_accepted v dim s u place k q in
    let e = stored_one (words s) place c.first c.second d.first d.second
    (named_stored (words s) place c.first c.second c.cell.named) (named_stored (words s) place d.first d.second d.cell.named) in
    no_two_share t u d.first d.second (c.packs ∙ ap₂ packed_to e.0 e.1) d.packs
