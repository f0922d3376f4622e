-- Every refusal of dgn_record is small, and so are the numbers of a record: they are read of words.
use Prim.Native.Nat.{ℕ, ◌+◌, ◌-◌, ◌*◌, ◌%◌, ◌≤◌, ◌<◌}
use mathlib.Core.Path.{◌≡◌, refl, sym, ap, ◌∙◌, subst}
use mathlib.Core.Logic.{◌⊎◌, inl, inr}
use mathlib.Core.Bool.{Bool, true, false, cond, ◌&&◌, and-eq-true_iff}
use mathlib.Core.List.{List}
use mathlib.Core.Option.{Option, none, some}
use native.Mathlib.Omega.{arith}
use lib.ListN.{length, get_or, take, drop, length-take}
use lib.Seq.{sets}
use lib.Dec.{eqb, leb}
use borrow.Author.Tests.{eqb-false, leb-true}
use Rattle.words.specs.Words.{Below, word_at, long_at}
use Rattle.words.proofs.Laws.{words_below}
use Rattle.limits.specs.Limits.{used_ok}
use Rattle.edits.specs.Calls.{used_words}
use Rattle.edits.specs.Records.{Rec, flag, renamed, inserted, removed, Newest, Kind, flags, renames, inserts, removes, no_kind, keep, place_of, kind_of, formed, build, read_at, last_record}
use Rattle.edits.proofs.Accepted.{SmallHeader}
use Rattle.edits.proofs.Bounds.{below_take}
use Rattle.edits.proofs.Tested.{used_parts}
use Rattle.answers.specs.Answers.{done, refuse, returned, slice_left, SmallReply}
use Rattle.answers.proofs.Besides.{front_at}
use Rattle.dgn_record.specs.LastRecord.{header_number, record_numbers, newest_reply, record_reply, SmallRecord, RecordWithin}
use Rattle.dgn_record.proofs.Ends.{ends_there}

---- refusals

pub record_small : (journal : List ℕ) (used : ℕ) → SmallReply (record_reply journal used)
unfolding record_reply
record_small journal used = go (used_ok (length journal) used) (eqb used 0) (last_record (used_words journal used))
  where
    go : (a b : Bool) (l : Newest) → SmallReply (cond a (cond b (refuse 17 0) (newest_reply l)) (refuse 1 0))
    go false b l = (omega arith, omega arith, omega arith)
    go true true l = (omega arith, omega arith, omega arith)
    go true false none = (omega arith, omega arith, omega arith)
    go true false (some l) = tt

---- a record that is read of words

-- its header place, its place and the number of its payload's words
abbrev Fits : Rec → Type 0
Fits (flag p x) = (p < 4294967296) × (length x < 65536)
Fits (renamed p a b) = p < 4294967296
Fits (inserted h p) = SmallHeader h × (p < 4294967296)
Fits (removed h p x) = SmallHeader h × ((p < 4294967296) × (length x < 65536))

abbrev FitsIn : Newest → Type 0
FitsIn none = Unit {0}
FitsIn (some l) = Fits l.0

keep_fits : (b : Bool) (l : Newest) → FitsIn l → FitsIn (keep b l)
keep_fits true l h = h
keep_fits false l h = tt

build_fits : (k : Kind) (h : Option ℕ) (p : ℕ) (x before : List ℕ) → SmallHeader h → p < 4294967296 → length x < 65536 → FitsIn (build k h p x before)
build_fits flags h p x before a b c = (b, c)
build_fits renames h p x before a b c = b
build_fits inserts h p x before a b c = (a, b)
build_fits removes h p x before a b c = (a, (b, c))
build_fits no_kind h p x before a b c = tt

header_fits : (n : ℕ) → n < 4294967296 → SmallHeader (place_of n)
header_fits n h = go (eqb n 4294967295) refl
  where
    go : (b : Bool) → eqb n 4294967295 ≡ b → SmallHeader (cond b none (some n))
    go true e = tt
    go false e = let z = eqb-false n 4294967295 e in omega arith

last_fits : (js : List ℕ) → Below 65536 js → FitsIn (last_record js)
unfolding last_record
last_fits js b =
    let t = length js - 6 in
    let n = word_at js (t + 5) in
    let k = kind_of (word_at js t) in
    let h = long_at js (t + 1) in
    let p = long_at js (t + 3) in
    let x = take n (drop (t - n) js) in
    let few : length (take (word_at js (length js - 6 + 5)) (drop (length js - 6 - word_at js (length js - 6 + 5)) js)) < 65536 =
    let l = length-take n (drop (t - n) js) in let w = b (t + 5) in omega arith in
    let a : long_at js (length js - 6 + 1) < 4294967296 = let u = b (t + 1) in let v = b (t + 1 + 1) in omega arith in
    let c : long_at js (length js - 6 + 3) < 4294967296 = let u = b (t + 3) in let v = b (t + 3 + 1) in omega arith in
    keep_fits (leb 6 (length js)) (read_at js t n)
    (keep_fits (leb n t && formed k (place_of h) n) (build k (place_of h) p x (take (t - n) js)) (build_fits k (place_of h) p x (take (t - n) js) (header_fits h a) c few))

---- its numbers

header_is : (h : Option ℕ) → SmallHeader h → (header_number h < 4294967295) ⊎ (header_number h ≡ header_number none)
header_is none s = inr refl
header_is (some h) s = inl s

abbrev Numbers : List ℕ → Type 0
Numbers g = SmallRecord (get_or g 0 0) (get_or g 1 0) (get_or g 2 0) (get_or g 3 0) (get_or g 4 0)

numbers_small : (r : Rec) (before : ℕ) → Fits r → before ≤ 1048576 → Numbers (record_numbers r before)
numbers_small (flag p x) before f l = record { a_kind = (omega arith, omega arith); a_header = inr refl; a_place = f.0; payload = f.1; back = l }
numbers_small (renamed p a b) before f l = record { a_kind = (omega arith, omega arith); a_header = inr refl; a_place = f; payload = omega arith; back = l }
numbers_small (inserted h p) before f l = record { a_kind = (omega arith, omega arith); a_header = header_is h f.0; a_place = f.1; payload = omega arith; back = l }
numbers_small (removed h p x) before f l = record { a_kind = (omega arith, omega arith); a_header = header_is h f.0; a_place = f.1.0; payload = f.1.1; back = l }

five : (r : Rec) (before : ℕ) → length (record_numbers r before) ≡ 5
five (flag p x) before = refl
five (renamed p a b) before = refl
five (inserted h p) before = refl
five (removed h p x) before = refl

-- the numbers at the front of the slice
in_slice_lem : (g out t : List ℕ) → length g ≡ 5 → 5 ≤ length out → t ≡ sets out 0 g → Numbers g → Numbers t
in_slice_lem g out t l h e s =
    let read : (i : ℕ) → i < 5 → get_or g i 0 ≡ get_or t i 0 = λ i k. sym (ap (λ u. get_or u i 0) e ∙ front_at g out i 0 (omega arith) (omega arith)) in
    rw (← read 0 (omega arith), ← read 1 (omega arith), ← read 2 (omega arith), ← read 3 (omega arith), ← read 4 (omega arith)) s

-- the used length before a record
before_small : (journal : List ℕ) (used : ℕ) (r : Rec) (before : ℕ) → record_reply journal used ≡ done (record_numbers r before) → before ≤ 1048576
before_small journal used r before e =
    let u = used_parts (length journal) before (lent r e) in
    let most = leb-true (length journal) 1048576 ((and-eq-true_iff (eqb (length journal % 2) 0) (leb (length journal) 1048576)).0 u.size_ok_lem).1 in
    let w = u.within in
    omega arith
  where
    lent : (r : Rec) → record_reply journal used ≡ done (record_numbers r before) → used_ok (length journal) before ≡ true
    lent (flag p x) e = (ends_there journal used _ _ _ _ before e).lent
    lent (renamed p a b) e = (ends_there journal used _ _ _ _ before e).lent
    lent (inserted h p) e = (ends_there journal used _ _ _ _ before e).lent
    lent (removed h p x) e = (ends_there journal used _ _ _ _ before e).lent

pub record_within : RecordWithin
unfolding record_reply
record_within journal used out t b a = go (leb 5 (length out)) refl (used_ok (length journal) used) refl (eqb used 0) refl (last_record (used_words journal used)) refl a.is a.out
  where
    go : (room : Bool) → leb 5 (length out) ≡ room → (lent : Bool) → used_ok (length journal) used ≡ lent → (empty : Bool) → eqb used 0 ≡ empty →
        (l : Newest) → last_record (used_words journal used) ≡ l →
        0 ≡ returned (cond room (cond lent (cond empty (refuse 17 0) (newest_reply l)) (refuse 1 0)) (refuse 1 0)) →
        t ≡ slice_left (cond room (cond lent (cond empty (refuse 17 0) (newest_reply l)) (refuse 1 0)) (refuse 1 0)) out → Numbers t
    go false p lent q empty y l k z o = absurd (omega arith)
    go true p false q empty y l k z o = absurd (omega arith)
    go true p true q true y l k z o = absurd (omega arith)
    go true p true q false y none k z o = absurd (omega arith)
    go true p true q false y (some (r, js)) k z o =
        let f = subst FitsIn k (last_fits (used_words journal used) (words_below (take used journal) (below_take 256 used journal (omega arith) b))) in
        let is : record_reply journal used ≡ done (record_numbers r (2 * length js)) = rw (q, y, k) refl in
        in_slice_lem (record_numbers r (2 * length js)) out t (five r (2 * length js)) (leb-true 5 (length out) p) o
        (numbers_small r (2 * length js) f (before_small journal used r (2 * length js) is))
