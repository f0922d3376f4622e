-- What a function of the C interface answers: where it is done it returns 0 and puts numbers at the front of the caller's
-- slice; where it refuses it returns one number, made of the refusal's number and its detail, and the slice stays.
use Rattle.std.specs.Prelude.{ℕ, ◌+◌, ◌*◌, ◌/◌, ◌%◌, ◌<◌, ◌≤◌, ◌≡◌, ◌≢◌, cond, List, length, leb}
use Rattle.std.proofs.lemmas.List.Edits.{sets}

-- done, with the numbers for the caller's slice; or a refusal, with its number and its detail, a place or a count
pub data Reply (A : Type 0) : Type 0 where
  done : List A → Reply A
  refuse : ℕ → ℕ → Reply A

-- the one number of a refusal
abbrev pub refusal_number : ℕ → ℕ → ℕ
refusal_number number detail = number + 256 * detail

-- the number that is returned
abbrev pub returned : {A : Type 0} → Reply A → ℕ
returned (done given) = 0
returned (refuse number detail) = refusal_number number detail

-- the caller's slice as it then is
abbrev pub slice_left : {A : Type 0} → Reply A → List A → List A
slice_left (done given) s = sets s 0 given
slice_left (refuse number detail) s = s

-- a slice of fewer numbers than are needed is refused with 1 before all else
abbrev pub with_room : {A : Type 0} → ℕ → Reply A → List A → Reply A
with_room needed r s = cond (leb needed (length s)) r (refuse 1 0)

-- the number that is returned and the slice as it then is
pub record Replied {A : Type 0} (needed : ℕ) (r : Reply A) (s : List A) (n : ℕ) (t : List A) : Type 0 where
  pub is : n ≡ returned (with_room needed r s)
  pub out : t ≡ slice_left (with_room needed r s) s

-- a refusal that a caller can take apart: its number is one of the table's, its detail at most the words of the longest file
abbrev pub Small : ℕ → ℕ → Type 0
Small number detail = (1 ≤ number) × (number ≤ 22) × (detail ≤ 524288)

abbrev pub SmallReply : {A : Type 0} → Reply A → Type 0
SmallReply (done given) = Unit {0}
SmallReply (refuse number detail) = Small number detail

-- what a caller reads of an answer: 0 and the numbers, or another number, which has the refusal's number in its last 8 bits
-- and its detail above them and fits 32 bits, and the slice as it was
abbrev pub ReadAs : {A : Type 0} → Reply A → List A → ℕ → List A → Type 0
ReadAs (done given) s n t = (n ≡ 0) × (t ≡ sets s 0 given)
ReadAs (refuse number detail) s n t = (n ≢ 0) × (n % 256 ≡ number) × (n / 256 ≡ detail) × (n < 4294967296) × (t ≡ s)
