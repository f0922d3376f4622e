-- Bytes put into a buffer one after another, from its front on, are the line written over it.
use Prim.Native.Nat.{ℕ, ◌+◌, ◌/◌, ◌%◌, ◌^◌, ◌≤◌, ◌<◌, min}
use mathlib.Core.Path.{◌≡◌, refl, sym, ap, ◌∙◌}
use mathlib.Core.Bool.{Bool, true, false}
use mathlib.Core.List.{List, [], ◌∷◌, ◌++◌}
use native.Mathlib.Omega.{arith}
use lib.ListN.{length, take, length-append, length-take}
use lib.Seq.{sets, sets-eq, take_all}
use lib.Dec.{leb}
use borrow.Rule.Slice.PartMut.{put_mid}
use borrow.Author.Tests.{le-leb, lt-leb, leb-true, leb-false}
use Rattle.std.proofs.lemmas.Slice.{put_mid-paste}
use Rattle.words.specs.Words.{over}
use Rattle.words.proofs.Puts.{sets_then}
use Rattle.listing.specs.Lines.{decimal, last_field, written, written_length, WritesLine}
use Rattle.listing.specs.Puts.{Puts}
use Rattle.listing.proofs.Decimal.{length_decimal, decimal_one, decimal_more}

pub puts_then : {s t u : List ℕ} {at m r : ℕ} {x y : List ℕ} → Puts s at x t m → Puts t m y u r → Puts s at (x ++ y) u r
puts_then {s} {t} {u} {at} {m} {r} {x} {y} p q = record {
  bytes = q.bytes ∙ ap (λ l. sets l m y) p.bytes ∙ sets_then s at x y m p.next;
  next = simp length-append (omega arith);
}

-- a part of a buffer that holds the bytes
pub part_put : (s x y : List ℕ) (at k : ℕ) → y ≡ x → k ≡ length x → at + k ≤ length s → put_mid at k s y ≡ sets s at x
part_put s x y at k e l h = put_mid-paste at k s y x k e refl l ∙ rw (l, take_all (length x) x (omega arith)) (sym (sets-eq x s at (omega arith)))

-- a line put from a buffer's front on, where the buffer has the room asked for
pub line_written : (room : ℕ) (s line t : List ℕ) (r : ℕ) → Puts s 0 line t r → r ≤ length s → room ≤ length s → WritesLine room s line t r
unfolding written written_length over
line_written room s line t r p h l = record {
  bytes = rw (le-leb room (length s) l) (p.bytes ∙ sets-eq line s 0 (omega arith));
  count = rw (le-leb room (length s) l) (omega arith);
  within = h;
}

-- no line where it has less
pub no_line : (room : ℕ) (s line : List ℕ) → length s < room → WritesLine room s line s 0
unfolding written written_length
no_line room s line h = record { bytes = rw (lt-leb room (length s) h) refl; count = rw (lt-leb room (length s) h) refl; within = omega arith }

-- nothing is written of an empty line, whatever the room
pub empty_line : (room : ℕ) (s : List ℕ) → WritesLine room s [] s 0
unfolding written written_length over
empty_line room s = go (leb room (length s)) refl
  where
    go : (t : Bool) → leb room (length s) ≡ t → WritesLine room s [] s 0
    go true e = line_written room s [] s 0 (record { bytes = refl; next = omega arith }) (omega arith) (leb-true room (length s) e)
    go false e = no_line room s [] (leb-false room (length s) e)

-- bytes put, by a place
abbrev pub PutsBy : List ℕ → ℕ → List ℕ → List ℕ → ℕ → ℕ → Type 0
PutsBy s at x t r bound = record { puts : Puts s at x t r; upper_bound : r ≤ bound }

-- a number below ten is put as one byte
pub one_digit : (s t : List ℕ) (at n r : ℕ) → n < 10 → Puts s at ((48 + n) ∷ []) t r → PutsBy s at (decimal n) t r (at + 20)
one_digit s t at n r h p = record { puts = rw (decimal_one n h) p; upper_bound = omega arith }

-- any other as its tenth part and one byte more
pub more_digits : (s t u : List ℕ) (at m n r : ℕ) → 10 ≤ n → n < 2 ^ 64 → Puts s at (decimal (n / 10)) t m → Puts t m ((48 + n % 10) ∷ []) u r →
    PutsBy s at (decimal n) u r (at + 20)
more_digits s t u at m n r h l p q =
    let w : Puts s at (decimal n) u r = rw (decimal_more n h l) (puts_then p q) in
    record { puts = w; upper_bound = omega (arith, (length_decimal n).1) }

---- the last field of a line

-- an empty one is not put
pub no_field : (s : List ℕ) (at : ℕ) → Puts s at (last_field []) s at
no_field s at = record { bytes = refl; next = omega arith }

-- any other is put after a space
after_space : (l : List ℕ) → (length l ≡ 0 → ⊥) → last_field l ≡ 32 ∷ l
after_space [] h = absurd (h refl)
after_space (b ∷ l) h = refl

pub some_field : {s t u x : List ℕ} {at m r : ℕ} → (length x ≡ 0 → ⊥) → Puts s at (32 ∷ []) t m → Puts t m x u r → Puts s at (last_field x) u r
some_field {x = x} h p q = rw (after_space x h) (puts_then p q)

-- a name, its first six letters
pub no_name : (s l : List ℕ) (at : ℕ) → length l ≡ 0 → PutsBy s at (last_field (take 6 l)) s at (at + 7)
no_name s [] at e = record { puts = no_field s at; upper_bound = omega arith }
no_name s (b ∷ l) at e = absurd (omega arith)

pub some_name : (s t u l x : List ℕ) (at m r : ℕ) → (length l ≡ 0 → ⊥) → x ≡ take 6 l → Puts s at (32 ∷ []) t m → Puts t m x u r →
    PutsBy s at (last_field (take 6 l)) u r (at + 7)
some_name s t u l x at m r h e p q =
    let n : length x ≡ min 6 (length l) = rw (e, length-take) in
    record { puts = rw (← e) (some_field (λ z. h (omega arith)) p q); upper_bound = omega arith }
