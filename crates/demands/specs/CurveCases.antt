-- Worked cases of floats, and of ellipses and arcs (RULES.md, "Floats" and "Ellipses and arcs"): what four words are read as, which
-- elements are refused, and what the call for one gives.
use Rattle.std.specs.Prelude.{ℕ, zero, suc, ◌+◌, ◌*◌, ◌-◌, List, [], ◌∷◌, ◌++◌, replicate, Float, Err, Ok, Result}
use Rattle.std.specs.Float.{binary64}
use Rattle.std.specs.Float.Ieee.{to_bits}
use Rattle.refusals.specs.declared.Refusal.{Refusal}
use Rattle.words.specs.Words.{bytes}
use Rattle.dfloats.specs.FirstWord.{is_reserved}
use Rattle.dfloats.specs.Reading.{d_float}
use Rattle.kinds.specs.FirstWord.{bit}
use Rattle.headers.specs.Checks.{first_fault}
use Rattle.elements.specs.Rules.{content_checks}
use Rattle.curve_views.specs.CurveViews.{curve_of}
use Rattle.curve_views.specs.declared.Origin.{Origin}
use Rattle.curve_views.specs.declared.Origin.TheVariants as origin
use Rattle.curve_views.specs.declared.Curve.TheVariants as curve
use Rattle.curve_views.specs.declared.Curve.{Curve}
use Rattle.demands.specs.Cases.{Case, case}
use Rattle.demands.specs.Shown.{with_marker, judged, fixed_parts, turn_shown}
use Rattle.demands.specs.Elements.{live, plain, attributed, raw, line, text, cell, named_cell, counting}

---- floats

-- a 64-bit float as its bits, and that of four words
abbrev pub bits : Float → ℕ
bits x = to_bits binary64 x

abbrev pub read_as : ℕ → ℕ → ℕ → ℕ → ℕ
read_as a b c d = bits (d_float a b c d)

abbrev pub reserved : ℕ → ℕ
reserved a = bit (is_reserved a)

abbrev pub float_cases : List Case
float_cases =
    -- 1, and -1
    case (read_as 16512 0 0 0 ∷ read_as 49280 0 0 0 ∷ []) (0x3FF0000000000000 ∷ 0xBFF0000000000000 ∷ []) ∷
    -- the words of the fraction, from high to low
    case (read_as 16513 0 0 0 ∷ read_as 16512 1 0 0 ∷ read_as 16512 0 1 0 ∷ read_as 16512 0 0 8 ∷ [])
    (0x3FF0200000000000 ∷ 0x3FF0000020000000 ∷ 0x3FF0000000002000 ∷ 0x3FF0000000000001 ∷ []) ∷
    -- a tie goes down to the even one, or up; one less and one more than a tie
    case (read_as 16512 0 0 4 ∷ read_as 16512 0 0 12 ∷ []) (0x3FF0000000000000 ∷ 0x3FF0000000000002 ∷ []) ∷
    case (read_as 16512 0 0 3 ∷ read_as 16512 0 0 5 ∷ read_as 16512 0 0 11 ∷ read_as 16512 0 0 13 ∷ [])
    (0x3FF0000000000000 ∷ 0x3FF0000000000001 ∷ 0x3FF0000000000001 ∷ 0x3FF0000000000002 ∷ []) ∷
    -- a negative tie is rounded as the positive one
    case (read_as 49280 0 0 4 ∷ read_as 49280 0 0 12 ∷ []) (0xBFF0000000000000 ∷ 0xBFF0000000000002 ∷ []) ∷
    -- a carry to the next power of two: 2; the last tie, and the last number below it
    case (read_as 16639 65535 65535 65535 ∷ read_as 16639 65535 65535 65532 ∷ read_as 16639 65535 65535 65531 ∷ [])
    (0x4000000000000000 ∷ 0x4000000000000000 ∷ 0x3FFFFFFFFFFFFFFF ∷ []) ∷
    -- the smallest: E = 1, F = 0
    case (read_as 128 0 0 0 ∷ read_as 32896 0 0 0 ∷ []) (0x37F0000000000000 ∷ 0xB7F0000000000000 ∷ []) ∷
    -- the largest: E = 255; all of F ones is rounded up to 2 ^ 127
    case (read_as 32767 65535 65535 65528 ∷ read_as 32767 65535 65535 65535 ∷ read_as 65535 65535 65535 65535 ∷ [])
    (0x47DFFFFFFFFFFFFF ∷ 0x47E0000000000000 ∷ 0xC7E0000000000000 ∷ []) ∷
    -- E = 0 with the sign clear is +0, whatever F is
    case (read_as 0 0 0 0 ∷ read_as 1 2 3 4 ∷ read_as 127 65535 65535 65535 ∷ []) (0 ∷ 0 ∷ 0 ∷ []) ∷
    -- with the sign set it is refused, whatever the rest of the word is
    case (reserved 32768 ∷ reserved 32895 ∷ reserved 32896 ∷ reserved 127 ∷ reserved 0 ∷ reserved 65535 ∷ []) (1 ∷ 1 ∷ 0 ∷ 0 ∷ 0 ∷ 0 ∷ []) ∷
    []

---- judging

-- the first number of an answer
abbrev pub first_of : List ℕ → ℕ
first_of [] = 0
first_of (n ∷ ns) = n

-- the number that judging answers of an element of a type with the word 32768 at word 18 + k; and for n words from k on
abbrev pub with_reserved : ℕ → ℕ → ℕ → ℕ → ℕ
with_reserved dim kind size k = first_of (judged dim (plain kind 0 size (replicate k 0 ++ (32768 ∷ []))))

abbrev pub reserved_from : ℕ → ℕ → ℕ → ℕ → ℕ → List ℕ
reserved_from dim kind size zero k = []
reserved_from dim kind size (suc n) k = with_reserved dim kind size k ∷ reserved_from dim kind size n (k + 1)

-- the same for each of its words from 18 on
abbrev pub reserved_at : ℕ → ℕ → ℕ → List ℕ
reserved_at dim kind size = reserved_from dim kind size (size - 18) 0

-- a float, a long and four longs, where 32768 is refused or not
abbrev pub float : List ℕ
float = 21 ∷ 0 ∷ 0 ∷ 0 ∷ []

abbrev pub long : List ℕ
long = 0 ∷ 0 ∷ []

abbrev pub four : List ℕ
four = long ++ (long ++ (long ++ long))

abbrev pub curve_judged : List Case
curve_judged =
    -- the table of fixed parts
    case (fixed_parts 15 0 ++ fixed_parts 16 0) (36 ∷ 46 ∷ 40 ∷ 50 ∷ []) ∷
    -- of its size, and of one word less: 7
    case (judged 2 (plain 15 0 36 []) ++ judged 2 (plain 15 0 35 [])) (0 ∷ 1 ∷ 0 ∷ 36 ∷ 7 ∷ 0 ∷ []) ∷
    case (judged 2 (plain 16 0 40 []) ++ judged 2 (plain 16 0 39 [])) (0 ∷ 1 ∷ 0 ∷ 40 ∷ 7 ∷ 0 ∷ []) ∷
    case (judged 3 (plain 15 0 46 []) ++ judged 3 (plain 15 0 45 [])) (0 ∷ 1 ∷ 0 ∷ 46 ∷ 7 ∷ 0 ∷ []) ∷
    case (judged 3 (plain 16 0 50 []) ++ judged 3 (plain 16 0 49 [])) (0 ∷ 1 ∷ 0 ∷ 50 ∷ 7 ∷ 0 ∷ []) ∷
    -- 21 for a refused float of an axis or of the origin, and for no other word
    case (reserved_at 2 15 36) (float ++ (float ++ (long ++ (float ++ float)))) ∷
    case (reserved_at 2 16 40) (long ++ (long ++ (float ++ (float ++ (long ++ (float ++ float)))))) ∷
    case (reserved_at 3 15 46) (float ++ (float ++ (four ++ (float ++ (float ++ float))))) ∷
    case (reserved_at 3 16 50) (long ++ (long ++ (float ++ (float ++ (four ++ (float ++ (float ++ float))))))) ∷
    -- words behind the fixed part are no floats
    case (judged 2 (plain 15 0 40 (replicate 18 0 ++ (32768 ∷ [])))) (0 ∷ 1 ∷ 0 ∷ 40 ∷ []) ∷
    -- an attribute part that begins where the fixed part ends, and one in it: 11
    case (judged 2 (attributed 15 36 20 []) ++ judged 2 (attributed 15 36 19 [])) (0 ∷ 1 ∷ 0 ∷ 36 ∷ 11 ∷ 0 ∷ []) ∷
    case (judged 2 (attributed 16 40 24 []) ++ judged 2 (attributed 16 40 23 [])) (0 ∷ 1 ∷ 0 ∷ 40 ∷ 11 ∷ 0 ∷ []) ∷
    case (judged 3 (attributed 15 46 30 []) ++ judged 3 (attributed 15 46 29 [])) (0 ∷ 1 ∷ 0 ∷ 46 ∷ 11 ∷ 0 ∷ []) ∷
    case (judged 3 (attributed 16 50 34 []) ++ judged 3 (attributed 16 50 33 [])) (0 ∷ 1 ∷ 0 ∷ 50 ∷ 11 ∷ 0 ∷ []) ∷
    -- words that no linkage is, with A set: 11; with A clear they are not judged
    case (judged 2 (attributed 15 37 20 (replicate 18 0 ++ (4096 ∷ [])))) (11 ∷ 0 ∷ []) ∷
    case (judged 2 (plain 15 0 37 (replicate 18 0 ++ (4096 ∷ [])))) (0 ∷ 1 ∷ 0 ∷ 37 ∷ []) ∷
    -- the order of two faults: 7 before 21, 8 before 21, 11 before 21
    case (judged 2 (plain 15 0 35 (32768 ∷ []))) (7 ∷ 0 ∷ []) ∷
    case (first_fault (content_checks 2 (live 15 0 ∷ 65534 ∷ replicate 16 0 ++ (32768 ∷ [])) 0 65536) ∷ []) (8 ∷ []) ∷
    case (judged 2 (attributed 15 36 19 (32768 ∷ [])) ++ judged 2 (attributed 15 36 20 (32768 ∷ []))) (11 ∷ 0 ∷ 21 ∷ 0 ∷ []) ∷
    -- in a cell it stands at the component, behind the cell's own 12
    case (judged 2 (cell 0 63 ++ plain 15 1 36 (32768 ∷ []))) (21 ∷ 46 ∷ []) ∷
    case (judged 2 (named_cell 63 64000 0 ++ plain 15 1 36 (32768 ∷ []))) (12 ∷ 0 ∷ []) ∷
    -- under a text node it may not stand: 6; under a complex chain it may
    case (judged 2 (counting 7 35 1 (plain 15 1 36 [])) ++ judged 2 (counting 12 20 1 (plain 15 1 36 []))) (6 ∷ 35 ∷ 0 ∷ 2 ∷ 1 ∷ 56 ∷ []) ∷
    []

---- reading

abbrev pub origin_shown : Origin → List ℕ
origin_shown (origin.Flat x y) = bits x ∷ bits y ∷ []
origin_shown (origin.Solid x y z) = bits x ∷ bits y ∷ bits z ∷ []

-- 0 and the type, of an arc where it starts and what it sweeps, the axes, the turn and the origin; or the refusal
abbrev pub curve_shown : Result Curve Refusal → List ℕ
curve_shown (Ok (curve.Ellipse primary secondary turned at)) = 0 ∷ 15 ∷ bits primary ∷ bits secondary ∷ (turn_shown turned ++ origin_shown at)
curve_shown (Ok (curve.Arc start sweep primary secondary turned at)) =
    0 ∷ 16 ∷ start ∷ sweep ∷ bits primary ∷ bits secondary ∷ (turn_shown turned ++ origin_shown at)
curve_shown (Err refusal) = refusal.number ∷ refusal.place ∷ []

abbrev pub curve_read : ℕ → List ℕ → ℕ → List ℕ
curve_read dim ws at = curve_shown (curve_of dim (with_marker ws) at)

-- 2 ^ k, for k up to 126, as four words, and as a 64-bit float
abbrev pub power : ℕ → List ℕ
power k = (16512 + 128 * k) ∷ 0 ∷ 0 ∷ 0 ∷ []

abbrev pub power_bits : ℕ → ℕ
power_bits k = 0x3FF0000000000000 + 0x10000000000000 * k

-- axes 1 and 2, turned by 4294901761, at 4 and 8; in 3D by four longs, at 4, 8 and 16; every number another
abbrev pub flat_words : List ℕ
flat_words = power 0 ++ (power 1 ++ ((65535 ∷ 1 ∷ []) ++ (power 2 ++ power 3)))

abbrev pub solid_words : List ℕ
solid_words =
    power 0 ++ (power 1 ++ ((1 ∷ 2 ∷ 0 ∷ 11 ∷ 0 ∷ 12 ∷ 65535 ∷ 13 ∷ []) ++ (power 2 ++ (power 3 ++ power 4))))

-- a start of 4294967294 and a sweep of 65539
abbrev pub angles : List ℕ
angles = 65535 ∷ 65534 ∷ 1 ∷ 3 ∷ []

abbrev pub axes : List ℕ
axes = power_bits 0 ∷ power_bits 1 ∷ []

abbrev pub curve_readings : List Case
curve_readings =
    case (curve_read 2 (plain 15 0 36 flat_words) 0) (0 ∷ 15 ∷ axes ++ (4294901761 ∷ power_bits 2 ∷ power_bits 3 ∷ [])) ∷
    case (curve_read 2 (plain 16 0 40 (angles ++ flat_words)) 0)
    (0 ∷ 16 ∷ 4294967294 ∷ 65539 ∷ axes ++ (4294901761 ∷ power_bits 2 ∷ power_bits 3 ∷ [])) ∷
    case (curve_read 3 (plain 15 0 46 solid_words) 0)
    (0 ∷ 15 ∷ axes ++ (65538 ∷ 11 ∷ 12 ∷ 4294901773 ∷ power_bits 2 ∷ power_bits 3 ∷ power_bits 4 ∷ [])) ∷
    case (curve_read 3 (plain 16 0 50 (angles ++ solid_words)) 0)
    (0 ∷ 16 ∷ 4294967294 ∷ 65539 ∷ axes ++ (65538 ∷ 11 ∷ 12 ∷ 4294901773 ∷ power_bits 2 ∷ power_bits 3 ∷ power_bits 4 ∷ [])) ∷
    -- at a place behind another element, and in a cell
    case (curve_read 2 (raw 0 ++ plain 15 0 36 []) 2) (0 ∷ 15 ∷ replicate 5 0) ∷
    case (curve_read 2 (cell 0 67 ++ plain 16 1 40 []) 46) (0 ∷ 16 ∷ replicate 7 0) ∷
    -- 6 at an element of another type, 13 where none starts, and the file's own first: 21, 2; 1 for another dimension
    case (curve_read 2 (line 0) 0 ++ curve_read 2 (raw 0 ++ text 0) 2) (6 ∷ 0 ∷ 6 ∷ 2 ∷ []) ∷
    case (curve_read 2 (plain 15 0 36 []) 1 ++ curve_read 2 (plain 15 0 36 []) 36) (13 ∷ 0 ∷ 13 ∷ 0 ∷ []) ∷
    case (curve_read 2 (raw 0 ++ plain 15 0 36 (32768 ∷ [])) 2) (21 ∷ 2 ∷ []) ∷
    case (curve_shown (curve_of 2 (bytes (plain 15 0 36 [])) 0) ++ curve_shown (curve_of 4 (with_marker (plain 15 0 36 [])) 0)) (2 ∷ 36 ∷ 1 ∷ 0 ∷ []) ∷
    []

abbrev pub curve_cases : List Case
curve_cases = float_cases ++ (curve_judged ++ curve_readings)
