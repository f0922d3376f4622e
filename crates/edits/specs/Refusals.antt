-- With which numbers and places each call of a session is refused (RULES.md, "Refusals", "Order of checks").
use Rattle.std.specs.Prelude.{ℕ, ◌<◌, max, ◌≡◌, ◌⊎◌, List, [], ◌∷◌, length}
use Rattle.std.proofs.Math.Option.{Option}
use Rattle.refusals.specs.Refusals.{refused_with}
use Rattle.words.specs.Words.{words}
use Rattle.words.specs.OneOf.{OneOf}
use Rattle.files.specs.Refused.{RefusedBy}
use Rattle.files.specs.Spots.{Spot, spots_of}
use Rattle.grammar.specs.FirstFault.{ElementNumber}
use Rattle.edits.specs.Edits.{down_to}
use Rattle.edits.specs.Allowed.{fault, piece_fault}
use Rattle.edits.specs.Calls.{Session, Call, mark_call, rename_call, insert_call, remove_call, undo_call, words_of, step}
use Rattle.edits.specs.Demand.{used_bytes}

-- the numbers that a call answers at place 0 beside the file's own
abbrev pub own_numbers : Call → List ℕ
own_numbers (mark_call p deleted) = 1 ∷ 13 ∷ 14 ∷ 15 ∷ 16 ∷ []
own_numbers (rename_call p text) = 1 ∷ 13 ∷ 18 ∷ 12 ∷ 15 ∷ 16 ∷ []
own_numbers (insert_call h p piece) = 1 ∷ 13 ∷ 15 ∷ 16 ∷ []
own_numbers (remove_call p) = 1 ∷ 13 ∷ 15 ∷ 16 ∷ []
own_numbers undo_call = 1 ∷ 17 ∷ 19 ∷ 15 ∷ []

-- of an insert alone: the piece's own, at its place within the piece, and 8 at a header from the top down to the named one
abbrev pub PieceRefused : ℕ → List ℕ → Call → ℕ → ℕ → Type 0
PieceRefused dim ws (mark_call p deleted) n q = ⊥
PieceRefused dim ws (rename_call p text) n q = ⊥
PieceRefused dim ws (insert_call h p piece) n q =
    (piece_fault dim (spots_of dim ws) ws h (words piece) ≡ fault n q) ⊎ ((n ≡ 8) × OneOf (down_to (spots_of dim ws) h) q)
PieceRefused dim ws (remove_call p) n q = ⊥
PieceRefused dim ws undo_call n q = ⊥

-- each refusal of each call is one of these
abbrev pub RefusedSo : ℕ → Session → Call → ℕ → ℕ → Type 0
RefusedSo dim s c n p = RefusedBy dim (used_bytes s) (own_numbers c) n p ⊎ PieceRefused dim (words_of s) c n p

abbrev pub EveryRefusal : Type 0
EveryRefusal = (dim : ℕ) (s : Session) (c : Call) (n p : ℕ) → (step dim s c).answer ≡ refused_with n p → RefusedSo dim s c n p

-- the piece's own: a number of an element's faults, at a word of the piece; of an empty piece at 0
abbrev pub PiecePlace : Type 0
PiecePlace =
    (dim : ℕ) (xs : List Spot) (ws : List ℕ) (h : Option ℕ) (x : List ℕ) (n p : ℕ) → piece_fault dim xs ws h x ≡ fault n p →
    ElementNumber n × (p < max (length x) 1)
