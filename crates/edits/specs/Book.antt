-- The book of demand 3 (RULES.md, "The book"): it is fed the calls, and whether each was refused, and nothing else.
use Rattle.std.specs.Prelude.{ℕ, List, [], ◌∷◌, ◌++◌, Bool, true, false, Err, Ok, Result}
use Rattle.refusals.specs.declared.Refusal.{Refusal}
use Rattle.words.specs.Words.{words}
use Rattle.names.specs.Names.{packed}
use Rattle.edits.specs.Edits.{Edit, mark, insert, remove, apply}
use Rattle.edits.specs.Calls.{Session, Call, mark_call, rename_call, insert_call, remove_call, undo_call, Outcome, name_of_text, step}
use Rattle.edits.specs.declared.UsedLengths.{UsedLengths}

abbrev pub was_refused : Result UsedLengths Refusal → Bool
was_refused (Ok lengths) = false
was_refused (Err refusal) = true

-- the list without its last
abbrev pub struck : List Edit → List Edit
struck [] = []
struck (e ∷ []) = []
struck (e ∷ f ∷ es) = e ∷ struck (f ∷ es)

-- an edit not refused joins the list's end; an undo not refused strikes off the last one
abbrev pub noted : List Edit → Call → Bool → List Edit
noted es c true = es
noted es (mark_call p deleted) false = es ++ (mark p deleted ∷ [])
noted es (rename_call p text) false = es ++ (name_of_text (packed text) p ∷ [])
noted es (insert_call h p piece) false = es ++ (insert h p (words piece) ∷ [])
noted es (remove_call p) false = es ++ (remove p ∷ [])
noted es undo_call false = struck es

-- the listed edits applied to the original's words, first to last
abbrev pub applied : ℕ → List ℕ → List Edit → List ℕ
applied dim ws [] = ws
applied dim ws (e ∷ es) = applied dim (apply dim ws e) es

-- a session and its book after a list of calls, each lent what the last one left
pub record Run : Type 0 where
  pub session : Session
  pub book : List Edit

abbrev pub noting : List Edit → Call → Outcome → Run
noting es c r = record { session = r.after; book = noted es c (was_refused r.answer) }

abbrev pub ran : ℕ → Run → List Call → Run
ran dim r [] = r
ran dim r (c ∷ cs) = ran dim (noting r.book c (step dim r.session c)) cs

-- as many undos as a list is long
abbrev pub undos : List Edit → List Call
undos [] = []
undos (e ∷ es) = undo_call ∷ undos es
