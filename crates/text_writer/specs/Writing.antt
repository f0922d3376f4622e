-- Writing a text (RULES.md, "Writing"): the answer, and what the buffer then holds.
use Rattle.std.specs.Prelude.{ℕ, List, length, Result}
use Rattle.fields.specs.declared.Fields.{Fields}
use Rattle.writer.specs.Writing.{WritesBy}
use Rattle.text_fields.specs.declared.Text.{Text}
use Rattle.text_fields.specs.Words.{text_size, text_words}
use Rattle.text_fields.specs.Faults.{text_fault}
use Rattle.refusals.specs.declared.Refusal.{Refusal}

-- what a call answers and leaves in the buffer
abbrev pub WritesText : ℕ → Fields → Text → List ℕ → List ℕ → List ℕ → List ℕ → Result ℕ Refusal → List ℕ → Type 0
WritesText dim f t characters triples tail out =
    WritesBy (text_fault dim f t characters triples tail (length out)) (text_size dim characters triples tail)
    (text_words dim f t characters triples tail) out
