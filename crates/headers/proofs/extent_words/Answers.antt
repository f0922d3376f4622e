-- Past the end of the slice the type is 0, which is no header, and the size 2.
use Prim.Native.Nat.{◌+◌}
use mathlib.Core.Path.{sym, ap, ◌∙◌}
use native.Mathlib.Omega.{arith}
use Rattle.words.proofs.Laws.{word_out}
use Rattle.kinds.specs.Kinds.{is_header}
use Rattle.headers.specs.Header.{extent_words}
use Rattle.headers.proofs.Laws.{words_header, words_plain}
use Rattle.headers.proofs.extent_words.Goals as goal

pub returns-then-file-at : goal.returns-then-file-at
unfolding extent_words
returns-then-file-at c =
    let file = c.args.file.now in
    let at = c.args.at in
    simp (word_out file at (omega arith), word_out file (at + 1) (omega arith))

pub returns-then-is_header : goal.returns-then-is_header
returns-then-is_header c =
    ap (λ t. 19 + t) c.word.ensures.is
    ∙ sym (words_header _ _ (ap is_header (sym c.type_at.ensures) ∙ sym c.is_header.ensures ∙ c.if-is_header.true))

pub returns : goal.returns
returns c =
    c.size_at.ensures
    ∙ sym (words_plain _ _ (ap is_header (sym c.type_at.ensures) ∙ sym c.is_header.ensures ∙ c.if-is_header.false))
