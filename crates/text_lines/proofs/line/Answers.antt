-- `text_lines::line` meets its contract: by the type there is a line, and the part of the file that is lent is the text's characters.
use Prim.Native.Nat.{◌+◌}
use mathlib.Core.Path.{sym, ap, ◌∙◌}
use native.Mathlib.Omega.{arith}
use Rattle.words.proofs.Laws.{word_out}
use Rattle.text_lines.proofs.Laws.{characters_are, no_text_line, text_line_is}
use Rattle.text_lines.proofs.line.Goals as goal

pub returns-then-file-at : goal.returns-then-file-at
returns-then-file-at c =
    let a = c.args in
    let w = word_out a.file.now a.at c.if-file-at.true in
    no_text_line _ a.file.now _ a.at a.depth (λ e. omega arith)

pub returns-then-type_of-ne17 : goal.returns-then-type_of-ne17
returns-then-type_of-ne17 c =
    let a = c.args in
    no_text_line _ a.file.now _ a.at a.depth (λ e. c.if-type_of-ne17.true (c.type_of.ensures ∙ rw c.word-first.ensures.is e))

pub returns : goal.returns
returns c =
    let a = c.args in
    let type = sym c.type_of.ensures ∙ c.if-type_of-ne17.false in
    let place = ap (λ k. a.at + k) c.counts_word.ensures in
    let characters = characters_are a.file.now a.at _ _ _ _ place c.word-characters.ensures.is c.least-start.ensures c.least-end.ensures in
    let is = text_line_is a.file.now a.at a.depth _ c.word-first.ensures.is type in
    rw (is, ← characters) c.text_line.ensures
