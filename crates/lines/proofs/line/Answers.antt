-- `lines::line` meets its contract: each field that is handed on is the one of the definition, by the contract of the call that read it.
use mathlib.Core.Path.{◌≡◌, sym, ap, ◌∙◌}
use Rattle.lines.specs.Element.{line_of, unpacked_text}
use Rattle.lines.proofs.line.Goals.{in-Ok, in-Err}
use Rattle.lines.proofs.line.Goals as goal

pub returns : goal.returns
unfolding line_of
returns c =
    let letters : c.match-name.letters.now ≡ unpacked_text c.name_of-name.result =
    elim c.match-name.branch [
      | in-Ok w ↦ ap (λ b. b.now) w.letters-is ∙ sym (ap unpacked_text w.in-Ok.is)
      | in-Err w ↦ ap (λ b. b.now) w.letters-is ∙ sym (ap unpacked_text w.in-Err.is)
    ] in
    rw (
      sym c.word-first.ensures.is,
      sym c.type_of-kind.ensures,
      sym c.word_of-size.ensures.is,
      sym c.name_of-name.ensures.is,
      sym letters,
    )
    c.element_line.ensures
