-- The two words of the name where the type has them, and the place.
use mathlib.Core.Path.{◌≡◌, refl, ap, ◌∙◌}
use native.Mathlib.Omega.{arith}
use Rattle.words.specs.Words.{words}
use Rattle.headers.specs.Header.{type_at}
use Rattle.kinds.specs.Kinds.{name_word}
use Rattle.kinds.proofs.Types.{name_early}
use Rattle.indexing.proofs.entry_at.Goals as goal

pub overflow_add-k : goal.overflow_add-k
overflow_add-k c =
    omega (arith, c.pick.ensures, name_early c.type_at-t.result, c.requires.0, c.requires.1)

pub overflow_add-k-2 : goal.overflow_add-k-2
overflow_add-k-2 c =
    omega (arith, c.pick.ensures, name_early c.type_at-t.result, c.requires.0, c.requires.1)

pub returns : goal.returns
returns c =
    let a = c.args in let n : c.pick.result ≡ name_word (type_at (words a.file.now) a.at) = c.pick.ensures ∙ ap name_word c.type_at-t.ensures in rw (c.word.ensures.is, c.word-2.ensures.is, n) refl
