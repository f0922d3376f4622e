-- A total above 65,516 leaves no room; below it the test is a difference, which cannot overflow (`room_test`).
use Prim.Native.Nat.{◌+◌}
use mathlib.Core.Path.{sym, ap, ◌∙◌}
use native.Mathlib.Omega.{arith}
use lib.Dec.{leb}
use borrow.Author.Tests.{lt-leb}
use Rattle.words.specs.Words.{words}
use Rattle.headers.specs.Header.{extent_at}
use Rattle.totals.proofs.Descent.{room_test}
use Rattle.totals.proofs.has_room.Goals as goal

pub returns-then-total-gt65516 : goal.returns-then-total-gt65516
returns-then-total-gt65516 c =
    sym (lt-leb (extent_at (words c.args.file.now) c.args.place + c.args.n) 65535 (omega arith))

pub returns : goal.returns
returns c = room_test _ _ c.if-total-gt65516.false ∙ ap (λ t. leb (19 + t + c.args.n) 65535) c.word-total.ensures.is
