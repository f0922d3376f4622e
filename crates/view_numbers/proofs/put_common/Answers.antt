-- The direct header is put behind the element's own numbers (`common_put`).
use Rattle.view_numbers.proofs.Laws.{common_put}
use Rattle.view_numbers.proofs.put_common.Goals as goal

pub returns : goal.returns
returns c =
    let a = c.args in
    cc (
      c.pick-c.ensures,
      c.pick-deleted.ensures,
      c.put_signed.ensures,
      c.above_numbers.ensures,
      c.put_signed-2.ensures,
      common_put a.out.now a.at a.element,
    )
