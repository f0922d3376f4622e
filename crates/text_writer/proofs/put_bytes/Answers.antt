-- Both lists are copied one behind the other (`both_copied`), and the odd byte is set where there is one (`odd_set`, `odd_none`).
use Prim.Native.Nat.{◌+◌}
use mathlib.Core.Path.{ap, ◌∙◌}
use native.Mathlib.Omega.{arith}
use lib.ListN.{length, set, length-set}
use Rattle.copies.specs.Copies.{copied}
use Rattle.text_writer.proofs.Bytes.{bytes_room, both_copied, odd_room, odd_set, odd_none}
use Rattle.text_writer.proofs.put_bytes.Goals as goal

pub overflow_add-end-2 : goal.overflow_add-end-2
overflow_add-end-2 c =
    let a = c.args in omega (arith, bytes_room a.out.now a.at a.text a.characters.now a.triples.now c.requires.0)

pub bounds-out-end : goal.bounds-out-end
bounds-out-end c =
    let a = c.args in omega (arith, odd_room a.out.now a.at a.text a.characters.now a.triples.now c.requires.0 c.if-c-n-eq1.true, c.copy_in.auto, c.copy_in-2.auto)

pub shape_of-out-then-c-n-eq1 : goal.shape_of-out-then-c-n-eq1
shape_of-out-then-c-n-eq1 c =
    simp length-set (omega (arith, c.copy_in.auto, c.copy_in-2.auto))

pub returns-then-c-n-eq1 : goal.returns-then-c-n-eq1
returns-then-c-n-eq1 c =
    let a = c.args in
    let two = c.copy_in-2.ensures ∙ ap (λ x. copied x (a.at + length a.characters.now) a.triples.now) c.copy_in.ensures ∙ both_copied a.out.now a.at a.text a.characters.now a.triples.now c.requires.0 in
    ap (λ x. set x (a.at + length a.characters.now + length a.triples.now) a.text.odd) two ∙ odd_set a.out.now a.at a.text a.characters.now a.triples.now c.requires.0 c.if-c-n-eq1.true

pub returns-else-c-n-eq1 : goal.returns-else-c-n-eq1
returns-else-c-n-eq1 c =
    let a = c.args in
    let two = c.copy_in-2.ensures ∙ ap (λ x. copied x (a.at + length a.characters.now) a.triples.now) c.copy_in.ensures ∙ both_copied a.out.now a.at a.text a.characters.now a.triples.now c.requires.0 in
    two ∙ odd_none a.out.now a.at a.text a.characters.now a.triples.now c.requires.0 c.if-c-n-eq1.false
