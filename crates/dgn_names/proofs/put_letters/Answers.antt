-- Seven stores, one behind another (`letters_put`).
use native.Mathlib.Omega.{arith}
use lib.ListN.{length-set}
use Rattle.dgn_names.proofs.Laws.{letters_put}
use borrow.Author.Rules.{rules}
use Rattle.dgn_names.proofs.put_letters.Goals as goal

pub bounds-text-1 : goal.bounds-text-1
bounds-text-1 c = simp length-set (omega arith)

pub bounds-text-2 : goal.bounds-text-2
bounds-text-2 c = simp length-set (omega arith)

pub bounds-text-3 : goal.bounds-text-3
bounds-text-3 c = simp length-set (omega arith)

pub bounds-text-4 : goal.bounds-text-4
bounds-text-4 c = simp length-set (omega arith)

pub bounds-text-5 : goal.bounds-text-5
bounds-text-5 c = simp length-set (omega arith)

pub bounds-text-6 : goal.bounds-text-6
bounds-text-6 c = simp length-set (omega arith)

pub shape_of-text : goal.shape_of-text
shape_of-text c = simp length-set (omega arith)

pub returns : goal.returns
returns c = letters_put c.args.text.now c.args.letters (search rules)
