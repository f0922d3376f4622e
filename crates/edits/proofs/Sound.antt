-- Every edit that is not refused keeps the file accepted, and its record's reversal is allowed and gives the words back.
use Prim.Native.Nat.{ℕ}
use Rattle.edits.specs.Edits.{mark, rename, insert, remove, restore}
use Rattle.edits.proofs.Accepted.{Law}
use Rattle.edits.proofs.MarkSound.{mark_sound, restore_sound}
use Rattle.edits.proofs.RenameSound.{rename_sound}
use Rattle.edits.proofs.InsertSound.{insert_sound}
use Rattle.edits.proofs.RemoveSound.{remove_sound}

pub sound : (dim : ℕ) → Law dim
sound dim ws (mark p d) a l e c = mark_sound dim ws p d a l e
sound dim ws (rename p x y) a l e c = rename_sound dim ws p x y a l e c.0 c.1
sound dim ws (insert h p x) a l e c = insert_sound dim ws h p x a l e c
sound dim ws (remove p) a l e c = remove_sound dim ws p a l e
sound dim ws (restore p x) a l e c = restore_sound dim ws p x a l e
