-- An accepted used file, whose marker is its last word: its elements are a tree of the grammar (`standing`), and what the
-- descent finds at a place is what the list of its elements has there (`found_is`).
use Prim.Native.Nat.{ℕ}
use mathlib.Core.Path.{◌≡◌}
use mathlib.Core.List.{List}
use Rattle.words.specs.Words.{words, Below}
use Rattle.words.proofs.Laws.{words_below}
use Rattle.files.specs.Spots.{spots_of, spot_in}
use Rattle.places.specs.Places.{found_by}
use Rattle.places.specs.Descent.{locate_of}
use Rattle.places.proofs.Places.{locate_is}
use Rattle.edits.proofs.Accepted.{Accepted as Standing}
use Rattle.edits.proofs.Judging.{judged_top, judged_tree}
use Rattle.opening.proofs.Opening.{AcceptedUsed}

-- the judged elements are a tree of the grammar
pub standing : (dim : ℕ) (s : List ℕ) (m : ℕ) → AcceptedUsed dim s m → Below 256 s → Standing dim (words s)
standing dim s m u b =
    let t = judged_top dim s u.elements u.deepest m u.judged in
    judged_tree dim (words s) m u.elements u.deepest t.0 (words_below s b) t.1 u.last

pub found_is : (dim : ℕ) (s : List ℕ) (m : ℕ) → AcceptedUsed dim s m → (p : ℕ) → locate_of (words s) p m ≡ found_by (spot_in (spots_of dim (words s)) p)
found_is dim s m u p = locate_is dim s u.elements u.deepest m u.judged p
