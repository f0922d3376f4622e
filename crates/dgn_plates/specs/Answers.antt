-- What dgn_plate and dgn_plates answer, and what they leave in the slices.
use Rattle.std.specs.Prelude.{ℕ, ◌≡◌, List, [], ◌∷◌, ℤ, length, Err, Ok, Result}
use Rattle.files.specs.Judge.{judge_of}
use Rattle.answers.specs.Answers.{Reply, done, refuse, with_room, Replied}
use Rattle.answers.specs.Besides.{if_done}
use Rattle.order.specs.Calls.{reply_by}
use Rattle.dgn_plates.specs.Plates.{plate_given, in_plates, plates_part}
use Rattle.plates.specs.declared.Plate.{Plate}
use Rattle.refusals.specs.declared.Refusal.{Refusal}

-- of the cell at a place: its nine numbers
abbrev pub plate_reply : Result Plate Refusal → Reply ℤ
plate_reply (Ok plate) = done (plate_given plate)
plate_reply (Err refusal) = refuse refusal.number refusal.place

-- 15 where a cell is left and no plate fits; done: the next element's number and how many plates
unfoldable pub plates_reply : ℕ → List ℕ → ℕ → ℕ → Reply ℕ
plates_reply dim s k room =
    let q = plates_part dim s room k in
    reply_by (judge_of dim s) (length q.given) q.next (q.next ∷ length q.given ∷ [])

-- the answer, and the slice of numbers, which takes them at its front where the call is done
pub record PlatesGiven (dim : ℕ) (s : List ℕ) (k : ℕ) (numbers : List ℤ) (out : List ℕ) (r : ℕ) (numbers' : List ℤ) (out' : List ℕ) : Type 0 where
  pub replied : Replied 2 (plates_reply dim s k (in_plates.room numbers)) out r out'
  pub given : numbers' ≡ if_done (with_room 2 (plates_reply dim s k (in_plates.room numbers)) out) (in_plates.put numbers 0 (plates_part dim s (in_plates.room numbers) k).given) numbers
