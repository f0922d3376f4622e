-- The search for room looks at the headers of the book's path, the outermost first, and answers the book's refusal.
use Prim.Native.Nat.{ℕ, zero, suc, ◌+◌, ◌-◌, ◌<◌}
use native.Mathlib.Omega.{arith}
use mathlib.Core.Path.{◌≡◌, refl, sym, ap, ◌∙◌}
use mathlib.Core.Bool.{Bool, true, false, cond}
use mathlib.Core.List.{List, [], ◌∷◌, ◌++◌}
use mathlib.Core.Option.{some}
use lib.ListN.{length, length-append}
use lib.Dec.{leb}
use Rattle.words.specs.Words.{words}
use Rattle.words.proofs.Laws.{length_words}
use Rattle.headers.specs.Header.{type_at, extent_at}
use Rattle.files.specs.Spots.{Spot, spots_of, spot_in}
use Rattle.grammar.proofs.Forest.{Forest, node, flat, weight, Wf, components_stand, rest_stand}
use Rattle.grammar.proofs.Stands.{Stands}
use Rattle.edits.specs.Edits.{down_to}
use Rattle.edits.specs.Allowed.{fault, room_fault}
use Rattle.edits.proofs.Accepted.{Accepted}
use Rattle.edits.proofs.Ways.{Way, stop, past, into, plug, front, heads, depth_of, elem_of}
use Rattle.totals.specs.Totals.{holder_of, room_at, room_by, room_from, room_of, room_fault_by}
use Rattle.totals.specs.declared.Room.{Room}
use Rattle.totals.specs.declared.Room.TheVariants.{Fine, Full}
use Rattle.totals.proofs.Descent.{room_itself, room_inside, room_here}
use Rattle.totals.proofs.Reached.{reach_itself, reach_past, reach_inside}
use Rattle.totals.proofs.Paths.{element_at, element_stands, element_within, element_around}
use Rattle.totals.proofs.Totals.{depth_least}

-- one header
fault_at : (n : ℕ) (ws : List ℕ) (q : ℕ) (rest : Room) → room_fault_by (room_at n ws q rest) ≡ cond (leb (extent_at ws q + n) 65535) (room_fault_by rest) (fault 8 q)
unfolding room_at
fault_at n ws q rest = go (leb (extent_at ws q + n) 65535)
  where
    go : (b : Bool) → room_fault_by (cond b rest (Full q)) ≡ cond b (room_fault_by rest) (fault 8 q)
    go true = refl
    go false = refl

module _ (n header : ℕ) (ws : List ℕ) where
  room_alike : (at b left : ℕ) → holder_of ws at header ≡ holder_of ws b header → room_from left n header at ws ≡ room_from left n header b ws
  unfolding room_from
  room_alike at b zero e = refl
  room_alike at b (suc left) e = ap (λ h. room_by h n header ws (λ inner. room_from left n header inner ws)) e

module _ (dim n : ℕ) (own₀ : List ℕ) (k₀ r₀ : Forest) (ws : List ℕ) where
  room_way : (depth under : ℕ) (w : Way) → Wf dim depth under (plug w (node own₀ k₀ r₀)) → (left at header : ℕ) →
      depth_of depth w < depth + left → header ≡ at + length (front w) → Stands (flat (plug w (node own₀ k₀ r₀))) at ws →
      room_fault_by (room_from left n header at ws) ≡ room_fault n ws (heads at w ++ (header ∷ []))
  room_way depth under stop x left at header d e t =
      ap room_fault_by (room_itself n header ws left at (omega arith) (reach_itself ws at header (omega arith))) ∙ fault_at n ws header Fine
  room_way depth under (past own k w) x left at header d e t =
      let l : length (front (past own k w)) ≡ weight own k + length (front w) = simp length-append (omega arith) in
      ap room_fault_by (room_alike n header ws at (at + weight own k) left (reach_past ws own at header k (node own₀ k₀ r₀) w x.0 t e))
      ∙ room_way depth under w x.2 left (at + weight own k) header d (omega arith) (rest_stand own k (plug w (node own₀ k₀ r₀)) t)
  room_way depth under (into own r w) x left at header d e t =
      let m = depth_least (suc depth) w in
      let l : length (front (into own r w)) ≡ length own + length (front w) = length-append own (front w) in
      ap room_fault_by (room_inside n header ws left at (omega arith) at (at + length own) (reach_inside ws own at header r w own₀ k₀ r₀ x t e))
      ∙ fault_at n ws at (room_from (left - 1) n header (at + length own) ws)
      ∙ ap (λ y. cond (leb (extent_at ws at + n) 65535) y (fault 8 at))
      (room_way (suc depth) (type_at own 0) w x.1 (left - 1) (at + length own) header (omega arith) (omega arith) (components_stand own (plug w (node own₀ k₀ r₀)) r t))

-- of an element in an accepted file: the answer is the book's refusal of n more words on the path down to it
pub room_is : (dim n header : ℕ) (s : List ℕ) (x : Spot) → Accepted dim (words s) → spot_in (spots_of dim (words s)) header ≡ some x →
    room_fault_by (room_of n header s) ≡ room_fault n (words s) (down_to (spots_of dim (words s)) (some header))
room_is dim n header s x a e =
    let g = element_at dim (words s) header x a e in
    let l = length_words s in
    let i = element_within g in
    let deep = (elem_of dim g.own g.components g.rest 0 0 g.way g.wf).0.deep in
    ap room_fault_by (room_here n header s (omega arith))
    ∙ room_way dim n g.own g.components g.rest (words s) 0 0 g.way g.wf 9 0 header (omega arith) g.place (element_stands g)
    ∙ ap (room_fault n (words s)) (sym (ap (λ l. l ++ (header ∷ [])) (element_around g)))
