-- One way after another, ways that stay within one list, and the last header that any other way goes into.
use Prim.Native.Nat.{ℕ, suc, ◌+◌}
use native.Mathlib.Omega.{arith}
use mathlib.Core.Path.{◌≡◌, refl, sym, ap, ◌∙◌}
use mathlib.Core.Bool.{Bool, true, false, false≢true}
use mathlib.Core.List.{List, [], ◌∷◌, ◌++◌, append_assoc}
use mathlib.Core.Option.{Option, some}
use lib.ListN.{length, length-append}
use Rattle.headers.specs.Header.{type_at}
use Rattle.grammar.proofs.Forest.{Forest, nil, node, flat, weight}
use Rattle.edits.proofs.Ways.{Way, stop, past, into, plug, direct, front, rear, heads, header_of, type_over, depth_of, Heads}

abbrev pub then : Way → Way → Way
then stop v = v
then (past own k w) v = past own k (then w v)
then (into own r w) v = into own r (then w v)

pub plug_then : (w v : Way) (f : Forest) → plug (then w v) f ≡ plug w (plug v f)
plug_then stop v f = refl
plug_then (past own k w) v f = ap (node own k) (plug_then w v f)
plug_then (into own r w) v f = ap (λ g. node own g r) (plug_then w v f)

pub front_then : (w v : Way) → front (then w v) ≡ front w ++ front v
front_then stop v = refl
front_then (past own k w) v = rw (front_then w v) (simp append_assoc)
front_then (into own r w) v = rw (front_then w v) (simp append_assoc)

pub heads_then : (at : ℕ) (w v : Way) (b : ℕ) → b ≡ at + length (front w) → heads at (then w v) ≡ heads at w ++ heads b v
heads_then at stop v b e = ap (λ a. heads a v) (omega arith)
heads_then at (past own k w) v b e = heads_then (at + weight own k) w v b (e ∙ simp length-append (omega arith))
heads_then at (into own r w) v b e = ap (λ l. at ∷ l) (heads_then (at + length own) w v b (e ∙ simp length-append (omega arith)))

pub header_then : (header : Option ℕ) (at : ℕ) (w v : Way) (b : ℕ) → b ≡ at + length (front w) → header_of header at (then w v) ≡ header_of (header_of header at w) b v
header_then header at stop v b e = ap (λ a. header_of header a v) (omega arith)
header_then header at (past own k w) v b e = header_then header (at + weight own k) w v b (e ∙ simp length-append (omega arith))
header_then header at (into own r w) v b e = header_then (some at) (at + length own) w v b (e ∙ simp length-append (omega arith))

pub type_then : (under : ℕ) (w v : Way) → type_over under (then w v) ≡ type_over (type_over under w) v
type_then under stop v = refl
type_then under (past own k w) v = type_then under w v
type_then under (into own r w) v = type_then (type_at own 0) w v

pub depth_then : (depth : ℕ) (w v : Way) → depth_of depth (then w v) ≡ depth_of (depth_of depth w) v
depth_then depth stop v = refl
depth_then depth (past own k w) v = depth_then depth w v
depth_then depth (into own r w) v = depth_then (suc depth) w v

pub Heads-then : (w v : Way) → Heads w → Heads v → Heads (then w v)
Heads-then stop v a b = b
Heads-then (past own k w) v a b = Heads-then w v a b
Heads-then (into own r w) v a b = (a.0, Heads-then w v a.1 b)

pub Heads-after : (w v : Way) → Heads (then w v) → Heads v
Heads-after stop v h = h
Heads-after (past own k w) v h = Heads-after w v h
Heads-after (into own r w) v h = Heads-after w v h.1

---- within one list: no header is above that was not

pub direct_heads : (at : ℕ) (w : Way) → direct w ≡ true → heads at w ≡ []
direct_heads at stop e = refl
direct_heads at (past own k w) e = direct_heads (at + weight own k) w e
direct_heads at (into own r w) e = absurd (false≢true e)

pub direct_header : (header : Option ℕ) (at : ℕ) (w : Way) → direct w ≡ true → header_of header at w ≡ header
direct_header header at stop e = refl
direct_header header at (past own k w) e = direct_header header (at + weight own k) w e
direct_header header at (into own r w) e = absurd (false≢true e)

pub direct_type : (under : ℕ) (w : Way) → direct w ≡ true → type_over under w ≡ under
direct_type under stop e = refl
direct_type under (past own k w) e = direct_type under w e
direct_type under (into own r w) e = absurd (false≢true e)

pub direct_depth : (depth : ℕ) (w : Way) → direct w ≡ true → depth_of depth w ≡ depth
direct_depth depth stop e = refl
direct_depth depth (past own k w) e = direct_depth depth w e
direct_depth depth (into own r w) e = absurd (false≢true e)

pub direct_Heads : (w : Way) → direct w ≡ true → Heads w
direct_Heads stop e = tt
direct_Heads (past own k w) e = direct_Heads w e
direct_Heads (into own r w) e = absurd (false≢true e)

pub direct_rear : (w : Way) → direct w ≡ true → rear w ≡ []
direct_rear stop e = refl
direct_rear (past own k w) e = direct_rear w e
direct_rear (into own r w) e = absurd (false≢true e)

-- to a list's end
abbrev pub ending : Forest → Way
ending nil = stop
ending (node own k r) = past own k (ending r)

pub plug_ending : (f : Forest) → plug (ending f) nil ≡ f
plug_ending nil = refl
plug_ending (node own k r) = ap (node own k) (plug_ending r)

pub front_ending : (f : Forest) → front (ending f) ≡ flat f
front_ending nil = refl
front_ending (node own k r) = ap (λ l. own ++ (flat k ++ l)) (front_ending r)

pub direct_ending : (f : Forest) → direct (ending f) ≡ true
direct_ending nil = refl
direct_ending (node own k r) = direct_ending r

---- any other way goes into a last header

pub record Last (w : Way) : Type 0 where
  pub outer : Way
  pub own : List ℕ
  pub after : Forest
  pub inner : Way
  pub same : w ≡ then outer (into own after inner)
  pub within : direct inner ≡ true

last_past : (own : List ℕ) (k : Forest) {w : Way} → Last w → Last (past own k w)
last_past own k l = record { outer = past own k l.outer; own = l.own; after = l.after; inner = l.inner; same = ap (past own k) l.same; within = l.within }

last_into : (own : List ℕ) (r : Forest) {w : Way} → Last w → Last (into own r w)
last_into own r l = record { outer = into own r l.outer; own = l.own; after = l.after; inner = l.inner; same = ap (into own r) l.same; within = l.within }

pub last_of : (w : Way) → direct w ≡ false → Last w
last_of stop e = absurd (false≢true (sym e))
last_of (past own k w) e = last_past own k (last_of w e)
last_of (into own r w) e = go (direct w) refl (last_of w)
  where
    go : (b : Bool) → direct w ≡ b → (direct w ≡ false → Last w) → Last (into own r w)
    go true e₁ ih = record { outer = stop; own = own; after = r; inner = w; same = refl; within = e₁ }
    go false e₁ ih = last_into own r (ih e₁)
