-- The listed edits made one after another from the original's words, each one allowed: the words that they lead to,
-- and the journal of their records. The law of one edit makes each of these files accepted.
use Prim.Native.Nat.{ℕ, ◌*◌, ◌≤◌}
use mathlib.Core.Path.{◌≡◌, refl, sym, ap, ◌∙◌}
use mathlib.Core.List.{List, [], ◌∷◌, ◌++◌}
use mathlib.Core.Bool.{true}
use mathlib.Core.Option.{Option}
use native.Mathlib.Omega.{arith}
use lib.ListN.{length, length-append}
use Rattle.edits.specs.Edits.{Edit, apply}
use Rattle.edits.specs.Allowed.{fine, edit_fault}
use Rattle.edits.specs.Records.{record_of, record_words}
use Rattle.edits.specs.Calls.{undo_call, index_fits}
use Rattle.edits.specs.Book.{struck, applied, undos}
use Rattle.edits.proofs.Accepted.{Accepted, Carried, Sound, Law}

---- the book's list by its end

pub applied_more : (dim : ℕ) (ws : List ℕ) (es : List Edit) (e : Edit) → applied dim ws (es ++ (e ∷ [])) ≡ apply dim (applied dim ws es) e
applied_more dim ws [] e = refl
applied_more dim ws (d ∷ es) e = applied_more dim (apply dim ws d) es e

pub struck_more : (es : List Edit) (e : Edit) → struck (es ++ (e ∷ [])) ≡ es
struck_more [] e = refl
struck_more (d ∷ []) e = refl
struck_more (d ∷ c ∷ es) e = ap (λ l. d ∷ l) (struck_more (c ∷ es) e)

pub undos_more : (es : List Edit) (e : Edit) → undos (es ++ (e ∷ [])) ≡ undo_call ∷ undos es
undos_more [] e = refl
undos_more (d ∷ es) e = ap (λ l. undo_call ∷ l) (undos_more es e)

pub more_not_nil : (es : List Edit) (e : Edit) → es ++ (e ∷ []) ≡ [] → ⊥
more_not_nil es e q = let l = length-append es (e ∷ []) in let z : length (es ++ (e ∷ [])) ≡ 0 = ap length q in omega arith

---- the replay

-- most: the bytes that the file's buffer holds; beside: those that an index's does
pub data Replay (dim : ℕ) (orig : List ℕ) (most : ℕ) (beside : Option ℕ) : List Edit → List ℕ → List ℕ → Type 0 where
  no_edit : Replay dim orig most beside [] orig []
  one_more : (es : List Edit) (ws js : List ℕ) (e : Edit) → Replay dim orig most beside es ws js →
      edit_fault dim ws e ≡ fine → Carried e → 2 * length (apply dim ws e) ≤ most → index_fits dim (apply dim ws e) beside ≡ true →
      Replay dim orig most beside (es ++ (e ∷ [])) (apply dim ws e) (js ++ record_words (record_of dim ws e))

module _ (dim : ℕ) (orig : List ℕ) (most : ℕ) (beside : Option ℕ) (law : Law dim) (first : Accepted dim orig) (room : 2 * length orig ≤ most) (fits : index_fits dim orig beside ≡ true) (limit : most ≤ 1048576) where
  pub replay_room : (es : List Edit) (ws js : List ℕ) → Replay dim orig most beside es ws js → 2 * length ws ≤ most
  replay_room es ws js no_edit = room
  replay_room es ws js (one_more es₀ ws₀ js₀ e r f c l i) = l

  pub replay_fits : (es : List Edit) (ws js : List ℕ) → Replay dim orig most beside es ws js → index_fits dim ws beside ≡ true
  replay_fits es ws js no_edit = fits
  replay_fits es ws js (one_more es₀ ws₀ js₀ e r f c l i) = i

  pub replay_accepted : (es : List Edit) (ws js : List ℕ) → Replay dim orig most beside es ws js → Accepted dim ws
  replay_accepted es ws js no_edit = first
  replay_accepted es ws js (one_more es₀ ws₀ js₀ e r f c l i) =
      let a = replay_accepted es₀ ws₀ js₀ r in
      let b = replay_room es₀ ws₀ js₀ r in
      (law ws₀ e a (omega arith) f c).kept

  -- of one more edit, all that the law says
  pub replay_sound : (es : List Edit) (ws js : List ℕ) (e : Edit) → Replay dim orig most beside es ws js
      → edit_fault dim ws e ≡ fine → Carried e → Sound dim ws e
  replay_sound es ws js e r f c =
      let b = replay_room es ws js r in
      law ws e (replay_accepted es ws js r) (omega arith) f c

pub replay_applied : (dim : ℕ) (orig : List ℕ) (most : ℕ) (beside : Option ℕ) (es : List Edit) (ws js : List ℕ) → Replay dim orig most beside es ws js → ws ≡ applied dim orig es
replay_applied dim orig most beside es ws js no_edit = refl
replay_applied dim orig most beside es ws js (one_more es₀ ws₀ js₀ e r f c l i) =
    ap (λ u. apply dim u e) (replay_applied dim orig most beside es₀ ws₀ js₀ r) ∙ sym (applied_more dim orig es₀ e)

pub replay_empty : (dim : ℕ) (orig : List ℕ) (most : ℕ) (beside : Option ℕ) (es : List Edit) (ws js : List ℕ) → Replay dim orig most beside es ws js → es ≡ [] → js ≡ []
replay_empty dim orig most beside es ws js no_edit q = refl
replay_empty dim orig most beside es ws js (one_more es₀ ws₀ js₀ e r f c l i) q = absurd (more_not_nil es₀ e q)
