-- The edits on the words of a file and on its tree: raising the totals of the headers on a way is the way lifted, so a
-- piece put in is an element put in, and an extent taken out an element taken out.
use Prim.Native.Nat.{ℕ, suc, ◌+◌, ◌≤◌}
use native.Mathlib.Omega.{arith}
use mathlib.Core.Path.{◌≡◌, refl, sym, ap, ◌∙◌}
use mathlib.Core.Bool.{Bool, true, false, cond}
use mathlib.Core.List.{List, [], ◌++◌, append_assoc}
use lib.ListN.{length, length-append}
use lib.Dec.{leb}
use borrow.Author.Tests.{leb-true, le-leb}
use Rattle.words.specs.Words.{Below}
use Rattle.headers.specs.Header.{type_at, extent_at}
use Rattle.kinds.specs.Kinds.{is_header}
use Rattle.grammar.proofs.Tests.{OwnTests}
use Rattle.grammar.proofs.Forest.{Forest, nil, node, flat, num, weight, Wf, own_stands, components_stand, rest_stand}
use Rattle.grammar.proofs.Stands.{Stands, stands_word, stands_left, stands_right}
use Rattle.edits.specs.Edits.{corrected, is_last, raise, splice, cut}
use Rattle.edits.specs.Allowed.{fine, fault, room_fault}
use Rattle.grammar.proofs.Rules.{own_two}
use Rattle.edits.proofs.Bounds.{below_append}
use Rattle.edits.proofs.Parts.{splice_at, cut_at, below_left, below_right}
use Rattle.edits.proofs.Grown.{grown, length_grown, type_grown, grown_in, header_twenty, header_extent, below_grown}
use Rattle.edits.proofs.Ways.{Way, stop, past, into, plug, direct, lift, front, rear, heads, Heads, Room, flat_plug, front_lift, rear_lift}

last_direct : (at : ℕ) (w : Way) → is_last (heads at w) ≡ direct w
last_direct at stop = refl
last_direct at (past own k w) = last_direct (at + weight own k) w
last_direct at (into own r w) = refl

-- every header on the way is long enough to hold its total and its count
abbrev pub Long : Way → Type 0
Long stop = Unit {0}
Long (past own k w) = Long w
Long (into own r w) = (20 ≤ length own) × Long w

pub long_of : (dim depth under : ℕ) (w : Way) (f : Forest) → Wf dim depth under (plug w f) → Heads w → Long w
long_of dim depth under stop f x h = tt
long_of dim depth under (past own k w) f x h = long_of dim depth under w f x.2 h
long_of dim depth under (into own r w) f x h = (header_twenty x.0 h.0, long_of dim (suc depth) (type_at own 0) w f x.1 h.1)

raise_front : (up : Bool) (n : ℕ) (w : Way) → Long w → (pre x : List ℕ) (at : ℕ) → length pre ≡ at →
    raise up n (heads at w) (pre ++ (front w ++ x)) ≡ pre ++ (front (lift up n w) ++ x)
raise_front up n stop l pre x at e = refl
raise_front up n (past own k w) l pre x at e =
    simp append_assoc (simp append_assoc at (raise_front up n w l (pre ++ (own ++ flat k)) x (at + weight own k) (simp length-append (omega arith))))
raise_front up n (into own r w) l pre x at e =
    let g = length_grown up n (direct w) own in
    let qs = heads (at + length own) w in
    let own' = grown up n (direct w) own in
    ap (λ b. raise up n qs (corrected up n b at (pre ++ ((own ++ front w) ++ x)))) (last_direct (at + length own) w)
    ∙ ap (λ y. raise up n qs (corrected up n (direct w) at (pre ++ y))) (append_assoc own (front w) x)
    ∙ ap (raise up n qs) (grown_in up n (direct w) pre own (front w ++ x) at e l.0 ∙ sym (append_assoc pre own' (front w ++ x)))
    ∙ raise_front up n w l.1 (pre ++ own') x (at + length own) (simp length-append (omega arith))
    ∙ simp append_assoc

-- the words of a file around a place
pub words_of : (w : Way) (f : Forest) (post : List ℕ) → flat (plug w f) ++ post ≡ front w ++ (flat f ++ (rear w ++ post))
words_of w f post = rw (flat_plug w f) (simp append_assoc)

pub insert_words : (w : Way) (f : Forest) (own₀ : List ℕ) (k₀ : Forest) (post : List ℕ) → Long w →
    splice (length (front w)) (own₀ ++ flat k₀) (raise true (length (own₀ ++ flat k₀)) (heads 0 w) (flat (plug w f) ++ post))
    ≡ flat (plug (lift true (weight own₀ k₀) w) (node own₀ k₀ f)) ++ post
insert_words w f own₀ k₀ post l =
    let n = weight own₀ k₀ in
    rw (
      length-append own₀ (flat k₀),
      words_of w f post,
      words_of (lift true n w) (node own₀ k₀ f) post,
      rear_lift true n w,
      raise_front true n w l [] (flat f ++ (rear w ++ post)) 0 refl,
    )
    (splice_at (front (lift true n w)) (own₀ ++ flat k₀) _ _ (front_lift true n w) ∙ simp append_assoc)

pub remove_words : (w : Way) (f : Forest) (own₀ : List ℕ) (k₀ : Forest) (post : List ℕ) → Long w →
    cut (length (front w)) (weight own₀ k₀) (raise false (weight own₀ k₀) (heads 0 w) (flat (plug w (node own₀ k₀ f)) ++ post))
    ≡ flat (plug (lift false (weight own₀ k₀) w) f) ++ post
remove_words w f own₀ k₀ post l =
    let n = weight own₀ k₀ in
    rw (
      words_of w (node own₀ k₀ f) post,
      words_of (lift false n w) f post,
      rear_lift false n w,
      raise_front false n w l [] (flat (node own₀ k₀ f) ++ (rear w ++ post)) 0 refl,
    )
    (ap (λ y. cut (length (front w)) n (front (lift false n w) ++ y)) (simp append_assoc)
    ∙ cut_at (front (lift false n w)) (own₀ ++ flat k₀) (flat f ++ (rear w ++ post)) _ _ (front_lift false n w) (length-append own₀ (flat k₀)))

---- the words fit

num_words : (dim depth under : ℕ) (f : Forest) → Wf dim depth under f → num f ≤ length (flat f)
num_words dim depth under nil x = omega arith
num_words dim depth under (node own k r) x =
    let t = own_two x.0 in
    let e = num_words dim depth under r x.2 in
    simp length-append (omega arith)

pub below_lift : (dim : ℕ) (up : Bool) (n depth under : ℕ) (w : Way) (f g : Forest) → Wf dim depth under (plug (lift up n w) g) → Heads w →
    Below 65536 (flat (plug w f)) → Below 65536 (flat g) → Below 65536 (flat (plug (lift up n w) g))
below_lift dim up n depth under stop f g x h b c = c
below_lift dim up n depth under (past own k w) f g x h b c =
    let b₁ = below_right own (flat k ++ flat (plug w f)) b in
    below_append 65536 own (flat k ++ flat (plug (lift up n w) g)) (below_left own (flat k ++ flat (plug w f)) b)
    (below_append 65536 (flat k) (flat (plug (lift up n w) g)) (below_left (flat k) (flat (plug w f)) b₁)
    (below_lift dim up n depth under w f g x.2 h (below_right (flat k) (flat (plug w f)) b₁) c))
below_lift dim up n depth under (into own r w) f g x h b c =
    let own' = grown up n (direct w) own in
    let k' = plug (lift up n w) g in
    let b₁ = below_right own (flat (plug w f) ++ flat r) b in
    let h' : is_header (type_at (grown up n (direct w) own) 0) ≡ true = rw (type_grown up n (direct w) own) h.0 in
    let l = length_grown up n (direct w) own in
    let t = header_twenty x.0 h' in
    let m = num_words dim (suc depth) (type_at own' 0) k' x.1 in
    let s = (header_extent x.0 h').1 in
    below_append 65536 own' (flat k' ++ flat r)
    (below_grown up n (direct w) own (below_left own (flat (plug w f) ++ flat r) b) h.0 (omega arith) x.0 (omega arith))
    (below_append 65536 (flat k') (flat r)
    (below_lift dim up n (suc depth) (type_at own' 0) w f g x.1 h.1 (below_left (flat (plug w f)) (flat r) b₁) c)
    (below_right (flat (plug w f)) (flat r) b₁))

---- the room above a place, by the words and by the tree

extent_there : {dim depth under : ℕ} (own : List ℕ) (k r : Forest) (at : ℕ) (ws : List ℕ) → OwnTests dim depth under own (length (flat k)) (num k) → is_header (type_at own 0) ≡ true →
    Stands (flat (node own k r)) at ws → extent_at ws at ≡ length own + length (flat k)
extent_there own k r at ws o h s =
    let l = header_twenty o h in
    let x = (header_extent o h).0 in
    ap (λ t. 19 + t) (stands_word (own_stands own k r s) 18 (omega arith)) ∙ x

module _ (dim n : ℕ) (ws : List ℕ) where
  pub room_is : (depth under : ℕ) (w : Way) (f : Forest) → Wf dim depth under (plug w f) → Heads w → (at : ℕ) → Stands (flat (plug w f)) at ws →
      room_fault n ws (heads at w) ≡ fine → Room n f w
  room_is depth under stop f x h at s e = tt
  room_is depth under (past own k w) f x h at s e = room_is depth under w f x.2 h (at + weight own k) (rest_stand own k (plug w f) s) e
  room_is depth under (into own r w) f x h at s e =
      go (leb (extent_at ws at + n) 65535) refl e (room_is (suc depth) (type_at own 0) w f x.1 h.1 (at + length own) (components_stand own (plug w f) r s))
    where
      go : (b : Bool) → leb (extent_at ws at + n) 65535 ≡ b → cond b (room_fault n ws (heads (at + length own) w)) (fault 8 at) ≡ fine →
          (room_fault n ws (heads (at + length own) w) ≡ fine → Room n f w) → Room n f (into own r w)
      go true q e k =
          let a = leb-true (extent_at ws at + n) 65535 q in
          let b = extent_there own (plug w f) r at ws x.0 h.0 s in
          (omega arith, k e)
      go false q e k = let z : ◌≡◌ {A = ℕ} 0 1 = cc in absurd (omega arith)

  pub is_room : (depth under : ℕ) (w : Way) (f : Forest) → Wf dim depth under (plug w f) → Heads w → (at : ℕ) → Stands (flat (plug w f)) at ws →
      Room n f w → room_fault n ws (heads at w) ≡ fine
  is_room depth under stop f x h at s m = refl
  is_room depth under (past own k w) f x h at s m = is_room depth under w f x.2 h (at + weight own k) (rest_stand own k (plug w f) s) m
  is_room depth under (into own r w) f x h at s m =
      let a = m.0 in
      let b = extent_there own (plug w f) r at ws x.0 h.0 s in
      rw (le-leb (extent_at ws at + n) 65535 (omega arith)) (is_room (suc depth) (type_at own 0) w f x.1 h.1 (at + length own) (components_stand own (plug w f) r s) m.1)

-- the rest of a list stands where the way to it ends
pub stands_way : (w : Way) (f : Forest) (at : ℕ) (ws : List ℕ) → Stands (flat (plug w f)) at ws → Stands (flat f) (at + length (front w)) ws
stands_way w f at ws s = stands_left (flat f) (rear w) (stands_right (front w) (flat f ++ rear w) (rw (flat_plug w f) at s))
