-- An index built afresh depends on its buffer's length alone, so building again gives it back; and what building leaves is the index built
-- afresh. Entries are digits: a higher one outweighs all below it.
use Prim.Native.Nat.{ℕ, ◌-◌, ◌*◌, ◌%◌, ◌≤◌}
use mathlib.Core.Path.{◌≡◌, refl, sym, ap, ap₂, subst, ◌∙◌}
use mathlib.Core.Logic.{inl, inr, ⊎_elim}
use mathlib.Core.Bool.{Bool, true, false, cond, and-eq-true_iff}
use mathlib.Core.List.{List, [], ◌∷◌, ◌++◌}
use mathlib.Core.Option.{Option, none, some}
use native.Mathlib.Omega.{arith}
use lib.ListN.{length, replicate, length-append, length-replicate}
use lib.Dec.{eqb, leb}
use Rattle.std.specs.Prelude.{Err, Ok, Result}
use Rattle.refusals.specs.Refusals.{refused_with}
use Rattle.refusals.specs.declared.Refusal.{Refusal}
use Rattle.words.specs.Words.{words}
use Rattle.words.proofs.Laws.{words_below}
use Rattle.files.specs.Judge.{judge_of}
use Rattle.files.specs.Accepted.{accepted_with}
use Rattle.files.specs.declared.Accepted.{Accepted}
use Rattle.grammar.proofs.Exact.{accepted_is}
use Rattle.entries.specs.Entries.{image, shown}
use Rattle.entries.proofs.Laws.{length_image}
use Rattle.sorting.proofs.Laws.{le_or_lt}
use Rattle.cells.specs.Cells.{Cell, cells_of}
use Rattle.cells.specs.Index.{cell_entry, index_of, index_bytes}
use Rattle.cells.proofs.Whole.{judged_cells}
use Rattle.indexing.specs.Indexing.{built_by, left_by, BuildsFile}
use Rattle.lookup.proofs.Finding.{Rising, rising_between}
use Rattle.answers.proofs.Elements.{call_words}
use Rattle.edits.specs.Allowed.{unless}
use Rattle.edits.specs.Calls.{Index, Session, size_of, afresh, index_ok, index_fits, words_of, session_ok, session_fault}
use Rattle.edits.specs.Demand.{OpenedEmpty, run_of, used_bytes}
use Rattle.edits.proofs.Faults.{or_else_fine}
use Rattle.edits.proofs.Tested.{ready_tested, session_ok_lem}
use Rattle.edits.proofs.Indexed.{index_size, index_ok_lem}
use Rattle.edits.proofs.Every.{demand_three}
use Rattle.demands.specs.IndexPromises.{IndexAsBuilt, lent_index, BuiltOpens, CellOk, EachOk, CellsOk, Before, EntryOrder, EntriesApart}

---- the index of a session, and building

-- entries in a buffer of the length that they and the zeros have
shown_again : (n : ℕ) (es : List ℕ) → shown (length (shown n es)) es ≡ shown n es
unfolding shown
shown_again n es =
    let l = length_image es in
    let a = length-append (image es) (replicate (n - 8 * length es) 0) in
    let z = length-replicate {A = ℕ} (n - 8 * length es) 0 in
    let k : length (image es ++ replicate (n - 8 * length es) 0) - 8 * length es ≡ n - 8 * length es = omega arith in
    ap (λ m. image es ++ replicate m 0) k

module _ (dim : ℕ) (u b : List ℕ) (r : Result ℕ Refusal) (t : List ℕ) (e d m : ℕ) (q : judge_of dim u ≡ accepted_with e d m) (f : BuildsFile dim u b r t) where
  same_in : (n : ℕ) → index_ok (afresh dim (words u) (some n)) ≡ true → length b ≡ length (shown n (index_of dim (words u))) →
      (r ≡ Ok (index_bytes dim (words u))) × (t ≡ shown n (index_of dim (words u)))
  same_in n ok l =
      let fits : leb (index_bytes dim (words u)) (length b) ≡ true = rw l ((and-eq-true_iff (eqb (index_bytes dim (words u) % 8) 0) _).0 ok).1 in
      (f.answer ∙ (rw (q, fits) refl), f.bytes ∙ (rw (q, fits) (ap (λ k. shown k (index_of dim (words u))) l ∙ shown_again n (index_of dim (words u)))))

  same_as : (z : Option ℕ) (i : Index) → afresh dim (words u) z ≡ some i → index_ok (some i) ≡ true → length b ≡ length i.buffer →
      (r ≡ Ok i.iused) × (t ≡ i.buffer)
  same_as none i a ok l = let z : ◌≡◌ {A = ℕ} 0 1 = cc in absurd (omega arith)
  same_as (some n) i a ok l =
      let x : record { buffer = shown n (index_of dim (words u)); iused = index_bytes dim (words u) } ≡ i = cc in
      subst (λ v. index_ok (some v) ≡ true → length b ≡ length v.buffer → (r ≡ Ok v.iused) × (t ≡ v.buffer)) x (same_in n) ok l

pub index_as_built : IndexAsBuilt
index_as_built dim s cs i b r t o p has l f =
    let last = (run_of dim s cs).session in
    let D = demand_three dim s cs o p in
    let ok : index_ok (some i) ≡ true = subst (λ v. index_ok v ≡ true) has (ready_tested dim last D.ready).index in
    same_as dim (used_bytes last) b r t D.accepted.elements D.accepted.deepest _ D.accepted.judged f (size_of s.index) i (sym D.index ∙ has) ok l

module _ (dim : ℕ) (s : Session) (b : List ℕ) (n : ℕ) (t : List ℕ) (o : OpenedEmpty dim s) where
  opens : leb (index_bytes dim (words_of s)) (length b) ≡ true → OpenedEmpty dim (lent_index s (shown (length b) (index_of dim (words_of s))) (index_bytes dim (words_of s)))
  unfolding session_fault
  opens fits =
      let T = ready_tested dim s o.ready in
      let size = index_size dim (words_of s) (some (length b)) fits in
      let ok : session_ok dim (lent_index s (shown (length b) (index_of dim (words_of s))) (index_bytes dim (words_of s))) ≡ true =
      session_ok_lem (record {
        index = index_ok_lem dim (words_of s) (some (length b)) fits;
        dimension = T.dimension;
        file = T.file;
        journal = T.journal;
        ends = T.ends;
      }) in
      record {
        file_bytes = o.file_bytes;
        journal_bytes = o.journal_bytes;
        journal_empty = o.journal_empty;
        ready = rw ok (or_else_fine (unless (session_ok dim s) 1) _ o.ready).1;
        index_built = ap (afresh dim (words_of s)) (sym size);
        index_fits_lem = subst (λ z. index_fits dim (words_of s) z ≡ true) (sym size) fits;
      }

  opens_by : (j : Result Accepted Refusal) → Ok n ≡ built_by j (index_bytes dim (words_of s)) (length b) →
      t ≡ left_by j (index_bytes dim (words_of s)) (index_of dim (words_of s)) b → OpenedEmpty dim (lent_index s t n)
  opens_by (Err refusal) a c = let z : ◌≡◌ {A = ℕ} 0 1 = cc in absurd (omega arith)
  opens_by (Ok file) a c = go (leb (index_bytes dim (words_of s)) (length b)) refl a c
    where
      go : (v : Bool) → leb (index_bytes dim (words_of s)) (length b) ≡ v → Ok n ≡ cond v (Ok (index_bytes dim (words_of s))) (refused_with 15 0) →
          t ≡ cond v (shown (length b) (index_of dim (words_of s))) b → OpenedEmpty dim (lent_index s t n)
      go false h a c = let z : ◌≡◌ {A = ℕ} 0 1 = cc in absurd (omega arith)
      go true h a c = let x : n ≡ index_bytes dim (words_of s) = cc in rw (c, x) (opens h)

pub built_opens : BuiltOpens
built_opens dim s b n t o f = opens_by dim s b n t o (judge_of dim (used_bytes s)) f.answer f.bytes

---- the order of entries

each_ok : (p : ℕ) (cs : List Cell) → Rising p 4294967296 cs → EachOk cs
each_ok p [] r = tt
each_ok p (c ∷ cs) r = (record { first = r.0.first; second = r.0.second; place = r.0.before }, each_ok c.place cs r.1)

pub cells_ok : CellsOk
cells_ok dim s e d m below q =
    let l = call_words dim s (accepted_is dim s e d m q).call in
    each_ok 0 (cells_of dim (words s))
    (subst (Rising 0 4294967296) (sym (judged_cells dim s e d m q)) (rising_between (words s) (words_below s below) 0 m (omega arith)))

pub entry_order : EntryOrder
entry_order c d C D = (to, from)
  where
    to : cell_entry c ≤ cell_entry d → Before c d
    to h =
        let x = C.first in
        let y = C.second in
        let z = C.place in
        let u = D.first in
        let v = D.second in
        let w = D.place in
        ⊎_elim (λ f. inr (omega arith, ⊎_elim (λ g. inr (omega arith, omega arith)) inl (le_or_lt d.second c.second))) inl (le_or_lt d.first c.first)

    from : Before c d → cell_entry c ≤ cell_entry d
    from (inl f) = let y = C.second in let z = C.place in omega arith
    from (inr (f, inl g)) = let z = C.place in omega arith
    from (inr (f, inr (g, h))) = omega arith

cell_same : (c d : Cell) → c.first ≡ d.first → c.second ≡ d.second → c.place ≡ d.place → c ≡ d
cell_same c d f g h =
    ap₂ (λ a b. record { first = a; second = b; place = c.place }) f g ∙ ap (λ p. record { first = d.first; second = d.second; place = p }) h

pub entries_apart : EntriesApart
entries_apart c d C D e =
    let x = C.second in
    let y = C.place in
    let u = D.second in
    let v = D.place in
    cell_same c d (omega arith) (omega arith) (omega arith)
