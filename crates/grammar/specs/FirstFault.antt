-- The first fault of a file, which decides (RULES.md, "Order of checks"): of an element its own words by the
-- rules in their order, then its components in order, then its count; of a list its elements in file order. A fault has
-- a number n and a place p. `ws` are the words of the file, `bound` is where the list or the enclosing extent ends.
use Rattle.std.specs.Prelude.{ℕ, zero, suc, ◌-◌, ◌≤◌, ◌<◌, ◌≡◌, ◌≢◌, ◌⊎◌, false, List, length, take, drop}
use Rattle.std.proofs.Math.Option.{Option, none, some}
use Rattle.words.specs.Words.{word_at}
use Rattle.headers.specs.Header.{type_at}
use Rattle.elements.specs.Rules.{head_of, count_ok}
use Rattle.elements.specs.declared.Head.TheVariants.{Bad, Complex}
use Rattle.files.specs.Spots.{Spot}
use Rattle.grammar.specs.Grammar.{Element, Components}

-- the words from a place up to another
abbrev pub from_to : List ℕ → ℕ → ℕ → List ℕ
from_to ws at end = take (end - at) (drop at ws)

-- an element is due at a place: a word is left before the bound and, at the top, it is not the marker's
abbrev pub Due : ℕ → List ℕ → ℕ → ℕ → Type 0
Due zero ws at bound = (at < bound) × (word_at ws at ≢ 65535)
Due (suc depth) ws at bound = at < bound

mutual
  -- of the element at the place `at`
  pub data ElementFault (dim : ℕ) (ws : List ℕ) : ℕ → ℕ → ℕ → ℕ → ℕ → ℕ → Type 0 where
    -- its own words break a rule: the number of the first that they break, at its place
    own_words : {depth under at bound n : ℕ} → head_of dim depth under ws at bound ≡ Bad n → ElementFault dim ws depth under at bound n at
    -- its own words are good, it is a header, and the list under it has the fault
    inside : {depth under at bound n p : ℕ} (inner end : ℕ) → head_of dim depth under ws at bound ≡ Complex inner end →
        ListFault dim ws (suc depth) (type_at ws at) (some at) inner end n p → ElementFault dim ws depth under at bound n p
    -- its own words and its k components are good, and its count differs: 9, at its place
    count : {depth under at bound : ℕ} (inner end k : ℕ) (xs : List Spot) → head_of dim depth under ws at bound ≡ Complex inner end →
        Components dim (suc depth) (type_at ws at) (some at) inner k xs (from_to ws inner end) → count_ok ws at k ≡ false →
        ElementFault dim ws depth under at bound 9 at

  -- of the list of elements from the place `at` on
  pub data ListFault (dim : ℕ) (ws : List ℕ) : ℕ → ℕ → Option ℕ → ℕ → ℕ → ℕ → ℕ → Type 0 where
    -- the next element has it
    here : {depth under : ℕ} {header : Option ℕ} {at bound n p : ℕ} → Due depth ws at bound →
        ElementFault dim ws depth under at bound n p → ListFault dim ws depth under header at bound n p
    -- the next element is good, and the rest of the list has it
    later : {depth under : ℕ} {header : Option ℕ} {at bound n p : ℕ} (next : ℕ) (xs : List Spot) → next ≤ bound →
        Element dim depth under header at xs (from_to ws at next) →
        ListFault dim ws depth under header next bound n p → ListFault dim ws depth under header at bound n p
    -- at the top no word is left where an element or the marker is due: 2, at the end
    no_end : {under : ℕ} {header : Option ℕ} {bound : ℕ} → ListFault dim ws 0 under header bound bound 2 bound

-- of a file
abbrev pub FirstFault : ℕ → List ℕ → ℕ → ℕ → Type 0
FirstFault dim ws n p = ListFault dim ws 0 0 none 0 (length ws) n p

-- the numbers of an element's faults: 3 to 12, 20 and 21
abbrev pub ElementNumber : ℕ → Type 0
ElementNumber n = ((3 ≤ n) × (n ≤ 12)) ⊎ ((n ≡ 20) ⊎ (n ≡ 21))

-- a refusal of a file of so many words, in plain numbers: 1 at 0, 2 at the end, or an element's at a word of the file
abbrev pub Refusal : ℕ → ℕ → ℕ → Type 0
Refusal size n p = ((n ≡ 1) × (p ≡ 0)) ⊎ (((n ≡ 2) × (p ≡ size)) ⊎ (ElementNumber n × (p < size)))
