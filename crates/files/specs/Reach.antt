-- The elements at the top from a place on, up to and with the first that ends after a place `until`, or,
-- where `each` holds, that is a header.
use Rattle.std.specs.Prelude.{ℕ, zero, suc, ◌+◌, ◌-◌, Bool, true, false, ◌&&◌, ◌||◌, List, ltb, Err, Ok, Result}
use Rattle.kinds.specs.Kinds.{is_header}
use Rattle.headers.specs.Header.{type_at}
use Rattle.files.specs.declared.Stop.{Stop}
use Rattle.files.specs.declared.Stop.TheVariants.{More, Done, Lacking}
use Rattle.files.specs.Ends.{stop_of}
use Rattle.files.specs.Judge.{element_of}
use Rattle.files.specs.ReachedAnswers.{an_element, an_end}
use Rattle.files.specs.declared.Judgement.{Judgement}
use Rattle.files.specs.declared.Reached.{Reached}
use Rattle.refusals.specs.Refusals.{refused_with}
use Rattle.refusals.specs.declared.Refusal.{Refusal}

-- whether judging stops after the element from `at` to `next`: it ends after `until`, or `each` holds and it is a header
unfoldable pub stops_after : List ℕ → ℕ → Bool → ℕ → ℕ → Bool
stops_after ws until each at next = (each && is_header (type_at ws at)) || ltb until next

-- the element where judging stops, after `before` others, or what the rest comes to
abbrev pub reached_if : Bool → ℕ → ℕ → ℕ → Result Reached Refusal → Result Reached Refusal
reached_if true start end before rest = an_element start end before
reached_if false start end before rest = rest

-- by what stands at a place, and what it is judged to be if it is an element
abbrev pub reached_by : Stop → Result Judgement Refusal → ℕ → ℕ → (ℕ → Bool) → (ℕ → Result Reached Refusal) → Result Reached Refusal
reached_by Done v at before stops rest = an_end at before
reached_by Lacking v at before stops rest = refused_with 2 at
reached_by More (Err refusal) at before stops rest = Err refusal
reached_by More (Ok judged) at before stops rest = reached_if (stops judged.next) at judged.next before (rest judged.next)

-- the first number bounds how many elements are judged; every element has a word
unfoldable pub reached_from : ℕ → ℕ → List ℕ → ℕ → Bool → ℕ → ℕ → ℕ → Result Reached Refusal
reached_from zero dim ws until each before at bound = refused_with 0 at
reached_from (suc n) dim ws until each before at bound =
    reached_by (stop_of 0 ws at bound) (element_of dim 0 0 ws at bound) at before (λ next. stops_after ws until each at next)
    (λ next. reached_from n dim ws until each (before + 1) next bound)

unfoldable pub reached_of : ℕ → List ℕ → ℕ → ℕ → ℕ → Bool → Result Reached Refusal
reached_of dim ws at bound until each = reached_from (suc (bound - at)) dim ws until each 0 at bound
