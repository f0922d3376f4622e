-- The two lengths and the marker's word are tested in the order of the definition; the first that fails decides.
use mathlib.Core.Path.{sym, ◌∙◌}
use lib.Seq.{length-take-le}
use Rattle.opening.proofs.Opening.{lengths_true}
use Rattle.opening.proofs.buffers_ok.Goals as goal

pub returns-then-not-used_ok : goal.returns-then-not-used_ok
returns-then-not-used_ok c = rw (sym c.used_ok.ensures ∙ c.if-not-used_ok.true)

pub returns-then-not-used_ok-2 : goal.returns-then-not-used_ok-2
returns-then-not-used_ok-2 c = rw (sym c.used_ok.ensures ∙ c.if-not-used_ok.false, sym c.used_ok-2.ensures ∙ c.if-not-used_ok-2.true)

pub slice_bounds-ends_in_marker-end : goal.slice_bounds-ends_in_marker-end
slice_bounds-ends_in_marker-end c = sym (length-take-le _ _ (lengths_true _ _ (sym c.used_ok.ensures ∙ c.if-not-used_ok.false)).within)

pub returns : goal.returns
returns c =
    rw (
      sym c.used_ok.ensures ∙ c.if-not-used_ok.false,
      sym c.used_ok-2.ensures ∙
          c.if-not-used_ok-2.false,
    )
    c.ends_in_marker.ensures
