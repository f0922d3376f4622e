-- By the element's number, whether it is a text, and whether its numbers fit.
use mathlib.Core.Path.{sym, ◌∙◌}
use Rattle.words.specs.Words.{words}
use Rattle.text_views.specs.TextViews.{text_in}
use Rattle.dgn_texts.proofs.Puts.{put_before, put_none, put_full, put_text_lem}
use Rattle.dgn_texts.proofs.put_from.Goals as goal

pub returns-then-i-k : goal.returns-then-i-k
returns-then-i-k c =
    let a = c.args in
    put_before a.dim (words a.file.now) a.k a.i a.place a.depth a.numbers.now a.used (text_in a.dim (words a.file.now) a.place) c.if-i-k.true

pub returns-then-numbers-used-lt18 : goal.returns-then-numbers-used-lt18
returns-then-numbers-used-lt18 c =
    let a = c.args in
    put_full a.dim (words a.file.now) a.k a.i a.place a.depth a.numbers.now a.used c.if-i-k.false _ _ (sym c.text_in.ensures ∙ c.in-Ok.is) c.if-numbers-used-lt18.true

pub returns-in_default : goal.returns-in_default
returns-in_default c =
    let a = c.args in
    put_none a.dim (words a.file.now) a.k a.i a.place a.depth a.numbers.now a.used c.if-i-k.false _ _ (sym c.text_in.ensures ∙ c.in_default.is)

pub returns : goal.returns
returns c =
    let a = c.args in
    put_text_lem a.dim (words a.file.now) a.k a.i a.place a.depth a.numbers.now a.used c.if-i-k.false _ _ (sym c.text_in.ensures ∙ c.in-Ok.is) c.if-numbers-used-lt18.false _ c.put_entry.ensures
