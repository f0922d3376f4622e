-- The words are stored exactly where they fit (`header_set`, `header_kept`).
use mathlib.Core.Path.{sym, ◌∙◌}
use Rattle.writer.proofs.Laid.{fits_is, header_set, header_kept}
use Rattle.writer.proofs.put_header.Goals as goal

pub put_header_words-requires : goal.put_header_words-requires
put_header_words-requires c =
    let f = fits_is _ _ _ (sym c.header_fits.ensures ∙ c.if-header_fits.true) in
    record { in_bounds = f.0; kind_bound = f.1 }

pub returns-then-header_fits : goal.returns-then-header_fits
returns-then-header_fits c =
    c.put_header_words.ensures ∙ header_set _ _ _ (sym c.header_fits.ensures ∙ c.if-header_fits.true)

pub returns-else-header_fits : goal.returns-else-header_fits
returns-else-header_fits c = header_kept _ _ _ (sym c.header_fits.ensures ∙ c.if-header_fits.false)
