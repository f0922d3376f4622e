-- By what the text packs to: its two words, each below 65536 (`pack_stored`), are the new name; a text that packs to none is a
-- fault of the rename (Ways, `text_named` and `text_unnamed`).
use mathlib.Core.Path.{sym, ◌∙◌}
use Rattle.names.proofs.OneToOne.{pack_stored}
use Rattle.marking.proofs.Ways.{text_named, text_unnamed}
use Rattle.marking.proofs.rename_by.Goals as goal

pub overflow_cast-name : goal.overflow_cast-name
overflow_cast-name c =
    record
    { fits = (pack_stored c.args.text.now _ _ (sym c.pack.ensures ∙ c.in-Ok.is)).first }

pub overflow_cast-name-in-Ok : goal.overflow_cast-name-in-Ok
overflow_cast-name-in-Ok c =
    record
    { fits = (pack_stored c.args.text.now _ _ (sym c.pack.ensures ∙ c.in-Ok.is)).second }

pub returns-in-Ok : goal.returns-in-Ok
returns-in-Ok c =
    text_named _ _ _ _ c.requires.ready _ (sym c.pack.ensures ∙ c.in-Ok.is)
    c.rename_opened.ensures

pub returns-in-Err : goal.returns-in-Err
returns-in-Err c =
    text_unnamed _ _ _ _ c.requires.ready _ (sym c.pack.ensures ∙ c.in-Err.is)
    c.rename_opened-in-Err.ensures
