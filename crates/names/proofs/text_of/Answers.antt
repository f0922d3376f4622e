-- `names::text_of` meets its contract: the letters, one by one, are those of the text, with zeros past its end.
use Rattle.names.proofs.Texts.{text_answer_lem}
use Rattle.names.proofs.text_of.Goals as goal

pub returns : goal.returns
returns c =
    text_answer_lem _ _ _ _ _ _ _ _ _ c.text_length-length.ensures c.shown.ensures
    c.shown-2.ensures c.shown-3.ensures c.shown-4.ensures
    c.shown-5.ensures c.shown-6.ensures
