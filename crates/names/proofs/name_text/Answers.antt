-- `names::name_text` meets its contract: the test of the table is computed, and both words are taken apart by the table.
use mathlib.Core.Path.{refl, ap₂, ◌∙◌}
use Rattle.names.specs.Names.{text_in, text_answer}
use Rattle.names.proofs.name_text.Goals as goal

pub letters_by-l-requires : goal.letters_by-l-requires
letters_by-l-requires c = record { word_bound = c.requires.first_bound; table_value = refl }

pub letters_by-m-requires : goal.letters_by-m-requires
letters_by-m-requires c = record { word_bound = c.requires.second_bound; table_value = refl }

pub returns : goal.returns
returns c =
    c.text_of.ensures ∙ ap₂ (λ l m. text_answer (text_in l m)) c.letters_by-l.ensures c.letters_by-m.ensures
