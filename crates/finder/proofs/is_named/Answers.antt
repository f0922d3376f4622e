-- The definition asks the type first and the code the words: where the words are the name's both leave the type, else both are
-- false (Named).
use Rattle.words.specs.Words.{words}
use mathlib.Core.Path.{refl}
use Rattle.finder.proofs.Named.{words_first, words_fail}
use Rattle.finder.proofs.is_named.Goals as goal

pub returns-then-has_words : goal.returns-then-has_words
returns-then-has_words c =
    words_first (words c.args.s.now) c.args.at c.args.t c.args.k c.args.name.first
    c.args.name.second c.has_words.ensures c.if-has_words.true c.type_at.ensures refl

pub returns : goal.returns
returns c =
    words_fail (words c.args.s.now) c.args.at c.args.t c.args.k c.args.name.first
    c.args.name.second c.has_words.ensures c.if-has_words.false
