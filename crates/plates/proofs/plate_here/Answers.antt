-- The plate is put together from the counts by extents.
use Prim.Native.Nat.{◌+◌, ◌/◌, min}
use mathlib.Core.Path.{◌≡◌, ap, ◌∙◌}
use native.Mathlib.Omega.{arith}
use lib.ListN.{length}
use Rattle.words.specs.Words.{words, word_at}
use Rattle.kinds.specs.Kinds.{name_word}
use Rattle.headers.specs.Header.{extent_words}
use Rattle.promises.proofs.Promises.{words_length, words_below, extent_small}
use Rattle.plates.proofs.Here.{smaller, name_word_lem, here_plate}
use Rattle.plates.proofs.plate_here.Goals as goal

pub overflow_add-end : goal.overflow_add-end
overflow_add-end c = omega (arith, c.extent_words.ensures, extent_small (c.args.file.now) (λ i. (c.type_inv.file i).fits) (c.args.at), c.requires)

pub overflow_add-at : goal.overflow_add-at
overflow_add-at c = omega (arith, c.size_at.ensures, words_below (c.args.file.now) (λ i. (c.type_inv.file i).fits) (c.args.at + 1), c.requires)

pub tally-counts-requires : goal.tally-counts-requires
tally-counts-requires c = omega (arith, smaller (c.args.at + c.extent_words.result) (length (c.args.file.now) / 2) (c.pick-stop.result) (c.pick-stop.ensures))

pub overflow_add-name : goal.overflow_add-name
overflow_add-name c = omega (arith, name_word_lem (c.type_at.result) (c.pick.result) (c.pick.ensures), c.requires)

pub overflow_add-name-2 : goal.overflow_add-name-2
overflow_add-name-2 c = omega (arith, name_word_lem (c.type_at.result) (c.pick.result) (c.pick.ensures), c.requires)

pub returns : goal.returns
returns c =
    let a = c.args in
    let ws = words a.file.now in
    let l = words_length a.file.now in
    let x = c.extent_words.ensures in
    let stop = smaller (a.at + c.extent_words.result) (length a.file.now / 2) c.pick-stop.result c.pick-stop.ensures in
    let ends : c.pick-stop.result ≡ min (a.at + extent_words (words a.file.now) a.at) (length (words a.file.now)) = omega arith in
    let name = c.pick.ensures ∙ ap name_word c.type_at.ensures in
    here_plate ws a.at _ c.pick-stop.result c.tally-counts.result (ap (λ n. a.at + n) c.size_at.ensures) ends c.tally-counts.ensures _ _ _
    (c.word.ensures.is ∙ ap (λ n. word_at ws (a.at + n)) name)
    (c.word-2.ensures.is ∙ ap (λ n. word_at ws (a.at + n + 1)) name)
    c.levels_at.ensures
