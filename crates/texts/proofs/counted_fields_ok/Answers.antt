-- The fields behind the place are those of the bytes from there on (`fields_part`).
use Prim.Native.Nat.{◌/◌}
use mathlib.Core.Path.{◌≡◌, refl, sym, ◌∙◌}
use native.Mathlib.Omega.{arith}
use Rattle.words.specs.Words.{words}
use Rattle.words.proofs.Laws.{word_out}
use Rattle.texts.specs.Texts.{each_field_ok, fields_in, characters_in, field_byte}
use Rattle.texts.proofs.Laws.{counts_early, byte_none, fields_none, fields_part}
use Rattle.texts.proofs.counted_fields_ok.Goals as goal

pub returns-then-counts-lt256 : goal.returns-then-counts-lt256
unfolding each_field_ok
returns-then-counts-lt256 c = let z : c.args.counts / 256 ≡ 0 = omega arith in sym (rw z refl)

pub returns-then-s-at : goal.returns-then-s-at
returns-then-s-at c = let a = c.args in sym (fields_none (fields_in a.counts) (characters_in a.counts) (words a.s.now) a.at _ (omega arith) (byte_none (words a.s.now) a.at _ (word_out a.s.now _ (omega arith))))

pub overflow_add-first : goal.overflow_add-first
overflow_add-first c = omega (arith, c.counts_word.ensures, counts_early c.args.dim)

pub overflow_mul-first : goal.overflow_mul-first
overflow_mul-first c = omega (arith, c.counts_word.ensures, counts_early c.args.dim)

pub overflow_add-first-2 : goal.overflow_add-first-2
overflow_add-first-2 c = omega (arith, c.counts_word.ensures, counts_early c.args.dim)

pub each_field_ok-requires : goal.each_field_ok-requires
each_field_ok-requires c = omega (arith, c.counts_word.ensures, counts_early c.args.dim)

pub returns : goal.returns
returns c =
    let a = c.args in
    let e = c.counts_word.ensures in
    c.each_field_ok.ensures ∙ fields_part (fields_in a.counts) (characters_in a.counts) a.s.now a.at _ (field_byte a.dim a.counts 0) (omega arith)
