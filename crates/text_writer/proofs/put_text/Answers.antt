-- Header, numbers, counts, bytes and tail are laid one behind the other (`text_laid`).
use Prim.Native.Nat.{ℕ, ◌+◌, ◌*◌, ◌/◌}
use mathlib.Core.Path.{◌≡◌, refl, ap, ap₂, ◌∙◌}
use mathlib.Core.List.{List}
use native.Mathlib.Omega.{arith}
use lib.ListN.{length}
use Rattle.words.specs.Words.{over, put_word}
use Rattle.words.proofs.Laws.{lent_below}
use Rattle.copies.specs.Copies.{copied}
use Rattle.texts.specs.Texts.{text_part}
use Rattle.writer.specs.Writing.{laid, header_laid}
use Rattle.text_fields.specs.Words.{number_words, counts_of, text_bytes, text_size}
use Rattle.text_fields.proofs.Bounds.{numbers_ok_lem}
use Rattle.text_fields.proofs.Writable.{writable}
use Rattle.text_writer.proofs.Laid.{parts, text_laid}
use Rattle.text_writer.proofs.put_text.Goals as goal

counts_is : (cs ts : List ℕ) {n : ℕ} → n ≡ length ts / 3 → length cs + 256 * n ≡ counts_of cs ts
counts_is cs ts e = ap (λ n. length cs + 256 * n) e

part_is : (dim : ℕ) (cs ts : List ℕ) {n r : ℕ} → n ≡ length ts / 3 → r ≡ text_part dim (length cs + 256 * n) → r ≡ text_part dim (counts_of cs ts)
part_is dim cs ts e q = q ∙ ap (text_part dim) (counts_is cs ts e)

pub overflow_mul-counts : goal.overflow_mul-counts
overflow_mul-counts c = let w = writable c.requires in omega (arith, c.third-n.ensures, w.call.lists.short)

pub overflow_add-counts : goal.overflow_add-counts
overflow_add-counts c = let w = writable c.requires in omega (arith, c.third-n.ensures, w.call.lists.short, w.call.lists.few)

pub overflow_add-size : goal.overflow_add-size
overflow_add-size c =
    let w = writable c.requires in omega (arith, part_is c.args.dim c.args.characters.now c.args.triples.now c.third-n.ensures c.text_part-part.ensures, (parts w).ends)

pub put_numbers-requires : goal.put_numbers-requires
put_numbers-requires c =
    let w = writable c.requires in
    let p = parts w in
    (omega (arith, p.numbers, p.bytes, p.ends, c.put_header.auto), (w.call.dims, numbers_ok_lem _ w.call.numbers))

pub overflow_cast-counts : goal.overflow_cast-counts
overflow_cast-counts c =
    let w = writable c.requires in omega (arith, c.third-n.ensures, w.call.lists.short, w.call.lists.few)

pub overflow_mul-place : goal.overflow_mul-place
overflow_mul-place c =
    let p = parts (writable c.requires) in omega (arith, c.counts_word-place.ensures, p.bytes, p.ends)

pub overflow_add-place : goal.overflow_add-place
overflow_add-place c =
    let p = parts (writable c.requires) in omega (arith, c.counts_word-place.ensures, p.bytes, p.ends)

pub put_bytes-requires : goal.put_bytes-requires
put_bytes-requires c =
    let w = writable c.requires in
    let p = parts w in
    (omega (arith, c.counts_word-place.ensures, p.bytes, p.ends, c.put_header.auto, c.put_numbers.auto, c.put_word.auto), w.call.numbers.byte.1.1.0)

pub overflow_mul-part : goal.overflow_mul-part
overflow_mul-part c =
    let p = parts (writable c.requires) in omega (arith, (part_is c.args.dim c.args.characters.now c.args.triples.now c.third-n.ensures c.text_part-part.ensures), p.ends)

pub returns : goal.returns
unfolding text_size
returns c =
    let a = c.args in
    let w = writable c.requires in
    let place = c.counts_word-place.result in
    let part = c.text_part-part.result in
    let size = ap (λ n. n + length a.tail.now / 2) (part_is c.args.dim c.args.characters.now c.args.triples.now c.third-n.ensures c.text_part-part.ensures) in
    let header = c.put_header.ensures ∙ ap (λ n. header_laid a.fields n a.out.now) size in
    let numbers = c.put_numbers.ensures ∙ ap (λ x. laid x 18 (number_words a.dim a.text)) header in
    let counted = c.put_word.ensures ∙ ap₂ (λ x n. put_word x place n) numbers (counts_is a.characters.now a.triples.now c.third-n.ensures) in
    let letters = c.put_bytes.ensures ∙ ap (λ x. over x (2 * place + 2) (text_bytes a.text a.characters.now a.triples.now)) counted in
    let tail = c.copy_in.ensures ∙ ap (λ x. copied x (2 * part) a.tail.now) letters in
    let part_of = part_is a.dim a.characters.now a.triples.now c.third-n.ensures c.text_part-part.ensures in
    record {
      size = size;
      bytes = tail ∙ text_laid w a.out.now place part c.counts_word-place.ensures part_of refl
          (lent_below a.characters.now c.type_inv.characters) (lent_below a.triples.now c.type_inv.triples) (lent_below a.tail.now c.type_inv.tail);
    }
