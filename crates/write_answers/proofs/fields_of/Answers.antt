-- Each number is the slice's; a coordinate keeps its value (`back`).
use Rattle.write_answers.specs.Writing.{number_at}
use Rattle.write_answers.proofs.Numbers.{back}
use Rattle.write_answers.proofs.fields_of.Goals as goal

pub returns : goal.returns
returns c =
    let l = c.args.fields.now in
    rw (
      c.natural_at.ensures,
      c.natural_at-2.ensures,
      c.natural_at-3.ensures,
      c.natural_at-4.ensures,
      back (number_at l 4) (record { sfits = c.result-1.given }),
      back (number_at l 5) (record { sfits = c.result-2-1.given }),
      back (number_at l 6) (record { sfits = c.result-3-1.given }),
      back (number_at l 7) (record { sfits = c.result-4-1.given }),
      back (number_at l 8) (record { sfits = c.result-5-1.given }),
      back (number_at l 9) (record { sfits = c.result-6-1.given }),
      c.natural_at-5.ensures,
      c.natural_at-6.ensures,
      c.natural_at-7.ensures,
      c.natural_at-8.ensures,
      c.natural_at-9.ensures,
      c.natural_at-10.ensures,
    )
