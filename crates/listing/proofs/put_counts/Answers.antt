-- `listing::put_counts` meets its contract: each field is put behind those before it.
use native.Mathlib.Omega.{arith}
use Rattle.listing.proofs.Laws.{puts_then}
use Rattle.listing.proofs.put_counts.Goals as goal

pub returns : goal.returns
returns c = record {
  puts = puts_then c.put_field-next.ensures.puts
      (puts_then c.put_field-next-2.ensures.puts
      (puts_then c.put_field-next-3.ensures.puts
      (puts_then c.put_field-next-4.ensures.puts
      (puts_then c.put_field-next-5.ensures.puts c.put_field.ensures.puts))));
  upper_bound = omega arith;
}
