use Rattle.std.proofs.Common.{arith, refl}
use Rattle.ux_image_reader.proofs.NumbersLemmas.{number_at}
use Rattle.ux_image_reader.proofs.numbers.read_number.Goals as goal

pub returns-in-Some-clause-ok : goal.returns-in-Some-clause-ok
returns-in-Some-clause-ok c = record {
  same = refl;
  past = number_at c.args.cursor.now.bytes.now c.args.cursor.now.place c.from_le_bytes.result
      c.in-Some.four.now (c.in-Some.ensures.variant.0 refl) c.in-Some.ensures.cases.0
      c.from_le_bytes.ensures;
  place = omega arith;
}
