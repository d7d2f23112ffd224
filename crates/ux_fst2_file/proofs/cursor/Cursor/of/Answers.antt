use Rattle.std.proofs.Common.{arith, ap, length}
use Rattle.ux_base.proofs.LinesLemmas.{lines_of-count}
use Rattle.ux_fst2_file.proofs.cursor.Cursor.of.Goals as goal

pub invariant_of-result : goal.invariant_of-result
invariant_of-result c =
    record {
      counted = omega (
        arith,
        lines_of-count c.args.text.now,
        ap length c.lines.ensures,
        ap length c.as_bytes-bytes.ensures.value,
        c.as_bytes-bytes.type_inv,
      );
    }
