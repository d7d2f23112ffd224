use Rattle.std.proofs.Common.{arith, refl}
use Rattle.ux_alphabet.proofs.BlankLemmas.{end-ascii, strip_blank-blank, strip_blank-other}
use Rattle.ux_alphabet.proofs.reading.strip_blank.Goals as goal

-- the cut falls before a blank, which is ASCII
pub range-requires : goal.range-requires
range-requires c =
    let blank = c.if-ends_in_blank.ensures.0 refl in
    let small = end-ascii c.args.line.now blank in
    record {
      start_le_end = omega arith;
      start_boundary = λ h. absurd (omega (arith, h));
      end_boundary = (omega arith, λ _ high. absurd (omega (arith, small, high)));
    }

pub returns-then-ends_in_blank : goal.returns-then-ends_in_blank
returns-then-ends_in_blank c =
    strip_blank-blank _ _ (c.if-ends_in_blank.ensures.0 refl) c.range.ensures.value

pub returns : goal.returns
returns c = strip_blank-other _ (λ blank. cc (c.if-ends_in_blank.ensures.1 blank))
