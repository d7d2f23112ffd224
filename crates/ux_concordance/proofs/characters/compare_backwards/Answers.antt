use Rattle.std.proofs.Common.{arith, ◌-◌, ◌∙◌, length}
use Rattle.ux_concordance.proofs.EndsLemmas.{compared, cut_bounds, flipped, from_start, shared}
use Rattle.ux_concordance.proofs.characters.compare_backwards.Goals as goal

pub range-requires-clause-end_boundary : goal.range-requires-clause-end_boundary
range-requires-clause-end_boundary c = (
  omega arith,
  λ lt high. absurd (omega (
    arith,
    high,
    cut_bounds c.args.a.now c.args.b.now c.shared_end-shared.result
        (shared c.as_bytes.ensures.value c.as_bytes-2.ensures.value c.shared_end-shared.ensures) lt,
  )),
)

pub range-requires-2-clause-end_boundary : goal.range-requires-2-clause-end_boundary
range-requires-2-clause-end_boundary c = (
  omega arith,
  λ lt high. absurd (omega (
    arith,
    high,
    cut_bounds c.args.b.now c.args.a.now c.shared_end-shared.result
        (flipped (shared c.as_bytes.ensures.value c.as_bytes-2.ensures.value c.shared_end-shared.ensures)) lt,
  )),
)

pub returns : goal.returns
returns c =
    c.compare_ends.ensures
    ∙ compared c.args.a.now c.args.b.now c.range.result.now c.range-2.result.now
    c.shared_end-shared.result
    (shared c.as_bytes.ensures.value c.as_bytes-2.ensures.value c.shared_end-shared.ensures)
    (c.range.ensures.value ∙ from_start c.args.a.now (length c.args.a.now - c.shared_end-shared.result))
    (c.range-2.ensures.value ∙ from_start c.args.b.now (length c.args.b.now - c.shared_end-shared.result))
    c.range.utf8 c.range-2.utf8
