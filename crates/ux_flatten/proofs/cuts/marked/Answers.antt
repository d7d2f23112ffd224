use Rattle.ux_base.proofs.Lists.{nothing_in}
use Rattle.ux_digraph.specs.Rules.{fact}
use Rattle.ux_flatten.proofs.CutsLaw.{facts_alone}
use Rattle.ux_flatten.proofs.cuts.marked.Goals as goal

pub closure-requires : goal.closure-requires
closure-requires c = record {
  inside = record { rule = λ r there. absurd (nothing_in there); start = c.requires };
}

pub returns : goal.returns
returns c = λ x. (
  λ marked. facts_alone c.args.numbers.now ((c.in_ok-marks.ensures.marks x).0 marked),
  λ there. (c.in_ok-marks.ensures.marks x).1 (fact there),
)
