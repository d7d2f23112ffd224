use Rattle.std.proofs.Common.{arith, ◌≡◌, ◌∙◌}
use Rattle.ux_admission.specs.Leading.{Leads}
use Rattle.ux_net.specs.Words.{closes}
use Rattle.ux_admission.proofs.FindsLemmas.{finds_next}
use Rattle.ux_admission.proofs.FindingLemmas.{finds_closing}
use Rattle.ux_admission.proofs.closers.begin.Goals as goal

pub loop-place-preserved : goal.loop-place-preserved
loop-place-preserved c = record {
  len = c.in_ok-begin_at.ensures.len ∙ c.loop-place.invariant.len;
  rows = c.in_ok-begin_at.ensures.rows;
  finds = finds_next c.args.found.now.keys c.loop-place.found.keys c.begin_at.new.found.keys
      c.loop-place.place (λ n p. Leads c.args.leading.now closes p.place n × (p.closer ≡ n))
      c.loop-place.invariant.finds c.in_ok-begin_at.ensures.finds;
}

pub returns-clause-finds : goal.returns-clause-finds
returns-clause-finds c =
    finds_closing c.args.leading.now c.args.found.now.keys c.loop-place.found.keys
    c.loop-place.place (omega arith) c.loop-place.invariant.finds
