use Rattle.std.proofs.Common.{arith, sym, subst}
use Rattle.ux_locate.specs.Finding.{AreHitsBefore}
use Rattle.ux_locate.proofs.ByChartLemmas.{hits_all, hits_next, hits_none}
use Rattle.ux_locate.proofs.by_chart.hits_from_all.Goals as goal

pub loop-start-init : goal.loop-start-init
loop-start-init c =
    let search = c.args.search.now in
    record {
      kept = c.requires.kept;
      hits = subst (AreHitsBefore search 0) (sym c.new-hits.ensures.items) (hits_none search);
    }

pub loop-start-preserved : goal.loop-start-preserved
loop-start-preserved c = record {
  kept = c.add_hits.ensures.kept;
  hits = hits_next c.args.search.now c.loop-start.start c.loop-start.hits.items
      c.add_hits.new.hits.items c.loop-start.invariant.hits c.in_ok-add_hits.ensures.hits;
}

pub returns : goal.returns
returns c = hits_all c.args.search.now c.loop-start.start c.loop-start.hits.items
    (omega (arith, c.loop-start-test.false, c.len-start-end.ensures.len))
    c.loop-start.invariant.hits
