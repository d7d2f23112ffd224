use Rattle.std.proofs.Common.{◌∙◌, get_or}
use Rattle.ux_closure.specs.declared.stand.Stand.{Stand}
use Rattle.ux_closure.proofs.PutLemmas.{has_next, has_all, item_at}
use Rattle.ux_closure.proofs.met.Met.of.Goals as goal

pub loop-stand-preserved : goal.loop-stand-preserved
loop-stand-preserved c =
    let none : Stand = record { here = record { graph = 0; state = 0 }; back = 0 } in
    record {
      stands = has_next c.loop-stand.met.stands.keys c.put.new.self.stands.keys c.args.stands.now
          c.loop-stand.stand-index (get_or c.args.stands.now c.loop-stand.stand-index none) c.loop-stand-test.true (item_at c.args.stands.now c.loop-stand.stand-index none c.loop-stand-test.true)
          c.loop-stand.invariant.stands c.in_ok-put.ensures.put;
      ends = c.put.ensures.ends ∙ c.loop-stand.invariant.ends;
    }

pub returns-clause-stands : goal.returns-clause-stands
returns-clause-stands c = has_all c.loop-stand.met.stands.keys c.args.stands.now
    c.loop-stand.stand-index c.loop-stand-test.false c.loop-stand.invariant.stands
