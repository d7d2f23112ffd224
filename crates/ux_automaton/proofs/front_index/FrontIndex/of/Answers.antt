use Rattle.ux_automaton.proofs.FrontIndexLemmas.{index_made}
use Rattle.ux_automaton.proofs.front_index.FrontIndex.of.Goals as goal

pub returns : goal.returns
returns c = index_made c.args.masked.now c.args.stands.now c.in_ok-fittings.fittings.items _
    c.sort.ensures.same c.in_ok-fittings.ensures c.sort.ensures.ordered c.in_ok-others.ensures
