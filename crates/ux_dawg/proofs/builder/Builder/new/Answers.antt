use Rattle.ux_dawg.proofs.BuilderLemmas.{started}
use Rattle.ux_dawg.proofs.builder.Builder.new.Goals as goal

pub invariant_of-result : goal.invariant_of-result
invariant_of-result c =
    (started _ _ _ c.new.ensures c.new-2.ensures.items c.empty_state.ensures).1

pub returns : goal.returns
returns c = (started _ _ _ c.new.ensures c.new-2.ensures.items c.empty_state.ensures).0
