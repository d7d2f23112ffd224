use Rattle.ux_meaning.specs.Meaning.{Der}
use Rattle.ux_net.specs.Nets.{net_grammar}
use Rattle.ux_outputs.specs.declared.event.Event.{Event}
use Rattle.std.specs.Prelude.{List}
use Rattle.ux_tfst_locate.specs.Bases.{input_of}
use Rattle.ux_tfst_locate.proofs.ListingLemmas.{AreFoundTo}
use Rattle.ux_tfst_locate.proofs.listing.stretches.Given as goal

abbrev pub invariant-loop-from : goal.invariant-loop-from
invariant-loop-from l = AreFoundTo l.paths.reached.now l.paths.leading.now
    (λ from to. (events : List Event) × Der (input_of l.basis) (net_grammar l.net) 1 from to events)
    l.from l.found.items
