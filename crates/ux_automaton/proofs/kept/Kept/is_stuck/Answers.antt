use Rattle.std.proofs.Common.{subst}
use Rattle.std.proofs.lemmas.Bool.{eqb-true}
use Rattle.ux_automaton.specs.Fronts.{HoldsIn}
use Rattle.ux_automaton.specs.Kept.{store_of}
use Rattle.ux_walk.specs.Settings.{masked_setting}
use Rattle.ux_automaton.specs.Onwards.{LeadOnlyTo}
use Rattle.ux_automaton.proofs.kept.Kept.is_stuck.Goals as goal

pub returns-in-Some-clause-only : goal.returns-in-Some-clause-only
returns-in-Some-clause-only c = λ yes.
    subst (λ n. LeadOnlyTo (masked_setting c.args.masked.now) (store_of c.args.self.now.fronts)
    (HoldsIn (store_of c.args.self.now.fronts) c.args.closed.front) c.args.at n)
    (eqb-true c.in-Some.next 0 yes) c.in-Some.ensures
