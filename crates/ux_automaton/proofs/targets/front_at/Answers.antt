use Rattle.std.proofs.Common.{List, ◌↔◌, subst, sym}
use Rattle.std.specs.Prelude.{Contains}
use Rattle.ux_closure.specs.declared.stand.Stand.{Stand}
use Rattle.ux_automaton.proofs.CacheLemmas.{through}
use Rattle.ux_automaton.proofs.Results.{if_ok}
use Rattle.ux_automaton.proofs.targets.front_at.Goals as goal

pub front_of-requires-clause-stands : goal.front_of-requires-clause-stands
front_of-requires-clause-stands c = λ stand inside.
    c.requires.stands (record { at = c.args.at; stand = stand })
    ((c.in_ok-stands.ensures stand).0
    (subst (λ (l : List Stand). Contains l stand) c.as_slice.ensures.keys inside))

pub returns-clause-stands : goal.returns-clause-stands
returns-clause-stands c = if_ok c.front_of.result _ _ (λ front has stand. through (has stand)
    (subst (λ (l : List Stand). Contains l stand
    ↔ Contains c.args.targets.now (record { at = c.args.at; stand = stand }))
    (sym c.as_slice.ensures.keys) (c.in_ok-stands.ensures stand))) c.front_of.ensures.stands
