use Rattle.std.proofs.Common.{List, subst, sym}
use Rattle.std.specs.Prelude.{Contains}
use Rattle.ux_closure.specs.declared.stand.Stand.{Stand}
use Rattle.ux_closure.specs.Holding.{Holds}
use Rattle.ux_automaton.specs.Fronts.{HoldsIn}
use Rattle.ux_automaton.specs.Kept.{store_of}
use Rattle.ux_automaton.proofs.OverLemmas.{given_same}
use Rattle.ux_automaton.proofs.Results.{if_ok, on_any}
use Rattle.ux_automaton.proofs.StoreLemmas.{named, stacks_grown}
use Rattle.ux_automaton.proofs.fronts.Fronts.close.Goals as goal

pub closure-requires-clause-named : goal.closure-requires-clause-named
closure-requires-clause-named c = λ stand inside.
    named c.args.self.now.stacks.links.keys c.requires.sound.stacks_below stand.back
    (c.in_ok-stands.ensures.there stand
    (subst (λ (l : List Stand). Contains l stand) c.as_slice.ensures.value inside))

pub returns-clause-grows : goal.returns-clause-grows
returns-clause-grows c = on_any c.closure.result _
    (stacks_grown (store_of c.args.self.now) c.closure.new.stacks.links.keys c.requires.sound
    c.closure.ensures.grows.extends c.closure.ensures.grows.below)

pub returns-clause-closure : goal.returns-clause-closure
returns-clause-closure c = if_ok c.closure.result _ _ (λ closure is.
    given_same c.args.net.now c.args.is_spaced
    (Holds c.args.self.now.stacks.links.keys c.as_slice.result.now)
    (HoldsIn (store_of c.args.self.now) c.args.front)
    (λ stack. (
      λ h. (
        h.0,
        (c.in_ok-stands.ensures.stands h.0).0
            (subst (λ (l : List Stand). Contains l h.0) c.as_slice.ensures.value h.1),
        h.2,
      ),
      λ h. (
        h.0,
        subst (λ (l : List Stand). Contains l h.0) (sym c.as_slice.ensures.value)
            ((c.in_ok-stands.ensures.stands h.0).1 h.1),
        h.2,
      ),
    )) c.closure.new.stacks.links.keys closure is) c.closure.ensures.closure
