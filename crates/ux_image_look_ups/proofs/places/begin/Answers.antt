use Rattle.std.proofs.Common.{◌∷◌, ◌-◌, [], ap, get_or, subst, sym, ◌∙◌}
use Rattle.std.proofs.lemmas.Bool.{false≢true}
use Rattle.ux_dawg.specs.Building.{bare}
use Rattle.ux_dawg.specs.Paths.{IsAlive}
use Rattle.ux_image_look_ups.proofs.PathLemmas.{begins_at, begins_nowhere}
use Rattle.ux_image_look_ups.proofs.places.begin.Goals as goal

pub returns-then-is_alive : goal.returns-then-is_alive
returns-then-is_alive c alphabet =
    let states = c.args.states.now in
    begins_at states c.requires.automaton c.requires.forms alphabet c.of.result
    (c.of.ensures ∙ ap (λ n. (n - 1) ∷ []) c.len-root.ensures)
    (subst (λ n. IsAlive (get_or states (n - 1) bare)) c.len-root.ensures
    (c.is_alive.ensures.0 c.if-is_alive.true))

pub returns : goal.returns
returns c alphabet =
    let states = c.args.states.now in
    begins_nowhere states c.requires.automaton c.requires.forms alphabet c.none.result
    c.none.ensures (λ alive. false≢true (sym c.if-is_alive.false ∙ c.is_alive.ensures.1
    (subst (λ n. IsAlive (get_or states (n - 1) bare)) (sym c.len-root.ensures) alive)))
