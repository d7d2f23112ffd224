use Rattle.std.proofs.Common.{get_or, sym, ◌∙◌}
use Rattle.ux_dawg.specs.Building.{bare}
use Rattle.ux_image_look_ups.proofs.EndLemmas.{alive_none}
use Rattle.ux_image_look_ups.proofs.places.is_alive.Goals as goal

pub returns-in-None : goal.returns-in-None
returns-in-None c =
    alive_none (get_or c.args.states.now c.args.number bare) _ _ (sym c.code.ensures ∙ c.in-None.is)
    c.edges.ensures c.has_some.ensures
