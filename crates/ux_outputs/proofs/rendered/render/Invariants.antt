use Rattle.std.specs.Prelude.{drop}
use Rattle.ux_outputs.specs.Rendering.{render}
use Rattle.ux_outputs.proofs.RenderLemmas.{IsRendered}
use Rattle.ux_outputs.proofs.rendered.render.Given as goal

-- what is left to follow renders the whole
abbrev pub invariant-loop-event : goal.invariant-loop-event
invariant-loop-event l =
    IsRendered l.text l.mode l.novar (render l.text l.mode l.novar l.start l.events) l.rendering
    (drop l.event-index l.events)
