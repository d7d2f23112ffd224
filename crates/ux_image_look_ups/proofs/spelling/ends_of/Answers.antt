use Rattle.std.proofs.Common.{◌≡◌, get_or, ap, ◌∙◌}
use Rattle.ux_dawg.specs.Building.{bare}
use Rattle.ux_image_look_ups.specs.Spelling.{at_end}
use Rattle.ux_image_look_ups.proofs.SpellingLemmas.{states-more}
use Rattle.ux_image_look_ups.proofs.spelling.ends_of.Goals as goal

pub loop-state-preserved : goal.loop-state-preserved
loop-state-preserved c =
    states-more (λ s links. links ≡ at_end (get_or c.args.states.now s bare).code)
    c.loop-state.yielded c.in-Some.state c.loop-state.row c.put_links.new.row
    c.loop-state.invariant
    (c.in_ok-put_links.ensures.here ∙ c.in_ok-end_links.ensures ∙ ap at_end c.code.ensures)
    c.in_ok-put_links.ensures.others
