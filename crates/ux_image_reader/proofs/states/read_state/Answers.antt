use Rattle.std.proofs.Common.{refl}
use Rattle.ux_image_reader.proofs.StatesLemmas.{state_passes}
use Rattle.ux_image_reader.proofs.states.read_state.Goals as goal

pub returns-clause-passed : goal.returns-clause-passed
returns-clause-passed c =
    state_passes c.args.limits c.in_ok-list.list c.in_ok-many.many c.checked_sub.result _ _
    c.read_edges.new.edges.items (c.if-not-is_list.ensures.0 refl) (c.if-not-is_alive.ensures.0 refl)
    c.checked_sub.ensures c.in_ok-read_edges.ensures.ok
