use Rattle.std.proofs.Common.{List, ℕ, length, sym, subst}
use Rattle.ux_state_places.specs.declared.arrival.Arrival.{Arrival}
use Rattle.ux_state_places.specs.Arrivals.{AreStandingFor}
use Rattle.ux_state_places.specs.RawPlaces.{AreMade, IsStateAt}
use Rattle.ux_state_places.proofs.RawLemmas.{standing_made}
use Rattle.ux_state_places.proofs.raw.states_of.Goals as goal

pub returns : goal.returns
returns c =
    subst (λ (row : List ℕ). AreStandingFor c.args.arrivals.now.keys row)
    (sym c.in_ok-put_second.ensures)
    (standing_made c.args.arrivals.now.keys c.in_ok-row.row.items
    (subst (λ (xs : List Arrival). AreMade (IsStateAt xs) (length xs) c.in_ok-row.row.items)
    c.as_slice.ensures.keys c.in_ok-row.ensures))
