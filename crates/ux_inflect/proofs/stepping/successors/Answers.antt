use Rattle.std.proofs.Common.{◌∙◌, ℕ, ◌-◌, List, ◌++◌, ap, length, map, sym}
use Rattle.std.specs.Prelude.{Option, slice_get}
use Rattle.ux_net.specs.declared.state.Edge.{Edge}
use Rattle.ux_net.specs.declared.state.State.{State}
use Rattle.ux_inflect.specs.declared.config.Frame.{Frame}
use Rattle.ux_inflect.specs.declared.stepping.Successor.{Successor}
use Rattle.ux_inflect.specs.Places.{Place, along_edge, from_frames, from_state, place_of, returning, step_of}
use Rattle.ux_inflect.proofs.ListLemmas.{last_reversed}
use Rattle.ux_inflect.proofs.stepping.successors.Goals as goal

pub returns : goal.returns
returns c =
    let d = c.args.detail in
    let net = c.args.net.now in
    let place = place_of c.args.config.now in
    let frame = c.in-Some.frame.now in
    let state = c.in-Some-state.state.now in
    let r = last_reversed c.args.config.now.frames.items frame
    (ap (λ (l : List Frame). slice_get l (length l - 1)) (sym c.deref.ensures.value)
    ∙ sym c.in-Some.ensures.value) in
    let below = r.0 in
    let edges = c.in_ok-put_edges.ensures frame below r.1 in
    let back = c.in_ok-put_return.ensures frame below r.1 in
    edges
    ∙ (ap (λ (l : List (List ℕ × Place)). l
    ++ map (along_edge d frame.graph below place) c.as_slice.result.now)
    (back ∙ ap (λ (l : List Successor). map step_of l
    ++ returning below place state.is_final) c.new-found.ensures.items)
    ∙ (ap (λ (l : List Edge). returning below place state.is_final
    ++ map (along_edge d frame.graph below place) l) c.as_slice.ensures
    ∙ (ap (λ (o : Option State). from_state d frame.graph below place o) c.in-Some-state.ensures
    ∙ ap (λ (f : List Frame). from_frames d net place f) (sym r.1))))
