-- The table tells of each label that a state of the net has.
use Rattle.std.proofs.Common.{◌≡◌, ◌<◌, ℕ, List, Some, sym, subst, length, get_or}
use Rattle.std.specs.Prelude.{slice_get}
use Rattle.ux_base.proofs.FirstsLemmas.{Contains-from_place}
use Rattle.ux_net.specs.declared.state.Edge.{Edge}
use Rattle.ux_net.specs.declared.state.State.{State}
use Rattle.ux_net.specs.Nets.{states_of}
use Rattle.ux_mask_table.specs.declared.masked_text.MaskedText.{MaskedText}
use Rattle.ux_mask_table.specs.MaskedTexts.{AreEdgesKnown, HasTable, IsKnown}
use Rattle.ux_mask_table.proofs.KnownLabels.{edge_known as one_known, edges_known}

module _ (masked : MaskedText) where
  -- the table tells of the edges of a state
  pub state_known : HasTable masked → (g n : ℕ) (state : State) →
      slice_get (states_of masked.net.now g) n ≡ Some state → (edges : List Edge) →
      edges ≡ state.edges → AreEdgesKnown masked edges
  state_known table g n state at edges is =
      subst (λ (l : List Edge). AreEdgesKnown masked l) (sym is)
      (edges_known masked g n state table at)

  -- and so of each of them
  pub edge_known : (edges : List Edge) → AreEdgesKnown masked edges → (i : ℕ) (edge : Edge) →
      i < length edges → edge ≡ get_or edges i edge → IsKnown masked edge.label
  edge_known edges known i edge inside is = one_known masked edges edge known (i, inside, sym is)

  pub place_known : (edges : List Edge) → AreEdgesKnown masked edges → (place : ℕ) (edge : Edge) →
      slice_get edges place ≡ Some edge → IsKnown masked edge.label
  place_known edges known place edge at =
      one_known masked edges edge known (Contains-from_place edges place edge at)
