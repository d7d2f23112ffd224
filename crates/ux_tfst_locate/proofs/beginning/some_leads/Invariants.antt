use Rattle.std.proofs.Common.{ℕ, ◌<◌, ◌≡◌}
use Rattle.std.specs.Prelude.{Some, slice_get}
use Rattle.ux_net.specs.declared.state.Edge.{Edge}
use Rattle.ux_tfst_locate.specs.Bases.{input_of}
use Rattle.ux_text_chart.specs.Likely.{MayLeadTo}
use Rattle.ux_tfst_locate.proofs.beginning.some_leads.Given as goal

-- none of the edges so far leads on
abbrev pub invariant-loop-edge : goal.invariant-loop-edge
invariant-loop-edge l = (n : ℕ) (edge : Edge) → n < l.edge-index →
    slice_get l.edges n ≡ Some edge → MayLeadTo (input_of l.basis) l.parts l.row edge.label l.at → ⊥
