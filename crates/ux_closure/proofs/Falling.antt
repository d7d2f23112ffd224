-- A stack after a step that takes no token weighs less.
use Rattle.std.proofs.Common.{arith, ℕ, ◌<◌, List, [], ◌∷◌, inl, inr, sym, subst, Bool}
use Rattle.ux_net.specs.declared.label.Label.{Label}
use Rattle.ux_net.specs.declared.label.Label.TheVariants as label
use Rattle.ux_net.specs.declared.net_graph.NetGraph.{NetGraph}
use Rattle.ux_net.specs.Measured.{IsLower, Falls, IsMeasured}
use Rattle.ux_walk.specs.Leads.{Stack}
use Rattle.ux_walk.proofs.Weights.{weight_of}
use Rattle.ux_walk.proofs.Lighter.{ended_lighter, stays_lighter, calls_lighter}
use Rattle.ux_closure.specs.Passing.{LetsPass, PassesOn}

module _ (net : List NetGraph) (is_spaced : Bool) (measured : IsMeasured net) where
  lower_of : (g from to : ℕ) (x : Label) → Falls net g from to x → LetsPass is_spaced x →
      IsLower net g from to
  lower_of g from to label.Empty falls lets = falls
  lower_of g from to label.NoSpace falls lets = falls
  lower_of g from to (label.Begin name) falls lets = falls
  lower_of g from to (label.End name) falls lets = falls
  lower_of g from to label.Cut falls lets = falls
  lower_of g from to _ falls lets = absurd lets

  pub passes_lighter : (s t : Stack) → PassesOn net is_spaced s t →
      weight_of net 1 t < weight_of net 1 s
  passes_lighter [] t step = absurd step
  passes_lighter (f ∷ fs) t (state, found, inr (final, is)) =
      subst (λ (u : Stack). weight_of net 1 u < weight_of net 1 (f ∷ fs)) (sym is)
      (ended_lighter net f fs 1 (measured.ends f.graph f.state state found final))
  passes_lighter (f ∷ fs) t (state, found, inl (edge, inside, inl (lets, is))) =
      subst (λ (u : Stack). weight_of net 1 u < weight_of net 1 (f ∷ fs)) (sym is)
      (stays_lighter net f edge.target 1 fs (lower_of f.graph f.state edge.target edge.label
      (measured.falls f.graph f.state state edge found inside) lets))
  passes_lighter (f ∷ fs) t (state, found, inl (edge, inside, inr (h, calls, is))) =
      subst (λ (u : Stack). weight_of net 1 u < weight_of net 1 (f ∷ fs)) (sym is)
      (calls_lighter net f edge.target h 1 fs (omega arith)
      (subst (λ (x : Label). Falls net f.graph f.state edge.target x) calls
      (measured.falls f.graph f.state state edge found inside)))
