-- Where the depth may cut off a call: nowhere, or in no negative context.
use Rattle.std.specs.Prelude.{◌≡◌, ℕ, List, [], ◌∷◌, ◌⊎◌}
use Rattle.ux_net.specs.declared.label.Label.TheVariants.{Call}
use Rattle.ux_net.specs.Words.{Step, StepGraph, Grammar}
use Rattle.ux_flatten.specs.Cuts.{IsNegativeStep}
use Rattle.ux_flatten.proofs.FlatGraphs.{Layout, Stands, Enters}

module _ (grammar : Grammar) (layout : Layout) (stop : List ℕ) (flat : StepGraph) where
  -- the copy is called by a negative step, or from a negative copy
  pub data NegativeCopy : ℕ → Type 0 where
    by_step : {c h : ℕ} {t s : Step} (e : Enters grammar layout stop flat c t h s) → flat.IsStep s →
        IsNegativeStep grammar (layout.graph c) t → NegativeCopy e.new
    by_caller : {c h : ℕ} {t s : Step} (e : Enters grammar layout stop flat c t h s) →
        flat.IsStep s →
        NegativeCopy c → NegativeCopy e.new

  -- no copy at depth 0 has a call
  abbrev pub CutsNothing : Type 0
  CutsNothing = (x c h : ℕ) (t : Step) → Stands grammar layout stop flat x c t.from →
      layout.depth c ≡ 0 → (grammar.graph (layout.graph c)).IsStep t → t.labels ≡ Call h ∷ [] → ⊥

  -- none has a call that is in a negative context
  abbrev pub CutsNoNegative : Type 0
  CutsNoNegative = (x c h : ℕ) (t : Step) → Stands grammar layout stop flat x c t.from →
      layout.depth c ≡ 0 → (grammar.graph (layout.graph c)).IsStep t → t.labels ≡ Call h ∷ [] →
      NegativeCopy c ⊎ IsNegativeStep grammar (layout.graph c) t → ⊥
