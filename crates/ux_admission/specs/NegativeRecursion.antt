-- Negative contexts whose bodies use the unit that has them: such a body would follow exactly where
-- it doesn't. The manual, on contexts. Public: the crate's public contracts speak of it.
use Rattle.std.specs.Prelude.{◌≡◌, ℕ, ◌<◌, List, Contains}
use Rattle.ux_net.specs.declared.label.Label.TheVariants.{Call}
use Rattle.ux_net.specs.Words.{Sign, negative, opens, mark_of, Step, Letter, Grammar, Run}

-- A unit is a graph, told by its number and its start, or the body of a context, told by its graph
-- and the place after its opening step.
module _ (grammar : Grammar) where
  -- a run of the unit leads to the beginning of the step
  pub record LeadsTo (g first : ℕ) (step : Step) : Type 0 where
    pub of_graph : (grammar.graph g).IsStep step
    pub word : List Letter
    pub run : Run g (grammar.graph g) first step.from word

  -- the unit uses another: it calls a graph, or opens a context
  pub data Uses (g first : ℕ) : (h next : ℕ) → Type 0 where
    called : {h : ℕ} (step : Step) → LeadsTo g first step → Contains step.labels (Call h) →
        Uses g first h (grammar.graph h).start
    opened : {sign : Sign} (step : Step) → LeadsTo g first step →
        mark_of step.labels ≡ opens sign → Uses g first g step.to

  -- the unit uses the other, in one or more turns
  pub data UsesInTurns : (g first h next : ℕ) → Type 0 where
    once : {g a h b : ℕ} → Uses g a h b → UsesInTurns g a h b
    more : {g a h b k c : ℕ} → Uses g a h b → UsesInTurns h b k c → UsesInTurns g a k c

  -- the unit has a negative context, whose body begins at this place
  pub record HasNegative (g first opening : ℕ) : Type 0 where
    pub step : Step
    pub leads : LeadsTo g first step
    pub to : step.to ≡ opening
    pub refuses : mark_of step.labels ≡ opens negative

  -- The body of a negative context of the graph uses the unit that has the context. What is used is
  -- a unit, so that one is.
  pub record IsNegativeRecursive (g : ℕ) : Type 0 where
    pub first : ℕ
    pub opening : ℕ
    pub has : HasNegative g first opening
    pub uses : UsesInTurns g opening g first

  -- the first such graph
  pub record IsFirstNegative (g : ℕ) : Type 0 where
    pub here : IsNegativeRecursive g
    pub least : (h : ℕ) → h < g → IsNegativeRecursive h → ⊥

  -- there is no such graph
  abbrev pub HasNoNegativeRecursion : Type 0
  HasNoNegativeRecursion = (g : ℕ) → IsNegativeRecursive g → ⊥
