-- Which grammars have a finite meaning: no loop takes nothing, and no unit begins with itself. The
-- manual, on graphs and on contexts. Public: the crate's public contracts speak of it.
use Rattle.std.specs.Prelude.{◌≡◌, ℕ, ◌⊎◌, List, ◌∷◌, ◌++◌}
use Rattle.ux_net.specs.declared.label.Label.{Label}
use Rattle.ux_net.specs.declared.label.Label.TheVariants.{Call}
use Rattle.ux_net.specs.Nullable.{IsFree}
use Rattle.ux_net.specs.Words.{Sign, Step, Grammar, Letter, opens, mark_of, letters, Run}
use Rattle.ux_net.specs.Closers.{ClosesInto, OpensInto}

module _ (grammar : Grammar) where
  -- a run of a graph that may take nothing leads from a place to a place
  abbrev pub LeadsFreely : (g a b : ℕ) → Type 0
  LeadsFreely g a b = (word : List Letter) × Run g (grammar.graph g) a b word × IsFree grammar word

  -- one step that may take nothing, or one whole context, leads from a place to a place
  pub data MovesFreely (g : ℕ) : ℕ → ℕ → Type 0 where
    along_step : (s : Step) → (grammar.graph g).IsStep s → IsFree grammar (letters s.labels) →
        MovesFreely g s.from s.to
    over_context : {closing : ℕ} (sign : Sign) (s : Step) → (grammar.graph g).IsStep s →
        mark_of s.labels ≡ opens sign → ClosesInto grammar g s.to closing →
        MovesFreely g s.from closing

  -- A node on such a move: the place from which it leads, and of a context also the place into
  -- which it opens. The other places of the context's body aren't on it.
  pub data IsOnMove (g : ℕ) : (node from to : ℕ) → Type 0 where
    in_front : {from to : ℕ} → MovesFreely g from to → IsOnMove g from from to
    at_opening : {closing : ℕ} (sign : Sign) (s : Step) → (grammar.graph g).IsStep s →
        mark_of s.labels ≡ opens sign → ClosesInto grammar g s.to closing →
        IsOnMove g s.to s.from closing

  -- A unit is a graph, told by its number and its start, or the body of a context, told by its graph
  -- and the place after its opening step.
  abbrev pub IsUnit : (g first : ℕ) → Type 0
  IsUnit g first =
      (first ≡ (grammar.graph g).start) ⊎ ((sign : Sign) × OpensInto grammar g sign first)

  -- a run from the first place of some unit of the graph leads to the place
  pub record IsMet (g place : ℕ) : Type 0 where
    pub first : ℕ
    pub unit : IsUnit g first
    pub word : List Letter
    pub run : Run g (grammar.graph g) first place word

  -- a step of graph g enters a unit: it calls a graph before it takes a token, or opens a context
  pub data EntersAt (g : ℕ) (step : Step) : (h first : ℕ) → Type 0 where
    by_call : {h : ℕ} (front back : List Label) → step.labels ≡ front ++ Call h ∷ back →
        IsFree grammar (letters front) → EntersAt g step h (grammar.graph h).start
    by_opening : (sign : Sign) → mark_of step.labels ≡ opens sign → EntersAt g step g step.to

  -- The unit (g, u) enters (h, v) at a step to this node: before it takes a token.
  pub record Enters (g u h v node : ℕ) : Type 0 where
    pub step : Step
    pub of_graph : (grammar.graph g).IsStep step
    pub to_node : step.to ≡ node
    pub leads : LeadsFreely g u step.from
    pub enters : EntersAt g step h v

  -- the unit (g, u) enters the other, in one or more turns
  pub data EntersInTurns : (g u h v : ℕ) → Type 0 where
    once : {g u h v node : ℕ} → Enters g u h v node → EntersInTurns g u h v
    more : {g u h v k w node : ℕ} → Enters g u h v node → EntersInTurns h v k w →
        EntersInTurns g u k w

  -- A loop that takes nothing has the node on it: the node is on a move, and a run that may take
  -- nothing leads from the move's end to its beginning. A run from the first place of some unit of
  -- the graph reaches that beginning.
  pub record IsOnEmptyLoop (g node : ℕ) : Type 0 where
    pub from : ℕ
    pub next : ℕ
    pub moves : IsOnMove g node from next
    pub back : LeadsFreely g next from
    pub first : ℕ
    pub unit : IsUnit g first
    pub word : List Letter
    pub reached : Run g (grammar.graph g) first from word

  -- at a step to this node some unit of the graph enters one that is, or enters, the unit itself
  pub record IsLeftRecursive (g node : ℕ) : Type 0 where
    pub first : ℕ
    pub unit : IsUnit g first
    pub entered_graph : ℕ
    pub entered_first : ℕ
    pub enters : Enters g first entered_graph entered_first node
    pub returns : ((entered_graph ≡ g) × (entered_first ≡ first))
        ⊎ EntersInTurns entered_graph entered_first g first

  -- no loop takes nothing, and no unit enters itself
  pub record IsAdmissible : Type 0 where
    pub no_empty_loop : (g node : ℕ) → IsOnEmptyLoop g node → ⊥
    pub no_left_recursion : (g node : ℕ) → IsLeftRecursive g node → ⊥
