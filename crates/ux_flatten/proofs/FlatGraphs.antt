-- Graphs in which copies of graphs stand in place of calls, to a depth, by what each edge is.
use Rattle.std.specs.Prelude.{◌≡◌, ℕ, suc, List, [], ◌∷◌}
use Rattle.ux_net.specs.declared.label.Label.{Label}
use Rattle.ux_net.specs.declared.label.Label.TheVariants.{Empty, CaseExact, Call}
use Rattle.ux_net.specs.Words.{Sign, Letter, Step, StepGraph, Grammar, Run, IsWord, mark_of, opens, closes}

-- the label isn't a call
abbrev pub IsUncalled : Label → Type 0
IsUncalled (Call h) = ⊥
IsUncalled other = Unit {0}

-- Which layout there are: in which copy a place of the flat graph stands, which place it layout; and
-- of a copy its graph and depth, the copy that calls it and the place to which that call leads.
pub record Layout : Type 0 where
  pub copy : ℕ → ℕ
  pub state : ℕ → ℕ
  pub graph : ℕ → ℕ
  pub depth : ℕ → ℕ
  pub caller : ℕ → ℕ
  pub target : ℕ → ℕ
  pub root : ℕ

-- every step has one label
abbrev pub HasLabels : Grammar → Type 0
HasLabels grammar = (g : ℕ) (s : Step) → (grammar.graph g).IsStep s →
    (label : Label) × (s.labels ≡ label ∷ [])

-- No run from the place after an opening step comes to an end, and none from a graph's start to a
-- closing step.
pub record ClosesContexts (grammar : Grammar) : Type 0 where
  pub no_end : (g : ℕ) (sign : Sign) (s : Step) (last : ℕ) (word : List Letter) →
      (grammar.graph g).IsStep s → mark_of s.labels ≡ opens sign →
      Run g (grammar.graph g) s.to last word → (grammar.graph g).IsEnd last → ⊥
  pub no_closing : (g : ℕ) (s : Step) (word : List Letter) →
      (grammar.graph g).IsStep s → mark_of s.labels ≡ closes →
      Run g (grammar.graph g) (grammar.graph g).start s.from word → ⊥

module _ (grammar : Grammar) (layout : Layout) (stop : List ℕ) (flat : StepGraph) where
  -- the graph that a copy layout
  abbrev pub graph_of : ℕ → StepGraph
  graph_of c = grammar.graph (layout.graph c)

  -- x stands for place a of copy c
  pub record Stands (x c a : ℕ) : Type 0 where
    pub is : flat.IsPlace x
    pub copy : layout.copy x ≡ c
    pub state : layout.state x ≡ a

  -- an edge that is no call: the same edge in the copy
  pub record IsOwn (c : ℕ) (t s : Step) : Type 0 where
    pub inside : (graph_of c).IsStep t
    pub label : Label
    pub labels : t.labels ≡ label ∷ []
    pub uncalled : IsUncalled label
    pub same_labels : s.labels ≡ t.labels
    pub same_output : s.output ≡ t.output
    pub from : Stands s.from c t.from
    pub to : Stands s.to c t.to

  -- an edge into a new copy, in place of a call
  pub record Enters (c : ℕ) (t : Step) (h : ℕ) (s : Step) : Type 0 where
    pub inside : (graph_of c).IsStep t
    pub labels : t.labels ≡ Call h ∷ []
    pub word : List Letter
    pub has : IsWord h (grammar.graph h) word
    pub empty : s.labels ≡ Empty ∷ []
    pub same_output : s.output ≡ t.output
    pub new : ℕ
    pub inner : new ≡ layout.root → ⊥
    pub graph : layout.graph new ≡ h
    pub depth : layout.depth c ≡ suc (layout.depth new)
    pub caller : layout.caller new ≡ c
    pub target : layout.target new ≡ t.to
    pub from : Stands s.from c t.from
    pub to : Stands s.to new (graph_of new).start

  -- an edge from a final state of a copy back to its caller
  pub record Leaves (c a : ℕ) (s : Step) : Type 0 where
    pub inner : c ≡ layout.root → ⊥
    pub ends : (graph_of c).IsEnd a
    pub empty : s.labels ≡ Empty ∷ []
    pub no_output : s.output ≡ []
    pub from : Stands s.from c a
    pub to : Stands s.to (layout.caller c) (layout.target c)

  -- a call that isn't expanded: at depth 0, or of a graph without a word
  pub record Stops (c : ℕ) (t : Step) (h : ℕ) (s : Step) : Type 0 where
    pub inside : (graph_of c).IsStep t
    pub labels : t.labels ≡ Call h ∷ []
    pub stopped : s.labels ≡ CaseExact stop ∷ []
    pub same_output : s.output ≡ t.output
    pub cut : (d : ℕ) → layout.depth c ≡ suc d → (word : List Letter) →
        IsWord h (grammar.graph h) word → ⊥
    pub from : Stands s.from c t.from
    pub to : Stands s.to c t.to

  pub data IsCopied (s : Step) : Type 0 where
    own : (c : ℕ) (t : Step) → IsOwn c t s → IsCopied s
    enters : (c : ℕ) (t : Step) (h : ℕ) → Enters c t h s → IsCopied s
    leaves : (c a : ℕ) → Leaves c a s → IsCopied s
    stops : (c : ℕ) (t : Step) (h : ℕ) → Stops c t h s → IsCopied s

  -- in place of a call
  pub data Replaces (c : ℕ) (t : Step) (h : ℕ) (s : Step) : Type 0 where
    expanded : Enters c t h s → Replaces c t h s
    cut : Stops c t h s → Replaces c t h s

  -- the flat graph of a graph, called main, to a depth
  pub record IsFlat (main depth : ℕ) : Type 0 where
    pub start : Stands flat.start layout.root (grammar.graph main).start
    pub of_main : layout.graph layout.root ≡ main
    pub at_depth : layout.depth layout.root ≡ depth
    pub ends : (x : ℕ) → flat.IsEnd x →
        (a : ℕ) × Stands x layout.root a × (grammar.graph main).IsEnd a
    pub final : (x a : ℕ) → Stands x layout.root a → (grammar.graph main).IsEnd a → flat.IsEnd x
    pub steps : (s : Step) → flat.IsStep s → IsCopied s
    pub own_edge : (x c : ℕ) (t : Step) (label : Label) → Stands x c t.from →
        (graph_of c).IsStep t →
        t.labels ≡ label ∷ [] → IsUncalled label →
        (s : Step) × flat.IsStep s × (s.from ≡ x) × IsOwn c t s
    pub call_edge : (x c : ℕ) (t : Step) (h : ℕ) → Stands x c t.from → (graph_of c).IsStep t →
        t.labels ≡ Call h ∷ [] →
        (s : Step) × flat.IsStep s × (s.from ≡ x) × Replaces c t h s
    pub end_edge : (x c a : ℕ) → Stands x c a → (graph_of c).IsEnd a → (c ≡ layout.root → ⊥) →
        (s : Step) × flat.IsStep s × (s.from ≡ x) × Leaves c a s
    pub apart : (x y c a : ℕ) → Stands x c a → Stands y c a → x ≡ y
