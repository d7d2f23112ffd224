-- The words of the graph are those of the steps.
use Rattle.std.proofs.Common.{arith, ℕ, ◌<◌, List, append-nil, subst, length}
use Rattle.std.specs.Prelude.{Contains, ◌↔◌}
use Rattle.std.proofs.lemmas.List.Elements.{All-contains}
use Rattle.ux_grf.specs.declared.graph.Graph.{Graph}
use Rattle.ux_grf.specs.WellFormed.{IsWellFormed}
use Rattle.ux_rules.specs.declared.draft.Draft.{Draft}
use Rattle.ux_rules.specs.declared.step.Sign.{Sign}
use Rattle.ux_rules.specs.Drafts.{IsDraft, AreBoxesDone}
use Rattle.ux_rules.specs.Runs.{Run, stop}
use Rattle.ux_rules.specs.Words.{Leads, start, on, targets_of}
use Rattle.ux_rules.proofs.RunLemmas.{run_append}
use Rattle.ux_rules.proofs.SpotLemmas.{run_leads}

-- a target of a box is a box
pub target_inside : (graph : Graph) → IsWellFormed graph → (node target : ℕ) →
    node < length graph.boxes → Contains (targets_of graph node) target →
    target < length graph.boxes
target_inside graph formed node target inside here =
    All-contains (λ t. t < length graph.boxes) (targets_of graph node) target
    (formed.boxes node inside).inside here

-- where a path leads is a box
pub leads_inside : (graph : Graph) → IsWellFormed graph → {node : ℕ} {word : List Sign} →
    Leads graph node word → node < length graph.boxes
leads_inside graph formed start = let two = formed.two in omega (arith, two)
leads_inside graph formed (on {a = a} {b = b} leads through here) =
    target_inside graph formed a b (leads_inside graph formed leads) here

-- a word that leads to a box is spelled by a run
pub leads_run : (graph : Graph) → IsWellFormed graph → (draft : Draft) →
    AreBoxesDone graph (length graph.boxes) draft → {node : ℕ} {word : List Sign} →
    Leads graph node word → Run draft.steps.items 0 node word
leads_run graph formed draft done start = stop
leads_run graph formed draft done (on {a = a} {b = b} {signs = signs} leads through here) =
    let inside = leads_inside graph formed leads in
    run_append (leads_run graph formed draft done leads)
    (subst (λ (w : List Sign). Run draft.steps.items a b w) (append-nil signs)
    (run_append (done.crosses a inside signs through)
    (done.goes a inside through.before_end b here)))

-- the words of the graph are those that the steps spell from the start to the end
pub same_words : (graph : Graph) → IsWellFormed graph → (draft : Draft) → IsDraft graph draft →
    AreBoxesDone graph (length graph.boxes) draft → (word : List Sign) →
    Run draft.steps.items 0 1 word ↔ Leads graph 1 word
same_words graph formed draft (spot, drawn) done word = (
  λ run. run_leads graph draft.places draft.steps.items spot drawn 1
      (let two = formed.two in omega (arith, two)) (let two = formed.two in omega (arith, two))
      word run start,
  λ leads. leads_run graph formed draft done leads,
)
