use Rattle.ux_rules.specs.Drafts.{IsDraft, AreBoxesDone}
use Rattle.ux_rules.proofs.draft.draft_of.Given as goal

abbrev pub invariant-loop-node : goal.invariant-loop-node
invariant-loop-node l = record {
  draft : IsDraft l.graph l.draft;
  done : AreBoxesDone l.graph l.node l.draft;
}
