use Rattle.ux_rules.proofs.LineLemmas.{IsAtItem}
use Rattle.ux_rules.proofs.draft.push_items.Given as goal

abbrev pub invariant-loop-item : goal.invariant-loop-item
invariant-loop-item l = IsAtItem l.graph l.node l.line l.fn.draft l.draft l.place l.item-index
