use Rattle.std.proofs.Common.{◌≡◌, take}
use Rattle.ux_elag.specs.Numbers.{IsKept}
use Rattle.ux_elag.specs.Prepared.{SatisfiesAll}
use Rattle.ux_elag.proofs.keeping.keep_each.Given as goal

abbrev pub invariant-loop-index : goal.invariant-loop-index
invariant-loop-index l = record {
  same : l.rules ≡ l.fn.rules;
  kept : IsKept (SatisfiesAll (take l.index l.fn.rules)) l.fn.source.last l.fn.source.links.items
      l.kept;
}
