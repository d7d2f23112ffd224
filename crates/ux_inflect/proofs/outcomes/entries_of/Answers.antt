use Rattle.std.proofs.Common.{List, subst}
use Rattle.ux_inflect.specs.declared.outcomes.Line.{Line}
use Rattle.ux_inflect.specs.Outcomes.{AreEntriesFor}
use Rattle.ux_inflect.proofs.ListedLemmas.{are_listed}
use Rattle.ux_inflect.proofs.outcomes.entries_of.Goals as goal

pub returns : goal.returns
returns c =
    let stem = c.args.stem.now in
    let sorted = c.in_ok-sorted.sorted.items in
    let entries = c.in_ok-entries.entries.items in
    are_listed stem c.args.configs.now c.in_ok-lines.lines.keys sorted entries c.in_ok-lines.ensures
    c.in_ok-sorted.ensures.same c.in_ok-sorted.ensures.in_order
    (subst (λ (lines : List Line). AreEntriesFor stem lines entries) c.as_slice.ensures.value
    c.in_ok-entries.ensures)
