use Rattle.std.proofs.Common.{List, sym, subst}
use Rattle.ux_dela.specs.declared.entry.Entry.{Entry}
use Rattle.ux_dict.specs.Content.{AreDifferent}
use Rattle.ux_dict.proofs.ContentLemmas.{AreDifferent-insert}
use Rattle.ux_dict.proofs.once.different.Goals as goal

pub returns : goal.returns
returns c =
    let listed = c.args.entries.items in
    subst (λ (l : List Entry). AreDifferent listed l) (sym c.in_ok-first_ones.ensures)
    (AreDifferent-insert listed)
