use Rattle.std.proofs.Common.{◌≡◌, ◌∙◌, ap, sym, true≢false}
use Rattle.indexmap.specs.IndexSet.{keys}
use Rattle.ux_chart.specs.Search.{seen_in}
use Rattle.ux_chart.proofs.SeenLemmas.{added_many, seen_few, seen_many}
use Rattle.ux_chart.proofs.seen.add_to_many.Goals.{then-is_empty+in_ok-move_few, else-is_empty}
use Rattle.ux_chart.proofs.seen.add_to_many.Goals as goal

pub returns : goal.returns
returns g c =
    let few = c.args.few.now in
    let old = c.args.many.now.keys in
    let all : c.if-is_empty.many.keys ≡ seen_in few old = elim c.if-is_empty.branch [
      | then-is_empty+in_ok-move_few w ↦ ap keys w.many-is ∙ w.in_ok-move_few.ensures
          ∙ sym (seen_few few old (c.is_empty.ensures.0 w.if-is_empty.true))
      | else-is_empty w ↦ ap keys w.many-is
          ∙ sym (seen_many few old (λ none. true≢false (sym (c.is_empty.ensures.1 none) ∙ w.if-is_empty.false)))
    ] in
    added_many few old c.if-is_empty.many.keys c.add.new.set.keys c.args.item all
    c.in_ok-add.ensures
