use Rattle.std.proofs.Common.{arith, length, sym, ◌∙◌}
use Rattle.std.proofs.lemmas.Bool.{eqb-false, ne_eqb, not-true, not_from_false}
use Rattle.ux_chart_contexts.proofs.ToldLemmas.{some_item}
use Rattle.ux_chart_contexts.proofs.contexts.derives_some.Goals as goal

pub returns : goal.returns
returns c =
    let ends = c.ends.result.now in (
      λ some.
          let item = some_item ends (eqb-false (length ends) 0
          (sym c.is_empty.ensures ∙ not-true c.is_empty.result some)) in
          let derives = (c.ends.ensures.exactly item.0).0 item.1 in
          (item.0, derives.0, derives.1),
      λ (end, events, derives).
          let at = (c.ends.ensures.exactly end).1 (events, derives) in
          not_from_false c.is_empty.result (c.is_empty.ensures
          ∙ ne_eqb (length ends) 0 (λ none. omega (arith, at.1, none))),
    )
