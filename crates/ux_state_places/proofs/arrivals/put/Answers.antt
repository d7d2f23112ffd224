use Rattle.std.proofs.Common.{◌≡◌, ◌∙◌, List, [], ◌∷◌, ◌++◌, ap, set}
use Rattle.std.proofs.lemmas.List.{set-set, get_or_default}
use Rattle.ux_state_places.specs.declared.arrival.Kind.{Kind}
use Rattle.ux_state_places.specs.Arriving.{kinds_at}
use Rattle.ux_state_places.proofs.arrivals.put.Goals as goal

pub returns-clause-put : goal.returns-clause-put
returns-clause-put c =
    let row : c.new-3.result ≡ kinds_at c.args.rows.now.items c.args.state ++ c.args.kind ∷ [] =
    c.new-3.ensures ∙ (c.in_ok-push.ensures.items ∙ ap (λ (row : List Kind). row ++ c.args.kind ∷ [])
    (c.into_vec-row.ensures ∙ (c.replace.ensures.value ∙ (c.index_mut.ensures.value
    ∙ get_or_default c.args.rows.now.items c.args.state c.index_mut.result.now []
    c.requires.inside)))) in
    set-set c.args.rows.now.items c.args.state c.replace.new.dest c.new-3.result
    ∙ ap (λ (row : List Kind). set c.args.rows.now.items c.args.state row) row
