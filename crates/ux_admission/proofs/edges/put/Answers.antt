use Rattle.std.proofs.Common.{◌≡◌, ◌∙◌, List, ℕ, [], ◌∷◌, ◌++◌, ap, set}
use Rattle.std.proofs.lemmas.List.{set-set, get_or_default}
use Rattle.ux_digraph.specs.Paths.{row_of}
use Rattle.ux_admission.proofs.edges.put.Goals as goal

pub returns-clause-put : goal.returns-clause-put
returns-clause-put c =
    let row : c.new-3.result ≡ row_of c.args.rows.now.items c.args.u ++ c.args.v ∷ [] =
    c.new-3.ensures ∙ (c.in_ok-push.ensures.items ∙ ap (λ (row : List ℕ). row ++ c.args.v ∷ [])
    (c.into_vec-row.ensures ∙ (c.replace.ensures.value ∙ (c.index_mut.ensures.value
    ∙ get_or_default c.args.rows.now.items c.args.u c.index_mut.result.now []
    c.requires.inside)))) in
    set-set c.args.rows.now.items c.args.u c.replace.new.dest c.new-3.result
    ∙ ap (λ (row : List ℕ). set c.args.rows.now.items c.args.u row) row
