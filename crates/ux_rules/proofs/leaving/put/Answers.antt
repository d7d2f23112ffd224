use Rattle.std.proofs.Common.{◌≡◌, ◌∙◌, sym, ap, List, set, ◌++◌, ◌∷◌, [], map, get_or, ℕ}
use Rattle.std.proofs.lemmas.List.{map-set, get_or-map}
use Rattle.ux_rules.proofs.leaving.put.Goals as goal

pub returns-clause-put : goal.returns-clause-put
returns-clause-put c =
    let uses = c.args.rows.now.items in
    let same : c.index_mut.result.now.items
    ≡ get_or (map (λ row. row.items) uses) c.args.place [] =
    ap (λ row. row.items) c.index_mut.ensures.value
    ∙ sym (get_or-map (λ row. row.items) uses c.args.place c.index_mut.result.now []
    c.requires.inside) in
    map-set (λ row. row.items) uses c.args.place c.push.new.self
    ∙ ap (λ (row : List ℕ). set (map (λ row. row.items) uses) c.args.place row)
    (c.in_ok-push.ensures.items ∙ ap (λ (row : List ℕ). row ++ c.args.number ∷ []) same)
