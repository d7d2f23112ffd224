use Rattle.std.proofs.Common.{◌≡◌, ◌∙◌, sym, ap, List, set, ◌++◌, ◌∷◌, [], map, get_or}
use Rattle.std.proofs.lemmas.List.{map-set, get_or-map}
use Rattle.ux_subsets.proofs.RowsLemmas.{put_iff}
use Rattle.ux_subsets.proofs.rows.put.Goals as goal

pub returns-clause-put : goal.returns-clause-put
returns-clause-put g c =
    let rows = c.args.rows.now.items in
    let same : c.index_mut.result.now.items ≡ get_or (map (λ row. row.items) rows) c.args.place [] =
    ap (λ row. row.items) c.index_mut.ensures.value
    ∙ sym (get_or-map (λ row. row.items) rows c.args.place c.index_mut.result.now [] c.requires) in
    put_iff rows c.args.place c.args.item c.requires _
    (map-set (λ row. row.items) rows c.args.place c.push.new.self
    ∙ ap (λ (row : List _). set (map (λ row. row.items) rows) c.args.place row)
    (c.in_ok-push.ensures.items ∙ ap (λ (row : List _). row ++ c.args.item ∷ []) same))
