-- the entries go through the table in their order
use Rattle.std.proofs.Common.{[], rules, ap, ◌∙◌, Global}
use Rattle.std.proofs.lemmas.List.{map-id}
use Rattle.std.proofs.lemmas.Iterator.{YieldsList-from_map}
use Rattle.std.proofs.lemmas.Iterator.Adapters.{YieldsList-from_vec, fact_from_collect}
use Rattle.std.proofs.lemmas.Result.{IfOk-weaker}
use Rattle.indexmap.specs.IndexSet.{insert_all}
use Rattle.ux_dela.specs.declared.entry.Entry.{Entry}
use Rattle.ux_dict.specs.Equal.{entry_eq}
use Rattle.ux_dict.proofs.entry_table.table_of.Goals as goal

pub returns : goal.returns
returns c =
    let source = YieldsList-from_vec {A = Entry} {Z = Global} {s = c.map.result.iter}
    c.args.entries.items (cc) (cc) in
    let made = fact_from_collect _ c.collect.result c.collect.ensures.ran
    (YieldsList-from_map _ (λ (e : Entry). e) source c.map.ensures.closure
    (λ x r q k. search rules)) in
    IfOk-weaker c.collect.result _ _
    (λ v given. given.0 ∙ ap (insert_all entry_eq []) (map-id c.args.entries.items)) made
