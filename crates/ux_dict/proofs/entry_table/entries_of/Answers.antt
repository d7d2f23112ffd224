-- the table gives its entries in their order
use Rattle.std.proofs.Common.{rules, ◌∙◌}
use Rattle.std.proofs.lemmas.List.{map-id}
use Rattle.std.proofs.lemmas.Iterator.{YieldsList-from_map, items_from_collect}
use Rattle.std.proofs.lemmas.Iterator.Consumers.{YieldsList-from_rest}
use Rattle.std.proofs.lemmas.Result.{IfOk-weaker}
use Rattle.ux_dela.specs.declared.entry.Entry.{Entry}
use Rattle.ux_dict.proofs.entry_table.entries_of.Goals as goal

pub returns : goal.returns
returns c =
    let source = YieldsList-from_rest c.args.table.keys (cc) in
    let all = YieldsList-from_map _ (λ (e : Entry). e) source c.map.ensures.closure
    (λ x r q k. search rules) in
    let made = items_from_collect c.collect.result c.collect.ensures.ran all in
    IfOk-weaker c.collect.result _ _ (λ v is. is ∙ map-id c.args.table.keys) made
