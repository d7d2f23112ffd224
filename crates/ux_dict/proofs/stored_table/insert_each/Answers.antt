-- the entries go through the table in their order
use Rattle.std.proofs.Common.{◌≡◌, ◌∙◌, [], ◌∷◌, ap, sym}
use Rattle.std.proofs.lemmas.Iterator.Adapters.{YieldsList-from_vec}
use Rattle.std.proofs.lemmas.Iterator.Consumers.{YieldsList-end}
use Rattle.std.proofs.lemmas.List.{map-id}
use Rattle.std.proofs.lemmas.List.Sums.{fold-append}
use Rattle.indexmap.specs.IndexSet.{insert_key, insert_all}
use Rattle.ux_dict.specs.Equal.{entry_eq}
use Rattle.ux_dict.proofs.stored_table.insert_each.Goals as goal

pub loop-entry-preserved : goal.loop-entry-preserved
loop-entry-preserved c =
    c.in_ok-insert.ensures.keys
    ∙ ((λ i. insert_key entry_eq (c.loop-entry.invariant i) (c.in-Some.entry))
    ∙ sym (fold-append (insert_key entry_eq) c.args.table.now.keys c.loop-entry.yielded
    (c.in-Some.entry ∷ [])))

pub returns : goal.returns
returns c =
    let listed = c.args.entries.items in
    let gives = c.into_iter-entry-iterator.ensures.into_iter_gives in
    let all =
    YieldsList-end (YieldsList-from_vec listed gives.0 (gives.1 ∙ c.args.entries.ok.0))
    c.loop-entry.yielded _ c.loop-entry.yielded_by c.next.result c.next.new.self c.in-None.is
    c.next.ensures.steps in
    let same : c.loop-entry.yielded ≡ listed = sym (map-id c.loop-entry.yielded) ∙ all.0 in
    c.loop-entry.invariant ∙ ap (insert_all entry_eq c.args.table.now.keys) same
