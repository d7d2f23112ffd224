-- the entries are kept in their order
use Rattle.std.proofs.Common.{◌∙◌, [], ◌∷◌, ◌++◌, ap, append_assoc, sym}
use Rattle.std.proofs.lemmas.Iterator.Adapters.{YieldsList-from_vec}
use Rattle.std.proofs.lemmas.Iterator.Consumers.{YieldsList-end}
use Rattle.std.proofs.lemmas.List.{map-id}
use Rattle.ux_dict.proofs.stored_table.put_all.Goals as goal

pub loop-entry-preserved : goal.loop-entry-preserved
loop-entry-preserved c =
    c.in_ok-push.ensures.items
    ∙ (λ i. c.loop-entry.invariant i ++ c.in_ok-of.ensures i ∷ [])
    ∙ append_assoc c.args.kept.now.items c.loop-entry.yielded (c.in-Some.entry ∷ [])

pub returns : goal.returns
returns c =
    let listed = c.args.entries.items in
    let gives = c.into_iter-entry-iterator.ensures.into_iter_gives in
    let all =
    YieldsList-end (YieldsList-from_vec listed gives.0 (gives.1 ∙ c.args.entries.ok.0))
    c.loop-entry.yielded _ c.loop-entry.yielded_by c.next.result c.next.new.self c.in-None.is
    c.next.ensures.steps in
    c.loop-entry.invariant
    ∙ ap (λ l. c.args.kept.now.items ++ l) (sym (map-id c.loop-entry.yielded) ∙ all.0)
