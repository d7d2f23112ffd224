use Rattle.std.proofs.Common.{List, [], ◌∷◌, ◌++◌, ◌≡◌, ◌∙◌, append_assoc, ap, subst, sym}
use Rattle.std.proofs.lemmas.Iterator.Adapters.{YieldsList-from_vec}
use Rattle.std.proofs.lemmas.Iterator.Consumers.{YieldsList-end}
use Rattle.std.proofs.lemmas.List.{append-nil, map-id}
use Rattle.indexmap.specs.IndexSet.{insert_all}
use Rattle.ux_dela.specs.declared.entry.Entry.{Entry}
use Rattle.ux_dict.specs.Equal.{entry_eq}
use Rattle.ux_dict.proofs.RunOnceLemmas.{IsOnceTo, once_on, once_start, once_whole}
use Rattle.ux_dict.proofs.sorting.once_by_form.Goals as goal

pub loop-entry-init : goal.loop-entry-init
loop-entry-init c = λ rest whole.
    subst (λ (o : List Entry). IsOnceTo [] o c.new-run.result.items) (sym c.in_ok-once.ensures.items)
    (subst (λ (r : List Entry). IsOnceTo [] [] r) (sym c.new-run.ensures.items) once_start)

pub loop-entry-preserved : goal.loop-entry-preserved
loop-entry-preserved c = λ rest whole.
    let done = c.loop-entry.yielded in
    let entry = c.in-Some.entry in
    let here : c.args.sorted.items ≡ done ++ entry ∷ rest =
    whole ∙ append_assoc done (entry ∷ []) rest in
    once_on c.args.sorted.items c.requires done c.loop-entry.once.items c.loop-entry.run.items rest
    entry c.go_on.new.run.items c.go_on.new.once.items here
    (c.loop-entry.invariant (entry ∷ rest) here) c.in_ok-go_on.ensures

pub returns : goal.returns
returns c =
    let listed = c.args.sorted.items in
    let gives = c.into_iter-entry-iterator.ensures.into_iter_gives in
    let all =
    YieldsList-end (YieldsList-from_vec listed gives.0 (gives.1 ∙ c.args.sorted.ok.0))
    c.loop-entry.yielded _ c.loop-entry.yielded_by c.next.result c.next.new.self c.in-None.is
    c.next.ensures.steps in
    let same : c.loop-entry.yielded ≡ listed = sym (map-id c.loop-entry.yielded) ∙ all.0 in
    let so_far = c.loop-entry.invariant [] (sym same ∙ sym (append-nil c.loop-entry.yielded)) in
    once_whole c.loop-entry.yielded c.loop-entry.once.items c.loop-entry.run.items
    c.put_run.new.once.items so_far c.in_ok-put_run.ensures.put
    ∙ ap (insert_all entry_eq []) same
