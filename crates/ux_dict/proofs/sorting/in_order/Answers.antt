use Rattle.std.proofs.Common.{rules, subst, sym, List}
use Rattle.std.proofs.lemmas.Result.{IfOk-weaker}
use Rattle.ux_dela.specs.declared.entry.Entry.{Entry}
use Rattle.ux_dict.specs.Content.{IsContent}
use Rattle.ux_dict.proofs.ContentLemmas.{IsContent-once}
use Rattle.ux_dict.proofs.RisingLemmas.{IsContent-rising}
use Rattle.ux_dict.proofs.sorting.in_order.Goals as goal

pub returns-then-ascend : goal.returns-then-ascend
returns-then-ascend c = IsContent-rising c.args.entries.items (search rules)

pub returns : goal.returns
returns c =
    let listed = c.args.entries.items in
    let order = c.in_ok-sort_by_form.ensures in
    IfOk-weaker c.once_by_form.result _ _
    (λ content is. subst (λ (l : List Entry). IsContent listed l) (sym is)
    (IsContent-once listed c.sort_by_form.new.entries.items order.moved order.sorted order.stable))
    c.once_by_form.ensures
