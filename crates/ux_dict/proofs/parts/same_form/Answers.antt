use Rattle.std.proofs.Common.{ltb, List, ℕ, rules, subst, sym, ◌∙◌}
use Rattle.std.proofs.lemmas.List.{take_rest}
use Rattle.std.proofs.lemmas.List.Sorted.{IsPartitionPoint-from_clause, IsPartitionedBy-ltb, IsNonDecreasingBy-drop}
use Rattle.std.specs.Cmp.Lexicographic.{slice_cmp}
use Rattle.std.specs.List.Sorted.{IsNonDecreasingBy}
use Rattle.std.specs.Ordering.{nat_cmp, ordering_index}
use Rattle.ux_dela.specs.declared.entry.Entry.{Entry}
use Rattle.ux_dict.proofs.CutLemmas.{filter_run}
use Rattle.ux_dict.proofs.TextOrder.{place_rises, filter-place}
use Rattle.ux_dict.proofs.parts.same_form.Goals as goal

pub returns : goal.returns
returns c ordered =
    let n : Entry → ℕ = λ e. ordering_index (slice_cmp nat_cmp e.form c.args.form.now) in
    let entries = c.args.entries.now in
    let start = c.partition_point-start.result in
    let is = take_rest entries start in
    let rises = place_rises c.args.form.now entries ordered in
    let first = IsPartitionPoint-from_clause (λ (e : Entry). ltb (n e) 1) entries start
    c.partition_point-start.ensures.partitioned (IsPartitionedBy-ltb n entries 1 rises)
    (λ a r q k. search rules) in
    let later = subst (λ (l : List Entry). IsNonDecreasingBy n l) (sym is)
    (IsNonDecreasingBy-drop n start entries rises) in
    let second = IsPartitionPoint-from_clause (λ (e : Entry). ltb (n e) 2) _
    c.partition_point-end.result c.partition_point-end.ensures.partitioned
    (IsPartitionedBy-ltb n _ 2 later) (λ a r q k. search rules) in
    filter_run n entries _ start c.partition_point-end.result is first second
    c.partition_point-end.ensures.bound ∙ filter-place c.args.form.now entries
