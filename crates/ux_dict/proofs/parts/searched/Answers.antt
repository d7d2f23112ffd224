use Rattle.std.proofs.Common.{ltb, List, rules, subst, sym, ap, ◌∙◌, take}
use Rattle.std.proofs.lemmas.List.Sorted.{IsPartitionPoint-from_clause, IsPartitionedBy-ltb, IsNonDecreasingBy-drop}
use Rattle.std.specs.List.Sorted.{IsNonDecreasingBy}
use Rattle.ux_dela.specs.declared.entry.Entry.{Entry}
use Rattle.ux_dict.specs.Keys.{key_of}
use Rattle.ux_dict.specs.Parts.{next_rank}
use Rattle.ux_dict.proofs.CutLemmas.{filter_run, map-cut}
use Rattle.ux_dict.proofs.parts.searched.Goals as goal

pub returns : goal.returns
returns c rises keyed =
    let part = c.args.part.now in
    let n = next_rank part.len c.args.more.now in
    let entries = part.entries.now in
    let start = c.partition_point-start.result in
    let count = c.partition_point-count.result in
    let is = c.behind-rest.ensures in
    let first = IsPartitionPoint-from_clause (λ (e : Entry). ltb (n e) 1) entries start
    c.partition_point-start.ensures.partitioned (IsPartitionedBy-ltb n entries 1 rises)
    (λ a r q k. search rules) in
    let later = subst (λ (l : List Entry). IsNonDecreasingBy n l) (sym is)
    (IsNonDecreasingBy-drop n start entries rises) in
    let second = IsPartitionPoint-from_clause (λ (e : Entry). ltb (n e) 2) _ count
    c.partition_point-count.ensures.partitioned (IsPartitionedBy-ltb n _ 2 later)
    (λ a r q k. search rules) in
    record {
      entries = c.cut.ensures.entries ∙ ap (take count) (sym is)
          ∙ filter_run n entries _ start count is first second c.partition_point-count.ensures.bound;
      keyed = map-cut key_of entries c.cut.result.entries.now part.keys.now c.cut.result.keys.now
          start count keyed c.cut.ensures.entries c.cut.ensures.keys;
      len = c.cut.ensures.len;
    }
