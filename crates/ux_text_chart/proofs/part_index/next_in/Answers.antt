use Rattle.std.proofs.Common.{arith, ltb, rules}
use Rattle.std.proofs.lemmas.List.Sorted.{IsPartitionPoint-from_clause, IsPartitionedBy-ltb}
use Rattle.ux_text_chart.proofs.PartIndexLemmas.{none_behind, number_from, number_least}
use Rattle.ux_text_chart.proofs.part_index.next_in.Goals as goal

pub returns-clause-from : goal.returns-clause-from
returns-clause-from c =
    let numbers = c.args.numbers.now in
    let point = IsPartitionPoint-from_clause (λ n. ltb n c.args.from) numbers
    c.partition_point-place.result c.partition_point-place.ensures.partitioned
    (IsPartitionedBy-ltb (λ n. n) numbers c.args.from c.requires.rises)
    (λ a r q k. search rules) in
    number_from numbers c.requires.rises c.args.from c.partition_point-place.result point
    (omega arith)

pub returns-clause-least : goal.returns-clause-least
returns-clause-least c =
    let numbers = c.args.numbers.now in
    let point = IsPartitionPoint-from_clause (λ n. ltb n c.args.from) numbers
    c.partition_point-place.result c.partition_point-place.ensures.partitioned
    (IsPartitionedBy-ltb (λ n. n) numbers c.args.from c.requires.rises)
    (λ a r q k. search rules) in
    number_least numbers c.requires.rises c.args.from c.partition_point-place.result point
    (omega arith)

pub returns-then-numbers-place-clause-least : goal.returns-then-numbers-place-clause-least
returns-then-numbers-place-clause-least c =
    let numbers = c.args.numbers.now in
    let point = IsPartitionPoint-from_clause (λ n. ltb n c.args.from) numbers
    c.partition_point-place.result c.partition_point-place.ensures.partitioned
    (IsPartitionedBy-ltb (λ n. n) numbers c.args.from c.requires.rises)
    (λ a r q k. search rules) in
    none_behind numbers c.requires.rises c.args.from c.partition_point-place.result point
    c.if-numbers-place.true
