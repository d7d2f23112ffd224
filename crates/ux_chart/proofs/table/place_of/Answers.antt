use Rattle.std.proofs.Common.{arith, ltb, rules}
use Rattle.std.proofs.lemmas.Bool.{ltb-true, ltb-false}
use Rattle.std.proofs.lemmas.List.Sorted.{IsPartitionPoint-from_clause, IsPartitionedBy-ltb}
use Rattle.ux_chart.specs.declared.table.Answer.{Answer}
use Rattle.ux_chart.proofs.Rising.{never_falls}
use Rattle.ux_chart.proofs.table.place_of.Goals as goal

pub returns-clause-before : goal.returns-clause-before
returns-clause-before c = λ k d low.
    let answers = c.args.answers.now in
    let point = IsPartitionPoint-from_clause (λ (x : Answer). ltb x.part c.args.part) answers
    c.partition_point.result c.partition_point.ensures.partitioned
    (IsPartitionedBy-ltb (λ (x : Answer). x.part) answers c.args.part
    (never_falls answers c.requires)) (λ a r q k. search rules) in
    ltb-true _ _ (point.0 k d (omega arith) low)

pub returns-clause-after : goal.returns-clause-after
returns-clause-after c = λ k d from inside.
    let answers = c.args.answers.now in
    let point = IsPartitionPoint-from_clause (λ (x : Answer). ltb x.part c.args.part) answers
    c.partition_point.result c.partition_point.ensures.partitioned
    (IsPartitionedBy-ltb (λ (x : Answer). x.part) answers c.args.part
    (never_falls answers c.requires)) (λ a r q k. search rules) in
    ltb-false _ _ (point.1 k d from inside)
