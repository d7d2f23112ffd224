use Rattle.std.proofs.Common.{arith, ltb, rules, ℕ}
use Rattle.std.proofs.lemmas.Bool.{ltb-true, ltb-false}
use Rattle.std.proofs.lemmas.List.Sorted.{IsPartitionPoint-from_clause, IsPartitionedBy-ltb}
use Rattle.ux_mask_table.proofs.spans.count_below.Goals as goal

pub returns-clause-before : goal.returns-clause-before
returns-clause-before c = λ k low.
    let numbers = c.args.numbers.now in
    let point = IsPartitionPoint-from_clause (λ (n : ℕ). ltb n c.args.number) numbers
    c.partition_point.result c.partition_point.ensures.partitioned
    (IsPartitionedBy-ltb (λ (n : ℕ). n) numbers c.args.number c.requires)
    (λ a r q k. search rules) in
    ltb-true _ _ (point.0 k 0 (omega arith) low)

pub returns-clause-after : goal.returns-clause-after
returns-clause-after c = λ k from inside.
    let numbers = c.args.numbers.now in
    let point = IsPartitionPoint-from_clause (λ (n : ℕ). ltb n c.args.number) numbers
    c.partition_point.result c.partition_point.ensures.partitioned
    (IsPartitionedBy-ltb (λ (n : ℕ). n) numbers c.args.number c.requires)
    (λ a r q k. search rules) in
    ltb-false _ _ (point.1 k 0 from inside)
