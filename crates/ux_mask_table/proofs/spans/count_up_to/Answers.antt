use Rattle.std.proofs.Common.{arith, leb, rules, ℕ}
use Rattle.std.proofs.lemmas.Bool.{leb-true, leb-false}
use Rattle.std.proofs.lemmas.List.Sorted.{IsPartitionPoint-from_clause, IsPartitionedBy-leb}
use Rattle.ux_mask_table.proofs.spans.count_up_to.Goals as goal

pub returns-clause-before : goal.returns-clause-before
returns-clause-before c = λ k low.
    let numbers = c.args.numbers.now in
    let point = IsPartitionPoint-from_clause (λ (n : ℕ). leb n c.args.number) numbers
    c.partition_point.result c.partition_point.ensures.partitioned
    (IsPartitionedBy-leb (λ (n : ℕ). n) numbers c.args.number c.requires)
    (λ a r q k. search rules) in
    leb-true _ _ (point.0 k 0 (omega arith) low)

pub returns-clause-after : goal.returns-clause-after
returns-clause-after c = λ k from inside.
    let numbers = c.args.numbers.now in
    let point = IsPartitionPoint-from_clause (λ (n : ℕ). leb n c.args.number) numbers
    c.partition_point.result c.partition_point.ensures.partitioned
    (IsPartitionedBy-leb (λ (n : ℕ). n) numbers c.args.number c.requires)
    (λ a r q k. search rules) in
    leb-false _ _ (point.1 k 0 from inside)
