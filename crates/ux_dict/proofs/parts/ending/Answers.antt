use Rattle.std.proofs.Common.{rules, sym}
use Rattle.std.proofs.lemmas.List.Sorted.{IsPartitionPoint-from_clause}
use Rattle.ux_dict.specs.Parts.{ends_by}
use Rattle.ux_dict.proofs.CutLemmas.{filter_front}
use Rattle.ux_dict.proofs.parts.ending.Goals as goal

pub returns : goal.returns
returns c parted =
    let point = IsPartitionPoint-from_clause (ends_by c.args.len) c.args.entries.now
    c.partition_point-end.result c.partition_point-end.ensures.partitioned parted
    (λ a r q k. search rules) in
    sym (filter_front (ends_by c.args.len) c.args.entries.now c.partition_point-end.result point.0
    point.1)
