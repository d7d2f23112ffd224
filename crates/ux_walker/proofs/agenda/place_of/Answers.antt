use Rattle.std.proofs.Common.{rules, ltb}
use Rattle.std.proofs.lemmas.List.Sorted.{IsPartitionPoint-from_clause}
use Rattle.ux_walker.specs.declared.agenda.Visit.{Visit}
use Rattle.ux_walker.proofs.AgendaLemmas.{partitioned, in_front, in_rest}
use Rattle.ux_walker.proofs.agenda.place_of.Goals as goal

pub returns : goal.returns
returns c =
    let visits = c.args.visits.now in
    let place = c.partition_point.result in
    let point = IsPartitionPoint-from_clause (λ (visit : Visit). ltb c.args.at visit.at) visits
    place c.partition_point.ensures.partitioned (partitioned visits c.args.at c.requires)
    (λ a r q k. search rules) in
    record {
      within = c.partition_point.ensures.bound;
      after = in_front visits place c.args.at point.0 c.partition_point.ensures.bound;
      rest = in_rest visits place c.args.at point.1;
    }
