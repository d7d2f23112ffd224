use Rattle.std.proofs.Common.{◌*◌, ◌+◌, ◌∙◌, ap, get_or, ltb, refl, rules}
use Rattle.std.proofs.lemmas.List.Sorted.{IsPartitionPoint-from_clause, IsPartitionedBy-ltb}
use Rattle.ux_text_chart.specs.PartIndexes.{begins_at, order_of}
use Rattle.ux_text_chart.specs.declared.part_index.Beginning.{Beginning}
use Rattle.ux_text_chart.proofs.PartIndexLemmas.{from_of, least_of, next_from, next_least, none_past}
use Rattle.ux_text_chart.proofs.part_index.next_at.Goals as goal

pub returns-then-beginnings-place-clause-least : goal.returns-then-beginnings-place-clause-least
returns-then-beginnings-place-clause-least c =
    let beginnings = c.args.beginnings.now in
    let first = c.order-first.result in
    let place = c.partition_point-place.result in
    let first_is = c.order-first.ensures
    ∙ ap (λ n. c.args.token * 4294967296 + n) c.in-Ok.ensures.1 in
    let point = IsPartitionPoint-from_clause (λ (b : Beginning). ltb (order_of b) first)
    beginnings place c.partition_point-place.ensures.partitioned
    (IsPartitionedBy-ltb order_of beginnings first c.requires.ordered)
    (λ a r q k. search rules) in
    λ part le low inside. none_past beginnings c.requires.ordered c.args.token c.args.from first
    place first_is point c.if-beginnings-place.true part le inside

pub returns-clause-from : goal.returns-clause-from
returns-clause-from c =
    let beginnings = c.args.beginnings.now in
    let first = c.order-first.result in
    let place = c.partition_point-place.result in
    let first_is = c.order-first.ensures
    ∙ ap (λ n. c.args.token * 4294967296 + n) c.in-Ok.ensures.1 in
    let point = IsPartitionPoint-from_clause (λ (b : Beginning). ltb (order_of b) first)
    beginnings place c.partition_point-place.ensures.partitioned
    (IsPartitionedBy-ltb order_of beginnings first c.requires.ordered)
    (λ a r q k. search rules) in
    let none = begins_at 0 0 in
    let found = get_or beginnings place none in
    from_of c.part_at.result found c.args.token c.args.from c.part_at.ensures.some
    (next_from beginnings c.requires.ordered c.args.token c.args.from first place first_is point
    c.if-beginnings-place.false found none refl)

pub returns-clause-least : goal.returns-clause-least
returns-clause-least c =
    let beginnings = c.args.beginnings.now in
    let first = c.order-first.result in
    let place = c.partition_point-place.result in
    let first_is = c.order-first.ensures
    ∙ ap (λ n. c.args.token * 4294967296 + n) c.in-Ok.ensures.1 in
    let point = IsPartitionPoint-from_clause (λ (b : Beginning). ltb (order_of b) first)
    beginnings place c.partition_point-place.ensures.partitioned
    (IsPartitionedBy-ltb order_of beginnings first c.requires.ordered)
    (λ a r q k. search rules) in
    let none = begins_at 0 0 in
    let found = get_or beginnings place none in
    λ part le low inside. least_of c.part_at.result found c.args.token part
    c.part_at.ensures.some c.part_at.ensures.none
    (next_least beginnings c.requires.ordered c.args.token c.args.from first place first_is point
    c.if-beginnings-place.false found none refl c.part_at.ensures.small part le low inside)
