use Rattle.std.proofs.lemmas.List.Filters.{dedup_is}
use Rattle.ux_parts.specs.Order.{same_entry}
use Rattle.ux_parts.proofs.ordering.order_of.Goals as goal

pub returns : goal.returns
returns c = record {
  sorted = c.sort_unstable.new.self.items;
  permutation = c.sort_unstable.ensures.permutation;
  ascends = c.sort_unstable.ensures.sorted;
  is = dedup_is same_entry c.sort_unstable.new.self.items c.dedup.new.self.items
      c.dedup.ensures.filtered;
}
