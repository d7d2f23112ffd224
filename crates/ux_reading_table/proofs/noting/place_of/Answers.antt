use Rattle.ux_reading_table.proofs.NotingLemmas.{found_if_some, none_if_not_found}
use Rattle.ux_reading_table.proofs.noting.place_of.Goals as goal

pub returns-clause-some : goal.returns-clause-some
returns-clause-some c =
    found_if_some c.args.set.now.keys c.args.text c.get_index_of.result c.get_index_of.ensures.index

pub returns-clause-none : goal.returns-clause-none
returns-clause-none c =
    none_if_not_found c.args.set.now.keys c.args.text c.get_index_of.result c.get_index_of.ensures.index
