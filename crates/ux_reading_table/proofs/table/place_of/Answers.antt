use Rattle.std.proofs.Common.{sym}
use Rattle.ux_reading_table.proofs.NotingLemmas.{not_there, placed_if_found}
use Rattle.ux_reading_table.proofs.table.place_of.Goals as goal

pub returns-in-Some : goal.returns-in-Some
returns-in-Some c = λ _.
    placed_if_found c.args.texts.now.keys c.args.text.now c.in-Some.index
    (sym (rw c.in-Some.is at c.get_index_of.ensures.index))

pub returns-in-None : goal.returns-in-None
returns-in-None c = λ there. absurd (not_there c.args.texts.now.keys c.args.text.now
    (sym (rw c.in-None.is at c.get_index_of.ensures.found)) there)
