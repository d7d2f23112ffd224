use Rattle.std.proofs.Common.{arith}
use Rattle.ux_reading_table.specs.Noting.{spellings}
use Rattle.ux_reading_table.proofs.TableLemmas.{number_of_printed, number_of_spelled, numbered_at}
use Rattle.ux_reading_table.proofs.table.ReadingTable.number_of.Goals as goal

pub index-requires : goal.index-requires
index-requires c =
    let at = numbered_at c.self.inside.texts.keys (spellings c.self.inside.spelled)
    c.self.inside.numbers.items c.in-Some.index c.args.text.now 0 c.self.invariant.0.numbered
    c.in-Some.ensures in
    omega (arith, at.0, c.self.inside.numbers.ok.0)

pub returns-in-Some : goal.returns-in-Some
returns-in-Some c =
    number_of_spelled c.self.inside.texts.keys c.args.self.now (spellings c.self.inside.spelled)
    c.self.inside.numbers.items c.in-Some.index c.args.text.now c.index.result.now c.self.view_is
    c.self.invariant.0.numbered c.in-Some.ensures c.index.ensures

pub returns : goal.returns
returns c =
    number_of_printed c.self.inside.texts.keys c.args.self.now c.args.text.now
    c.in-Some-2.printed c.place_of.result c.self.view_is
    (rw c.in-Some-2.is at c.in_ok-printed.ensures) c.place_of.ensures
