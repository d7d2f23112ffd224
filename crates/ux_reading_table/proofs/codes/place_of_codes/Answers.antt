use Rattle.ux_reading_table.specs.Noting.{spellings}
use Rattle.ux_reading_table.proofs.BareLemmas.{known_if, known_there}
use Rattle.ux_reading_table.proofs.codes.place_of_codes.Goals as goal

pub returns-in-Some-clause-codes : goal.returns-in-Some-clause-codes
returns-in-Some-clause-codes c =
    let found = known_there (spellings c.args.known.now.texts) c.args.known.now.codes.items
    c.in-Some.place c.args.text.now c.requires c.in-Some.ensures.some in
    (found.0, found.2)

pub returns-in-Some-clause-placed : goal.returns-in-Some-clause-placed
returns-in-Some-clause-placed c =
    known_if (spellings c.args.known.now.texts) c.args.known.now.codes.items
    c.in-Some.place c.args.text.now c.requires c.in-Some.ensures.some
