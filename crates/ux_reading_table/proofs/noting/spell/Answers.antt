use Rattle.ux_reading_table.proofs.NotingLemmas.{adds_spelling, spelled_at}
use Rattle.ux_reading_table.proofs.noting.spell.Goals as goal

pub returns-clause-added : goal.returns-clause-added
returns-clause-added c =
    adds_spelling c.args.set.now.keys c.insert_full.new.self.keys c.args.text c.in_ok-place.is_new
    c.in_ok-place.ensures.keys c.in_ok-place.ensures.added

pub returns-clause-placed : goal.returns-clause-placed
returns-clause-placed c =
    let (one, at, same) = c.in_ok-place.ensures.stored in
    spelled_at c.insert_full.new.self.keys c.args.text one c.in_ok-place.place at same
