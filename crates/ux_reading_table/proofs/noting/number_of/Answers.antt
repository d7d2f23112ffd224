use Rattle.ux_reading_table.proofs.NotingLemmas.{different_texts, inserted, stored_at}
use Rattle.ux_reading_table.proofs.noting.number_of.Goals as goal

pub returns-clause-number : goal.returns-clause-number
returns-clause-number c =
    let (one, at, same) = c.in_ok-number.ensures.stored in
    stored_at c.insert_full.new.self.keys c.args.text one c.in_ok-number.number at same

pub returns-clause-kept : goal.returns-clause-kept
returns-clause-kept c = (inserted c.args.texts.now.keys c.insert_full.new.self.keys c.args.text
    c.in_ok-number.ensures.keys).1

pub returns-clause-added : goal.returns-clause-added
returns-clause-added c = (inserted c.args.texts.now.keys c.insert_full.new.self.keys c.args.text
    c.in_ok-number.ensures.keys).0

pub returns-clause-different : goal.returns-clause-different
returns-clause-different c =
    different_texts c.insert_full.new.self.keys c.in_ok-number.ensures.unique
