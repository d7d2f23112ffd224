use Rattle.ux_dict.proofs.LetterLemmas.{AreMarksOf-more, Contains-insert_old, Contains-insert_new}
use Rattle.ux_dict.proofs.measures.put_letter.Goals as goal

pub returns-clause-marks : goal.returns-clause-marks
returns-clause-marks c =
    let set = c.args.set.now in
    let more = c.insert.new.self in
    let update = c.in_ok-insert.ensures.updates in
    AreMarksOf-more set.keys more.keys c.args.c c.args.marks.now.items c.mark.new.marks.items
    (λ d. Contains-insert_old set more c.args.c d update)
    (Contains-insert_new set more c.args.c update) c.in_ok-mark.ensures c.requires

pub returns-clause-kept : goal.returns-clause-kept
returns-clause-kept c d =
    Contains-insert_old c.args.set.now c.insert.new.self c.args.c d c.in_ok-insert.ensures.updates

pub returns-clause-put : goal.returns-clause-put
returns-clause-put c =
    Contains-insert_new c.args.set.now c.insert.new.self c.args.c c.in_ok-insert.ensures.updates
