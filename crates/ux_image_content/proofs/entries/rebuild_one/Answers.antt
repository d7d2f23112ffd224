use Rattle.std.proofs.lemmas.Option.{MatchOption-at_none}
use Rattle.ux_dela.specs.declared.entry.Entry.{Entry}
use Rattle.ux_image.specs.Codes.{Rebuilds}
use Rattle.ux_image_content.proofs.EntryLemmas.{printed_makes}
use Rattle.ux_image_content.proofs.entries.rebuild_one.Goals as goal

-- printed codes make an entry
pub returns-in_default : goal.returns-in_default
returns-in_default c =
    let form = c.args.form.now in
    let code = c.args.code.now in
    let makes = printed_makes form code c.requires.printed in
    let none = MatchOption-at_none ((entry : Entry) → Rebuilds form code entry → ⊥)
    (Rebuilds form code) c.in_default.is c.in_ok-entry.ensures in
    absurd (none makes.0 makes.1)
