use Rattle.ux_reading_table.specs.declared.numbered.NumberedLink.{NumberedLink}
use Rattle.ux_elag.proofs.placing.placed_links.Goals as goal

pub narrow_place_of-requires-clause-there : goal.narrow_place_of-requires-clause-there
narrow_place_of-requires-clause-there c =
    let none : NumberedLink = record { from = 0; to = 0; reading = 0 } in
    (c.requires.there c.loop-link.link-index none c.loop-link-test.true).0

pub narrow_place_of-requires-in-loop-link-clause-there : goal.narrow_place_of-requires-in-loop-link-clause-there
narrow_place_of-requires-in-loop-link-clause-there c =
    let none : NumberedLink = record { from = 0; to = 0; reading = 0 } in
    (c.requires.there c.loop-link.link-index none c.loop-link-test.true).1
