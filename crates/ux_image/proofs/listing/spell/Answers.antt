use Rattle.std.proofs.Common.{sym, ◌∙◌}
use Rattle.std.proofs.lemmas.Iterator.{YieldsList-from_chars}
use Rattle.std.proofs.lemmas.Iterator.Consumers.{YieldsList-end}
use Rattle.std.proofs.lemmas.List.{map-id}
use Rattle.ux_image.proofs.listing.spell.Goals as goal

-- all letters were met
pub returns : goal.returns
returns c =
    let all = YieldsList-end (YieldsList-from_chars c.args.form.now c.utf8.form cc)
    c.loop-letter.yielded _ c.loop-letter.yielded_by _ _ c.in-None.is c.next.ensures.steps in
    c.loop-letter.invariant ∙ sym (map-id c.loop-letter.yielded) ∙ all.0
