use Rattle.std.proofs.Common.{subst, sym}
use Rattle.std.specs.Prelude.{IsTrue}
use Rattle.ux_image_lexicon.specs.Counting.{IsApart}
use Rattle.ux_image_lexicon.proofs.ApartLemmas.{apart_at}
use Rattle.ux_image_lexicon.proofs.counts.Counts.note.Goals as goal

pub note_form-requires : goal.note_form-requires
note_form-requires c apart =
    subst IsApart (sym c.codes_at.ensures)
    (apart_at c.args.lists.now c.args.apart.now c.requires c.in-Some.number
    (subst IsTrue c.flag_at-apart.ensures apart))
