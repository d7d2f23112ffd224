use Rattle.std.proofs.Common.{sym, subst}
use Rattle.ux_image_content.specs.Walking.{AreCodes}
use Rattle.ux_image_content.proofs.ToldLemmas.{found_codes}
use Rattle.ux_image_content.proofs.entries.rebuild_form.Goals as goal

pub rebuild_codes-requires : goal.rebuild_codes-requires
rebuild_codes-requires c =
    subst AreCodes (sym c.codes_at.ensures)
    (found_codes c.args.lists.now.keys c.requires c.args.form.now.code)
