use Rattle.ux_image.proofs.SharedLemmas.{behind_one}
use Rattle.ux_image.proofs.characters.behind_chars.Goals as goal

pub loop-done-preserved : goal.loop-done-preserved
loop-done-preserved c = (
  c.behind_first_char-rest.utf8,
  behind_one c.loop-done.done c.args.text.now c.loop-done.rest.now
      c.behind_first_char-rest.result.now c.loop-done.invariant.1 c.behind_first_char-rest.ensures,
)
