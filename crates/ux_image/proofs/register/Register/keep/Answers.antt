use Rattle.ux_image.proofs.KeepLemmas.{found_list}
use Rattle.ux_image.proofs.register.Register.keep.Goals as goal

pub returns-in-Some : goal.returns-in-Some
returns-in-Some c = found_list _ _ c.in-Some.number c.in-Some.ensures
