use Rattle.ux_dawg.proofs.OneLemmas.{one}
use Rattle.ux_dawg.proofs.laws.forms_decide_states.Goals as goal

pub returns : goal.returns
returns c = one c.args.forms.now _ _ c.requires.first.1 _ _ c.requires.second.1
