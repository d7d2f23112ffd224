use Rattle.std.proofs.Common.{◌↔◌, IsTrue, Bool, sym, subst}
use Rattle.std.specs.Prelude.{Contains}
use Rattle.ux_sentence.proofs.PassageLemmas.{reads}
use Rattle.ux_sentence.proofs.passage.has.Goals as goal

pub returns : goal.returns
returns c =
    subst (λ (b : Bool). IsTrue b ↔ Contains c.args.states.now.keys c.args.state)
    (sym c.contains.ensures) (reads c.args.states.now c.args.state)
