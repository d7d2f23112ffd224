use Rattle.std.proofs.Common.{ℕ, List, subst}
use Rattle.std.proofs.lemmas.Result.{on_ok_weaker}
use Rattle.ux_base.specs.Distinct.{GrowsBy}
use Rattle.ux_image.proofs.NumberLemmas.{number_at}
use Rattle.ux_image.proofs.numbering.note_state.Goals as goal

pub returns : goal.returns
returns c =
    on_ok_weaker c.note_code.result
    (subst (λ (ns : List ℕ). GrowsBy ns c.args.order.now.keys c.note_code.new.order.keys)
    (number_at c.args.automaton.now c.args.number c.requires c.code.result c.code.ensures))
    c.note_code.ensures
