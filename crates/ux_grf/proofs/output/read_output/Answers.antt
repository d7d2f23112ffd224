use Rattle.std.proofs.Common.{List, sym, subst}
use Rattle.std.proofs.lemmas.Result.{IfOk-weaker}
use Rattle.ux_grf.specs.declared.item.Piece.{Piece}
use Rattle.ux_grf.specs.Output.{IsOutput, nothing_put, pieces_put}
use Rattle.ux_grf.proofs.output.read_output.Goals as goal

pub returns-then-eq : goal.returns-then-eq
returns-then-eq c =
    subst (λ (p : List Piece). IsOutput c.args.text.now p) (sym c.new.ensures.items)
    (nothing_put (sym c.if-eq.ensures))

pub returns : goal.returns
returns c =
    IfOk-weaker c.read_pieces.result _ _ (λ pieces h. pieces_put (sym c.if-eq.ensures) h)
    c.read_pieces.ensures
