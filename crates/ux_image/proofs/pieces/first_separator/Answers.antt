use Rattle.std.proofs.Common.{arith}
use Rattle.std.proofs.lemmas.List.{take_all}
use Rattle.std.proofs.lemmas.List.Elements.{All-more, All-same}
use Rattle.std.proofs.Common.{sym, ◌≡◌, ◌∙◌, false}
use Rattle.ux_image.specs.Pieces.{is_separator}
use Rattle.ux_image.proofs.pieces.first_separator.Goals as goal

pub loop-place-preserved : goal.loop-place-preserved
loop-place-preserved c =
    All-more (λ b. is_separator b ≡ false) c.args.text.now c.loop-place.place 0 (omega arith)
    c.loop-place.invariant (sym c.is_separator.ensures ∙ c.if-is_separator.false)

pub returns : goal.returns
returns c =
    All-same (λ b. is_separator b ≡ false) _ _
    (sym (take_all c.loop-place.place c.args.text.now (omega arith))) c.loop-place.invariant
