use Rattle.std.proofs.Common.{length, refl, sym}
use Rattle.std.specs.Str.{chars}
use Rattle.std.proofs.lemmas.Bool.{eqb-true}
use Rattle.std.proofs.lemmas.List.{nil_from_length}
use Rattle.std.proofs.lemmas.Result.{IfOk-weaker}
use Rattle.ux_dict.proofs.FittingLemmas.{GoOn-none}
use Rattle.ux_dict.proofs.RunLemmas.{GoOn-alone}
use Rattle.ux_dict.proofs.continuing.gone_on.Goals as goal

pub returns-then-is_empty : goal.returns-then-is_empty
returns-then-is_empty c =
    let parts = c.args.parts.now in
    GoOn-none c.args.alphabet.now c.args.letters.now (chars c.args.text.now) parts c.new.result.items
    (nil_from_length parts (eqb-true (length parts) 0 (sym c.if-is_empty.ensures)))
    c.new.ensures.items

pub returns-then-fit_alone : goal.returns-then-fit_alone
returns-then-fit_alone c =
    IfOk-weaker c.followed.result _ _
    (λ next goes. GoOn-alone c.args.alphabet.now c.args.letters.now (chars c.args.text.now)
    c.args.parts.now next.items (c.if-fit_alone.ensures refl) goes) c.followed.ensures
