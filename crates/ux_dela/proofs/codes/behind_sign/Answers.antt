use Rattle.std.proofs.Common.{◌<◌, arith, refl}
use Rattle.ux_dela.proofs.StopLemmas.{behind_first, sign_before_ascii}
use Rattle.ux_dela.proofs.codes.behind_sign.Goals as goal

pub range_from-requires : goal.range_from-requires
range_from-requires c =
    let small : c.sign_of.result < 128 =
    omega (arith, c.sign_of.ensures, sign_before_ascii c.args.kind) in
    λ _. behind_first c.args.text.now c.sign_of.result c.utf8.text
    (c.if-begins_with.ensures.0 refl) small
