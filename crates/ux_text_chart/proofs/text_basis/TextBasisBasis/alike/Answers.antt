use Rattle.std.proofs.lemmas.Option.{IfSome_then}
use Rattle.ux_text_chart.proofs.AlikeLemmas.{are_alike}
use Rattle.ux_text_chart.proofs.text_basis.TextBasisBasis.alike.Goals as goal

pub returns-clause-alike : goal.returns-clause-alike
returns-clause-alike c =
    let text = c.args.self.now.text.now in
    IfSome_then c.alike_after.result c.alike_after.ensures.same (λ later same.
    are_alike text.alphabet.now text.text.now text.applied.now c.args.at later same)
