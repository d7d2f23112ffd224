use Rattle.std.proofs.Common.{arith, ◌≡◌, ℕ, List, subst}
use Rattle.std.specs.Prelude.{◌↔◌, Some}
use Rattle.std.proofs.lemmas.Result.{on_ok_weaker}
use Rattle.ux_outputs.specs.declared.event.Event.{Event}
use Rattle.ux_morpho.specs.Analyses.{RendersAs}
use Rattle.ux_morpho.proofs.PuttingLemmas.{output_added}
use Rattle.ux_morpho.proofs.outputs.add_rendered.Goals as goal

pub returns : goal.returns
returns c =
    let letters = c.args.letters.now in
    let derivation = c.args.derivation.now in
    let len = c.len.ensures.len in
    let same = c.if-derivation-len.false in
    on_ok_weaker c.push_some.result
    (output_added letters derivation.1 derivation.0 c.in_ok-output.output c.args.outputs.now.items
    c.push_some.new.outputs.items (omega (arith, len, same))
    (subst (λ (events : List Event). (output : List ℕ) → (c.in_ok-output.output ≡ Some output)
    ↔ RendersAs letters events output) c.as_slice.ensures c.in_ok-output.ensures))
    c.push_some.ensures
