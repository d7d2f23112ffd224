use Rattle.std.proofs.Common.{arith, inl, inr}
use Rattle.ux_decode.proofs.CharLemmas.{IsLone-apart}
use Rattle.ux_decode.specs.Encoding.{units_of}
use Rattle.ux_decode.specs.Decoding.{IsLone}
use Rattle.ux_decode.proofs.utf16.split_char.Goals as goal

pub returns-in-None-2 : goal.returns-in-None-2
returns-in-None-2 c =
    let units = units_of c.args.order c.args.rest.now in
    elim c.in-None.ensures.cases as (λ _. IsLone c.args.unit units) [
      | inl surrogate ↦ IsLone-apart c.args.unit units (omega arith) (omega arith)
          (λ pair. omega (arith, pair.1))
      | inr big ↦ absurd (omega arith)
    ]
