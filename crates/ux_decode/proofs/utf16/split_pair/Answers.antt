use Rattle.std.proofs.Common.{arith, ◌<◌, ◌≤◌}
use Rattle.ux_decode.proofs.CharLemmas.{IsLone-last, IsLone-before}
use Rattle.ux_decode.proofs.utf16.split_pair.Goals as goal
use Rattle.ux_decode.proofs.utf16.split_pair.Goals.{then-low-lt56320-via-then-low-lt56320, then-low-lt56320-via-else-low-lt56320+then-low-ge57344}

pub returns-in_default : goal.returns-in_default
returns-in_default c =
    IsLone-last c.args.order c.args.high c.args.rest.now c.requires.from (omega arith)
    c.in_default.ensures

pub returns-then-low-lt56320 : goal.returns-then-low-lt56320
returns-then-low-lt56320 c =
    let other : 0xDC00 ≤ c.in-Some.low → c.in-Some.low < 0xE000 → ⊥ = λ from below.
    elim c.then-low-lt56320.branch [
      | then-low-lt56320-via-then-low-lt56320 w ↦ omega arith
      | then-low-lt56320-via-else-low-lt56320+then-low-ge57344 w ↦ omega arith
    ] in
    IsLone-before c.args.high c.in-Some.low _ _ c.requires.from (omega arith)
    c.in-Some.ensures.units_are other
