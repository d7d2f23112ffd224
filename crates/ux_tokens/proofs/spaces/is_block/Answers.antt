use Rattle.std.proofs.Common.{◌≡◌, ℕ, ◌+◌, ◌-◌, take, drop, ap, subst, arith}
use Rattle.ux_tokens.specs.Spaces.{FirstStay}
use Rattle.ux_tokens.proofs.SpacesLemmas.{block_only}
use Rattle.ux_tokens.proofs.spaces.is_block.Goals as goal

pub returns-then-text-start-gt-BLOCK-clause-stays :
    goal.returns-then-text-start-gt-BLOCK-clause-stays
returns-then-text-start-gt-BLOCK-clause-stays c = λ yes.
    let rest = drop c.args.start c.args.text.now in
    let len : c.args.start + 16 + 1 - c.args.start ≡ 16 + 1 = omega arith in
    block_only 16 rest
    (subst (FirstStay 16) (ap (λ (n : ℕ). take n rest) len) (c.first_stay.ensures yes))
