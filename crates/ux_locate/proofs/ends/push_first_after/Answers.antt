use Rattle.std.proofs.Common.{arith, ◌∙◌, List, [], ◌∷◌, ◌++◌, ap, get_or, subst, sym, ℕ}
use Rattle.ux_locate.specs.Finding.{IsFirstAfter}
use Rattle.ux_locate.proofs.FirstEndsLemmas.{first_found, first_missing}
use Rattle.ux_locate.proofs.ends.push_first_after.Goals as goal

pub loop-position-init : goal.loop-position-init
loop-position-init c = record {
  none = c.requires.none;
  before = λ k lt. absurd (omega (arith, lt));
}

pub returns-then-start-position : goal.returns-then-start-position
returns-then-start-position c =
    let positions = c.args.positions.now in
    let i = c.loop-position.position-index in
    let first = get_or positions i 0 in
    subst (IsFirstAfter positions c.args.start)
    (sym (c.in_ok-push.ensures.items
    ∙ ap (λ (l : List ℕ). l ++ first ∷ []) c.loop-position.invariant.none))
    (first_found positions c.requires.ascending c.args.start i c.loop-position.invariant.before
    c.loop-position-test.true c.if-start-position.true)

pub returns : goal.returns
returns c =
    subst (IsFirstAfter c.args.positions.now c.args.start) (sym c.loop-position.invariant.none)
    (first_missing c.args.positions.now c.requires.ascending c.args.start
    c.loop-position.position-index c.loop-position.invariant.before c.loop-position-test.false)
