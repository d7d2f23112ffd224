use Rattle.std.proofs.Common.{◌≡◌, ℕ, get_or}
use Rattle.std.specs.Prelude.{Contains}
use Rattle.ux_automaton.specs.declared.target.Target.{Target}
use Rattle.ux_automaton.proofs.AddingLemmas.{adds_all, adds_first, adds_next, item_at, pushed}
use Rattle.ux_automaton.proofs.edges.add_ends.Goals as goal

pub loop-end-init : goal.loop-end-init
loop-end-init c = adds_first
    (λ (end : ℕ) (target : Target). target ≡ record { at = end; stand = c.args.stand })
    (Contains c.args.targets.now.items) c.args.ends.now

pub loop-end-preserved : goal.loop-end-preserved
loop-end-preserved c =
    let i = c.loop-end.end-index in
    let end = get_or c.args.ends.now i 0 in
    adds_next (λ (end : ℕ) (target : Target). target ≡ record { at = end; stand = c.args.stand })
    (Contains c.args.targets.now.items) (Contains c.loop-end.targets.items)
    (Contains c.push.new.self.items) c.args.ends.now i end c.loop-end-test.true
    (item_at c.args.ends.now i 0 c.loop-end-test.true) c.loop-end.invariant
    (pushed c.loop-end.targets.items c.push.new.self.items
    (record { at = end; stand = c.args.stand }) c.in_ok-push.ensures.items)

pub returns : goal.returns
returns c = adds_all
    (λ (end : ℕ) (target : Target). target ≡ record { at = end; stand = c.args.stand })
    (Contains c.args.targets.now.items) (Contains c.loop-end.targets.items) c.args.ends.now
    c.loop-end.end-index c.loop-end-test.false c.loop-end.invariant
