use Rattle.std.proofs.Common.{subst}
use Rattle.ux_automaton.specs.Caches.{HasValue}
use Rattle.ux_automaton.proofs.kept.Kept.bars.Goals as goal

pub returns-in-Some : goal.returns-in-Some
returns-in-Some c = λ yes bare. c.requires.right.barred c.args.number c.args.kind
    (subst (λ k. HasValue c.args.self.now.barred.items c.args.number k) (c.is_same.ensures yes)
    c.in-Some.ensures) c.args.start c.requires.numbered c.requires.alone bare
