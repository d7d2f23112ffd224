use Rattle.ux_compile.proofs.CompileLemmas.{AreBuiltTo}
use Rattle.ux_compile.proofs.grammar.build.Given as goal

-- the graphs so far are built
abbrev pub invariant-loop-number : goal.invariant-loop-number
invariant-loop-number l =
    AreBuiltTo l.names l.places l.closers l.admission.ranks.items l.admission.free.items
    l.net.items l.number
