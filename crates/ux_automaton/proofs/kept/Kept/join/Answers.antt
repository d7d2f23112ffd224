use Rattle.std.proofs.Common.{refl}
use Rattle.ux_automaton.specs.Kept.{store_of}
use Rattle.ux_automaton.proofs.CacheLemmas.{right_kept}
use Rattle.ux_automaton.proofs.Results.{on_both, on_ok}
use Rattle.ux_automaton.proofs.StoreLemmas.{joined}
use Rattle.ux_automaton.proofs.kept.Kept.join.Goals as goal

pub returns-clause-right : goal.returns-clause-right
returns-clause-right c = on_ok c.join.result _ _ (λ grows setting right.
    right_kept setting c.args.self.now _ right grows refl refl refl refl) c.join.ensures.grows

pub returns-clause-both : goal.returns-clause-both
returns-clause-both c = on_both c.join.result _ _ _ (λ front grows both stack.
    joined (store_of c.args.self.now.fronts) (store_of c.join.new.self) c.requires.sound grows
    c.args.one c.args.other front both stack) c.join.ensures.grows c.join.ensures.both
