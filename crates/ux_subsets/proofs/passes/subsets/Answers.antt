use Rattle.std.proofs.Common.{List, sym, subst}
use Rattle.ux_subsets.specs.declared.automaton.Link.{Link}
use Rattle.ux_subsets.specs.Paths.{IsAscending}
use Rattle.ux_subsets.specs.Building.{IsPass}
use Rattle.ux_subsets.proofs.passes.subsets.Goals as goal

pub returns-clause-pass : goal.returns-clause-pass
returns-clause-pass g c = λ up.
    let found = c.in_ok-found.found in
    subst (λ (ls : List Link). IsPass (g.M.Machine.stands c.subsets_of.new.machine) (g.M.Machine.satisfies c.subsets_of.new.machine) c.args.last ls found.last found.links.items) c.in_ok-links.ensures
    (c.in_ok-found.ensures.pass (subst (λ (ls : List Link). IsAscending c.args.last ls) (sym c.in_ok-links.ensures) up))
