use Rattle.std.proofs.Common.{List, ℕ, sym, subst, take}
use Rattle.ux_apply.specs.Names.{IsStem}
use Rattle.ux_apply.proofs.NamesLemmas.{stem_before}
use Rattle.ux_apply.proofs.priority.stem.Goals as goal

pub returns-in-Some : goal.returns-in-Some
returns-in-Some c =
    subst (λ (l : List ℕ). IsStem c.args.name.now (take c.in-Some.place l))
    (sym c.as_bytes.ensures.value) (stem_before c.args.name.now c.in-Some.place c.in-Some.ensures)
