use Rattle.std.proofs.Common.{List, ℕ, sym, subst}
use Rattle.std.specs.Prelude.{All}
use Rattle.std.proofs.lemmas.Result.{IfOk-weaker}
use Rattle.ux_dict.specs.Kept.{IsSpelled}
use Rattle.ux_dict.proofs.measures.letters_of.Goals as goal

pub returns-clause-spelled : goal.returns-clause-spelled
returns-clause-spelled c =
    IfOk-weaker c.letters_in.result _ _
    (λ letters is. subst (λ (l : List ℕ). All (IsSpelled l) c.args.entries.now) (sym is)
    c.in_ok-set.ensures) c.letters_in.ensures.items
