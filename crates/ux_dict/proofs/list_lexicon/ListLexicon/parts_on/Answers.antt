use Rattle.std.proofs.Common.{List, ℕ, subst, sym}
use Rattle.std.specs.Prelude.{All}
use Rattle.std.proofs.lemmas.Result.{IfOk-weaker}
use Rattle.ux_dela.specs.declared.entry.Entry.{Entry}
use Rattle.ux_dict.specs.Kept.{IsSpelled}
use Rattle.ux_dict.proofs.list_lexicon.ListLexicon.parts_on.Goals as goal

pub returns : goal.returns
returns c =
    let letters = c.self.inside.letters.items in
    let spelled = subst (λ (l : List ℕ). All (IsSpelled l) c.args.self.now)
    (sym c.deref.ensures.value)
    (subst (λ (l : List Entry). All (IsSpelled letters) l) c.self.view_is c.self.invariant.spelled) in
    IfOk-weaker c.gone_on.result _ _ (λ next goes front fit. goes front c.args.self.now spelled fit)
    c.gone_on.ensures
