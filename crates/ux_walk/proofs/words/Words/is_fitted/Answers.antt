use Rattle.std.proofs.Common.{◌≡◌, ℕ, List, Some, slice_get, sym, subst, true}
use Rattle.ux_tokens.specs.Numbers.{texts_in}
use Rattle.ux_walk.proofs.CountsLemmas.{fitted_counted}
use Rattle.ux_walk.proofs.words.Words.is_fitted.Goals as goal

pub returns-else-has_count-clause-all : goal.returns-else-has_count-clause-all
returns-else-has_count-clause-all c = λ counted is fitted.
    let yes : c.has_count.result ≡ true = c.has_count.ensures.1
    (subst (λ (l : List ℕ). slice_get l c.args.number ≡ Some c.args.count)
    (sym c.deref.ensures.value) (fitted_counted c.args.alphabet.now (texts_in c.args.self.now.texts)
    c.args.self.now.counts.items counted c.args.label.now c.args.count c.args.number is fitted)) in
    let no = c.if-has_count.false in cc
