use Rattle.std.proofs.Common.{arith, ◌≡◌, ◌∙◌, ℕ, List, [], ◌∷◌, ◌++◌, ap, length, subst, sym}
use Rattle.std.specs.Prelude.{position}
use Rattle.std.specs.List.{list_any}
use Rattle.ux_folds.specs.Numbered.{AreFew, HasNumber}
use Rattle.ux_folds.proofs.NumberedLemmas.{few_more, found_number, last_number}
use Rattle.ux_folds.proofs.numbered.add_to_few.Goals as goal

pub returns-in-Some-clause-stored : goal.returns-in-Some-clause-stored
returns-in-Some-clause-stored g c =
    let eq = g.T.PartialEq.eq in
    found_number eq c.args.few.now.items c.args.value c.in-Some.place
    (c.in-Some.ensures.index ∙ ap (position (eq c.args.value)) c.as_slice.ensures.value)

pub returns-clause-stored : goal.returns-clause-stored
returns-clause-stored g c =
    let eq = g.T.PartialEq.eq in
    let few = c.args.few.now.items in
    let count : c.len-count.result ≡ length few = omega arith in
    subst (λ (l : List _). HasNumber eq l c.args.value c.len-count.result)
    (sym c.in_ok-push.ensures.items)
    (subst (λ (n : ℕ). HasNumber eq (few ++ c.args.value ∷ []) c.args.value n)
    (sym count) (last_number eq g.met.T.Eq.laws few c.args.value))

pub returns-clause-are_few : goal.returns-clause-are_few
returns-clause-are_few g c =
    let eq = g.T.PartialEq.eq in
    subst (λ (l : List _). AreFew eq l) (sym c.in_ok-push.ensures.items)
    (few_more eq g.met.T.Eq.laws c.args.few.now.items c.args.value c.requires.are_few
    c.requires.room (c.in_default.ensures.found
    ∙ ap (list_any (eq c.args.value)) c.as_slice.ensures.value))
