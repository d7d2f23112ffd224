use Rattle.std.proofs.Common.{List, ℕ, sym, subst, take, ◌+◌}
use Rattle.ux_tokens.specs.Numbers.{texts_in}
use Rattle.ux_cmd_inflect.specs.Classes.{AreClassed}
use Rattle.ux_cmd_inflect.proofs.ClassLemmas.{classed_all, classed_more}
use Rattle.ux_cmd_inflect.proofs.classes.classes_of.Goals as goal

-- one more lemma is numbered
pub loop-stem-preserved : goal.loop-stem-preserved
loop-stem-preserved c =
    let l = c.loop-stem in
    let numbered = c.in_ok-number_of.ensures in
    subst (λ (numbers : List ℕ). AreClassed (take (l.stem-index + 1) c.args.stems.now)
    (texts_in c.number_of.new.names) numbers) (sym c.in_ok-push.ensures.items)
    (classed_more c.args.stems.now l.stem-index c.stem-item.result (texts_in l.names)
    (texts_in c.number_of.new.names) l.numbers.items c.in_ok-number_of.field-0
    c.loop-stem-test.true c.stem-item.is l.invariant (rw c.as_str.ensures at numbered.names)
    (rw c.as_str.ensures at numbered.number))

-- all are
pub returns : goal.returns
returns c =
    let l = c.loop-stem in
    classed_all c.args.stems.now l.stem-index (texts_in l.names) l.numbers.items
    c.loop-stem-test.false l.invariant
