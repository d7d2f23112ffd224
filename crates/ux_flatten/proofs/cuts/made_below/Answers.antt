use Rattle.std.proofs.Common.{arith, ◌∙◌, ℕ, Contains, List, subst}
use Rattle.ux_flatten.specs.Making.{has_word}
use Rattle.ux_flatten.proofs.CutLemmas.{made_inside, turned_inside}
use Rattle.ux_flatten.proofs.cuts.made_below.Goals as goal

pub marked-requires : goal.marked-requires
marked-requires c = λ x there.
    let source = c.args.source.now in
    let below = made_inside source.graphs.items c.requires.inside (has_word source)
    c.deref.result.now x (subst (λ (l : List ℕ). Contains l x)
    (c.deref-2.ensures.value ∙ c.in_ok-copies.ensures) there) in
    omega (arith, below, c.len-count.ensures, source.graphs.ok.0)

pub marked-requires-2 : goal.marked-requires-2
marked-requires-2 c = λ x there.
    let source = c.args.source.now in
    let made = c.args.made.now in
    let below = turned_inside source.graphs.items c.requires.inside (has_word source)
    made.copies.items made.negative.items c.args.negative.now x (subst (λ (l : List ℕ). Contains l x)
    (c.deref-3.ensures.value ∙ c.in_ok-turned.ensures) there) in
    omega (arith, below, c.len-count.ensures, source.graphs.ok.0)
