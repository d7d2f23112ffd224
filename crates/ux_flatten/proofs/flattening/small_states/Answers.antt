use Rattle.std.proofs.Common.{arith, ◌≡◌, ◌<◌, ◌∙◌, List, Any, false, true, length, subst, sym}
use Rattle.ux_net.specs.declared.state.State.{State}
use Rattle.ux_flatten.specs.Flattening.{MOST_EDGES}
use Rattle.ux_flatten.specs.Making.{has_word}
use Rattle.ux_flatten.proofs.FlatteningLaw.{few_states, small}
use Rattle.ux_flatten.proofs.flattening.small_states.Goals as goal

pub returns-clause-small : goal.returns-clause-small
returns-clause-small c =
    let source = c.args.source.now in
    let graphs = source.graphs.items in
    let words = has_word source in
    let depth = c.args.depth in
    let told = c.size.ensures
    ∙ c.requires.sizes.row depth (omega arith) 1 (omega arith) c.requires.some in
    let few = few_states graphs words c.requires.tells depth c.size.result told
    c.if-size-ge-MANY.false in
    small graphs words c.requires.tells depth few (λ wide.
    let found : false ≡ true = c.if-has_wide.ensures.1
    (subst (λ (l : List State). Any (λ (state : State). MOST_EDGES < length state.edges) l)
    (sym (c.deref.ensures.value ∙ c.in_ok-states.ensures)) wide) in
    cc)
