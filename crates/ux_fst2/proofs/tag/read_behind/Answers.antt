use Rattle.ux_fst2.specs.Inner.{IsMarked}
use Rattle.ux_fst2.proofs.TagLemmas.{item_says, other_says_nothing, refused_says_nothing, said_lift}
use Rattle.ux_fst2.proofs.tag.read_behind.Goals as goal

pub returns-in-Ok : goal.returns-in-Ok
returns-in-Ok c =
    let content = c.args.content.now in
    let read = c.in-Ok.read in
    let Is = IsMarked c.args.mark in
    said_lift c.tag_of.result _ _ _ _
    (λ none label output.
    other_says_nothing content read Is label output c.in-Ok.ensures.only none)
    (λ tag said. item_says content read said.0 Is tag.label tag.output c.in-Ok.ensures.ok said.1
    said.2 said.3)
    c.tag_of.ensures

pub returns-in_ok-unless_memory-in-Err : goal.returns-in_ok-unless_memory-in-Err
returns-in_ok-unless_memory-in-Err c =
    λ label output. refused_says_nothing c.args.content.now c.in-Err.error _ label output
    c.in-Err.ensures.err c.in_ok-unless_memory-in-Err.ensures
