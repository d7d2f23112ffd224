use Rattle.ux_morpho.proofs.outputs.may_end.Goals as goal

pub returns : goal.returns
returns c =
    let ends = c.ends.ensures.exactly c.args.end in
    (λ yes. ends.0 (c.is_in.ensures.0 yes), λ derives. c.is_in.ensures.1 (ends.1 derives))
