use Rattle.std.proofs.Common.{◌∙◌, sym, subst}
use Rattle.ux_digraph.specs.Paths.{IsInside}
use Rattle.ux_flatten.proofs.WordsLaw.{rows_inside}
use Rattle.ux_flatten.proofs.words.leads_to_end.Goals as goal

pub reached-requires-clause-inside : goal.reached-requires-clause-inside
reached-requires-clause-inside c =
    subst IsInside (sym (c.deref.ensures.value ∙ c.in_ok-targets.ensures))
    (rows_inside c.args.states.now c.requires.inside)
