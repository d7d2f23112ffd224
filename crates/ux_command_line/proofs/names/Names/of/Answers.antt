use Rattle.std.proofs.Common.{◌∙◌, ap, refl, codes, map, arith}
use Rattle.std.proofs.lemmas.Grind.{common_steps}
use Rattle.std.proofs.lemmas.List.{take_all}
use Rattle.clap.specs.Words.{found_of}
use Rattle.clap.proofs.WalkLemmas.{raw_values-rows}
use Rattle.ux_command_line.proofs.ValueLemmas.{names_found}
use Rattle.ux_command_line.proofs.names.Names.of.Goals as goal

pub returns : goal.returns
returns c = c.into_iter.ensures.rest ∙ (c.loop-name.invariant
    ∙ (ap (map (λ name. name.now)) (take_all c.loop-name.name-index c.unwrap_or-names.result.now
    c.loop-name-test.false)
    ∙ (ap (λ names. map (λ name. name.now) names.now) c.unwrap_or-names.ensures
    ∙ names_found c.get_strs.result _ _
    (c.get_strs.ensures ∙ raw_values-rows (found_of c.args.matches.now) (codes "files")) refl)))

pub loop-name-preserved : goal.loop-name-preserved
loop-name-preserved c = grind (arith, common_steps)
