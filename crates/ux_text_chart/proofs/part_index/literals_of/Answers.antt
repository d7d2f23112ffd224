use Rattle.std.proofs.Common.{◌∙◌, sym, ap}
use Rattle.std.specs.Prelude.{slice_get}
use Rattle.std.proofs.lemmas.Option.{same_Some}
use Rattle.ux_net.specs.Nets.{states_of}
use Rattle.ux_parts.specs.declared.part.Part.{Part}
use Rattle.ux_text_chart.proofs.PartIndexLemmas.{is_literal_state}
use Rattle.ux_text_chart.proofs.part_index.literals_of.Goals as goal

pub returns : goal.returns
returns c = λ part state found there.
    let part_is = same_Some part c.in_ok-part.part.now (sym found ∙ sym c.in_ok-part.ensures) in
    let state_is = same_Some state c.in_ok-state.state.now (sym there
    ∙ (ap (λ (p : Part). slice_get (states_of c.args.net.now p.graph) p.first) part_is
    ∙ sym c.in_ok-state.ensures)) in
    is_literal_state state c.in_ok-state.state.now c.as_slice.result.now c.as_slice-2.result.now
    state_is c.as_slice.ensures c.as_slice-2.ensures c.if-state.false
    (let yes = c.if-not-are_literals.false in c.are_literals.ensures yes)
