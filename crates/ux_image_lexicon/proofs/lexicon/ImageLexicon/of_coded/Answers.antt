use Rattle.std.proofs.Common.{List, subst, sym, ap, ◌∙◌}
use Rattle.ux_dawg.specs.declared.state.State.{State}
use Rattle.ux_dawg.specs.Paths.{MakeAutomaton}
use Rattle.ux_image_lists.specs.Sizes.{forms_of}
use Rattle.ux_image_look_ups.specs.Longest.{longest_in}
use Rattle.ux_image_look_ups.specs.Ways.{HaveForms}
use Rattle.ux_image_lexicon.proofs.FoundLemmas.{longest_is}
use Rattle.ux_image_lexicon.proofs.OrderLemmas.{dictionary_is}
use Rattle.ux_image_lexicon.proofs.lexicon.ImageLexicon.of_coded.Goals as goal

pub longest-requires : goal.longest-requires
longest-requires c = record {
  automaton = subst MakeAutomaton (sym c.states.ensures.value) c.states.ensures.is.automaton;
  forms = subst HaveForms (sym c.states.ensures.value) c.states.ensures.is.forms;
}

pub invariant_of-result : goal.invariant_of-result
invariant_of-result c = (
  c.in_ok-longest.ensures
      ∙ ap (λ (l : List State). longest_in (forms_of l)) c.states.ensures.value
      ∙ sym (longest_is c.args.coded c.states.ensures.is),
  c.in_ok-counts.ensures,
)

pub returns-clause-kept : goal.returns-clause-kept
returns-clause-kept c = dictionary_is c.args.coded c.states.ensures.is
