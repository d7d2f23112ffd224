use Rattle.std.proofs.Common.{◌≡◌, ℕ, None, Option, List, length, rules, slice_get, subst, sym, ap, ◌∙◌}
use Rattle.std.specs.Option.{unwrap_or}
use Rattle.std.specs.Str.{encode_utf8_all}
use Rattle.std.proofs.lemmas.List.Elements.{All-contains}
use Rattle.indexmap.specs.IndexMap.{get_by_text}
use Rattle.ux_dawg.specs.Paths.{MakeAutomaton}
use Rattle.ux_dawg.specs.declared.state.Form.{Form}
use Rattle.ux_dawg.specs.declared.state.State.{State}
use Rattle.ux_image_lists.specs.Sizes.{forms_of}
use Rattle.ux_image_look_ups.specs.Longest.{longest_in}
use Rattle.ux_image_look_ups.specs.Ways.{HaveForms}
use Rattle.ux_image_lexicon.specs.Told.{made_of, read_in}
use Rattle.ux_image_lexicon.proofs.FoundLemmas.{longest_is}
use Rattle.ux_image_lexicon.proofs.of_text.of_counted.Goals as goal

pub longest-requires : goal.longest-requires
longest-requires c = record {
  automaton = subst MakeAutomaton (sym c.states.ensures.value) c.states.ensures.is.automaton;
  forms = subst HaveForms (sym c.states.ensures.value) c.states.ensures.is.forms;
}

pub invariant_of-result : goal.invariant_of-result
invariant_of-result c =
    let none : (text : List ℕ) → get_by_text c.new.result text ≡ None = search rules in (
      c.in_ok-longest.ensures
          ∙ ap (λ (l : List State). longest_in (forms_of l)) c.states.ensures.value
          ∙ sym (longest_is c.args.coded c.states.ensures.is),
      record {
        total = c.requires.total;
        each = λ form has.
            let codes = length (read_in (slice_get c.args.coded.lists form.code)) in
            ap (λ (o : Option ℕ). unwrap_or o codes) (none (encode_utf8_all form.letters))
            ∙ All-contains (λ (f : Form). length (read_in (slice_get c.args.coded.lists f.code))
            ≡ made_of c.args.coded.lists f) (forms_of c.args.coded.states) form c.requires.each has;
      },
    )
