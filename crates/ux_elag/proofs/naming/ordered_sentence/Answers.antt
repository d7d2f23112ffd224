use Rattle.std.proofs.Common.{◌∙◌, refl, sym, ap, subst}
use Rattle.std.specs.Prelude.{Option, map}
use Rattle.ux_subsets.specs.declared.automaton.Automaton.{Automaton}
use Rattle.ux_elag.specs.Numbers.{IsOrdered, told}
use Rattle.ux_elag.proofs.naming.ordered_sentence.Goals as goal

pub returns : goal.returns
returns c =
    subst (λ (k : Option Automaton). IsOrdered c.args.texts.now c.args.number k
    (record {
      number = c.args.number;
      states = c.in-Some-checked_add.states;
      links =
          c.in_ok-told_links.field-0;
    }))
    (sym c.in-Some.is) (record {
      number_is = refl;
      states_are = c.in-Some-checked_add.ensures.1;
      sorted = c.in_text_order-links.result.items;
      rising = c.in_text_order-links.ensures.rising;
      same = c.in_text_order-links.ensures.same;
      links_are = c.in_ok-told_links.ensures ∙ ap (map told) c.as_slice.ensures.value;
    })
