use Rattle.std.proofs.Common.{List, map, subst, ◌∙◌, ap}
use Rattle.std.specs.Prelude.{All}
use Rattle.ux_dela.specs.declared.entry.Entry.{Entry}
use Rattle.ux_dict.specs.Forms.{longest_of}
use Rattle.ux_dict.specs.Keys.{key_of}
use Rattle.ux_dict.specs.Kept.{IsSpelled}
use Rattle.ux_dict.proofs.list_lexicon.ListLexicon.of_content.Goals as goal

pub invariant_of-result : goal.invariant_of-result
invariant_of-result c = record {
  dictionary = c.requires;
  keyed = c.in_ok-keys.ensures ∙ ap (map key_of) c.deref.ensures.value;
  spelled = subst (λ (l : List Entry). All (IsSpelled c.in_ok-letters.letters.items) l)
      c.deref-2.ensures.value c.in_ok-letters.ensures.spelled;
  increasing = c.in_ok-letters.ensures.increasing;
  longest_is = c.longest_form-longest.ensures ∙ ap longest_of c.deref-3.ensures.value;
}
