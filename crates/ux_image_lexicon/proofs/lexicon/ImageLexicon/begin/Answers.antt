use Rattle.std.proofs.Common.{List, ℕ, [], subst, sym}
use Rattle.std.proofs.lemmas.Str.{chars-nil, IsUtf8-nil}
use Rattle.ux_dawg.specs.declared.state.State.{State}
use Rattle.ux_image_look_ups.specs.Ways.{LeadsBy}
use Rattle.ux_image_lexicon.proofs.lexicon.ImageLexicon.begin.Goals as goal

pub returns : goal.returns
returns c alphabet =
    let states = c.in_ok-begin.field-0 in
    let coded = c.self.inside.coded in
    record {
      own = sym c.self.view_is;
      utf8 = IsUtf8-nil;
      states = subst (λ (l : List ℕ). LeadsBy coded.states alphabet l states) (sym chars-nil)
          (subst (λ (l : List State). LeadsBy l alphabet [] states) c.states.ensures.value
          (c.in_ok-begin.ensures alphabet));
    }
