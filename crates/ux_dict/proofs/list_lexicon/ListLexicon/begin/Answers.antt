use Rattle.std.proofs.Common.{List, ℕ, [], refl, subst, sym}
use Rattle.std.proofs.lemmas.Str.{chars-nil, IsUtf8-nil}
use Rattle.ux_dela.specs.declared.entry.Entry.{Entry}
use Rattle.ux_dict.specs.declared.parts.Part.{Part}
use Rattle.ux_dict.specs.Parts.{AreFittingParts}
use Rattle.ux_dict.proofs.FittingLemmas.{fitting_whole}
use Rattle.ux_dict.proofs.list_lexicon.ListLexicon.begin.Goals as goal

pub returns : goal.returns
returns c alphabet =
    let parts = c.in_ok-parts.parts.items in
    let whole = c.whole.result in
    record {
      own = refl;
      sound = c.whole.ensures.sound;
      utf8 = IsUtf8-nil;
      fit = subst (λ (l : List ℕ). AreFittingParts alphabet l c.args.self.now parts) (sym chars-nil)
          (subst (λ (l : List Entry). AreFittingParts alphabet [] l parts) c.whole.ensures.entries
          (subst (λ (l : List Part). AreFittingParts alphabet [] whole.entries.now l)
          (sym c.in_ok-parts.ensures) (fitting_whole alphabet whole c.whole.ensures.part)));
    }
