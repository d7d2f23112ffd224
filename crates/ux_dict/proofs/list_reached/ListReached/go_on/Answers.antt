use Rattle.std.proofs.Common.{◌++◌, List, ℕ, subst, sym}
use Rattle.std.specs.Str.{chars}
use Rattle.std.proofs.lemmas.Str.{chars-append, IsUtf8-append}
use Rattle.ux_dela.specs.declared.entry.Entry.{Entry}
use Rattle.ux_dict.specs.Parts.{AreFittingParts}
use Rattle.ux_dict.proofs.list_reached.ListReached.go_on.Goals as goal

pub returns : goal.returns
returns c content front leads =
    let alphabet = c.args.alphabet.now in
    let text = c.args.text.now in
    let next = c.in_ok-parts.parts.items in
    let own = c.args.self.now.lexicon.now in
    let fit = subst (λ (l : List Entry). AreFittingParts alphabet (chars front) l c.deref.result.now)
    leads.own
    (subst (AreFittingParts alphabet (chars front) content) (sym c.deref.ensures.value) leads.fit) in
    let goes = c.in_ok-parts.ensures (chars front) fit in record {
      own = leads.own;
      sound = leads.sound;
      utf8 = IsUtf8-append front text leads.utf8 c.utf8.text;
      fit = subst (λ (l : List ℕ). AreFittingParts alphabet l content next)
          (sym (chars-append front text leads.utf8))
          (subst (λ (l : List Entry). AreFittingParts alphabet (chars front ++ chars text) l next)
          (sym leads.own) goes);
    }
