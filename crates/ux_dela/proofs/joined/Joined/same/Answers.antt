use Rattle.std.proofs.Common.{◌∙◌, sym, ap, string_bytes}
use Rattle.std.proofs.lemmas.Bool.{both_ways}
use lib.Pointwise.{bytes_decides}
use Rattle.ux_dela.specs.Texts.{texts_from}
use Rattle.ux_dela.proofs.TextsLemmas.{texts_from-same}
use Rattle.ux_dela.proofs.joined.Joined.same.Goals as goal

pub returns-then-eq : goal.returns-then-eq
returns-then-eq c =
    let ends = c.self.inside.ends.items in
    let others = c.other.inside.ends.items in
    let text = string_bytes c.self.inside.text in
    let other = string_bytes c.other.inside.text in (
      λ is.
          let same_ends = (bytes_decides ends others).0 (sym c.eq.ensures ∙ c.if-eq.true) in
          let same_text = (bytes_decides text other).0 (sym c.eq-then-eq.ensures ∙ is) in
          sym c.self.view_is ∙ ap (λ e. texts_from 0 e text) same_ends
          ∙ ap (λ t. texts_from 0 others t) same_text ∙ c.other.view_is,
      λ is.
          c.eq-then-eq.ensures
          ∙ (bytes_decides text other).1 (texts_from-same 0 ends others text other c.self.invariant
          c.other.invariant (c.self.view_is ∙ is ∙ sym c.other.view_is)).1,
    )

pub returns-else-eq : goal.returns-else-eq
returns-else-eq c =
    let ends = c.self.inside.ends.items in
    let others = c.other.inside.ends.items in (
      λ is. absurd (both_ways c.eq.result c.if-eq.false is),
      λ is.
          c.eq.ensures
          ∙ (bytes_decides ends others).1 (texts_from-same 0 ends others
          (string_bytes c.self.inside.text) (string_bytes c.other.inside.text) c.self.invariant
          c.other.invariant (c.self.view_is ∙ is ∙ sym c.other.view_is)).0,
    )
