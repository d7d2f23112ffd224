use Rattle.std.proofs.Common.{◌≡◌, List, ◌++◌, refl, subst, sym}
use Rattle.std.specs.Prelude.{All}
use Rattle.std.proofs.lemmas.List.Elements.{All-append}
use Rattle.ux_dela.specs.Sound.{IsSound}
use Rattle.ux_dela.specs.declared.entry.Entry.{Entry}
use Rattle.ux_apply.proofs.FoundLemmas.{no-entries}
use Rattle.ux_apply.proofs.applying.push_ending.Goals as goal

pub returns-clause-added : goal.returns-clause-added
returns-clause-added c = λ content leads. record {
  more = c.in_ok-more.more.items;
  fit = c.in_ok-more.ensures.found content leads;
  added = c.in_ok-append.ensures.items;
}

pub returns-clause-sound : goal.returns-clause-sound
returns-clause-sound c = λ content leads before.
    subst (λ (l : List Entry). All IsSound l) (sym c.in_ok-append.ensures.items)
    (All-append IsSound c.args.entries.now.items c.in_ok-more.more.items before
    (c.in_ok-more.ensures.sound content leads))

pub returns-then-is_empty-clause-added : goal.returns-then-is_empty-clause-added
returns-then-is_empty-clause-added c = λ content leads.
    let more = c.in_ok-more.more.items in
    let none = no-entries c.args.entries.now.items c.args.entries.now.len c.args.entries.now.ok.0
    c.if-is_empty.ensures in
    record {
      more = more;
      fit = c.in_ok-more.ensures.found content leads;
      added = subst (λ (l : List Entry). more ≡ l ++ more) (sym none) refl;
    }

pub returns-then-is_empty-clause-sound : goal.returns-then-is_empty-clause-sound
returns-then-is_empty-clause-sound c = λ content leads before.
    c.in_ok-more.ensures.sound content leads
