use Rattle.std.proofs.Common.{false, refl, subst}
use Rattle.ux_automaton.specs.Caches.{IsTransition}
use Rattle.ux_automaton.specs.Kept.{store_of}
use Rattle.ux_walk.specs.Settings.{masked_setting}
use Rattle.ux_automaton.proofs.CacheLemmas.{barred_put}
use Rattle.ux_automaton.proofs.NowhereLemmas.{bars}
use Rattle.ux_automaton.proofs.Results.{on_ok}
use Rattle.ux_automaton.proofs.kept.Kept.note.Goals as goal

pub returns-clause-right : goal.returns-clause-right
returns-clause-right c =
    let old = c.args.self.now in
    let setting = masked_setting c.args.masked.now in
    let number = c.number-number.result in
    let kind = c.kind-kind.result in
    let closed = c.in-Some.closed in
    let transition = c.requires.right.transitions (record {
      front = closed.front;
      number = number;
      kind = kind;
      next = c.in-Some-next.next;
    }) c.in-Some-next.ensures in
    on_ok c.give.result _ _ (λ put.
    barred_put setting old (record old { barred = c.give.new.slots }) c.requires.right refl refl
    refl refl number kind (bars setting c.requires.table.belongs (store_of old.fronts) old.first closed
    number kind c.requires.right.first
    (c.requires.right.closures false old.first closed c.in-Some.ensures)
    (subst (λ n. IsTransition setting (store_of old.fronts) (record {
      front = closed.front;
      number = number;
      kind = kind;
      next = n;
    })) (c.is_nothing.ensures c.if-not-is_nothing.false) transition)) put) c.give.ensures
