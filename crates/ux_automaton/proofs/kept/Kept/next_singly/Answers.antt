use Rattle.ux_automaton.specs.Kept.{store_of}
use Rattle.ux_walk.specs.Settings.{masked_setting}
use Rattle.ux_automaton.proofs.FrontIndexLemmas.{none_likely}
use Rattle.ux_automaton.proofs.NowhereLemmas.{token_only}
use Rattle.ux_automaton.proofs.kept.Kept.next_singly.Goals as goal

pub returns-in-Some : goal.returns-in-Some
returns-in-Some c = token_only (masked_setting c.args.masked.now) c.requires.table.belongs
    (store_of c.args.self.now.fronts) c.args.front c.args.number c.in-Some.next c.args.at
    c.args.kind (c.requires.right.transitions (record {
      front = c.args.front;
      number = c.args.number;
      kind = c.args.kind;
      next = c.in-Some.next;
    }) c.in-Some.ensures) c.requires.numbered c.requires.singly

pub returns-then-has_none : goal.returns-then-has_none
returns-then-has_none c = none_likely c.args.masked.now (store_of c.args.self.now.fronts)
    c.args.front c.args.number c.args.at c.args.kind c.requires.numbered
    (λ text numbered. c.has_none.ensures c.args.masked.now (store_of c.args.self.now.fronts) text
    c.requires.fronts numbered c.if-has_none.true)
