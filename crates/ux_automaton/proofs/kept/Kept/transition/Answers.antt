use Rattle.std.proofs.Common.{refl}
use Rattle.ux_outputs.specs.Rendering.{skip}
use Rattle.ux_automaton.specs.declared.kept.Kept.{Kept}
use Rattle.ux_automaton.specs.Kept.{store_of}
use Rattle.ux_walk.specs.Settings.{masked_setting}
use Rattle.ux_automaton.proofs.CacheLemmas.{right_kept, transition_put}
use Rattle.ux_automaton.proofs.StepLemmas.{transition_right}
use Rattle.ux_automaton.proofs.TakesLemmas.{numbered_within}
use Rattle.ux_automaton.proofs.kept.Kept.transition.Goals as goal

pub returns-in-Some-clause-transition : goal.returns-in-Some-clause-transition
returns-in-Some-clause-transition c = c.requires.right.transitions (record {
  front = c.args.front;
  number = c.args.number;
  kind = c.args.kind;
  next = c.in-Some.next;
}) c.in-Some.ensures

pub over_token-requires-clause-within : goal.over_token-requires-clause-within
over_token-requires-clause-within c = numbered_within c.args.masked.now.text.now
    (skip c.args.masked.now.text.now c.args.at) c.args.number c.args.kind c.requires.numbered

pub returns-clause-right : goal.returns-clause-right
returns-clause-right c =
    let old = c.args.self.now in
    let mid : Kept = record old { fronts = c.over_token.new.fronts } in
    let new : Kept = record mid { transitions = c.put.new.self } in
    transition_put (masked_setting c.args.masked.now) mid new
    (right_kept (masked_setting c.args.masked.now) old mid c.requires.right c.in_ok-next.ensures.grows
    refl refl refl refl) refl refl refl refl (record {
      front = c.args.front;
      number = c.args.number;
      kind = c.args.kind;
      next = c.in_ok-next.next;
    }) (transition_right (masked_setting c.args.masked.now) c.requires.table.belongs (store_of old.fronts)
    (store_of c.over_token.new.fronts) c.requires.right.sound c.in_ok-next.ensures.grows
    c.args.front c.args.number c.in_ok-next.next c.args.at c.args.kind c.requires.there
    c.in_ok-next.ensures.there c.requires.numbered c.requires.singly c.in_ok-next.ensures.over)
    c.put.ensures

pub returns-clause-transition : goal.returns-clause-transition
returns-clause-transition c = transition_right (masked_setting c.args.masked.now) c.requires.table.belongs
    (store_of c.args.self.now.fronts) (store_of c.over_token.new.fronts) c.requires.right.sound
    c.in_ok-next.ensures.grows c.args.front c.args.number c.in_ok-next.next c.args.at c.args.kind
    c.requires.there c.in_ok-next.ensures.there c.requires.numbered c.requires.singly
    c.in_ok-next.ensures.over
