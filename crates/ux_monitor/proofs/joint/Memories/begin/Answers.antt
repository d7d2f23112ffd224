use Rattle.std.proofs.Common.{List, ℕ, inl, subst, sym}
use Rattle.std.proofs.lemmas.Result.{IfOk-weaker}
use Rattle.ux_monitor.specs.declared.memory.Memory.{Memory}
use Rattle.ux_monitor.specs.Parts.{AreAllAt, AreKnown, Begins, seen_in}
use Rattle.ux_monitor.proofs.PartsLemmas.{joints-seen, kept-still, known-of, still-joined}
use Rattle.ux_monitor.proofs.joint.Memories.begin.Goals as goal

pub number_joint-requires : goal.number_joint-requires
number_joint-requires c =
    let new = c.see_first.new.each.items in
    let seen = c.in_ok-seen.seen.items in
    subst (λ (ms : List Memory). AreKnown (seen_in ms) seen) (sym c.as_slice.ensures.value)
    (known-of (seen_in new) seen (Begins c.args.parts.now) c.in_ok-seen.ensures.begun)

pub returns-in_err-seen-clause-right : goal.returns-in_err-seen-clause-right
returns-in_err-seen-clause-right c = λ of right.
    let memories = c.args.self.now in
    let states = memories.states.keys in
    still-joined c.args.parts.now of memories.each.items c.see_first.new.each.items states states
    memories.rows.items right c.see_first.ensures.still (λ number joint at. at)
    (λ joint has. inl has)

pub returns-clause-right : goal.returns-clause-right
returns-clause-right c = λ of right.
    let memories = c.args.self.now in
    let new = c.see_first.new.each.items in
    still-joined c.args.parts.now of memories.each.items new memories.states.keys
    c.number_joint.new.states.keys memories.rows.items right c.see_first.ensures.still
    c.number_joint.ensures.kept
    (joints-seen c.as_slice.result.now new memories.states.keys c.number_joint.new.states.keys
    c.as_slice.ensures.value c.number_joint.ensures.only)

pub returns-clause-kept : goal.returns-clause-kept
returns-clause-kept c =
    let memories = c.args.self.now in
    IfOk-weaker c.number_joint.result _ _ (λ number placed. kept-still c.args.parts.now
    memories.each.items c.see_first.new.each.items memories.states.keys
    c.number_joint.new.states.keys c.requires c.see_first.ensures.still
    c.number_joint.ensures.kept) c.number_joint.ensures.placed

pub returns-clause-begun : goal.returns-clause-begun
returns-clause-begun c =
    let all = seen_in c.see_first.new.each.items in
    let IsSo = Begins c.args.parts.now in
    IfOk-weaker c.number_joint.result _ _ (λ number placed. (
      placed.0,
      placed.1,
      subst (λ (ns : List ℕ). AreAllAt all ns IsSo) (sym placed.2) c.in_ok-seen.ensures.begun,
    )) c.number_joint.ensures.placed
