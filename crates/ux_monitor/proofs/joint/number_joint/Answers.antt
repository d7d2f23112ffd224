use Rattle.std.proofs.Common.{List, ℕ, ◌<◌, ◌↔◌, inl, inr, length, subst, sym}
use Rattle.std.specs.Prelude.{IsTrue}
use Rattle.ux_monitor.specs.declared.joint.Joint.{Joint}
use Rattle.ux_monitor.specs.declared.watching.Seen.{Seen}
use Rattle.ux_monitor.specs.Parts.{AreKnown, IsJoint, number_at, seen_in, states_at}
use Rattle.ux_monitor.specs.Remembering.{IsAt}
use Rattle.ux_monitor.proofs.joint.number_joint.Goals as goal

pub each_accepts-is_accepted-requires : goal.each_accepts-is_accepted-requires
each_accepts-is_accepted-requires c = subst (λ (ns : List ℕ). AreKnown (seen_in c.args.memories.now) ns)
    (sym c.as_slice.ensures.value) c.requires

pub returns-clause-only : goal.returns-clause-only
returns-clause-only c = λ joint has.
    let all = seen_in c.args.memories.now in
    let one : Joint = record { is_accepted = c.each_accepts-is_accepted.result; seen = c.args.seen } in
    let is : IsJoint all one = record {
      known = c.requires;
      tells = subst (λ (ns : List ℕ). IsTrue one.is_accepted ↔ ((index : ℕ) (seen : Seen) →
          index < length all → IsAt (states_at all index) (number_at ns index) seen →
          IsTrue seen.is_accepted)) c.as_slice.ensures.value c.each_accepts-is_accepted.ensures;
    } in
    elim (c.number_of.ensures.only joint has) [
      | inl earlier ↦ inl earlier
      | inr e ↦ inr (subst (IsJoint all) (sym e) is)
    ]
