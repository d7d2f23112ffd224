use Rattle.std.proofs.Common.{List, ℕ, ◌≡◌, ◌∙◌, inl, subst, sym}
use Rattle.std.specs.Prelude.{Option, Some, slice_get}
use Rattle.std.proofs.lemmas.Option.{same_Some}
use Rattle.ux_monitor.specs.declared.joint.Joint.{Joint}
use Rattle.ux_monitor.specs.declared.memory.Memory.{Memory}
use Rattle.ux_monitor.specs.Parts.{AreAllAt, AreKnown, Follows, seen_in}
use Rattle.ux_monitor.proofs.PartsLemmas.{grown-none, hit-step, joint-known, joints-seen, known-of, made-step, noted-step, still-joined, still-kept}
use Rattle.ux_monitor.proofs.joint.Memories.step.Goals as goal

-- what is remembered is answered
pub returns-in-Some-clause-kept : goal.returns-in-Some-clause-kept
returns-in-Some-clause-kept c =
    let memories = c.args.self.now in
    grown-none (seen_in memories.each.items) memories.states.keys

pub returns-in-Some-clause-stepped : goal.returns-in-Some-clause-stepped
returns-in-Some-clause-stepped c =
    let memories = c.args.self.now in
    let rows = memories.rows.items in
    let place = c.row_place-place.result in
    let next = c.in-Some.next in
    hit-step c.args.parts.now c.args.of.now memories.each.items memories.states.keys rows
    c.requires.right place c.args.state c.args.reading next c.row_place-place.ensures
    (subst (λ (rs : List (Option ℕ)). (here : ℕ) × (place ≡ Some here)
    × (slice_get rs here ≡ Some (Some next))) c.as_slice.ensures.value c.in-Some.ensures)

-- a state that isn't there leads nowhere
pub returns-in_default-get_index-clause-kept : goal.returns-in_default-get_index-clause-kept
returns-in_default-get_index-clause-kept c =
    let memories = c.args.self.now in
    grown-none (seen_in memories.each.items) memories.states.keys

pub see_next-requires-clause-known : goal.see_next-requires-clause-known
see_next-requires-clause-known c =
    let memories = c.args.self.now in
    let joint = c.in-Some-get_index.joint.now in
    subst (λ (ns : List ℕ). AreKnown (seen_in memories.each.items) ns)
    (sym c.as_slice-2.ensures.value)
    (joint-known c.args.parts.now c.args.of.now memories.each.items memories.states.keys
    memories.rows.items c.requires.right c.args.state joint (sym c.in-Some-get_index.ensures.key))

pub number_joint-requires : goal.number_joint-requires
number_joint-requires c =
    let memories = c.args.self.now in
    let new = c.see_next.new.each.items in
    let seen = c.in_ok-seen.seen.items in
    subst (λ (ms : List Memory). AreKnown (seen_in ms) seen) (sym c.as_slice-3.ensures.value)
    (known-of (seen_in new) seen (Follows c.args.parts.now (seen_in memories.each.items)
    c.as_slice-2.result.now c.args.reading) c.in_ok-seen.ensures.next)

pub returns-in_err-seen-clause-right : goal.returns-in_err-seen-clause-right
returns-in_err-seen-clause-right c =
    let memories = c.args.self.now in
    let states = memories.states.keys in
    still-joined c.args.parts.now c.args.of.now memories.each.items c.see_next.new.each.items
    states states memories.rows.items c.requires.right c.see_next.ensures.still
    (λ number joint at. at) (λ joint has. inl has)

pub returns-in_err-next-clause-right : goal.returns-in_err-next-clause-right
returns-in_err-next-clause-right c =
    let memories = c.args.self.now in
    let states = memories.states.keys in
    let new = c.see_next.new.each.items in
    let more = c.number_joint.new.states.keys in
    still-joined c.args.parts.now c.args.of.now memories.each.items new states more
    memories.rows.items c.requires.right c.see_next.ensures.still c.number_joint.ensures.kept
    (joints-seen c.as_slice-3.result.now new states more c.as_slice-3.ensures.value
    c.number_joint.ensures.only)

-- the step that was made
pub returns-clause-stepped : goal.returns-clause-stepped
returns-clause-stepped c = λ joint at.
    let parts = c.args.parts.now in
    let memories = c.args.self.now in
    let old = memories.each.items in
    let new = c.see_next.new.each.items in
    let reading = c.args.reading in
    let seen = c.in_ok-seen.seen.items in
    let is : c.in-Some-get_index.joint.now ≡ joint =
    same_Some c.in-Some-get_index.joint.now joint (c.in-Some-get_index.ensures.key ∙ at) in
    made-step parts c.args.of.now old new memories.states.keys c.number_joint.new.states.keys
    memories.rows.items c.requires.right c.see_next.ensures.still c.number_joint.ensures.kept
    reading c.in_ok-next.next joint seen
    (subst (λ (j : Joint). AreAllAt (seen_in new) seen
    (Follows parts (seen_in old) j.seen.items reading)) is
    (subst (λ (ns : List ℕ). AreAllAt (seen_in new) seen
    (Follows parts (seen_in old) ns reading)) c.as_slice-2.ensures.value
    c.in_ok-seen.ensures.next)) c.in_ok-next.ensures.placed

pub returns-clause-kept : goal.returns-clause-kept
returns-clause-kept c =
    let memories = c.args.self.now in
    still-kept c.args.parts.now c.args.of.now memories.each.items c.see_next.new.each.items
    memories.states.keys c.number_joint.new.states.keys memories.rows.items c.requires.right
    c.see_next.ensures.still c.number_joint.ensures.kept

-- and it is remembered
pub returns-in_err-remember-clause-right : goal.returns-in_err-remember-clause-right
returns-in_err-remember-clause-right c =
    let parts = c.args.parts.now in
    let of = c.args.of.now in
    let memories = c.args.self.now in
    let old = memories.each.items in
    let new = c.see_next.new.each.items in
    let states = memories.states.keys in
    let more = c.number_joint.new.states.keys in
    let rows = memories.rows.items in
    let reading = c.args.reading in
    let joint = c.in-Some-get_index.joint.now in
    let next = c.in_ok-next.next in
    let seen = c.in_ok-seen.seen.items in
    noted-step parts of old new states more rows c.requires.right c.see_next.ensures.still
    c.number_joint.ensures.kept c.requires.kinds
    (joints-seen c.as_slice-3.result.now new states more c.as_slice-3.ensures.value
    c.number_joint.ensures.only) c.remember.new.rows.items c.row_place-place.result c.args.state
    reading next joint c.row_place-place.ensures c.remember.ensures
    (sym c.in-Some-get_index.ensures.key)
    (made-step parts of old new states more rows c.requires.right c.see_next.ensures.still
    c.number_joint.ensures.kept reading next joint seen
    (subst (λ (ns : List ℕ). AreAllAt (seen_in new) seen (Follows parts (seen_in old) ns reading))
    c.as_slice-2.ensures.value c.in_ok-seen.ensures.next) c.in_ok-next.ensures.placed)

pub returns-clause-right : goal.returns-clause-right
returns-clause-right c =
    let parts = c.args.parts.now in
    let of = c.args.of.now in
    let memories = c.args.self.now in
    let old = memories.each.items in
    let new = c.see_next.new.each.items in
    let states = memories.states.keys in
    let more = c.number_joint.new.states.keys in
    let rows = memories.rows.items in
    let reading = c.args.reading in
    let joint = c.in-Some-get_index.joint.now in
    let next = c.in_ok-next.next in
    let seen = c.in_ok-seen.seen.items in
    noted-step parts of old new states more rows c.requires.right c.see_next.ensures.still
    c.number_joint.ensures.kept c.requires.kinds
    (joints-seen c.as_slice-3.result.now new states more c.as_slice-3.ensures.value
    c.number_joint.ensures.only) c.remember.new.rows.items c.row_place-place.result c.args.state
    reading next joint c.row_place-place.ensures c.remember.ensures
    (sym c.in-Some-get_index.ensures.key)
    (made-step parts of old new states more rows c.requires.right c.see_next.ensures.still
    c.number_joint.ensures.kept reading next joint seen
    (subst (λ (ns : List ℕ). AreAllAt (seen_in new) seen (Follows parts (seen_in old) ns reading))
    c.as_slice-2.ensures.value c.in_ok-seen.ensures.next) c.in_ok-next.ensures.placed)
