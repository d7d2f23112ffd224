use Rattle.std.proofs.Common.{arith, ◌≡◌, ◌∙◌, [], List, ℕ, length, subst, get_or}
use Rattle.std.specs.Prelude.{Contains}
use Rattle.std.proofs.lemmas.List.{get_or_default}
use Rattle.ux_digraph.specs.Paths.{row_of}
use Rattle.ux_admission.specs.Finding.{Finds, pair_of}
use Rattle.ux_admission.proofs.FindingLemmas.{pair_inside, pair_there, jumps_inside, finding_goes_on, on_ok_three}
use Rattle.ux_admission.proofs.closers.look.Goals as goal

pub follow_steps-requires-clause-place : goal.follow_steps-requires-clause-place
follow_steps-requires-clause-place c =
    (pair_inside c.args.leading.now c.requires.inside c.args.found.now.keys
    c.as_slice.result.now c.args.rows.now.items c.args.jumps.now.items c.args.next
    c.as_slice.ensures.keys c.requires.next c.requires.finding).0

pub open_contexts-requires-clause-place : goal.open_contexts-requires-clause-place
open_contexts-requires-clause-place c =
    (pair_inside c.args.leading.now c.requires.inside c.args.found.now.keys
    c.as_slice.result.now c.args.rows.now.items c.args.jumps.now.items c.args.next
    c.as_slice.ensures.keys c.requires.next c.requires.finding).0

pub open_contexts-requires-clause-closer : goal.open_contexts-requires-clause-closer
open_contexts-requires-clause-closer c =
    (pair_inside c.args.leading.now c.requires.inside c.args.found.now.keys
    c.as_slice.result.now c.args.rows.now.items c.args.jumps.now.items c.args.next
    c.as_slice.ensures.keys c.requires.next c.requires.finding).1

pub index-requires : goal.index-requires
index-requires c =
    let inside = (pair_inside c.args.leading.now c.requires.inside c.args.found.now.keys
    c.as_slice.result.now c.args.rows.now.items c.args.jumps.now.items c.args.next
    c.as_slice.ensures.keys c.requires.next c.requires.finding).0 in
    let len = c.in_ok-open_contexts.ensures.jumps_len in
    let jumps_len = c.requires.finding.jumps_len in
    omega (arith, inside, len, jumps_len)

pub add_each-requires-clause-inside : goal.add_each-requires-clause-inside
add_each-requires-clause-inside c = λ a h.
    let leading = c.args.leading.now in
    let jumps = c.open_contexts.new.jumps.items in
    let seen = c.as_slice.result.now in
    let place = (get_or seen c.args.next (pair_of 0 0)).place in
    let inside = (pair_inside leading c.requires.inside c.args.found.now.keys seen
    c.args.rows.now.items c.args.jumps.now.items c.args.next
    c.as_slice.ensures.keys c.requires.next c.requires.finding).0 in
    let jumps_len : length jumps ≡ length leading.sources.items =
    c.in_ok-open_contexts.ensures.jumps_len ∙ c.requires.finding.jumps_len in
    let row : c.as_slice-2.result.now ≡ row_of jumps place =
    c.as_slice-2.ensures ∙ (c.index.ensures ∙ get_or_default jumps place c.index.result.now []
    (omega (arith, inside, jumps_len))) in
    let there = jumps_inside leading c.requires.inside c.args.found.now.keys seen
    c.args.rows.now.items c.args.jumps.now.items c.args.next c.as_slice.ensures.keys
    c.requires.next c.requires.finding jumps c.in_ok-open_contexts.ensures.jumps a
    (subst (λ (r : List ℕ). Contains r a) row h) in
    let first = c.in_ok-follow_steps.ensures.len in
    let second = c.in_ok-open_contexts.ensures.len in
    let third = c.requires.finding.rows_len in
    omega (arith, there, first, second, third)

pub returns : goal.returns
returns c =
    let leading = c.args.leading.now in
    let pairs = c.args.found.now.keys in
    let jumps = c.open_contexts.new.jumps.items in
    let seen = c.as_slice.result.now in
    let here = get_or seen c.args.next (pair_of 0 0) in
    let inside = (pair_inside leading c.requires.inside pairs seen
    c.args.rows.now.items c.args.jumps.now.items c.args.next
    c.as_slice.ensures.keys c.requires.next c.requires.finding).0 in
    let jumps_len : length jumps ≡ length leading.sources.items =
    c.in_ok-open_contexts.ensures.jumps_len ∙ c.requires.finding.jumps_len in
    let row : c.as_slice-2.result.now ≡ row_of jumps here.place =
    c.as_slice-2.ensures ∙ (c.index.ensures ∙ get_or_default jumps here.place c.index.result.now []
    (omega (arith, inside, jumps_len))) in
    on_ok_three c.add_each.result (λ len rows finds.
    finding_goes_on leading pairs c.follow_steps.new.found.keys c.open_contexts.new.found.keys
    c.add_each.new.found.keys c.args.rows.now.items c.args.jumps.now.items
    c.add_each.new.rows.items jumps c.args.next here
    (pair_there leading c.requires.inside pairs seen
    c.args.rows.now.items c.args.jumps.now.items c.args.next
    c.as_slice.ensures.keys c.requires.next c.requires.finding) c.requires.finding
    c.in_ok-follow_steps.ensures.finds c.in_ok-open_contexts.ensures.finds
    c.in_ok-open_contexts.ensures.jumps
    (subst (λ (r : List ℕ). Finds c.open_contexts.new.found.keys c.add_each.new.found.keys
    (λ p. Contains r p.place × (p.closer ≡ here.closer))) row finds) rows
    (len ∙ (c.in_ok-open_contexts.ensures.len ∙ c.in_ok-follow_steps.ensures.len))
    c.in_ok-open_contexts.ensures.jumps_len) c.add_each.ensures.len c.add_each.ensures.rows
    c.add_each.ensures.finds
