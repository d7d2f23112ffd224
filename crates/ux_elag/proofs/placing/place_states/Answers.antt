use Rattle.std.proofs.Common.{ℕ, List, ◌≡◌, ◌-◌, ◌∙◌, arith, ap, refl, rules, sym, subst, length}
use Rattle.std.specs.Prelude.{All, map}
use Rattle.ux_reading_table.specs.declared.numbered.NumberedLink.{NumberedLink}
use Rattle.ux_elag.specs.Numbers.{HasEnds, IsWithin, stated}
use Rattle.ux_elag.proofs.PlacingLemmas.{ends-there, placed-whole, two-places}
use Rattle.ux_elag.proofs.placing.place_states.Goals as goal

pub placed_links-requires-clause-there : goal.placed_links-requires-clause-there
placed_links-requires-clause-there c =
    let states = c.in_ok-states.states.items in
    subst (λ (ls : List NumberedLink). All (HasEnds c.as_slice-2.result.now) ls)
    (sym c.as_slice.ensures.value)
    (subst (λ (ss : List ℕ). All (HasEnds ss) c.args.sentence.now.links.items)
    (sym c.as_slice-2.ensures.value)
    (ends-there c.args.sentence.now c.requires.formed c.requires.some states
    c.in_ok-states.ensures.rise c.in_ok-states.ensures.same))

pub overflow_sub-result : goal.overflow_sub-result
overflow_sub-result c =
    let count : c.len.result ≡ length c.in_ok-states.states.items = search rules in
    let two = two-places c.args.sentence.now c.requires.formed c.requires.some
    c.in_ok-states.states.items c.in_ok-states.ensures.rise c.in_ok-states.ensures.same in
    omega (arith, count, two)

pub returns : goal.returns
returns c =
    let states = c.in_ok-states.states.items in
    let count : c.len.result ≡ length states = search rules in
    placed-whole c.args.sentence.now c.requires.formed c.requires.some states
    c.in_ok-states.ensures.rise c.in_ok-states.ensures.same c.in_ok-links.links.items
    (subst (λ (ss : List ℕ). map (stated ss) c.in_ok-links.links.items
    ≡ c.args.sentence.now.links.items) c.as_slice-2.ensures.value
    (c.in_ok-links.ensures.placed ∙ c.as_slice.ensures.value))
    (subst (λ (ss : List ℕ). All (IsWithin (length ss)) c.in_ok-links.links.items)
    c.as_slice-2.ensures.value c.in_ok-links.ensures.within)
    (record { last = c.len.result - 1; links = c.in_ok-links.links })
    (ap (λ (n : ℕ). n - 1) count) refl
