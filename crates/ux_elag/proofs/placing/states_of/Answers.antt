use Rattle.std.proofs.Common.{ℕ, List, ◌∷◌, ◌-◌, ◌≡◌, ◌↔◌, ◌∙◌, ap, subst}
use Rattle.std.specs.Prelude.{Contains, flat_map}
use Rattle.std.proofs.lemmas.Bool.{eqb-true}
use Rattle.ux_base.proofs.Lists.{take_whole}
use Rattle.ux_reading_table.specs.declared.numbered.NumberedLink.{NumberedLink}
use Rattle.ux_elag.specs.Numbers.{ends_of}
use Rattle.ux_elag.proofs.placing.states_of.Goals as goal

pub returns-clause-same : goal.returns-clause-same
returns-clause-same c = λ state.
    let last = c.args.sentence.now.states - 1 in
    let links = c.as_slice-links.result.now in
    let all : c.loop-link.states.items ≡ 0 ∷ last ∷ flat_map ends_of
    c.args.sentence.now.links.items =
    c.loop-link.invariant
    ∙ (ap (λ (ls : List NumberedLink). 0 ∷ last ∷ flat_map ends_of ls)
    (take_whole links c.loop-link.link-index c.loop-link-test.false)
    ∙ ap (λ (ls : List NumberedLink). 0 ∷ last ∷ flat_map ends_of ls)
    c.as_slice-links.ensures.value) in
    subst (λ (xs : List ℕ). Contains c.in_order.result.items state ↔ Contains xs state) all
    (c.in_order.ensures.same eqb-true state)
