use Rattle.std.proofs.Common.{inl, inr, ap, sym, ◌∙◌}
use Rattle.std.specs.Prelude.{Some}
use Rattle.std.proofs.lemmas.Option.{none-some, same_Some}
use Rattle.ux_image_look_ups.proofs.StepLemmas.{own_step}
use Rattle.ux_image_look_ups.proofs.steps.push_step.Goals as goal

pub returns-in_ok-put : goal.returns-in_ok-put
returns-in_ok-put c t =
    let states = c.args.states.now in
    let taken = c.args.taken.now in
    let own = own_step states taken c.args.state (c.requires.taken c.requires.alone) in (
      λ has. elim ((c.in_ok-put.ensures t).0 has) [
        | inl there ↦ inl there
        | inr is ↦ inr ((own t).0 ((c.step.ensures t).0 (c.in-Some.is ∙ ap Some (sym is))))
      ],
      λ has. (c.in_ok-put.ensures t).1 (elim has [
        | inl there ↦ inl there
        | inr goes ↦ inr (sym (same_Some c.in-Some.target t
            (sym c.in-Some.is ∙ (c.step.ensures t).1 ((own t).1 goes))))
      ]),
    )

pub returns-in_default : goal.returns-in_default
returns-in_default c t =
    let states = c.args.states.now in
    let taken = c.args.taken.now in
    let own = own_step states taken c.args.state (c.requires.taken c.requires.alone) in (
      λ has. inl has,
      λ has. elim has [
        | inl there ↦ there
        | inr goes ↦ absurd (none-some t
            (sym c.in_default.is ∙ (c.step.ensures t).1 ((own t).1 goes)))
      ],
    )
