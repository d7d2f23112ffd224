use Rattle.std.proofs.Common.{inl, inr}
use Rattle.ux_image_look_ups.proofs.steps.push_edge.Goals as goal

pub returns-in_ok-put : goal.returns-in_ok-put
returns-in_ok-put c t =
    let fits = c.fits.ensures.0 c.if-fits.true in (
      λ has. elim ((c.in_ok-put.ensures t).0 has) [
        | inl there ↦ inl there
        | inr is ↦ inr (fits, is)
      ],
      λ has. (c.in_ok-put.ensures t).1 (elim has [
        | inl there ↦ inl there
        | inr (_, is) ↦ inr is
      ]),
    )
