use Rattle.std.proofs.Common.{◌≡◌, ◌∙◌, ap, false, subst, sym, true}
use Rattle.std.specs.Prelude.{Contains, Some}
use Rattle.std.proofs.lemmas.Option.{none-some, same_Some}
use Rattle.ux_listing.specs.declared.config.Item.{Item}
use Rattle.ux_listing.proofs.marking.MarkSetMarks.has.Goals as goal

pub returns-in-Some : goal.returns-in-Some
returns-in-Some c =
    let seen = c.args.self.now.seen.keys in
    let is = ap (λ (w : Item). Some w) c.bare_item.ensures in (
      λ on. (
        c.in-Some.number,
        (c.place_of.ensures c.in-Some.number).0 c.in-Some.is ∙ is,
        c.is_in.ensures.0 on,
      ),
      λ m. c.is_in.ensures.1 (subst (Contains c.args.self.now.marked.keys)
          (same_Some m.0 c.in-Some.number (sym ((c.place_of.ensures m.0).1 (m.1 ∙ sym is)) ∙ c.in-Some.is))
          m.2),
    )

pub returns-in-None : goal.returns-in-None
returns-in-None c =
    let is = ap (λ (w : Item). Some w) c.bare_item.ensures in (
      λ on. absurd (let odd : false ≡ true = on in cc),
      λ m. absurd (none-some m.0 (sym c.in-None.is ∙ (c.place_of.ensures m.0).1 (m.1 ∙ sym is))),
    )
