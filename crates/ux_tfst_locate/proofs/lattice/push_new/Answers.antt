use Rattle.std.proofs.Common.{List, inl, inr, subst, sym}
use Rattle.std.specs.Prelude.{Contains}
use Rattle.ux_tfst_locate.specs.declared.lattice.Place.{Place}
use Rattle.ux_tfst_locate.proofs.LatticeLemmas.{place_pushed}
use Rattle.ux_tfst_locate.proofs.lattice.push_new.Goals as goal

pub returns-then-is_recent : goal.returns-then-is_recent
returns-then-is_recent c = λ other. (
  λ has. inl has,
  λ either. elim either [
    | inl has ↦ has
    | inr e ↦
        let here = c.is_recent.ensures c.if-is_recent.true in
        let there = subst (λ (l : List Place). Contains l c.args.place) c.deref.ensures.value here in
        subst (λ (p : Place). Contains c.args.places.now.items p) (sym e) there
  ],
)

pub returns : goal.returns
returns c = place_pushed c.args.places.now.items c.push.new.self.items c.args.place
    c.in_ok-push.ensures.items
