-- A set tells whether a value is new. Codes and lists of codes are equal where their tests say so.
use Rattle.std.proofs.Common.{◌≡◌, List, [], ◌∷◌, ◌++◌, Bool, true, false, not, cond, ◌&&◌, nat_eq, refl, sym, ◌∙◌, ap}
use Rattle.std.specs.Prelude.{Contains}
use Rattle.std.specs.Bool.{Decides}
use Rattle.std.specs.List.{list_any}
use Rattle.std.proofs.lemmas.Bool.{false≢true}
use Rattle.std.proofs.lemmas.Bool.Decides.{Decides-and, Decides-by_or, Decides-eqb}
use Rattle.std.proofs.lemmas.List.Elements.{Decides-contains}
use Rattle.indexmap.specs.IndexSet.{insert_key}
use Rattle.ux_image.specs.declared.code.Pair.{Pair}
use Rattle.ux_image.specs.declared.code.Code.{Code}
use Rattle.ux_image_lists.specs.Lists.{IsNew}
use lib.Pointwise.{pointwise, pointwise_decides}

abbrev eq_pair : Pair → Pair → Bool
eq_pair a b = nat_eq a.taken b.taken && pointwise nat_eq a.added b.added

abbrev pub eq_code : Code → Code → Bool
eq_code a b = pointwise eq_pair a.pairs b.pairs && pointwise nat_eq a.codes b.codes

pairs_decide : (a b : Pair) → Decides (eq_pair a b) (a ≡ b)
pairs_decide a b =
    let d = Decides-and (nat_eq a.taken b.taken) (pointwise nat_eq a.added b.added)
    (Decides-eqb a.taken b.taken) (pointwise_decides Decides-eqb a.added b.added) in (
      λ h. let e = d.0 h in λ j. record { taken = e.0 j; added = e.1 j },
      λ h. d.1 (ap (λ (p : Pair). p.taken) h, ap (λ (p : Pair). p.added) h),
    )

pub codes_decide : (a b : Code) → Decides (eq_code a b) (a ≡ b)
codes_decide a b =
    let d = Decides-and (pointwise eq_pair a.pairs b.pairs) (pointwise nat_eq a.codes b.codes)
    (pointwise_decides pairs_decide a.pairs b.pairs)
    (pointwise_decides Decides-eqb a.codes b.codes) in (
      λ h. let e = d.0 h in λ j. record { pairs = e.0 j; codes = e.1 j },
      λ h. d.1 (ap (λ (p : Code). p.pairs) h, ap (λ (p : Code). p.codes) h),
    )

module _ {T : Type 0} (eq : T → T → Bool) (decides : (a b : T) → Decides (eq a b) (a ≡ b))
    (old : List T) (x : T) (added : Bool) (told : added ≡ not (list_any (eq x) old)) where
  among : Decides (list_any (eq x) old) (Contains old x)
  among = Decides-contains old x (list_any (eq x) old)
      (Decides-by_or (eq x) (λ y. y ≡ x) (λ l. list_any (eq x) l)
      (λ y. (λ h. sym ((decides x y).0 h), λ h. (decides x y).1 (sym h))) refl (λ y l. refl) old)

  -- what was added is new, and goes last
  pub added_new : (new : List T) → new ≡ insert_key eq old x → added ≡ true →
      IsNew old x × (new ≡ old ++ x ∷ [])
  added_new new is told_new = (
    λ has. false≢true (sym (ap not (among.1 has)) ∙ sym told ∙ told_new),
    is ∙ ap (λ b. cond b old (old ++ x ∷ [])) (lacks (list_any (eq x) old) told),
  )
    where
      lacks : (b : Bool) → added ≡ not b → b ≡ false
      lacks true e = sym told_new ∙ e
      lacks false e = refl

  -- what wasn't is not
  pub added_not : added ≡ false → IsNew old x → ⊥
  added_not told_old new = new (among.0 (there (list_any (eq x) old) told))
    where
      there : (b : Bool) → added ≡ not b → b ≡ true
      there true e = refl
      there false e = sym told_old ∙ e
