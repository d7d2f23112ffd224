use Rattle.std.proofs.Common.{◌≡◌, ◌↔◌, ℕ, ◌≤◌, List, Option, None, Some, length, refl, subst, sym}
use Rattle.std.specs.Prelude.{IfSome, slice_get}
use Rattle.ux_base.specs.Distinct.{StandOnce}
use Rattle.ux_tokens.specs.Numbers.{texts_in}
use Rattle.ux_walk.proofs.words.Words.number.Goals as goal

pub returns : goal.returns
returns c = λ alphabet texts ready.
    let is = ready.texts_are in
    let told = c.number_at.ensures
    (subst (λ (l : List (List ℕ)). StandOnce l) (sym is) ready.once)
    (subst (λ (l : List (List ℕ)). length l ≤ 4294967296) (sym is) ready.few) in
    by texts is c.number_at.result told
  where
    by : (texts : List (List ℕ)) → texts_in c.args.self.now.texts ≡ texts → (found : Option ℕ) →
        ((n : ℕ) → (found ≡ Some n) ↔ (slice_get (texts_in c.args.self.now.texts) n
        ≡ Some c.args.text.now)) →
        IfSome found (λ number. slice_get texts number ≡ Some c.args.text.now)
    by texts is None told = tt
    by texts is (Some n) told = subst (λ (l : List (List ℕ)). slice_get l n ≡ Some c.args.text.now) is
        ((told n).0 refl)
