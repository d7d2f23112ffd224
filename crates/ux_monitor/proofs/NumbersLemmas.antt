-- States that say the same watch the same.
use Rattle.std.proofs.Common.{ℕ, List, [], ◌∷◌, inl, inr, ◌↔◌, sym, subst, Bool}
use Rattle.std.specs.Prelude.{Contains, IsTrue}
use Rattle.ux_monitor.specs.declared.rule.Sign.TheVariants.{If, Then}
use Rattle.ux_monitor.specs.declared.rule.Step.{Step}
use Rattle.ux_monitor.specs.declared.owing.Obligation.{Obligation}
use Rattle.ux_monitor.specs.declared.watching.Seen.{Seen}
use Rattle.ux_monitor.specs.Monitor.{Left}
use Rattle.ux_monitor.specs.Watches.{IsMet, Watches}
use Rattle.ux_monitor.specs.Owing.{IsAlike}
use Rattle.ux_monitor.specs.Numbers.{AreAlike, IsSame}
use Rattle.ux_base.proofs.Lists.{nothing_in, first_or_later, contains_first, contains_later}

flipped : (a b : Obligation) → IsAlike a b → IsAlike b a
flipped a b s = record { found = sym s.found; ifs = sym s.ifs; thens = sym s.thens }

flipped_all : (a b : List Obligation) → AreAlike a b → AreAlike b a
flipped_all [] [] h = tt
flipped_all [] (y ∷ b) h = absurd h
flipped_all (x ∷ a) [] h = absurd h
flipped_all (x ∷ a) (y ∷ b) h = (flipped x y h.0, flipped_all a b h.1)

partner : (a b : List Obligation) → AreAlike a b → (o : Obligation) → Contains a o → (p : Obligation) × Contains b p × IsAlike p o
partner [] b h o c = absurd (nothing_in c)
partner (x ∷ a) [] h o c = absurd h
partner (x ∷ a) (y ∷ b) h o c = elim (first_or_later x a o c) [
  | inl e ↦ (y, contains_first y b, subst (λ (z : Obligation). IsAlike y z) e (flipped x y h.0))
  | inr l ↦ let r = partner a b h.1 o l in (r.0, contains_later y b r.0 r.1, r.2)
]

module _ (steps : List Step) (ends : List ℕ) (Passes : ℕ → ℕ → Type 0) where
  met_alike : (a b : Obligation) → IsAlike a b → (after : List ℕ) → IsMet steps ends Passes a after → IsMet steps ends Passes b after
  met_alike a b s after met owed =
      let t = met (elim owed [
        | inl f ↦ inl (subst (λ (x : Bool). IsTrue x) (sym s.found) f)
        | inr i ↦ inr (i.0, subst (λ (xs : List ℕ). Contains xs i.0) (sym s.ifs) i.1, i.2)
      ]) in
      (t.0, subst (λ (xs : List ℕ). Contains xs t.0) s.thens t.1, t.2)

  all_met : (a b : List Obligation) → AreAlike a b → (after : List ℕ) →
      ((o : Obligation) → Contains b o → IsMet steps ends Passes o after) → (o : Obligation) → Contains a o → IsMet steps ends Passes o after
  all_met a b h after all o c = let p = partner a b h o c in met_alike p.0 o p.2 after (all p.0 p.1)

  pub watches_same : (a b : Seen) → IsSame a b → (before : List ℕ) → Watches steps ends Passes a before → Watches steps ends Passes b before
  watches_same a b s before w = record {
    ifs = λ p. subst (λ (xs : List ℕ). Contains xs p ↔ Left steps ends Passes If before p) s.ifs (w.ifs p);
    thens = λ p. subst (λ (xs : List ℕ). Contains xs p ↔ Left steps ends Passes Then before p) s.thens (w.thens p);
    owed = λ after. (
      λ all. (w.owed after).0 (all_met a.owed.items b.owed.items s.owed after all),
      λ passed. all_met b.owed.items a.owed.items (flipped_all a.owed.items b.owed.items s.owed) after ((w.owed after).1 passed),
    );
  }
