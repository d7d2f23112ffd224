-- The law of the monitor for what the code knows of a reading: the tests that it passes.
use Rattle.std.proofs.Common.{ℕ, List, [], ◌∷◌, ◌++◌, inl, inr, ◌↔◌}
use Rattle.std.specs.Prelude.{Contains}
use Rattle.ux_monitor.specs.declared.rule.Sign.{Sign}
use Rattle.ux_monitor.specs.declared.rule.Sign.TheVariants.{If, Then}
use Rattle.ux_monitor.specs.declared.rule.Step.{Step}
use Rattle.ux_monitor.specs.declared.owing.Obligation.{Obligation}
use Rattle.ux_monitor.specs.declared.watching.Seen.{Seen}
use Rattle.ux_monitor.specs.Monitor.{Moves}
use Rattle.ux_monitor.specs.Watches.{Watches, IsLater, AreLeft, WasOwed, IsNext}
use Rattle.ux_monitor.specs.Steps.{Among}
use Rattle.ux_monitor.proofs.OwingLemmas.{opened_told}
use Rattle.ux_monitor.proofs.WatchingLemmas.{watches_more}

module _ (steps : List Step) (ends : List ℕ) (Passes : ℕ → ℕ → Type 0) (passed : List ℕ) (r : ℕ) (tells : (t : ℕ) → Contains passed t ↔ Passes t r) where
  moves : (p k : ℕ) → Moves steps ends (Among passed) p 0 k ↔ Moves steps ends Passes p r k
  moves p k = (λ m. (m.0, (tells m.0).0 m.1, m.2), λ m. (m.0, (tells m.0).1 m.1, m.2))

  moved : (From : ℕ → Type 0) (k : ℕ) → ((p : ℕ) × From p × Moves steps ends (Among passed) p 0 k) ↔ ((p : ℕ) × From p × Moves steps ends Passes p r k)
  moved From k = (λ m. (m.0, m.1, (moves m.0 k).0 m.2), λ m. (m.0, m.1, (moves m.0 k).1 m.2))

  later : (o l : Obligation) → IsLater steps ends (Among passed) 0 o l → IsLater steps ends Passes r o l
  later o l is = record {
    unpaid = is.unpaid;
    found = is.found;
    ifs = λ k. (λ h. (moved (Contains o.ifs.items) k).0 ((is.ifs k).0 h), λ m. (is.ifs k).1 ((moved (Contains o.ifs.items) k).1 m));
    thens = λ k. (λ h. (moved (Contains o.thens.items) k).0 ((is.thens k).0 h), λ m. (is.thens k).1 ((moved (Contains o.thens.items) k).1 m));
  }

  left : (mark : Sign) (old new : List ℕ) → AreLeft steps ends (Among passed) mark old 0 new → AreLeft steps ends Passes mark old r new
  left mark old new is p = (
    λ h. elim ((is p).0 h) [ inl o ↦ inl o | inr m ↦ inr ((moved (Contains old) p).0 m) ],
    λ h. (is p).1 (elim h [ inl o ↦ inl o | inr m ↦ inr ((moved (Contains old) p).1 m) ]),
  )

  pub next_for : (seen next : Seen) → IsNext steps ends (Among passed) seen 0 next → IsNext steps ends Passes seen r next
  next_for seen next n = record {
    ifs = left If seen.ifs.items next.ifs.items n.ifs;
    thens = left Then seen.thens.items next.thens.items n.thens;
    opened = opened_told steps next.ifs.items next.thens.items (λ o. WasOwed steps ends (Among passed) seen.owed.items 0 o) (λ o. WasOwed steps ends Passes seen.owed.items r o) next.owed.items
        (λ o w. (w.0, w.1, later w.0 o w.2)) n.opened;
    each = λ was h. elim (n.each was h) [ inl paid ↦ inl paid | inr l ↦ inr (l.0, later was l.0 l.1, l.2) ];
  }

  -- what the code makes of one more reading
  pub watches_advanced : (seen next : Seen) (before : List ℕ) → Watches steps ends Passes seen before → IsNext steps ends (Among passed) seen 0 next →
      Watches steps ends Passes next (before ++ r ∷ [])
  watches_advanced seen next before w n = watches_more steps ends Passes seen before r next w (next_for seen next n)
