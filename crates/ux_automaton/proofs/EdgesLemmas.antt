-- The edges at places that are enough for a token have all targets.
use Rattle.std.proofs.Common.{◌≡◌, ℕ, List, ◌↔◌, inl, inr, sym, ◌∙◌, ap, subst, refl}
use Rattle.std.specs.Prelude.{Option, Some, None, Contains, slice_get}
use Rattle.std.proofs.lemmas.Option.{same_Some, slice_get_within, slice_get-get_or, get_or_from_slice_get}
use Rattle.std.proofs.lemmas.List.Elements.{Contains-get_or}
use Rattle.ux_tokens.specs.Tokens.{Token}
use Rattle.ux_net.specs.declared.label.Label.{Label}
use Rattle.ux_net.specs.declared.label.Label.TheVariants as label
use Rattle.ux_net.specs.declared.state.Edge.{Edge}
use Rattle.ux_outputs.specs.Rendering.{skip}
use Rattle.ux_meaning.specs.Texts.{FoldsTo}
use Rattle.ux_closure.specs.declared.stand.Stand.{Stand}
use Rattle.ux_walk.specs.LookUps.{AreEnough, Refuses}
use Rattle.ux_walk.specs.Settings.{Setting}
use Rattle.ux_walk.proofs.LookUpsLemmas.{AreEnoughFor}
use Rattle.ux_automaton.specs.declared.target.Target.{Target}
use Rattle.ux_automaton.specs.Targets.{IsTargetAtSome, IsTargetOverSome, Takes}

module _ (setting : Setting) (p : ℕ) where
  -- a literal that refuses the token's text takes nothing
  refused : (x : Label) (token : Token) →
      slice_get setting.tokens (skip setting.tokens p) ≡ Some token →
      Refuses setting.alphabet x token.text → (k : ℕ) → Takes setting x p k → ⊥
  refused (label.CaseFolded entry) token at refuses k (plain, t) = refuses.1
      (subst (λ (x : Token). FoldsTo setting.alphabet entry x)
      (same_Some t.0 token (sym t.1 ∙ at)) t.2.1)
  refused (label.CaseExact exact) token at refuses k (plain, t) = refuses.1
      (subst (λ (x : Token). x.text ≡ exact) (same_Some t.0 token (sym t.1 ∙ at)) t.2.1)
  refused _ token at refuses k takes = absurd refuses.0

  module _ (stand : Stand) (edges : List Edge) (places : List ℕ) where
    same_targets : (token : Token) →
        slice_get setting.tokens (skip setting.tokens p) ≡ Some token →
        AreEnough setting.alphabet token.text edges places → (target : Target) →
        IsTargetAtSome setting p stand edges places target
        ↔ IsTargetOverSome setting p stand edges target
    same_targets token there enough target = (
      λ (n, inside, (edge, at, over)). (
        edge,
        subst (Contains edges) (get_or_from_slice_get edges n edge edge at)
            (Contains-get_or edges n edge (slice_get_within edges n edge at)),
        over,
      ),
      λ (edge, inside, over).
          let at : slice_get edges inside.0 ≡ Some edge =
          slice_get-get_or edges inside.0 edge inside.1 ∙ ap (λ (x : Edge). Some x) inside.2 in
          elim (enough inside.0 edge at) [
            | inl listed ↦ (inside.0, listed, (edge, at, over))
            | inr refuses ↦ absurd (refused edge.label token there refuses target.at over.0)
          ],
    )

    -- the places in other words, where a token stands for which they are enough
    pub listed_targets : (place : ℕ) → place ≡ skip setting.tokens p →
        AreEnoughFor setting.alphabet edges places (slice_get setting.tokens place) →
        (shown : List Edge) → shown ≡ edges → (listed : List ℕ) → listed ≡ places →
        (target : Target) → IsTargetAtSome setting p stand shown listed target
        ↔ IsTargetOverSome setting p stand edges target
    listed_targets place is enough shown same listed also target =
        subst (λ (l : List Edge). IsTargetAtSome setting p stand l listed target
        ↔ IsTargetOverSome setting p stand edges target) (sym same)
        (subst (λ (l : List ℕ). IsTargetAtSome setting p stand edges l target
        ↔ IsTargetOverSome setting p stand edges target) (sym also)
        (go (slice_get setting.tokens place) refl enough))
      where
        go : (o : Option Token) → slice_get setting.tokens place ≡ o →
            AreEnoughFor setting.alphabet edges places o →
            IsTargetAtSome setting p stand edges places target
            ↔ IsTargetOverSome setting p stand edges target
        go None there enough = absurd enough
        go (Some token) there enough =
            same_targets token (ap (slice_get setting.tokens) (sym is) ∙ there) enough target
