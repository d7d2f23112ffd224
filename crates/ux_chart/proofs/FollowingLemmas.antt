-- What is behind an edge.
use Rattle.std.proofs.Common.{◌≡◌, ℕ, List, [], ◌∷◌, ◌++◌, ◌⊎◌, ◌↔◌, inl, inr, refl, sym, ap, subst, ◌∙◌}
use Rattle.std.specs.Prelude.{Contains, map}
use Rattle.ux_net.specs.declared.label.Label.{Label}
use Rattle.ux_net.specs.declared.label.Label.TheVariants as label
use Rattle.ux_net.specs.declared.net_graph.NetGraph.{NetGraph}
use Rattle.ux_net.specs.Closers.{ClosesInto}
use Rattle.ux_net.specs.Words.{Letter, IsBody}
use Rattle.ux_net.specs.Nets.{net_grammar}
use Rattle.ux_base.proofs.Lists.{nothing_in, first_or_later, contains_first}
use Rattle.ux_meaning.specs.Inputs.{Input}
use Rattle.ux_meaning.proofs.Levels.{refuses_iff}
use Rattle.ux_parts.specs.declared.parts.Parts.{Parts}
use Rattle.ux_parts.specs.Parts.{TellsClosing, ArePartsOf}
use Rattle.ux_parts.specs.Runs.{Plain, NextBy, Ends, Closes, IsRefused}
use Rattle.ux_parts.specs.Ordered.{GoesAhead}
use Rattle.ux_parts.proofs.Running.{closes_of_body, body_of_closes}
use Rattle.ux_chart.specs.declared.config.Config.{Config}
use Rattle.ux_chart.specs.Rows.{IsAnswer}
use Rattle.ux_chart.specs.Search.{refused_in}
use Rattle.ux_chart.proofs.Elements.{added}
use Rattle.ux_chart.proofs.Entering.{single}

-- a list that was empty has what was added
pub from_none : (P : ℕ → Type 0) (old new ks : List ℕ) → old ≡ [] → ks ≡ new →
    ((k : ℕ) → Contains new k ↔ (Contains old k ⊎ P k)) → (k : ℕ) → Contains ks k ↔ P k
from_none P old new ks none same told k = (
  λ h. elim ((told k).0 (subst (λ (l : List ℕ). Contains l k) same h)) [
    | inl o ↦ absurd (nothing_in (subst (λ (l : List ℕ). Contains l k) none o))
    | inr p ↦ p
  ],
  λ p. subst (λ (l : List ℕ). Contains l k) (sym same) ((told k).1 (inr p)),
)

module _ (input : Input) (last : ℕ) (ahead : GoesAhead input last) (net : List NetGraph)
    (parts : Parts) (are : ArePartsOf net parts) (g to i : ℕ) where
  -- a negative context goes on at its closing state, where nothing closes it
  pub refused_here : (closing : List ℕ) → TellsClosing net g to closing → (js cs : List ℕ) →
      IsAnswer input net parts g to i js cs → (c : ℕ) →
      Contains (refused_in closing cs) c ↔ IsRefused input (net_grammar net) parts.levels g to i c
  refused_here closing closed js cs answer c = by cs answer.closers
    where
      into : ClosesInto (net_grammar net) g to closed.target
      into = closed.closed.into

      only : (b : ℕ) (word : List Letter) → IsBody g ((net_grammar net).graph g) to b word →
          b ≡ closed.target
      only b word body = closed.closed.only b (word, body)

      by : (cs : List ℕ) → ((c : ℕ) →
          Contains cs c ↔ Closes input (net_grammar net) parts.levels g to i c) →
          Contains (refused_in closing cs) c
          ↔ IsRefused input (net_grammar net) parts.levels g to i c
      by [] told = (
        λ h. elim (first_or_later closed.target [] c
            (subst (λ l. Contains l c) closed.told h)) [
              | inl e ↦ record {
                word = into.0;
                body = subst (λ p. IsBody g ((net_grammar net).graph g) to p into.0) e into.1;
                refused = (refuses_iff input (net_grammar net) are.level parts.levels are.levels g to c
                    i).1 (λ w k es body s. nothing_in ((told c).1
                    (closes_of_body input last ahead (net_grammar net) (single net) parts.levels g to c
                    i k w es body s)));
              }
              | inr n ↦ absurd (nothing_in n)
            ],
        λ r. subst (λ l. Contains l c) (sym closed.told)
            (subst (λ p. Contains (closed.target ∷ []) p) (sym (only c r.word r.body))
            (contains_first closed.target [])),
      )
      by (x ∷ xs) told = (
        λ h. absurd (nothing_in h),
        λ r.
            let h = (told x).0 (contains_first x xs) in
            let body = body_of_closes input last ahead (net_grammar net) (single net) parts.levels
            g to x i h in
            let same : x ≡ c = only x h.from.word body ∙ sym (only c r.word r.body) in
            absurd ((refuses_iff input (net_grammar net) are.level parts.levels are.levels g to c
            i).0 r.refused h.from.word h.at h.from.events
            (subst (λ p. IsBody g ((net_grammar net).graph g) to p h.from.word) same body)
            h.from.seq),
      )

  module _ (old new : List Config) where
    abbrev Next : Label → ℕ → ℕ → Type 0
    Next x b k = NextBy input (net_grammar net) parts.levels g x to i b k

    abbrev IsFollowed : Label → Type 0
    IsFollowed x = (w : Config) → Contains new w ↔ (Contains old w ⊎ Next x w.state w.at)

    pub followed_empty : (x : Label) → x ≡ label.Empty →
        new ≡ old ++ record { state = to; at = i } ∷ [] → IsFollowed x
    followed_empty x named is = subst IsFollowed (sym named)
        (added (λ k. record { state = to; at = k }) (Next label.Empty) old new (i ∷ []) is
        (λ k c. elim (first_or_later i [] k c) [
          | inl e ↦ (refl, sym e)
          | inr n ↦ absurd (nothing_in n)
        ])
        (λ w n. (
          i,
          contains_first i [],
          ap (λ s. record { state = s; at = i }) (sym n.0)
              ∙ ap (λ p. record { state = w.state; at = p }) (sym n.1),
        )))

    pub followed_call : (x : Label) (h : ℕ) → x ≡ label.Call h → (js : List ℕ) →
        ((j : ℕ) → Contains js j ↔ Ends input (net_grammar net) parts.levels h 0 i j) →
        new ≡ old ++ map (λ k. record { state = to; at = k }) js → IsFollowed x
    followed_call x h named js ends is = subst IsFollowed (sym named)
        (added (λ k. record { state = to; at = k }) (Next (label.Call h)) old new js is
        (λ k c. (refl, (ends k).0 c))
        (λ w n. (w.at, (ends w.at).1 n.1, ap (λ s. record { state = s; at = w.at }) (sym n.0))))

    pub followed_positive : (x : Label) → x ≡ label.Positive → (js cs : List ℕ) →
        IsAnswer input net parts g to i js cs →
        new ≡ old ++ map (λ a. record { state = a; at = i }) cs → IsFollowed x
    followed_positive x named js cs answer is = subst IsFollowed (sym named)
        (added (λ a. record { state = a; at = i }) (Next label.Positive) old new cs is
        (λ a c. (refl, (answer.closers a).0 c))
        (λ w n. (
          w.state,
          (answer.closers w.state).1 n.1,
          ap (λ p. record { state = w.state; at = p }) (sym n.0),
        )))

    pub followed_negative : (x : Label) → x ≡ label.Negative → (closing : List ℕ) →
        TellsClosing net g to closing → (js cs : List ℕ) →
        IsAnswer input net parts g to i js cs → (into : List ℕ) → into ≡ refused_in closing cs →
        new ≡ old ++ map (λ a. record { state = a; at = i }) into → IsFollowed x
    followed_negative x named closing closed js cs answer into told is =
        let iff = refused_here closing closed js cs answer in
        subst IsFollowed (sym named)
        (added (λ a. record { state = a; at = i }) (Next label.Negative) old new into is
        (λ a c. (refl, (iff a).0 (subst (λ l. Contains l a) told c)))
        (λ w n. (
          w.state,
          subst (λ l. Contains l w.state) (sym told) ((iff w.state).1 n.1),
          ap (λ p. record { state = w.state; at = p }) (sym n.0),
        )))

    pub followed_close : (x : Label) → x ≡ label.ContextEnd → new ≡ old → IsFollowed x
    followed_close x named same = subst IsFollowed (sym named) (λ w. (
      λ h. inl (subst (λ (l : List Config). Contains l w) same h),
      λ h. elim h [
        | inl o ↦ subst (λ (l : List Config). Contains l w) (sym same) o
        | inr n ↦ absurd n
      ],
    ))

    -- a label that is none of the others
    abbrev IsOther : Label → Type 0
    IsOther x = (x ≡ label.Empty → ⊥) × ((h : ℕ) → x ≡ label.Call h → ⊥)
        × (x ≡ label.Positive → ⊥) × (x ≡ label.Negative → ⊥) × (x ≡ label.ContextEnd → ⊥)

    plain_next : (x : Label) → IsOther x → (b k : ℕ) → Next x b k ↔ ((b ≡ to) × Plain input x i k)
    plain_next label.Empty other p k = absurd (other.0 refl)
    plain_next (label.Call h) other p k = absurd (other.1 h refl)
    plain_next label.Positive other p k = absurd (other.2 refl)
    plain_next label.Negative other p k = absurd (other.3 refl)
    plain_next label.ContextEnd other p k = absurd (other.4 refl)
    plain_next x other p k = (λ h. h, λ h. h)

    pub followed_plain : (x : Label) → IsOther x → (ks : List ℕ) →
        ((k : ℕ) → Contains ks k ↔ Plain input x i k) →
        new ≡ old ++ map (λ k. record { state = to; at = k }) ks → IsFollowed x
    followed_plain x other ks right is =
        added (λ k. record { state = to; at = k }) (Next x) old new ks is
        (λ k m. (plain_next x other to k).1 (refl, (right k).0 m))
        (λ w n.
        let m = (plain_next x other w.state w.at).0 n in
        (w.at, (right w.at).1 m.1, ap (λ s. record { state = s; at = w.at }) (sym m.0)))
