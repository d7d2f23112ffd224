-- Sentences side by side as an input: what a label takes lies ahead, and where a label leads.
use Rattle.std.proofs.Common.{arith, ◌≡◌, ℕ, ◌+◌, ◌<◌, ◌≤◌, ◌⊎◌, ◌↔◌, List, [], ◌∷◌, ◌++◌, inl, inr, refl, sym, ap, subst, ◌∙◌, length, get_or, take}
use Rattle.std.specs.Prelude.{Contains}
use Rattle.std.proofs.lemmas.List.Elements.{Contains-append_left, Contains-push, Contains-push_cases}
use Rattle.ux_base.proofs.Lists.{nothing_in, take_more, take_whole}
use Rattle.ux_alphabet.specs.Letters.{Letters}
use Rattle.ux_net.specs.declared.label.Label.{Label}
use Rattle.ux_net.specs.declared.label.Label.TheVariants as label
use Rattle.ux_outputs.specs.declared.event.Event.TheVariants as event
use Rattle.ux_parts.specs.Ordered.{GoesAhead, IsTaking}
use Rattle.ux_parts.specs.Runs.{Plain}
use Rattle.ux_sentence.specs.declared.sentence.Reading.{Reading}
use Rattle.ux_tfst_locate.specs.declared.lattice.Arc.{Arc}
use Rattle.ux_tfst_locate.specs.Bases.{StaysPut}
use Rattle.ux_tfst_locate.specs.Inputs.{TakesArc, lattice_input}
use Rattle.ux_tfst_locate.specs.Lattices.{Rows}
use Rattle.ux_tfst_locate.specs.Reaching.{AreAhead}

module _ (letters : Letters) (readings : List Reading) (rows : Rows) where
  taking : (x : Label) (p k : ℕ) → TakesArc letters readings rows x p k → IsTaking x
  taking (label.CaseFolded text) p k t = tt
  taking (label.CaseExact text) p k t = tt
  taking (label.Mask mask) p k t = tt
  taking (label.Brace text) p k t = tt
  taking x p k (arc, has, to, (reading, at, never)) = absurd never

  pub goes_ahead : (last : ℕ) → AreAhead last rows → GoesAhead (lattice_input letters readings rows) last
  goes_ahead last ahead = record {
    taking = λ {x} {p} {k} t. taking x p k t;
    forward = λ {x} {p} {k} (arc, has, to, rest).
        let on = (ahead p arc has).0 in omega (arith, on, to);
    within = λ {x} {p} {k} (arc, has, to, rest).
        let on = (ahead p arc has).1 in omega (arith, on, to);
  }

  -- a label that stays leads nowhere else
  pub plain_stays : (x : Label) → StaysPut x → (p k : ℕ) →
      Plain (lattice_input letters readings rows) x p k ↔ (p ≡ k)
  plain_stays label.NoSpace stays p k = (
    λ h. elim h [
      | inl (arc, has, to, (reading, at, never)) ↦ absurd never
      | inr s ↦ sym s.0
    ],
    λ e. inr (sym e, [], (λ space. space, refl)),
  )
  plain_stays (label.Begin name) stays p k = (
    λ h. elim h [
      | inl (arc, has, to, (reading, at, never)) ↦ absurd never
      | inr s ↦ sym s.0
    ],
    λ e. inr (sym e, event.Begin name ∷ [], refl),
  )
  plain_stays (label.End name) stays p k = (
    λ h. elim h [
      | inl (arc, has, to, (reading, at, never)) ↦ absurd never
      | inr s ↦ sym s.0
    ],
    λ e. inr (sym e, event.End name ∷ [], refl),
  )
  plain_stays label.Cut stays p k = (
    λ h. elim h [
      | inl (arc, has, to, (reading, at, never)) ↦ absurd never
      | inr s ↦ sym s.0
    ],
    λ e. inr (sym e, event.Cut ∷ [], refl),
  )
  plain_stays x stays p k = absurd stays

  -- another one leads where it takes something
  pub plain_takes : (x : Label) → (StaysPut x → ⊥) → (p k : ℕ) →
      TakesArc letters readings rows x p k ↔ Plain (lattice_input letters readings rows) x p k
  plain_takes label.NoSpace never p k = absurd (never tt)
  plain_takes (label.Begin name) never p k = absurd (never tt)
  plain_takes (label.End name) never p k = absurd (never tt)
  plain_takes label.Cut never p k = absurd (never tt)
  plain_takes x never p k = (
    λ t. inl t,
    λ h. elim h [
      | inl t ↦ t
      | inr s ↦ absurd s.2
    ],
  )

-- one more position
pub pushed : (old new : List ℕ) (at : ℕ) (P : ℕ → Type 0) → new ≡ old ++ at ∷ [] →
    ((k : ℕ) → P k ↔ (at ≡ k)) → (k : ℕ) → Contains new k ↔ (Contains old k ⊎ P k)
pushed old new at P put is k = subst (λ (l : List ℕ). Contains l k ↔ (Contains old k ⊎ P k)) (sym put) (
  λ h. elim (Contains-push_cases old at k h) [
    | inl o ↦ inl o
    | inr e ↦ inr ((is k).1 e)
  ],
  λ h. elim h [
    | inl o ↦ Contains-append_left old (at ∷ []) k o
    | inr p ↦ subst (λ n. Contains (old ++ at ∷ []) n) ((is k).0 p) (Contains-push old at)
  ],
)

-- the ends of the first arcs whose readings are so
module _ (IsSo : (reading : ℕ) → Type 0) (row : List Arc) (old : List ℕ) where
  abbrev pub IsEnd : List Arc → ℕ → Type 0
  IsEnd arcs k = (arc : Arc) × Contains arcs arc × (arc.to ≡ k) × IsSo arc.reading

  abbrev pub AreEndsTo : ℕ → List ℕ → Type 0
  AreEndsTo n positions =
      (k : ℕ) → Contains positions k ↔ (Contains old k ⊎ IsEnd (take n row) k)

  pub ends_none : AreEndsTo 0 old
  ends_none k = (
    λ has. inl has,
    λ h. elim h [
      | inl has ↦ has
      | inr end ↦ absurd (nothing_in end.1)
    ],
  )

  module _ (n : ℕ) (arc : Arc) (inside : n < length row) (is : arc ≡ get_or row n arc)
      (positions : List ℕ) (are : AreEndsTo n positions) where
    more : take (n + 1) row ≡ take n row ++ arc ∷ []
    more = take_more row n arc inside ∙ ap (λ (a : Arc). take n row ++ a ∷ []) (sym is)

    kept : (k : ℕ) → IsEnd (take n row) k → IsEnd (take (n + 1) row) k
    kept k end = (
      end.0,
      subst (λ (l : List Arc). Contains l end.0) (sym more)
          (Contains-append_left (take n row) (arc ∷ []) end.0 end.1),
      end.2,
      end.3,
    )

    cases : (k : ℕ) → IsEnd (take (n + 1) row) k →
        IsEnd (take n row) k ⊎ ((arc.to ≡ k) × IsSo arc.reading)
    cases k end = elim (Contains-push_cases (take n row) arc end.0
        (subst (λ (l : List Arc). Contains l end.0) more end.1)) [
          | inl there ↦ inl (end.0, there, end.2, end.3)
          | inr same ↦ inr (
            ap (λ (a : Arc). a.to) same ∙ end.2,
            subst (λ (a : Arc). IsSo a.reading) (sym same) end.3,
          )
        ]

    pub ends_past : (IsSo arc.reading → ⊥) → AreEndsTo (n + 1) positions
    ends_past never k = (
      λ has. elim ((are k).0 has) [
        | inl was ↦ inl was
        | inr end ↦ inr (kept k end)
      ],
      λ h. elim h [
        | inl was ↦ (are k).1 (inl was)
        | inr end ↦ elim (cases k end) [
          | inl before ↦ (are k).1 (inr before)
          | inr now ↦ absurd (never now.1)
        ]
      ],
    )

    pub ends_more : (new : List ℕ) → IsSo arc.reading → new ≡ positions ++ arc.to ∷ [] →
        AreEndsTo (n + 1) new
    ends_more new so put k =
        subst (λ (l : List ℕ). Contains l k ↔ (Contains old k ⊎ IsEnd (take (n + 1) row) k)) (sym put) (
          λ has. elim (Contains-push_cases positions arc.to k has) [
            | inl there ↦ elim ((are k).0 there) [
              | inl was ↦ inl was
              | inr end ↦ inr (kept k end)
            ]
            | inr same ↦ inr (
              arc,
              subst (λ (l : List Arc). Contains l arc) (sym more) (Contains-push (take n row) arc),
              same,
              so,
            )
          ],
          λ h. elim h [
            | inl was ↦ Contains-append_left positions (arc.to ∷ []) k ((are k).1 (inl was))
            | inr end ↦ elim (cases k end) [
              | inl before ↦ Contains-append_left positions (arc.to ∷ []) k ((are k).1 (inr before))
              | inr now ↦ subst (λ m. Contains (positions ++ arc.to ∷ []) m) now.0
                  (Contains-push positions arc.to)
            ]
          ],
        )

  pub ends_all : (n : ℕ) (positions : List ℕ) → length row ≤ n → AreEndsTo n positions → (k : ℕ) →
      Contains positions k ↔ (Contains old k ⊎ IsEnd row k)
  ends_all n positions over are k =
      subst (λ (l : List Arc). Contains positions k ↔ (Contains old k ⊎ IsEnd l k))
      (take_whole row n over) (are k)
