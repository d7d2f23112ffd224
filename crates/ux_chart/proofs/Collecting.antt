-- A list of items that takes in what each element of another list leads to.
use Rattle.std.proofs.Common.{arith, ◌≡◌, ℕ, ◌+◌, ◌<◌, List, subst, ◌⊎◌, inl, inr, ◌↔◌, ◌≤◌, ◌∙◌, refl, take, length, get_or}
use Rattle.std.specs.Prelude.{Contains}
use Rattle.std.specs.List.{All}
use Rattle.std.proofs.lemmas.List.{take_all}
use Rattle.std.proofs.lemmas.List.Elements.{All-more, All-weaker, All-contains}

-- now has what old has, what the elements seen lead to, and nothing but what is wanted
pub record IsCollected {S : Type 0} {E : Type 0} (Wanted : E → Type 0) (Leads : S → E → Type 0)
    (old now : List E) (seen : List S) : Type 0 where
  pub only : (e : E) → Contains now e → Contains old e ⊎ Wanted e
  pub kept : (e : E) → Contains old e → Contains now e
  pub taken : All (λ s. (e : E) → Leads s e → Contains now e) seen

module _ {S : Type 0} {E : Type 0} (Wanted : E → Type 0) (Leads : S → E → Type 0) where
  pub collected_none : (old : List E) (all : List S) →
      IsCollected Wanted Leads old old (take 0 all)
  collected_none old all = record {
    only = λ e h. inl h;
    kept = λ e h. h;
    taken = λ k d h. absurd (omega arith);
  }

  -- one more element, with all that it leads to, which was told in other words
  pub collected_more : (old now new : List E) (all : List S) (i : ℕ) (s : S) (Told : E → Type 0) →
      i < length all → s ≡ get_or all i s → ((e : E) → Leads s e → Wanted e) →
      IsCollected Wanted Leads old now (take i all) → ((e : E) → Told e ↔ Leads s e) →
      ((e : E) → Contains new e ↔ (Contains now e ⊎ Told e)) →
      IsCollected Wanted Leads old new (take (i + 1) all)
  collected_more old now new all i s Told inside is wanted c same more = record {
    only = λ e h. elim ((more e).0 h) [
      | inl h' ↦ c.only e h'
      | inr h' ↦ inr (wanted e ((same e).0 h'))
    ];
    kept = λ e h. (more e).1 (inl (c.kept e h));
    taken = All-more (λ s. (e : E) → Leads s e → Contains new e) all i s inside
        (All-weaker (λ s. (e : E) → Leads s e → Contains now e)
        (λ s. (e : E) → Leads s e → Contains new e) (λ x h e l. (more e).1 (inl (h e l)))
        (take i all) c.taken)
        (subst (λ (x : S). (e : E) → Leads x e → Contains new e) is
        (λ e l. (more e).1 (inr ((same e).1 l))));
  }

  -- at the end of the list, with what is wanted beside what the elements lead to
  pub collected_all : (old now new : List E) (all : List S) (Here : E → Type 0) →
      IsCollected Wanted Leads old now all →
      ((e : E) → Wanted e → Here e ⊎ ((s : S) × Contains all s × Leads s e)) →
      ((e : E) → Here e → Wanted e) → ((e : E) → Contains new e ↔ (Contains now e ⊎ Here e)) →
      (e : E) → Contains new e ↔ (Contains old e ⊎ Wanted e)
  collected_all old now new all Here c cases here more e = (
    λ h. elim ((more e).0 h) [
      | inl h' ↦ c.only e h'
      | inr h' ↦ inr (here e h')
    ],
    λ h. elim h [
      | inl h' ↦ (more e).1 (inl (c.kept e h'))
      | inr h' ↦ elim (cases e h') [
        | inl x ↦ (more e).1 (inr x)
        | inr x ↦ (more e).1 (inl (All-contains (λ s. (e : E) → Leads s e → Contains now e) all
            x.0 c.taken x.1 e x.2))
      ]
    ],
  )

  -- the loop is over
  pub collected_whole : (old now : List E) (all same : List S) (i : ℕ) → length all ≤ i →
      all ≡ same → IsCollected Wanted Leads old now (take i all) →
      IsCollected Wanted Leads old now same
  collected_whole old now all same i past is c =
      subst (λ (xs : List S). IsCollected Wanted Leads old now xs) (take_all i all past ∙ is) c

  -- it is, and nothing is wanted but what the elements lead to
  pub collected_each : (old now : List E) (all : List S) (i : ℕ) → length all ≤ i →
      ((e : E) → Wanted e → (s : S) × Contains all s × Leads s e) →
      IsCollected Wanted Leads old now (take i all) →
      (e : E) → Contains now e ↔ (Contains old e ⊎ Wanted e)
  collected_each old now all i past cases c =
      collected_all old now now all (λ e. ⊥) (collected_whole old now all all i past refl c)
      (λ e w. inr (cases e w)) (λ e h. absurd h)
      (λ e. (λ h. inl h, λ h. elim h [ inl x ↦ x | inr x ↦ absurd x ]))
