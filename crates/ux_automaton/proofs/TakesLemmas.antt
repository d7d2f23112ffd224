-- How far labels take tokens, and that they take a token at each place where it stands.
use Rattle.std.proofs.Common.{arith, ◌≡◌, ℕ, ◌+◌, ◌<◌, ◌≤◌, List, ◌⊎◌, inl, inr, sym, ◌∙◌, ap, subst, refl, length}
use Rattle.std.specs.Prelude.{Option, Some, None, slice_get}
use Rattle.std.proofs.Math.Nat.{eq-or-lt_of_le}
use Rattle.std.proofs.lemmas.Option.{same_Some, slice_get_within}
use Rattle.ux_lexical_tables.specs.Accepting.{IsAlone}
use Rattle.ux_lexical_tables.specs.Belonging.{Belongs}
use Rattle.ux_lexical_tables.proofs.OneTokenLaws.{accepts_alike, accepts_forward}
use Rattle.ux_masks.specs.declared.mask.Mask.{Mask}
use Rattle.ux_net.specs.declared.label.Label.{Label}
use Rattle.ux_net.specs.declared.label.Label.TheVariants as label
use Rattle.ux_tokens.specs.declared.kind.Kind.{Kind}
use Rattle.ux_tokens.specs.declared.kind.Kind.TheVariants as kind
use Rattle.ux_tokens.specs.Tokens.{Token}
use Rattle.ux_outputs.specs.Rendering.{kind_of, skip, skip_past}
use Rattle.ux_meaning.specs.Texts.{FoldsTo, IsBraced, IsSpaceAt, MayStandFor}
use Rattle.ux_walk.specs.Settings.{Setting}
use Rattle.ux_automaton.specs.Caches.{IsNumbered}
use Rattle.ux_automaton.specs.Targets.{MayTakeToken, Takes}

module _ (tokens : List Token) where
  pub skip_space : (p : ℕ) → IsSpaceAt tokens p → skip tokens p ≡ p + 1
  skip_space p space = ap (λ (o : Option Kind). skip_past o p) space

  pub skip_bare : (p : ℕ) → (IsSpaceAt tokens p → ⊥) → skip tokens p ≡ p
  skip_bare p bare = go (kind_of (slice_get tokens p)) refl
    where
      go : (o : Option Kind) → kind_of (slice_get tokens p) ≡ o → skip_past o p ≡ p
      go None is = refl
      go (Some kind.Space) is = absurd (bare is)
      go (Some kind.Word) is = refl
      go (Some kind.Other) is = refl
      go (Some kind.Sentence) is = refl
      go (Some kind.Stop) is = refl
      go (Some kind.Tag) is = refl

  -- tokens of one number and kind are one
  pub same_token : (p q number : ℕ) (kind : Kind) → IsNumbered tokens p number kind →
      IsNumbered tokens q number kind →
      (token : Token) × (slice_get tokens p ≡ Some token) × (slice_get tokens q ≡ Some token)
  same_token p q number kind (one, at, is, text) (other, there, also, same) = (
    one,
    at,
    there ∙ ap (λ (t : Token). Some t) (go one other (also ∙ sym is)
        (same_Some other.text one.text (sym same ∙ text))),
  )
    where
      go : (a b : Token) → b.kind ≡ a.kind → b.text ≡ a.text → b ≡ a
      go a b kinds texts = ap (λ (k : Kind). record { kind = k; text = b.text }) kinds
          ∙ ap (λ (t : List ℕ). record { kind = a.kind; text = t }) texts

  pub numbered_within : (p number : ℕ) (kind : Kind) → IsNumbered tokens p number kind →
      p < length tokens
  numbered_within p number kind (token, at, is, text) = slice_get_within tokens p token at

-- a label that may take no token takes a space alone, if anything
pub takes_space : (setting : Setting) (x : Label) (p k : ℕ) → (MayTakeToken x → ⊥) →
    Takes setting x p k → IsSpaceAt setting.tokens p × (k ≡ p + 1)
takes_space setting (label.CaseFolded text) p k never takes = absurd (never tt)
takes_space setting (label.CaseExact text) p k never takes = absurd (never tt)
takes_space setting (label.Mask mask) p k never takes = absurd (never tt)
takes_space setting (label.Brace text) p k never takes = absurd (never tt)
takes_space setting (label.Space) p k never (plain, t) = t
takes_space setting _ p k never (plain, t) = absurd t

-- how far a label takes tokens: over a space, over one token behind an optional space, or farther
pub record Reach (setting : Setting) (x : Label) (p k : ℕ) : Type 0 where
  pub place : (IsSpaceAt setting.tokens p × (k ≡ p + 1))
      ⊎ ((k ≡ skip setting.tokens p + 1) ⊎ ((skip setting.tokens p + 1 < k)
      × (skip setting.tokens p < length setting.tokens)
      × ((mask : Mask) × (x ≡ label.Mask mask))))
  pub within : k ≤ length setting.tokens

module _ (setting : Setting)
    (belongs : Belongs setting.alphabet setting.tokens setting.tables) where
  one_reach : (x : Label) (p k : ℕ) (token : Token) →
      slice_get setting.tokens (skip setting.tokens p) ≡ Some token →
      k ≡ skip setting.tokens p + 1 → Reach setting x p k
  one_reach x p k token at is =
      let inside = slice_get_within setting.tokens (skip setting.tokens p) token at in
      record { place = inr (inl is); within = omega (arith, inside, is) }

  pub space_within : (p : ℕ) → IsSpaceAt setting.tokens p → p + 1 ≤ length setting.tokens
  space_within p is = go (slice_get setting.tokens p) refl is
    where
      go : (o : Option Token) → slice_get setting.tokens p ≡ o → kind_of o ≡ Some kind.Space →
          p + 1 ≤ length setting.tokens
      go None at h = cc
      go (Some token) at h =
          let inside = slice_get_within setting.tokens p token at in omega (arith, inside)

  pub reach : (x : Label) (p k : ℕ) → Takes setting x p k → Reach setting x p k
  reach (label.CaseFolded text) p k (plain, t) = one_reach (label.CaseFolded text) p k t.0 t.1 t.3
  reach (label.CaseExact text) p k (plain, t) = one_reach (label.CaseExact text) p k t.0 t.1 t.3
  reach (label.Brace text) p k (plain, t) = one_reach (label.Brace text) p k t.0 t.1 t.3
  reach (label.Space) p k (plain, t) =
      let inside = space_within p t.0 in
      record { place = inl t; within = let is = t.1 in omega (arith, is, inside) }
  reach (label.Mask mask) p k (plain, t) =
      let s = skip setting.tokens p in
      let ahead = accepts_forward setting.alphabet setting.tokens setting.tables belongs mask s k t in
      record {
        place = inr (go ahead.0 ahead.1);
        within = ahead.1;
      }
    where
      go : skip setting.tokens p < k → k ≤ length setting.tokens →
          (k ≡ skip setting.tokens p + 1) ⊎ ((skip setting.tokens p + 1 < k)
          × (skip setting.tokens p < length setting.tokens)
          × ((m : Mask) × (label.Mask mask ≡ label.Mask m)))
      go ahead inside = elim (eq-or-lt_of_le {n = skip setting.tokens p + 1} {m = k} (omega (arith, ahead))) [
        | inl same ↦ inl (sym same)
        | inr more ↦ inr (more, omega (arith, ahead, inside), (mask, refl))
      ]
  reach _ p k (plain, t) = absurd t

  -- what is taken where a space stands, to the position behind it, is taken at each space
  pub space_alike : (x : Label) (p q : ℕ) → IsSpaceAt setting.tokens p →
      IsSpaceAt setting.tokens q → Takes setting x p (p + 1) → Takes setting x q (q + 1)
  space_alike (label.CaseFolded text) p q here there (plain, t) =
      absurd (let s = skip_space setting.tokens p here in let is = t.3 in omega (arith, s, is))
  space_alike (label.CaseExact text) p q here there (plain, t) =
      absurd (let s = skip_space setting.tokens p here in let is = t.3 in omega (arith, s, is))
  space_alike (label.Brace text) p q here there (plain, t) =
      absurd (let s = skip_space setting.tokens p here in let is = t.3 in omega (arith, s, is))
  space_alike (label.Space) p q here there (plain, t) = (plain, (there, refl))
  space_alike (label.Mask mask) p q here there (plain, t) =
      absurd (let s = skip_space setting.tokens p here in
      let ahead = accepts_forward setting.alphabet setting.tokens setting.tables belongs mask
      (skip setting.tokens p) (p + 1) t in let a = ahead.0 in omega (arith, s, a))
  space_alike _ p q here there (plain, t) = absurd t

  module _ (p q : ℕ) (token : Token)
      (here : slice_get setting.tokens (skip setting.tokens p) ≡ Some token)
      (there : slice_get setting.tokens (skip setting.tokens q) ≡ Some token) where
    move : (IsSo : Token → Type 0) (other : Token) →
        slice_get setting.tokens (skip setting.tokens p) ≡ Some other → IsSo other → IsSo token
    move IsSo other at so = subst IsSo (same_Some other token (sym at ∙ here)) so

    -- a label that takes a token takes it at each place where it stands; a mask does so where it
    -- accepts no more than one token
    pub token_alike : (x : Label) →
        ((mask : Mask) → x ≡ label.Mask mask →
        IsAlone setting.tokens setting.tables (skip setting.tokens p)
        × IsAlone setting.tokens setting.tables (skip setting.tokens q)) →
        Takes setting x p (skip setting.tokens p + 1) →
        Takes setting x q (skip setting.tokens q + 1)
    token_alike (label.CaseFolded text) alone (plain, t) = (plain, (token, there, move (λ t. MayStandFor t.kind × FoldsTo setting.alphabet text t) t.0 t.1 t.2, refl))
    token_alike (label.CaseExact text) alone (plain, t) =
        (plain, (token, there, move (λ t. MayStandFor t.kind × (t.text ≡ text)) t.0 t.1 t.2, refl))
    token_alike (label.Brace text) alone (plain, t) =
        (plain, (token, there, move (λ t. IsBraced t.kind × (t.text ≡ text)) t.0 t.1 t.2, refl))
    token_alike (label.Space) alone (plain, t) = absurd (let s = skip_space setting.tokens p t.0 in
        let is = t.1 in omega (arith, s, is))
    token_alike (label.Mask mask) alone (plain, t) =
        let both = alone mask refl in (
          plain,
          (accepts_alike setting.alphabet setting.tokens setting.tables belongs
              (skip setting.tokens p) (skip setting.tokens q) token both.0 both.1 here there mask
              (skip setting.tokens p + 1) t).1,
        )
    token_alike _ alone (plain, t) = absurd t

  -- where no span of several tokens begins, a label takes no more than one
  pub alone_near : (x : Label) (p k : ℕ) (token : Token) →
      slice_get setting.tokens (skip setting.tokens p) ≡ Some token →
      ((mask : Mask) → x ≡ label.Mask mask →
      IsAlone setting.tokens setting.tables (skip setting.tokens p)) →
      Takes setting x p k → skip setting.tokens p + 1 < k → ⊥
  alone_near x p k token at alone takes far = go ((reach x p k takes).place)
    where
      go : ((IsSpaceAt setting.tokens p × (k ≡ p + 1))
          ⊎ ((k ≡ skip setting.tokens p + 1) ⊎ ((skip setting.tokens p + 1 < k)
          × (skip setting.tokens p < length setting.tokens)
          × ((mask : Mask) × (x ≡ label.Mask mask))))) → ⊥
      go (inl (space, is)) = let s = skip_space setting.tokens p space in omega (arith, s, is, far)
      go (inr (inl is)) = omega (arith, is, far)
      go (inr (inr (farther, inside, (mask, is)))) =
          let accepts = subst (λ (l : Label). Takes setting l p k) is takes in
          let one = accepts_alike setting.alphabet setting.tokens setting.tables belongs
          (skip setting.tokens p) (skip setting.tokens p) token (alone mask is) (alone mask is) at at
          mask k accepts.1 in
          let same = one.0 in omega (arith, same, far)
