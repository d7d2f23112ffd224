-- A stem that is accepted isn't refused, and one that is refused is so for one cause.
use Rattle.std.proofs.Common.{◌≡◌, ◌≢◌, inl, inr, ℕ, List, true, false, Ordering, Less, Equal, Greater, refl, sym, ap, ◌∙◌, subst}
use Rattle.std.specs.FinMap.{nat_cmp-IsAntisymmetric, slice_cmp-IsAntisymmetric}
use Rattle.std.specs.Ordering.{is_gt, nat_cmp, ordering_reverse}
use Rattle.std.specs.Cmp.Lexicographic.{nat_list_cmp_total, slice_cmp}
use Rattle.std.proofs.lemmas.Bool.{cases_order}
use Rattle.std.proofs.lemmas.Option.{same_Some}
use Rattle.ux_dela.specs.declared.entry.Stem.{Stem}
use Rattle.ux_net.specs.declared.net_graph.NetGraph.{NetGraph}
use Rattle.ux_net.specs.Words.{Letter}
use Rattle.ux_inflect.specs.declared.error.InflectError.{InflectError}
use Rattle.ux_inflect.specs.declared.error.InflectError.TheVariants.{Cyclic, BadItem, StackEnd, BadCodes, NoMemory}
use Rattle.ux_inflect.specs.Inflected.{IsNotAfter}
use Rattle.ux_inflect.specs.Refusing.{IsAccepted, IsFirstBad, IsFirstCyclic, IsLeast, IsNameOf, Refuses}

pub accepted_not_refused : (stem : Stem) (net : List NetGraph) (error : InflectError) →
    error ≢ NoMemory → IsAccepted stem net → Refuses stem net error → ⊥
accepted_not_refused stem net (Cyclic name) some accepted refused =
    accepted.doable.clean.acyclic refused.0 refused.1.cyclic
accepted_not_refused stem net (BadItem name node) some accepted refused =
    accepted.doable.clean.clean refused.1.0 node refused.1.1.bad
accepted_not_refused stem net (StackEnd path) some accepted refused =
    accepted.doable.doable refused.1.whole refused.1.is_whole refused.1.is
accepted_not_refused stem net (BadCodes path) some accepted refused =
    accepted.coded refused.1.whole refused.1.is_whole refused.1.is
accepted_not_refused stem net NoMemory some accepted refused = some refl

-- of two texts neither of which is after the other both are one
one_text : (text other : List ℕ) → IsNotAfter text other → IsNotAfter other text → text ≡ other
one_text text other one also = by (slice_cmp nat_cmp text other) refl one
  where
    by : (o : Ordering) → slice_cmp nat_cmp text other ≡ o → is_gt (slice_cmp nat_cmp text other) ≡ false →
        text ≡ other
    by Equal is low = slice_cmp-IsAntisymmetric nat_cmp-IsAntisymmetric text other is
    by Less is low =
        let turned : slice_cmp nat_cmp other text ≡ Greater =
        nat_list_cmp_total.antisymm other text ∙ ap ordering_reverse is in
        let after : true ≡ false = sym (ap is_gt turned) ∙ also in
        cc
    by Greater is low =
        let after : true ≡ false = sym (ap is_gt is) ∙ low in
        cc

module _ (net : List NetGraph) where
  -- a graph has one name
  one_name : (g : ℕ) (name other : List ℕ) → IsNameOf net g name → IsNameOf net g other →
      name ≡ other
  one_name g name other one also =
      let graph = same_Some one.graph also.graph (sym one.found ∙ also.found) in
      one.same ∙ (ap (λ (x : NetGraph). x.name) graph ∙ sym also.same)

  -- one graph is the first that has words without end
  first_cyclic : (g h : ℕ) → IsFirstCyclic net g → IsFirstCyclic net h → g ≡ h
  first_cyclic g h one also = elim (cases_order g h) [
    | inl same ↦ same
    | inr (inl low) ↦ absurd (also.first g low one.cyclic)
    | inr (inr low) ↦ absurd (one.first h low also.cyclic)
  ]

  -- and one state of one graph is the first that an edge leaves which neither reads nor calls
  first_bad : (g h n m : ℕ) → IsFirstBad net g n → IsFirstBad net h m → g ≡ h
  first_bad g h n m one also = elim (cases_order g h) [
    | inl same ↦ same
    | inr (inl low) ↦ absurd (also.graph g n low one.bad)
    | inr (inr low) ↦ absurd (one.graph h m low also.bad)
  ]

  first_state : (g n m : ℕ) → IsFirstBad net g n → IsFirstBad net g m → n ≡ m
  first_state g n m one also = elim (cases_order n m) [
    | inl same ↦ same
    | inr (inl low) ↦ absurd (also.state n low one.bad)
    | inr (inr low) ↦ absurd (one.state m low also.bad)
  ]

  -- one text is the least
  one_least : (Is : List Letter → Type 0) (path other : List ℕ) → IsLeast net Is path →
      IsLeast net Is other → path ≡ other
  one_least Is path other one also =
      one_text path other
      (subst (λ (text : List ℕ). IsNotAfter path text) (sym also.text)
      (one.least also.whole also.is_whole also.is))
      (subst (λ (text : List ℕ). IsNotAfter other text) (sym one.text)
      (also.least one.whole one.is_whole one.is))

  module _ (stem : Stem) where
    same_cyclic : (x y : List ℕ) → Refuses stem net (Cyclic x) → Refuses stem net (Cyclic y) →
        Cyclic x ≡ Cyclic y
    same_cyclic x y a b =
        let graph = first_cyclic a.0 b.0 a.1 b.1 in
        ap Cyclic (one_name b.0 x y (subst (λ g. IsNameOf net g x) graph a.2) b.2)

    same_item : (x y : List ℕ) (n m : ℕ) → Refuses stem net (BadItem x n) →
        Refuses stem net (BadItem y m) → BadItem x n ≡ BadItem y m
    same_item x y n m a b =
        let graph = first_bad a.1.0 b.1.0 n m a.1.1 b.1.1 in
        let state = first_state b.1.0 n m (subst (λ g. IsFirstBad net g n) graph a.1.1) b.1.1 in
        let name = one_name b.1.0 x y (subst (λ g. IsNameOf net g x) graph a.1.2) b.1.2 in
        ap (λ (name : List ℕ). BadItem name n) name ∙ ap (BadItem y) state

    -- a stem is refused for one error, want of memory aside
    pub refused_once : (e f : InflectError) → e ≢ NoMemory → f ≢ NoMemory → Refuses stem net e →
        Refuses stem net f → e ≡ f
    refused_once (Cyclic x) (Cyclic y) some also a b = same_cyclic x y a b
    refused_once (Cyclic x) (BadItem y m) some also a b = absurd (b.0 a.0 a.1.cyclic)
    refused_once (Cyclic x) (StackEnd p) some also a b = absurd (b.0.acyclic a.0 a.1.cyclic)
    refused_once (Cyclic x) (BadCodes p) some also a b = absurd (b.0.clean.acyclic a.0 a.1.cyclic)
    refused_once (BadItem x n) (Cyclic y) some also a b = absurd (a.0 b.0 b.1.cyclic)
    refused_once (BadItem x n) (BadItem y m) some also a b = same_item x y n m a b
    refused_once (BadItem x n) (StackEnd p) some also a b =
        absurd (b.0.clean a.1.0 n a.1.1.bad)
    refused_once (BadItem x n) (BadCodes p) some also a b =
        absurd (b.0.clean.clean a.1.0 n a.1.1.bad)
    refused_once (StackEnd p) (Cyclic y) some also a b = absurd (a.0.acyclic b.0 b.1.cyclic)
    refused_once (StackEnd p) (BadItem y m) some also a b =
        absurd (a.0.clean b.1.0 m b.1.1.bad)
    refused_once (StackEnd p) (StackEnd q) some also a b = ap StackEnd (one_least _ p q a.1 b.1)
    refused_once (StackEnd p) (BadCodes q) some also a b =
        absurd (b.0.doable a.1.whole a.1.is_whole a.1.is)
    refused_once (BadCodes p) (Cyclic y) some also a b = absurd (a.0.clean.acyclic b.0 b.1.cyclic)
    refused_once (BadCodes p) (BadItem y m) some also a b =
        absurd (a.0.clean.clean b.1.0 m b.1.1.bad)
    refused_once (BadCodes p) (StackEnd q) some also a b =
        absurd (a.0.doable b.1.whole b.1.is_whole b.1.is)
    refused_once (BadCodes p) (BadCodes q) some also a b = ap BadCodes (one_least _ p q a.1 b.1)
    refused_once NoMemory f some also a b = absurd (some refl)
    refused_once e NoMemory some also a b = absurd (also refl)
