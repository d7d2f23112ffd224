-- The stands of a front that an index tells have all targets.
use Rattle.std.proofs.Common.{arith, ◌≡◌, ◌↔◌, ℕ, ◌+◌, ◌-◌, ◌<◌, ◌≤◌, List, [], ◌++◌, ◌⊎◌, inl, inr, sym, ◌∙◌, ap, subst, refl, true, false, ltb, leb, length, take, drop, get_or, map}
use Rattle.std.specs.Prelude.{Option, Some, None, IsSomeAnd, slice_get, Contains}
use Rattle.std.specs.List.Sorted.{IsNonDecreasingBy, IsPartitionPoint, IsPermutation}
use Rattle.std.proofs.lemmas.List.Sorted.{Contains-permutation, IsPermutation-sym}
use Rattle.std.proofs.lemmas.Bool.{ltb-true, leb-false}
use Rattle.std.proofs.lemmas.List.{get_or-take, get_or-drop, length-drop, length-take-le}
use Rattle.std.proofs.lemmas.List.Elements.{Contains-append_left, Contains-append_right, Contains-append_cases}
use Rattle.std.proofs.lemmas.Option.{same_Some}
use Rattle.ux_closure.specs.declared.stand.Stand.{Stand}
use Rattle.ux_base.proofs.Lists.{less_or}
use Rattle.ux_base.proofs.JoinedLists.{contains_mapped, contained_mapped}
use Rattle.ux_net.specs.declared.label.Label.{Label}
use Rattle.ux_net.specs.declared.label.Label.TheVariants as label
use Rattle.ux_outputs.specs.Rendering.{skip}
use Rattle.ux_meaning.specs.Texts.{FoldsTo}
use Rattle.ux_tokens.specs.declared.kind.Kind.{Kind}
use Rattle.ux_tokens.specs.Numbers.{different_texts}
use Rattle.ux_tokens.specs.Tokens.{Token}
use Rattle.ux_walk.specs.declared.config.Frame.{Frame}
use Rattle.ux_walk.specs.Literals.{FitsText, IsLiteral}
use Rattle.ux_automaton.specs.declared.front_index.Fitting.{Fitting}
use Rattle.ux_automaton.specs.declared.front_index.FrontIndex.{FrontIndex}
use Rattle.ux_automaton.specs.declared.front_indexes.FrontIndexes.{FrontIndexes}
use Rattle.ux_mask_table.specs.declared.masked_text.MaskedText.{MaskedText}
use Rattle.ux_automaton.specs.declared.target.Target.{Target}
use Rattle.ux_automaton.specs.FrontIndexes.{AreFrontsIndexed, AreLikely, FitsOver, HasOther, IsFrontIndex, number_of, stand_of}
use Rattle.ux_automaton.specs.Caches.{IsNumbered}
use Rattle.ux_automaton.specs.Fronts.{Store, HasStand, HoldsIn, IsFrontIn}
use Rattle.ux_automaton.specs.Kept.{Grows, IsSound}
use Rattle.ux_walk.specs.Settings.{masked_setting}
use Rattle.ux_automaton.specs.Onwards.{LeadOnlyTo}
use Rattle.ux_automaton.specs.Targets.{IsEdgeOf, IsTarget, Takes}
use Rattle.ux_automaton.proofs.AddingLemmas.{nothing_in}
use Rattle.ux_automaton.proofs.StoreLemmas.{front_kept, has_kept}

-- what stands between two places of a list stands in the list
pub run_among : (fittings : List Fitting) (start count : ℕ) (fitting : Fitting) →
    count ≤ length (drop start fittings) → Contains (take count (drop start fittings)) fitting →
    Contains fittings fitting
run_among fittings start count fitting inside (k, lt, at) =
    let long = length-take-le count (drop start fittings) inside in
    let rest = length-drop start fittings in
    let within : k < count = omega (arith, lt, long) in (
      start + k,
      omega (arith, within, inside, rest),
      sym (get_or-drop start fittings k fitting)
          ∙ (sym (get_or-take count (drop start fittings) k fitting within) ∙ at),
    )

-- in a list that is in order, those of a number stand between two places
pub run_has : (fittings : List Fitting) (start count number : ℕ) (fitting : Fitting) →
    number_of fitting ≡ number →
    IsPartitionPoint (λ f. ltb (number_of f) number ≡ true) (λ f. ltb (number_of f) number ≡ false)
    fittings start →
    IsPartitionPoint (λ f. leb (number_of f) number ≡ true) (λ f. leb (number_of f) number ≡ false)
    (drop start fittings) count → count ≤ length (drop start fittings) → Contains fittings fitting →
    Contains (take count (drop start fittings)) fitting
run_has fittings start count number fitting is first second inside (k, lt, at) =
    elim (less_or k start) [
      | inl before ↦
          let less = ltb-true (number_of (get_or fittings k fitting)) number
          (first.0 k fitting (omega arith) before) in
          let same : number_of (get_or fittings k fitting) ≡ number = ap number_of at ∙ is in
          absurd (omega (arith, less, same))
      | inr behind ↦ elim (less_or (k - start) count) [
        | inl within ↦ (
          k - start,
          (let long = length-take-le count (drop start fittings) inside in omega
              (arith, within, long)),
          get_or-take count (drop start fittings) (k - start) fitting within ∙ there behind,
        )
        | inr past ↦
            let long = length-drop start fittings in
            let more = leb-false (number_of (get_or (drop start fittings) (k - start) fitting))
            number
            (second.1 (k - start) fitting past (omega (arith, long, lt, behind))) in
            let same : number_of (get_or (drop start fittings) (k - start) fitting) ≡ number =
            ap number_of (there behind) ∙ is in
            absurd (omega (arith, more, same))
      ]
    ]
  where
    there : start ≤ k → get_or (drop start fittings) (k - start) fitting ≡ fitting
    there behind =
        let sum : start + (k - start) ≡ k = omega (arith, behind) in
        get_or-drop start fittings (k - start) fitting
        ∙ (ap (λ (n : ℕ). get_or fittings n fitting) sum ∙ at)

module _ (masked : MaskedText) (text : List ℕ) (IsThere : Stand → Type 0) where
  -- those of the token's number and those that have another edge are enough
  pub index_likely : (index : FrontIndex) → IsFrontIndex masked IsThere index → (number : ℕ) →
      slice_get (different_texts masked.text.now) number ≡ Some text → (run : List Fitting) →
      ((fitting : Fitting) → Contains run fitting → Contains index.fittings.items fitting) →
      ((fitting : Fitting) → fitting.number ≡ number → Contains index.fittings.items fitting →
      Contains run fitting) →
      AreLikely masked text IsThere (map stand_of run ++ index.others.items)
  index_likely index is number numbered run among all = record {
    among = λ stand inside.
        elim (Contains-append_cases (map stand_of run) index.others.items stand inside) [
          | inl fits ↦
              let from = contained_mapped stand_of run stand fits in
              let told = (is.fittings from.0).0 (among from.0 from.1) in
              subst IsThere (sym told.2.2.1 ∙ from.2) told.1
          | inr other ↦
              let told = (is.others stand).0 other in
              subst IsThere (sym told.2.0) told.1
        ];
    enough = λ stand inside edge of may. elim may [
      | inl fits ↦ Contains-append_left (map stand_of run) index.others.items stand
          (contains_mapped stand_of run (record { number = number; stand = stand })
          (all (record { number = number; stand = stand }) refl
          ((is.fittings (record { number = number; stand = stand })).1
          (stand, inside, (edge, of, ((text, numbered, fits), refl))))))
      | inr other ↦ Contains-append_right (map stand_of run) index.others.items stand
          ((is.others stand).1 (stand, inside, (refl, (edge, of, other))))
    ];
  }

-- a label that takes tokens is a literal that fits the first, or no literal
module _ (masked : MaskedText) (p k : ℕ) (token : Token)
    (there : slice_get masked.text.now (skip masked.text.now p) ≡ Some token) where
  takes_likely : (x : Label) → Takes (masked_setting masked) x p k →
      FitsText masked.alphabet.now x token.text ⊎ (IsLiteral x → ⊥)
  takes_likely (label.CaseFolded entry) (plain, t) = inl
      (subst (λ (x : Token). FoldsTo masked.alphabet.now entry x)
      (same_Some t.0 token (sym t.1 ∙ there)) t.2.1)
  takes_likely (label.CaseExact exact) (plain, t) = inl
      (subst (λ (x : Token). x.text ≡ exact) (same_Some t.0 token (sym t.1 ∙ there)) t.2.1)
  takes_likely _ takes = inr (λ no. no)

-- the likely stands have the targets of all
module _ (masked : MaskedText) (p : ℕ) (IsThere : Stand → Type 0) (few : List Stand) where
  same_targets : (token : Token) →
      slice_get masked.text.now (skip masked.text.now p) ≡ Some token →
      AreLikely masked token.text IsThere few → (target : Target) →
      IsTarget (masked_setting masked) p (Contains few) target
      ↔ IsTarget (masked_setting masked) p IsThere target
  same_targets token there likely target = (
    λ (stand, inside, edge, of, over). (stand, likely.among stand inside, edge, of, over),
    λ (stand, inside, edge, of, over). (
      stand,
      likely.enough stand inside edge of
          (takes_likely masked p target.at token there edge.label over.0),
      edge,
      of,
      over,
    ),
  )

  pub likely_targets : (place number : ℕ) → place ≡ skip masked.text.now p →
      IsSomeAnd (slice_get masked.text.now place)
      (λ token. slice_get (different_texts masked.text.now) number ≡ Some token.text) →
      ((text : List ℕ) → slice_get (different_texts masked.text.now) number ≡ Some text →
      AreLikely masked text IsThere few) → (target : Target) →
      IsTarget (masked_setting masked) p (Contains few) target
      ↔ IsTarget (masked_setting masked) p IsThere target
  likely_targets place number is numbered likely target =
      go (slice_get masked.text.now place) refl numbered
    where
      go : (o : Option Token) → slice_get masked.text.now place ≡ o → IsSomeAnd o
          (λ token. slice_get (different_texts masked.text.now) number ≡ Some token.text) →
          IsTarget (masked_setting masked) p (Contains few) target
          ↔ IsTarget (masked_setting masked) p IsThere target
      go None there text = absurd text
      go (Some token) there text =
          same_targets token (ap (slice_get masked.text.now) (sym is) ∙ there)
          (likely token.text text) target

-- where no stand is likely, nothing leads over the token
pub none_likely : (masked : MaskedText) (store : Store) (front number p : ℕ) (kind : Kind) →
    IsNumbered masked.text.now (skip masked.text.now p) number kind →
    ((text : List ℕ) → slice_get (different_texts masked.text.now) number ≡ Some text →
    AreLikely masked text (HasStand store front) []) →
    LeadOnlyTo (masked_setting masked) store (HoldsIn store front) p 0
none_likely masked store front number p kind (token, at, is, text) likely k stack
    (f, fs, (stand, has, (here, names)), edge, of, takes, same) =
    absurd (nothing_in ((likely token.text text).enough stand has edge
    (subst (λ (x : Frame). IsEdgeOf masked.net.now x edge) (sym here) of)
    (takes_likely masked p k token at edge.label takes)))

-- the index of these stands is right
pub index_made : (masked : MaskedText) (stands : List Stand) (fittings : List Fitting)
    (index : FrontIndex) → IsPermutation fittings index.fittings.items →
    ((fitting : Fitting) → Contains fittings fitting
    ↔ ((stand : Stand) × Contains stands stand × FitsOver masked stand fitting)) →
    IsNonDecreasingBy number_of index.fittings.items →
    ((other : Stand) → Contains index.others.items other
    ↔ ((stand : Stand) × Contains stands stand
    × ((other ≡ stand) × HasOther masked.net.now stand))) →
    IsFrontIndex masked (Contains stands) index
index_made masked stands fittings index moved fits ordered others = record {
  ordered = ordered;
  fittings = λ fitting. (
    λ h. (fits fitting).0 (Contains-permutation index.fittings.items fittings fitting
        (IsPermutation-sym fittings index.fittings.items moved) h),
    λ h. Contains-permutation fittings index.fittings.items fitting moved ((fits fitting).1 h),
  );
  others = others;
}

-- the index of the same stands
pub index_by : (masked : MaskedText) (A B : Stand → Type 0) → ((stand : Stand) → A stand ↔ B stand) →
    (index : FrontIndex) → IsFrontIndex masked A index → IsFrontIndex masked B index
index_by masked A B same index right = record {
  ordered = right.ordered;
  fittings = λ fitting. (
    λ h. let told = (right.fittings fitting).0 h in (told.0, (same told.0).0 told.1, told.2),
    λ h. (right.fittings fitting).1 (h.0, (same h.0).1 h.1, h.2),
  );
  others = λ other. (
    λ h. let told = (right.others other).0 h in (told.0, (same told.0).0 told.1, told.2),
    λ h. (right.others other).1 (h.0, (same h.0).1 h.1, h.2),
  );
}

-- one index more
pub one_index : (masked : MaskedText) (store : Store) (old new : FrontIndexes) (front : ℕ)
    (index : FrontIndex) → IsFrontIn store front → IsFrontIndex masked (HasStand store front) index →
    new.words ≡ old.words → ((f : ℕ) (i : FrontIndex) → Contains new.indexes.entries (f, i) →
    Contains old.indexes.entries (f, i) ⊎ ((f ≡ front) × (i ≡ index))) →
    AreFrontsIndexed masked store old → AreFrontsIndexed masked store new
one_index masked store old new front index there right same more sound = record {
  ready = λ words is. sound.ready words (sym same ∙ is);
  indexes = λ f i inside. elim (more f i inside) [
    | inl before ↦ sound.indexes f i before
    | inr this ↦ (
      subst (IsFrontIn store) (sym this.0) there,
      subst (λ n. IsFrontIndex masked (HasStand store n) i) (sym this.0)
          (subst (IsFrontIndex masked (HasStand store front)) (sym this.1) right),
    )
  ];
}

-- the indexes stay right as the store grows
pub indexes_kept : (masked : MaskedText) (old new : Store) (known : FrontIndexes) → IsSound old →
    Grows old new → AreFrontsIndexed masked old known → AreFrontsIndexed masked new known
indexes_kept masked old new known sound grows right = record {
  ready = right.ready;
  indexes = λ front index inside.
      let is = right.indexes front index inside in (
        front_kept old new sound grows front is.0,
        index_by masked (HasStand old front) (HasStand new front)
            (has_kept old new sound grows front is.0) index is.1,
      );
}

-- all stands are enough
pub all_likely : (masked : MaskedText) (text : List ℕ) (IsThere : Stand → Type 0)
    (stands : List Stand) → ((stand : Stand) → Contains stands stand ↔ IsThere stand) →
    AreLikely masked text IsThere stands
all_likely masked text IsThere stands same = record {
  among = λ stand inside. (same stand).0 inside;
  enough = λ stand inside edge of may. (same stand).1 inside;
}
