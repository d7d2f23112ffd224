-- The first circular link tells the first graph with a negative recursion.
use Rattle.std.proofs.Common.{arith, ◌≡◌, ℕ, ◌<◌, ◌≤◌, List, [], ◌∷◌, ◌++◌, length, ap, subst, sym, ◌∙◌, ◌⊎◌, inl, inr, ◌↔◌, map}
use Rattle.std.specs.Prelude.{Contains, All, Option, Some, None, IfSome}
use Rattle.std.proofs.lemmas.List.Elements.{All-contains_itself, All-weaker, Contains-append_left, Contains-push, Contains-push_cases}
use Rattle.ux_digraph.specs.Paths.{row_of}
use Rattle.ux_boxes.specs.declared.place.Place.{Place}
use Rattle.ux_admission.specs.declared.uses.Link.{Link}
use Rattle.ux_boxes.specs.Places.{place_grammar}
use Rattle.ux_boxes.specs.Fit.{IsFit}
use Rattle.ux_admission.specs.NegativeRecursion.{IsNegativeRecursive, IsFirstNegative, HasNoNegativeRecursion}
use Rattle.ux_boxes.specs.Numbers.{all_places}
use Rattle.ux_admission.specs.Uses.{IsLinked, AreLinks, AreLinkEdges, AreLinkNumbers, AreLevels, ends_of, IsCircular, IsFirstCircular}
use Rattle.ux_admission.proofs.LinkPaths.{linked_below, circular_recursive, recursive_circular, numbers_levels}
use Rattle.ux_base.proofs.JoinedLists.{contains_mapped, contained_mapped}

module _ (links : List Link) (numbers : List ℕ) (link : Link) where
  -- one more link that is not circular
  pub first_same : (first : Option ℕ) → IsFirstCircular links numbers first →
      (IsCircular numbers link → ⊥) → IsFirstCircular (links ++ link ∷ []) numbers first
  first_same None none never = λ other h ring. elim (Contains-push_cases links link other h) [
    | inl a ↦ none other a ring
    | inr e ↦ never (subst (IsCircular numbers) (sym e) ring)
  ]
  first_same (Some g) is never = (
    (is.0.0, Contains-append_left links (link ∷ []) is.0.0 is.0.1, is.0.2, is.0.3),
    λ other h ring. elim (Contains-push_cases links link other h) [
      | inl a ↦ is.1 other a ring
      | inr e ↦ absurd (never (subst (IsCircular numbers) (sym e) ring))
    ],
  )

  -- one more circular link
  pub first_more : (first : Option ℕ) → IsFirstCircular links numbers first →
      IsCircular numbers link → (next : ℕ) → (next ≡ link.graph) ⊎ (first ≡ Some next) →
      next ≤ link.graph → IfSome first (λ first. next ≤ first) →
      IsFirstCircular (links ++ link ∷ []) numbers (Some next)
  first_more None none ring next one least old = (
    (link, Contains-push links link, ring, elim one [ inl e ↦ sym e | inr e ↦ absurd (cc) ]),
    λ other h circular. elim (Contains-push_cases links link other h) [
      | inl a ↦ absurd (none other a circular)
      | inr e ↦ subst (λ (z : Link). next ≤ z.graph) e least
    ],
  )
  first_more (Some g) is ring next one least old = (
    elim one [
      | inl e ↦ (link, Contains-push links link, ring, sym e)
      | inr e ↦
          let same : g ≡ next = cc in (
            is.0.0,
            Contains-append_left links (link ∷ []) is.0.0 is.0.1,
            is.0.2,
            is.0.3 ∙ same,
          )
    ],
    λ other h circular. elim (Contains-push_cases links link other h) [
      | inl a ↦ let most = is.1 other a circular in omega (arith, most, old)
      | inr e ↦ subst (λ (z : Link). next ≤ z.graph) e least
    ],
  )

module _ (graphs : List (List Place)) (fit : All (IsFit (length graphs)) graphs)
    (links : List Link) (are : AreLinks graphs links) where
  -- the pairs of the links' ends are the edges
  ends_linked : (u v : ℕ) → Contains (map ends_of links) (u, v) ↔ IsLinked graphs u v
  ends_linked u v = (
    λ h.
        let l = contained_mapped ends_of links (u, v) h in (
          l.0,
          (are.exact l.0).0 l.1,
          ap (λ (p : ℕ × ℕ). p.0) l.2,
          ap (λ (p : ℕ × ℕ). p.1) l.2,
        ),
    λ l. subst (λ (p : ℕ × ℕ). Contains (map ends_of links) p)
        (ap (λ n. (n, l.0.to)) l.2 ∙ ap (λ n. (u, n)) l.3)
        (contains_mapped ends_of links l.0 ((are.exact l.0).1 l.1)),
  )

  -- each pair begins at a place
  pub ends_inside : All (λ (p : ℕ × ℕ). p.0 < all_places graphs) (map ends_of links)
  ends_inside = All-weaker (Contains (map ends_of links))
      (λ (p : ℕ × ℕ). p.0 < all_places graphs)
      (λ p h. (linked_below graphs fit p.0 p.1 ((ends_linked p.0 p.1).0 h)).0)
      (map ends_of links) (All-contains_itself (map ends_of links))

  -- the rows of these pairs
  pub link_rows_are : (rows : List (List ℕ)) → length rows ≡ all_places graphs →
      ((u v : ℕ) → Contains (row_of rows u) v ↔ Contains (map ends_of links) (u, v)) →
      AreLinkEdges graphs rows
  link_rows_are rows len exact = record {
    len = len;
    edge = λ u v. (
      λ h. (ends_linked u v).0 ((exact u v).0 h),
      λ l. (exact u v).1 ((ends_linked u v).1 l),
    );
  }

  module _ (numbers : List ℕ) (numbered : AreLinkNumbers graphs numbers) where
    -- with no circular link the numbers are levels
    pub none_levels : IsFirstCircular links numbers None → AreLevels graphs numbers
    none_levels none = numbers_levels graphs fit numbered.edges numbered.linked numbers
        numbered.components (λ link l ring. none link ((are.exact link).1 l) ring)

    -- and there is no negative recursion
    pub none_recursive : IsFirstCircular links numbers None →
        HasNoNegativeRecursion (place_grammar graphs)
    none_recursive none = λ g r.
        let l = recursive_circular graphs fit numbered.edges numbered.linked numbers
        numbered.components g r in
        none l.0 ((are.exact l.0).1 l.1) l.2

    -- the graph of the first circular link is the first with a negative recursion
    pub first_recursive : (g : ℕ) → IsFirstCircular links numbers (Some g) →
        IsFirstNegative (place_grammar graphs) g
    first_recursive g is = record {
      here = subst (λ n. IsNegativeRecursive (place_grammar graphs) n) is.0.3
          (circular_recursive graphs fit numbered.edges numbered.linked numbers
          numbered.components is.0.0 ((are.exact is.0.0).0 is.0.1) is.0.2);
      least = λ h below r.
          let l = recursive_circular graphs fit numbered.edges numbered.linked numbers
          numbered.components h r in
          let most = is.1 l.0 ((are.exact l.0).1 l.1) l.2 in
          let at = l.3 in
          omega (arith, below, most, at);
    }
