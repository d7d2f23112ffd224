-- The least text from a node is the least of those along its links.
use Rattle.std.proofs.Common.{◌≡◌, ℕ, ◌+◌, ◌<◌, List, [], ◌∷◌, ◌++◌, refl, sym, ◌∙◌, ap, subst, length, get_or, take, ◌⊎◌, inl, inr, Bool, true, None}
use Rattle.std.specs.Prelude.{Contains, Option}
use Rattle.std.proofs.lemmas.Bool.{cases_Bool, false≢true}
use Rattle.ux_base.proofs.Lists.{nothing_in, first_or_later, contains_first, contains_later, take_more}
use Rattle.ux_digraph.specs.Rules.{is_marked_at}
use Rattle.ux_inflect.specs.declared.exploring.Link.{Link}
use Rattle.ux_inflect.specs.Ways.{along_link, least_in, if_wanted_text, lesser_option, IsLeastOf, Way, stay, go, Goes, IsBest, IsBestAt}
use Rattle.ux_inflect.proofs.OrderLemmas.{least_both, least_behind, least_same, nothing_first}

-- one link more
least_push : (best : List (Option (List ℕ))) (least : Option (List ℕ)) (row : List Link) (link : Link) →
    least_in best least (row ++ link ∷ []) ≡ lesser_option (least_in best least row) (along_link best link)
least_push best least [] link = refl
least_push best least (l ∷ row) link =
    least_push best (lesser_option least (along_link best l)) row link

pub least_more : (best : List (Option (List ℕ))) (least : Option (List ℕ)) (row : List Link) (i : ℕ)
    (d : Link) → i < length row → least_in best least (take (i + 1) row)
    ≡ lesser_option (least_in best least (take i row)) (along_link best (get_or row i d))
least_more best least row i d h = ap (least_in best least) (take_more row i d h)
    ∙ least_push best least (take i row) (get_or row i d)

module _ (links : List (List Link)) (wanted : List Bool) where
  -- the texts along one of the links
  abbrev pub Along : List Link → List ℕ → Type 0
  Along row text = (link : Link) × Contains row link × ((rest : List ℕ) × (text ≡ link.text ++ rest)
      × Goes links wanted link.to rest)

  -- of a first set and the texts along the links
  least_row : (best : List (Option (List ℕ))) (row : List Link) →
      ((link : Link) → Contains row link → IsBestAt links wanted best link.to) →
      (S : List ℕ → Type 0) (least : Option (List ℕ)) → IsLeastOf S least →
      IsLeastOf (λ text. S text ⊎ Along row text) (least_in best least row)
  least_row best [] ready S least is = least_same S (λ text. S text ⊎ Along [] text) least
      (λ text s. inl s) (λ text h. elim h [ inl s ↦ s | inr a ↦ absurd (nothing_in a.1) ]) is
  least_row best (link ∷ row) ready S least is =
      let T : List ℕ → Type 0 =
      λ text. (rest : List ℕ) × (text ≡ link.text ++ rest) × Goes links wanted link.to rest in
      let first : IsLeastOf T (along_link best link) = least_behind (Goes links wanted link.to) link.text
      (get_or best link.to None) (ready link (contains_first link row)) in
      let U : List ℕ → Type 0 = λ text. S text ⊎ T text in
      least_same (λ text. U text ⊎ Along row text) (λ text. S text ⊎ Along (link ∷ row) text)
      (least_in best least (link ∷ row))
      (λ text h. elim h [
        | inl u ↦ elim u [
          | inl s ↦ inl s
          | inr t ↦ inr (link, contains_first link row, t)
        ]
        | inr a ↦ inr (a.0, contains_later link row a.0 a.1, a.2)
      ])
      (λ text h. elim h [
        | inl s ↦ inl (inl s)
        | inr a ↦ elim (first_or_later link row a.0 a.1) [
          | inl e ↦ inl (inr (
            a.2.0,
            a.2.1 ∙ ap (λ (l : Link). l.text ++ a.2.0) (sym e),
            subst (λ (l : Link). Goes links wanted l.to a.2.0) (sym e) a.2.2,
          ))
          | inr later ↦ inr (a.0, later, a.2)
        ]
      ])
      (least_row best row (λ l c. ready l (contains_later link row l c)) U
      (lesser_option least (along_link best link))
      (least_both S T least (along_link best link) is first))

  -- nothing, where the node itself is wanted
  abbrev Nothing : ℕ → List ℕ → Type 0
  Nothing u text = (text ≡ []) × (is_marked_at wanted u ≡ true)

  least_nothing : (u : ℕ) → IsLeastOf (Nothing u) (if_wanted_text (is_marked_at wanted u))
  least_nothing u = elim (cases_Bool (is_marked_at wanted u)) [
    | inl is ↦ subst (λ (b : Bool). IsLeastOf (Nothing u) (if_wanted_text b)) (sym is)
        ((refl, is), λ text h. nothing_first text)
    | inr is ↦ subst (λ (b : Bool). IsLeastOf (Nothing u) (if_wanted_text b)) (sym is)
        (λ text h. absurd (false≢true (sym is ∙ h.1)))
  ]

  goes_from : (u : ℕ) (text : List ℕ) → Goes links wanted u text →
      Nothing u text ⊎ Along (get_or links u []) text
  goes_from u text goes = by goes.way goes.is_wanted
    where
      by : {u w : ℕ} {text : List ℕ} → Way links u text w → is_marked_at wanted w ≡ true →
          Nothing u text ⊎ Along (get_or links u []) text
      by stay is = inl (refl, is)
      by (go {w = w} {rest = rest} link c way) is =
          inr (link, c, (rest, refl, record { last = w; way = way; is_wanted = is }))

  goes_to : (u : ℕ) (text : List ℕ) → Nothing u text ⊎ Along (get_or links u []) text →
      Goes links wanted u text
  goes_to u text h = elim h [
    | inl n ↦ subst (λ (t : List ℕ). Goes links wanted u t) (sym n.0)
        (record { last = u; way = stay; is_wanted = n.1 })
    | inr a ↦ (
        let goes = a.2.2 in
        subst (λ (t : List ℕ). Goes links wanted u t) (sym a.2.1)
        (record { last = goes.last; way = go a.0 a.1 goes.way; is_wanted = goes.is_wanted }))
  ]

  -- the best text of a node, where those to which its links lead have theirs
  pub best_from : (best : List (Option (List ℕ))) (u : ℕ) →
      ((link : Link) → Contains (get_or links u []) link → IsBestAt links wanted best link.to) →
      IsBest links wanted u
      (least_in best (if_wanted_text (is_marked_at wanted u)) (get_or links u []))
  best_from best u ready = least_same
      (λ text. Nothing u text ⊎ Along (get_or links u []) text) (Goes links wanted u)
      (least_in best (if_wanted_text (is_marked_at wanted u)) (get_or links u []))
      (goes_to u) (goes_from u)
      (least_row best (get_or links u []) ready (Nothing u)
      (if_wanted_text (is_marked_at wanted u)) (least_nothing u))
