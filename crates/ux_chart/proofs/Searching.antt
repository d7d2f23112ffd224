-- A list that grows at its end by what is new.
use Rattle.std.proofs.Common.{◌≡◌, ℕ, ◌+◌, ◌<◌, ◌≤◌, List, [], ◌∷◌, ◌++◌, ◌↔◌, ◌⊎◌, inl, inr, refl, sym, ap, subst, ◌∙◌, length, take, get_or, Bool, true, false, cond}
use Rattle.std.specs.Prelude.{Contains, IfSome, None, Option, Some, slice_get}
use Rattle.std.specs.Cmp.{IsEquivalence}
use Rattle.std.specs.List.{list_any, IsDistinct}
use Rattle.std.proofs.lemmas.Map.Made.{length-le_from_is_member, is_member-Decides}
use Rattle.std.proofs.lemmas.Option.{none-some, same_Some, slice_get-get_or}
use Rattle.std.proofs.lemmas.List.{take_more}
use Rattle.std.proofs.lemmas.List.Elements.{Contains-append_left, Contains-append_right, Contains-push, Contains-push_cases}
use Rattle.indexmap.specs.IndexSet.{insert_key}
use Rattle.indexmap.proofs.CallerLemmas.{Contains-list_any}
use Rattle.ux_net.specs.declared.state.Edge.{Edge}
use Rattle.ux_net.specs.declared.state.State.{State}
use Rattle.ux_net.specs.declared.net_graph.NetGraph.{NetGraph}
use Rattle.ux_net.specs.Nets.{net_grammar, states_of}
use Rattle.ux_base.proofs.Lists.{nothing_in, contains_first, first_or_later}
use Rattle.ux_meaning.specs.Inputs.{Input}
use Rattle.ux_parts.specs.Runs.{NextBy}
use Rattle.ux_chart.specs.declared.config.Config.{Config}
use Rattle.ux_chart.specs.Search.{GoesTo, Adds}
use Rattle.ux_chart.specs.Places.{AreEnough, Follows, Refuses, SomeFollows, SomeFollowsAt}
use Rattle.ux_net.specs.declared.label.Label.{Label}
use Rattle.ux_net.specs.declared.label.Label.TheVariants as label
use Rattle.ux_base.proofs.DistinctLemmas.{slice_get-append}
use Rattle.ux_base.proofs.FirstsLemmas.{Contains-from_place}

-- what is so of a value that is there
pub at_some : {A : Type 0} (o : Option A) (x : A) (P : A → Type 0) → o ≡ Some x → IfSome o P → P x
at_some None x P is h = absurd (none-some x is)
at_some (Some y) x P is h = subst P (same_Some y x is) h

module _ (input : Input) (net : List NetGraph) (levels g : ℕ) (v : Config) (state : State)
    (here : Some state ≡ slice_get (states_of net g) v.state) (edges : List Edge)
    (is : edges ≡ state.edges) where
  goes : (edge : Edge) → Contains edges edge → (w : Config) →
      Follows input net levels g v edge w → GoesTo input net levels g v w
  goes edge inside w follows = record {
    state = state;
    found = sym here;
    edge = edge;
    inside = subst (λ (l : List Edge). Contains l edge) is inside;
    leads = follows;
  }

  goes_over : (w : Config) → (t : GoesTo input net levels g v w) → Contains edges t.edge
  goes_over w t =
      let same : t.state ≡ state = same_Some t.state state (sym t.found ∙ sym here) in
      subst (λ (l : List Edge). Contains l t.edge) (sym is)
      (subst (λ (s : State). Contains s.edges t.edge) same t.inside)

  -- what is behind some edge is where the configuration goes to
  pub expanded : (old found : List Config) → old ≡ [] →
      ((w : Config) → Contains found w
      ↔ (Contains old w ⊎ SomeFollows input net levels g v edges w)) →
      (w : Config) → Contains found w ↔ GoesTo input net levels g v w
  expanded old found none all w = (
    λ h. elim ((all w).0 h) [
      | inl n ↦ absurd (nothing_in (subst (λ (l : List Config). Contains l w) none n))
      | inr (edge, inside, follows) ↦ goes edge inside w follows
    ],
    λ t. (all w).1 (inr (t.edge, goes_over w t, t.leads)),
  )

  -- a label that refuses leads nowhere
  refuses_all : (x : Label) (i to b k : ℕ) → Refuses input x i →
      NextBy input (net_grammar net) levels g x to i b k → ⊥
  refuses_all (label.CaseFolded text) i to b k refuses (same, inl t) = refuses k t
  refuses_all (label.CaseFolded text) i to b k refuses (same, inr s) = absurd s.2
  refuses_all (label.CaseExact text) i to b k refuses (same, inl t) = refuses k t
  refuses_all (label.CaseExact text) i to b k refuses (same, inr s) = absurd s.2
  refuses_all x i to b k refuses next = absurd refuses

  -- so it is where the places are enough
  pub expanded_at : (places : List ℕ) → AreEnough input edges places v.at →
      (old found : List Config) → old ≡ [] →
      ((w : Config) → Contains found w
      ↔ (Contains old w ⊎ SomeFollowsAt input net levels g v edges places w)) →
      (w : Config) → Contains found w ↔ GoesTo input net levels g v w
  expanded_at places enough old found none all w = (
    λ h. elim ((all w).0 h) [
      | inl n ↦ absurd (nothing_in (subst (λ (l : List Config). Contains l w) none n))
      | inr (place, listed, over) ↦
          goes over.0 (Contains-from_place edges place over.0 over.1) w over.2
    ],
    λ t.
        let inside = goes_over w t in
        let place = inside.0 in
        let there : slice_get edges place ≡ Some t.edge =
        slice_get-get_or edges place t.edge inside.1 ∙ ap Some inside.2 in
        elim (enough place t.edge there) [
          | inl listed ↦ (all w).1 (inr (place, listed, (t.edge, there, t.leads)))
          | inr refuses ↦ absurd (refuses_all t.edge.label v.at t.edge.target w.state w.at refuses
              t.leads)
        ],
  )

module _ {T : Type 0} (eq : T → T → Bool) (exact : (a b : T) → (eq a b ≡ true) ↔ (a ≡ b)) where
  -- one is added, if it is new
  pub added_one : (now new : List T) (k : T) → new ≡ insert_key eq now k → Adds now (k ∷ []) new
  added_one now new k made = by (list_any (eq k) now) refl
    where
      by : (b : Bool) → list_any (eq k) now ≡ b → Adds now (k ∷ []) new
      by true e =
          let n : new ≡ now = made ∙ ap (λ c. cond c now (now ++ k ∷ [])) e in
          subst (λ (l : List T). Adds now (k ∷ []) l) (sym n) (record {
            only = λ w h. inl h;
            each = λ w h. elim (first_or_later k [] w h) [
              | inl f ↦ subst (λ (v : T). Contains now v) f
                  (Contains-list_any eq (λ a b. (exact a b).0) now k e)
              | inr f ↦ absurd (nothing_in f)
            ];
            kept = λ j w h. h;
          })
      by false e =
          let n : new ≡ now ++ k ∷ [] = made ∙ ap (λ c. cond c now (now ++ k ∷ [])) e in
          subst (λ (l : List T). Adds now (k ∷ []) l) (sym n) (record {
            only = λ w h. elim (Contains-push_cases now k w h) [
              | inl o ↦ inl o
              | inr f ↦ inr (subst (λ (v : T). Contains (k ∷ []) v) f (contains_first k []))
            ];
            each = λ w h. elim (first_or_later k [] w h) [
              | inl f ↦ subst (λ (v : T). Contains (now ++ k ∷ []) v) f (Contains-push now k)
              | inr f ↦ absurd (nothing_in f)
            ];
            kept = λ j w h. slice_get-append now (k ∷ []) j w h;
          })

  -- no more stand in a list without repeats than in one that has all of them
  pub bounded : IsEquivalence eq → (keys all : List T) → IsDistinct eq keys →
      ((x : T) → Contains keys x → Contains all x) → length keys ≤ length all
  bounded laws keys all distinct inside = length-le_from_is_member laws keys all distinct
      (λ q m. (is_member-Decides exact all q).1 (inside q ((is_member-Decides exact keys q).0 m)))

module _ {T : Type 0} where
  pub kept_contained : (old new found : List T) → Adds old found new → (x : T) → Contains old x →
      Contains new x
  kept_contained old new found a x h = Contains-from_place new h.0 x
      (a.kept h.0 x (slice_get-get_or old h.0 x h.1 ∙ ap Some h.2))

  -- a list is added, and one more
  pub adds_more : (old found now new : List T) (i : ℕ) (k : T) → i < length found →
      k ≡ get_or found i k → Adds old (take i found) now → Adds now (k ∷ []) new →
      Adds old (take (i + 1) found) new
  adds_more old found now new i k inside is a one =
      let more : take (i + 1) found ≡ take i found ++ k ∷ [] = take_more found i k inside
      ∙ ap (λ (x : T). take i found ++ x ∷ []) (sym is) in
      subst (λ (l : List T). Adds old l new) (sym more) (record {
        only = λ w h. elim (one.only w h) [
          | inl o ↦ elim (a.only w o) [
            | inl p ↦ inl p
            | inr f ↦ inr (Contains-append_left (take i found) (k ∷ []) w f)
          ]
          | inr f ↦ inr (Contains-append_right (take i found) (k ∷ []) w f)
        ];
        each = λ w h. elim (Contains-push_cases (take i found) k w h) [
          | inl f ↦ kept_contained now new (k ∷ []) one w (a.each w f)
          | inr f ↦ one.each w (subst (λ (v : T). Contains (k ∷ []) v) f (contains_first k []))
        ];
        kept = λ j w h. one.kept j w (a.kept j w h);
      })
