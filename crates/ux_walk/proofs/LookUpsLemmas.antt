-- Places that are enough leave out no course, and what is kept stays right where an index is added.
use Rattle.std.proofs.Common.{◌≡◌, ℕ, List, [], ◌∷◌, ◌++◌, ◌⊎◌, ◌↔◌, inl, inr, refl, reverse, sym, ◌∙◌, ap, subst, Bool, true, false, cond, Bor}
use Rattle.std.specs.Prelude.{Option, Some, None, Result, Ok, Err, slice_get, Contains, IfSome, IsSomeAnd, OnOk, OnErr, option_copied}
use Rattle.std.specs.Map.{lookup}
use Rattle.std.proofs.lemmas.Option.{same_Some, slice_get_within, slice_get-get_or, get_or_from_slice_get}
use Rattle.std.proofs.lemmas.List.Elements.{Contains-get_or}
use Rattle.indexmap.specs.IndexMap.{insert_entry}
use Rattle.ux_alphabet.specs.Letters.{Letters}
use Rattle.ux_tokens.specs.Tokens.{Token}
use Rattle.ux_lexical_tables.specs.Tables.{Tables}
use Rattle.ux_net.specs.declared.label.Label.{Label}
use Rattle.ux_net.specs.declared.label.Label.TheVariants.{CaseFolded, CaseExact, Call}
use Rattle.ux_net.specs.declared.state.Edge.{Edge}
use Rattle.ux_net.specs.declared.state.State.{State}
use Rattle.ux_net.specs.declared.net_graph.NetGraph.{NetGraph}
use Rattle.ux_net.specs.Nets.{states_of}
use Rattle.ux_base.proofs.Lists.{first_or_later, contains_first, contains_later}
use Rattle.ux_outputs.specs.Rendering.{skip}
use Rattle.ux_meaning.specs.Texts.{FoldsTo}
use Rattle.ux_walk.specs.declared.config.Frame.{Frame}
use Rattle.ux_walk.specs.declared.config.Config.{Config}
use Rattle.ux_outputs.specs.declared.event.Event.{Event}
use Rattle.ux_walk.specs.declared.reached.Reached.{Reached}
use Rattle.ux_walk.specs.declared.edge_index.EdgeIndex.{EdgeIndex}
use Rattle.ux_walk.specs.declared.look_ups.LookUps.{LookUps}
use Rattle.ux_walk.specs.Contexts.{Applying}
use Rattle.ux_walk.specs.Courses.{Course, IsBehind, IsOverSome, IsOverSomeAt, put_events}
use Rattle.ux_walk.specs.Configurations.{AddsFrom}
use Rattle.ux_walk.specs.EdgeIndexes.{IsIndexOf}
use Rattle.ux_walk.specs.LookUps.{Refuses, AreEnough, AreSound, IsKept}
use Rattle.ux_walk.proofs.Adding.{adds_of}

module _ {K V : Type 0} (eq : K → K → Bool) (key : K) where
  -- what is found at a key is an entry of it
  found_at : (same : (k : K) → eq key k ≡ true → k ≡ key) (es : List (K × V)) (v : V) →
      lookup (eq key) es ≡ Some v → Contains es (key, v)
  found_at same [] v h = cc
  found_at same (e ∷ es) v h = by (eq key e.0) refl (found_at same es v)
    where
      by : (b : Bool) → eq key e.0 ≡ b →
          (lookup (eq key) es ≡ Some v → Contains es (key, v)) → Contains (e ∷ es) (key, v)
      by true is rest =
          let value : e.1 ≡ v = same_Some e.1 v
          (sym (ap (λ c. cond c (Some e.1) (lookup (eq key) es)) is) ∙ h) in
          subst (λ (x : K × V). Contains (e ∷ es) x)
          (ap (λ (k : K). (k, e.1)) (same e.0 is) ∙ ap (λ (x : V). (key, x)) value)
          (contains_first e es)
      by false is rest = contains_later e es (key, v) (rest
          (sym (ap (λ c. cond c (Some e.1) (lookup (eq key) es)) is) ∙ h))

module _ {K V : Type 0} (eq : K → K → Bool) (key : K)
    (same : (a b : K) → eq a b ≡ true → a ≡ b) where
  pub looked_up : (es : List (K × V)) (r : Option (Bor V)) →
      option_copied r ≡ lookup (eq key) es → IfSome r (λ value. Contains es (key, value.now))
  looked_up es None h = tt
  looked_up es (Some value) h = found_at eq key (λ k e. sym (same key k e)) es value.now (sym h)

  pub is_put : (es : List (K × V)) (value : V) → lookup (eq key) es ≡ Some value →
      Contains es (key, value)
  is_put es value h = found_at eq key (λ k e. sym (same key k e)) es value h

  -- an entry after one is put at the key was there, or is that one
  put_entry : (value : V) (es : List (K × V)) (k : K) (v : V) →
      Contains (insert_entry eq es key value) (k, v) →
      Contains es (k, v) ⊎ ((k ≡ key) × (v ≡ value))
  put_entry value [] k v h = elim (first_or_later (key, value) [] (k, v) h) [
    | inl e ↦ inr (sym (ap (λ (x : K × V). x.0) e), sym (ap (λ (x : K × V). x.1) e))
    | inr n ↦ inl n
  ]
  put_entry value (e ∷ es) k v h = by (eq key e.0) refl (put_entry value es k v)
    where
      by : (b : Bool) → eq key e.0 ≡ b → (Contains (insert_entry eq es key value) (k, v) →
          Contains es (k, v) ⊎ ((k ≡ key) × (v ≡ value))) →
          Contains (e ∷ es) (k, v) ⊎ ((k ≡ key) × (v ≡ value))
      by true is rest = elim (first_or_later (e.0, value) es (k, v)
          (subst (λ (l : List (K × V)). Contains l (k, v))
          (ap (λ c. cond c ((e.0, value) ∷ es) (e ∷ insert_entry eq es key value)) is) h)) [
            | inl f ↦ inr (
              sym (ap (λ (x : K × V). x.0) f) ∙ sym (same key e.0 is),
              sym (ap (λ (x : K × V). x.1) f),
            )
            | inr l ↦ inl (contains_later e es (k, v) l)
          ]
      by false is rest = elim (first_or_later e (insert_entry eq es key value) (k, v)
          (subst (λ (l : List (K × V)). Contains l (k, v))
          (ap (λ c. cond c ((e.0, value) ∷ es) (e ∷ insert_entry eq es key value)) is) h)) [
            | inl f ↦ inl (subst (λ (x : K × V). Contains (e ∷ es) x) f (contains_first e es))
            | inr l ↦ elim (rest l) [
              | inl old ↦ inl (contains_later e es (k, v) old)
              | inr new ↦ inr new
            ]
          ]

  pub one_more : {A E : Type 0} (value : V) (old new : List (K × V)) (r : Result A E) →
      OnOk r (new ≡ insert_entry eq old key value) → OnErr r (new ≡ old) → (k : K) (v : V) →
      Contains new (k, v) → Contains old (k, v) ⊎ ((k ≡ key) × (v ≡ value))
  one_more value old new (Ok x) is err k v h =
      put_entry value old k v (subst (λ (l : List (K × V)). Contains l (k, v)) is h)
  one_more value old new (Err e) ok is k v h =
      inl (subst (λ (l : List (K × V)). Contains l (k, v)) is h)

module _ (alphabet : Letters) (tokens : List Token) (tables : Tables) (applies : Applying)
    (fs : List Frame) (i : ℕ) where
  -- a label that refuses the token's text leads nowhere
  refused : (before : List Event) (label : Label) (token : Token) →
      slice_get tokens (skip tokens i) ≡ Some token →
      Refuses alphabet label token.text → (f : Frame) (w : Course) →
      IsBehind alphabet tokens tables applies label f fs i before w → ⊥
  refused before (CaseFolded entry) token at refuses f w b = elim b [
    | inl t ↦ refuses.1 (subst (λ (x : Token). FoldsTo alphabet entry x)
        (same_Some t.1.1.0 token (sym t.1.1.1 ∙ at)) t.1.1.2.1)
    | inr o ↦ elim o [
      | inl s ↦ s.0
      | inr h ↦ elim h [
        | inl g ↦ let no : CaseFolded entry ≡ Call g.0 = g.1 in cc
        | inr g ↦ let mark = g.1.1 in cc
      ]
    ]
  ]
  refused before (CaseExact exact) token at refuses f w b = elim b [
    | inl t ↦ refuses.1 (subst (λ (x : Token). x.text ≡ exact)
        (same_Some t.1.1.0 token (sym t.1.1.1 ∙ at)) t.1.1.2.1)
    | inr o ↦ elim o [
      | inl s ↦ s.0
      | inr h ↦ elim h [
        | inl g ↦ let no : CaseExact exact ≡ Call g.0 = g.1 in cc
        | inr g ↦ let mark = g.1.1 in cc
      ]
    ]
  ]
  refused before other token at refuses f w b = absurd refuses.0

  -- the edges at places that are enough lead where all edges lead
  same_courses : (before : List Event) (f : Frame) (edges : List Edge) (places : List ℕ)
      (token : Token) →
      slice_get tokens (skip tokens i) ≡ Some token →
      AreEnough alphabet token.text edges places → (w : Course) →
      IsOverSomeAt alphabet tokens tables applies f fs i before edges places w
      ↔ IsOverSome alphabet tokens tables applies f fs i before edges w
  same_courses before f edges places token there enough w = (
    λ (n, inside, (edge, at, over)). (
      edge,
      subst (Contains edges) (get_or_from_slice_get edges n edge edge at)
          (Contains-get_or edges n edge (slice_get_within edges n edge at)),
      over,
    ),
    λ (edge, inside, over).
        let at : slice_get edges inside.0 ≡ Some edge =
        slice_get-get_or edges inside.0 edge inside.1 ∙ ap (λ (x : Edge). Some x) inside.2 in
        elim (enough inside.0 edge at) [
          | inl listed ↦ (inside.0, listed, (edge, at, over))
          | inr refuses ↦ absurd (refused (reverse (put_events edge.output) ++ before) edge.label
              token there refuses
              (record { graph = f.graph; state = edge.target }) w over)
        ],
  )

module _ (alphabet : Letters) (edges : List Edge) (places : List ℕ) where
  -- a token is there, and the places are enough for its text
  abbrev pub AreEnoughFor : Option Token → Type 0
  AreEnoughFor o = IsSomeAnd o (λ token. AreEnough alphabet token.text edges places)

  pub adds_listed : (tokens : List Token) (tables : Tables) (applies : Applying) (position : ℕ)
      (old new : Reached) (c : Config) →
      position ≡ skip tokens c.at → AreEnoughFor (slice_get tokens position) →
      AddsFrom old new c (λ before.
      IsOverSomeAt alphabet tokens tables applies c.here [] c.at before edges places) →
      AddsFrom old new c (λ before.
      IsOverSome alphabet tokens tables applies c.here [] c.at before edges)
  adds_listed tokens tables applies position old new c is enough adds =
      go (slice_get tokens position) refl enough
    where
      go : (o : Option Token) → slice_get tokens position ≡ o → AreEnoughFor o →
          AddsFrom old new c (λ before.
          IsOverSome alphabet tokens tables applies c.here [] c.at before edges)
      go None there enough = absurd enough
      go (Some token) there enough = λ v before sound spells.
          adds_of v (IsOverSomeAt alphabet tokens tables applies c.here [] c.at before edges
          places)
          (IsOverSome alphabet tokens tables applies c.here [] c.at before edges) old new
          (adds v before sound spells)
          (same_courses alphabet tokens tables applies [] c.at before c.here edges places token
          (ap (slice_get tokens) (sym is) ∙ there) enough)

  -- places by an index that is kept are enough for the token
  pub kept_enough : (texts : List (List ℕ)) (index : EdgeIndex) →
      IsIndexOf alphabet texts edges index →
      (number : ℕ) (o : Option Token) →
      IsSomeAnd o (λ token. slice_get texts number ≡ Some token.text) →
      ((text : List ℕ) → slice_get texts number ≡ Some text → IsIndexOf alphabet texts edges index →
      AreEnough alphabet text edges places) → AreEnoughFor o
  kept_enough texts index is number None numbered enough = absurd numbered
  kept_enough texts index is number (Some token) numbered enough = enough token.text numbered is

-- the index of a state's edges may be kept
pub sound_more : (alphabet : Letters) (net : List NetGraph) (texts : List (List ℕ)) (frame : Frame)
    (state : State) → slice_get (states_of net frame.graph) frame.state ≡ Some state →
    (index : EdgeIndex) → IsIndexOf alphabet texts state.edges index → (old new : LookUps) →
    new.words ≡ old.words →
    ((other : Frame) (kept : EdgeIndex) → IsKept new other kept →
    IsKept old other kept ⊎ ((other ≡ frame) × (kept ≡ index))) →
    AreSound alphabet net texts old → AreSound alphabet net texts new
sound_more alphabet net texts frame state found index is old new same more sound = record {
  ready = λ words there. sound.ready words (sym same ∙ there);
  indexes = λ other kept inside there at. elim (more other kept inside) [
    | inl before ↦ sound.indexes other kept before there at
    | inr this ↦
        let same_state : state ≡ there = same_Some state there (sym found
        ∙ (ap (λ (f : Frame). slice_get (states_of net f.graph) f.state) (sym this.0) ∙ at)) in
        subst (λ (i : EdgeIndex). IsIndexOf alphabet texts there.edges i) (sym this.1)
        (subst (λ (s : State). IsIndexOf alphabet texts s.edges index) same_state is)
  ];
}
