-- The table of names grows by each graph's, and the first call of a name that it lacks is found.
use Rattle.std.proofs.Common.{arith, ◌≡◌, ◌≢◌, ℕ, ◌+◌, ◌<◌, ◌≤◌, List, [], ◌∷◌, ◌++◌, refl, sym, ◌∙◌, ap, subst, Bool, true, false, ◌⊎◌, inl, inr, length, get_or, map, take, String, Global, Bor, Option, None, Some}
use Rattle.std.specs.Prelude.{AllPairs, Contains, MatchOption, slice_get, string_bytes}
use Rattle.std.specs.List.{list_any}
use Rattle.std.specs.Str.{bytes_eq}
use Rattle.std.specs.Option.{option_map}
use Rattle.std.proofs.lemmas.Slice.Eq.{bytes_eq-Decides}
use Rattle.std.proofs.lemmas.List.{length-map, take_more, take_all, map-append, length-take-le, get_or-take, get_or_default, get_or-map}
use Rattle.std.proofs.lemmas.Option.{slice_get_cases, slice_get-map, slice_get_read, slice_get_within, slice_get_past, get_or_from_slice_get, slice_get-get_or}
use Rattle.indexmap.proofs.CallerLemmas.{Contains-list_any}
use Rattle.ux_base.specs.Distinct.{AreFirsts, with_text, StandOnce}
use Rattle.ux_base.proofs.FirstTextsLemmas.{first_of_firsts}
use Rattle.ux_boxes.specs.Boxes.{Drawn, names_of}
use Rattle.ux_boxes.specs.Missing.{AreThere, IsFirstLacking}
use Rattle.ux_boxes.specs.Refusing.{drawn_of, drawn, calls_of, calls_in, AreCalled, AreWhole, IsFirstMissing}
use Rattle.ux_base.proofs.Lists.{less_or, nothing_in}
use Rattle.ux_base.proofs.JoinedLists.{contained_mapped}
use Rattle.ux_boxes.proofs.RefusingLemmas.{Given}

abbrev names_given : List Given → List (List ℕ)
names_given graphs = names_of (drawn graphs)

-- the names differ
abbrev pub Differ : List Given → Type 0
Differ graphs = AllPairs (λ (a b : Given). string_bytes a.0 ≢ string_bytes b.0) graphs

-- a name that is given comes from a graph
from_graph : (graphs : List Given) (name : List ℕ) → Contains (names_given graphs) name →
    (x : Given) × Contains graphs x × (string_bytes x.0 ≡ name)
from_graph graphs name h =
    let d = contained_mapped (λ (d : Drawn). d.name) (drawn graphs) name h in
    let x = contained_mapped drawn_of graphs d.0 d.1 in
    (x.0, x.1, ap (λ (d : Drawn). d.name) x.2 ∙ d.2)

module _ (graphs : List Given) (i : ℕ) (graph : Given) (differ : Differ graphs)
    (within : i < length graphs) (is : graph ≡ get_or graphs i graph) where
  not_before : Contains (names_given (take i graphs)) (string_bytes graph.0) → ⊥
  not_before h =
      let x = from_graph (take i graphs) (string_bytes graph.0) h in
      let len : length (take i graphs) ≡ i = length-take-le i graphs (omega (arith, within)) in
      let k : ℕ = x.1.0 in
      let short : k < i = let lt = x.1.1 in omega (arith, len, lt) in
      let at : get_or graphs k x.0 ≡ x.0 = sym (get_or-take i graphs k x.0 short) ∙ x.1.2 in
      let here : get_or graphs i x.0 ≡ graph =
      get_or_default graphs i x.0 graph within ∙ sym is in
      differ k i x.0 short within
      (ap (λ (g : Given). string_bytes g.0) at ∙ (x.2 ∙ ap (λ (g : Given). string_bytes g.0) (sym here)))

  -- one name more
  pub names_more : (texts : List (List ℕ)) → texts ≡ names_given (take i graphs) →
      with_text texts (string_bytes graph.0) ≡ names_given (take (i + 1) graphs)
  names_more texts so_far =
      ap (λ (l : List (List ℕ)). with_text l (string_bytes graph.0)) so_far
      ∙ by (list_any (bytes_eq (string_bytes graph.0)) (names_given (take i graphs))) refl
    where
      same : names_given (take (i + 1) graphs)
          ≡ names_given (take i graphs) ++ string_bytes graph.0 ∷ []
      same =
          ap names_given (take_more graphs i graph within
          ∙ ap (λ (x : Given). take i graphs ++ x ∷ []) (sym is))
          ∙ (ap (λ (l : List Drawn). names_of l) (map-append drawn_of (take i graphs) (graph ∷ []))
          ∙ map-append (λ (d : Drawn). d.name) (drawn (take i graphs)) (drawn_of graph ∷ []))

      by : (b : Bool) →
          list_any (bytes_eq (string_bytes graph.0)) (names_given (take i graphs)) ≡ b →
          with_text (names_given (take i graphs)) (string_bytes graph.0)
          ≡ names_given (take (i + 1) graphs)
      by true there =
          absurd (not_before (Contains-list_any bytes_eq (λ x y e. (bytes_eq-Decides x y).0 e)
          (names_given (take i graphs)) (string_bytes graph.0) there))
      by false there = rw there (sym same)

pub names_all : (graphs : List Given) (i : ℕ) → length graphs ≤ i →
    names_given (take i graphs) ≡ names_given graphs
names_all graphs i past = ap names_given (take_all i graphs past)

-- no name stands twice
pub stand_once : (graphs : List Given) → Differ graphs → StandOnce (names_given graphs)
stand_once graphs differ i j name at_i at_j = elim (less_or i j) [
  | inl lt ↦ absurd (apart i j lt at_i at_j)
  | inr ge ↦ elim (less_or j i) [
    | inl lt ↦ absurd (apart j i lt at_j at_i)
    | inr le ↦ omega (arith, ge, le)
  ]
]
  where
    apart : (a b : ℕ) → a < b → slice_get (names_given graphs) a ≡ Some name →
        slice_get (names_given graphs) b ≡ Some name → ⊥
    apart a b lt at_a at_b =
        let at_b_in = slice_get_within (names_given graphs) b name at_b in
        let len : length (names_given graphs) ≡ length graphs =
        length-map (drawn graphs) (λ (d : Drawn). d.name) ∙ length-map graphs drawn_of in
        let b_in : b < length graphs = omega (arith, at_b_in, len) in
        let a_in : a < length graphs = omega (arith, lt, b_in) in
        by a_in b_in (slice_get_cases graphs a).1
      where
        name_at : (c : ℕ) (x : Given) → c < length graphs →
            slice_get (names_given graphs) c ≡ Some name → string_bytes (get_or graphs c x).0 ≡ name
        name_at c x c_in at =
            sym (get_or-map (λ (d : Drawn). d.name) (drawn graphs) c (drawn_of x) (string_bytes x.0)
            (subst (λ n. c < n) (sym (length-map graphs drawn_of)) c_in)
            ∙ ap (λ (d : Drawn). d.name) (get_or-map drawn_of graphs c x (drawn_of x) c_in))
            ∙ get_or_from_slice_get (names_given graphs) c name (string_bytes x.0) at

        by : a < length graphs → b < length graphs →
            ((x : Given) × (a < length graphs) × (slice_get graphs a ≡ Some x)
            × (get_or graphs a x ≡ x)) ⊎ ((length graphs ≤ a) × (slice_get graphs a ≡ None)) → ⊥
        by a_in b_in (inr past) = let p = past.0 in omega (arith, p, a_in)
        by a_in b_in (inl h) =
            let x : Given = h.0 in
            differ a b x lt b_in (name_at a x a_in at_a ∙ sym (name_at b x b_in at_b))

-- a name that a search finds is in the table
pub found_there : (slices : List (Bor (List ℕ))) (name : Bor (List ℕ)) →
    list_any (λ (s : Bor (List ℕ)). bytes_eq name.now s.now) slices ≡ true →
    Contains (map (λ (s : Bor (List ℕ)). s.now) slices) name.now
found_there slices name found =
    Contains-list_any bytes_eq (λ x y e. (bytes_eq-Decides x y).0 e)
    (map (λ (s : Bor (List ℕ)). s.now) slices) name.now (mapped slices ∙ found)
  where
    mapped : (slices : List (Bor (List ℕ))) →
        list_any (bytes_eq name.now) (map (λ (s : Bor (List ℕ)). s.now) slices)
        ≡ list_any (λ (s : Bor (List ℕ)). bytes_eq name.now s.now) slices
    mapped [] = refl
    mapped (s ∷ slices) = let r = mapped slices in rw r refl

module _ (names : List (List ℕ)) (needed : List (String Global)) where
  abbrev called : List (List ℕ)
  called = map string_bytes needed

  -- the names so far are there
  abbrev pub AreThereTo : ℕ → Type 0
  AreThereTo i = (j : ℕ) (name : List ℕ) → j < i → slice_get called j ≡ Some name →
      Contains names name

  at : (i : ℕ) (s : String Global) → i < length needed → s ≡ get_or needed i s →
      slice_get called i ≡ Some (string_bytes s)
  at i s within is =
      slice_get-map string_bytes needed i
      ∙ ap (option_map string_bytes) (slice_get_read needed (length needed) i s refl within is)

  -- one name more that is there
  pub there_more : (i : ℕ) (s : String Global) → i < length needed → s ≡ get_or needed i s →
      AreThereTo i → Contains names (string_bytes s) → AreThereTo (i + 1)
  there_more i s within is so_far here j name lt found = elim (less_or j i) [
    | inl less ↦ so_far j name less found
    | inr ge ↦
        let e : j ≡ i = omega (arith, lt, ge) in
        let same : Some name ≡ Some (string_bytes s) =
        sym found ∙ (ap (λ (k : ℕ). slice_get called k) e ∙ at i s within is) in
        let one : name ≡ string_bytes s = cc in
        subst (λ (n : List ℕ). Contains names n) (sym one) here
  ]

  -- the first name that is not there
  pub lacking_first : (i : ℕ) (s : String Global) → i < length needed → s ≡ get_or needed i s →
      AreThereTo i → (Contains names (string_bytes s) → ⊥) →
      IsFirstLacking called names (string_bytes s)
  lacking_first i s within is so_far missing = record {
    k = i;
    called = at i s within is;
    missing = missing;
    before = λ j other lt found. so_far j other lt found;
  }

  -- at the end of a loop all are there
  pub there_all : (i : ℕ) → length needed ≤ i → AreThereTo i → AreThere called names
  there_all i past so_far name (j, lt, is) =
      so_far j name
      (let len = length-map needed string_bytes in omega (arith, past, lt, len))
      (slice_get-get_or called j name lt ∙ ap Some is)

-- what is so of the firsts of a list of calls is so of the list
module _ (names calls firsts : List (List ℕ)) (are : AreFirsts calls firsts) where
  pub there_of_firsts : AreThere firsts names → AreThere calls names
  there_of_firsts there name has = there name ((are.same name).1 has)

  pub lacking_of_firsts : (name : List ℕ) → IsFirstLacking firsts names name →
      IsFirstLacking calls names name
  lacking_of_firsts name lacks =
      let first = first_of_firsts calls firsts are (Contains names) lacks.k name lacks.called
      lacks.before in
      record {
        k = first.0;
        called = first.1;
        missing = lacks.missing;
        before = first.2;
      }

module _ (graphs : List Drawn) where
  -- the calls of the graphs so far are of graphs that are there
  abbrev pub AreCalledTo : ℕ → Type 0
  AreCalledTo i = (m : ℕ) → m < i → AreCalled graphs m

  pub whole_all : (i : ℕ) → length graphs ≤ i → AreCalledTo i → AreWhole graphs
  whole_all i past so_far n = elim (less_or n i) [
    | inl lt ↦ so_far n lt
    | inr ge ↦ λ name h.
        absurd (nothing_in (subst (λ (l : List (List ℕ)). Contains l name)
        (ap calls_in (slice_get_past graphs n (omega (arith, past, ge)))) h))
  ]

module _ (graphs : List Given) (i : ℕ) (graph : Given) (within : i < length graphs)
    (is : graph ≡ get_or graphs i graph) where
  calls_at : calls_in (slice_get (drawn graphs) i) ≡ calls_of (drawn_of graph)
  calls_at =
      ap calls_in (slice_get-map drawn_of graphs i
      ∙ ap (option_map drawn_of) (slice_get_read graphs (length graphs) i graph refl within is))

  -- one graph more
  pub called_more : AreCalledTo (drawn graphs) i →
      AreThere (calls_of (drawn_of graph)) (names_given graphs) →
      AreCalledTo (drawn graphs) (i + 1)
  called_more so_far here m lt = elim (less_or m i) [
    | inl less ↦ so_far m less
    | inr ge ↦
        let e : m ≡ i = omega (arith, lt, ge) in
        subst (λ (k : ℕ). AreCalled (drawn graphs) k) (sym e)
        (λ name h. here name (subst (λ (l : List (List ℕ)). Contains l name) calls_at h))
  ]

  -- the first that lacks one
  pub missing_first : (name : List ℕ) → AreCalledTo (drawn graphs) i →
      IsFirstLacking (calls_of (drawn_of graph)) (names_given graphs) name →
      IsFirstMissing (drawn graphs) name
  missing_first name so_far first = record {
    n = i;
    k = first.k;
    called = ap (λ (l : List (List ℕ)). slice_get l first.k) calls_at ∙ first.called;
    missing = first.missing;
    earlier = so_far;
    before = λ j other lt found.
        first.before j other lt
        (ap (λ (l : List (List ℕ)). slice_get l j) (sym calls_at) ∙ found);
  }

-- what a search tells, where it found something and where it didn't
module _ {X : Type 0} (IsNone : Type 0) (Found : X → Type 0) where
  -- what an answer that found something tells
  pub told_some : (found : Option X) (x : X) → found ≡ Some x → MatchOption found IsNone Found →
      Found x
  told_some found x is told = subst (λ (o : Option X). MatchOption o IsNone Found) is told

  -- and one that found nothing
  pub told_none : (found : Option X) → found ≡ None → MatchOption found IsNone Found → IsNone
  told_none found is told = subst (λ (o : Option X). MatchOption o IsNone Found) is told
