-- A walk in progress: which forms are left, where it goes to a state and leaves those behind it.
use Rattle.std.proofs.Common.{◌≡◌, ℕ, zero, suc, ◌+◌, ◌<◌, ◌≤◌, List, [], ◌∷◌, ◌++◌, length, length-append, map, take, take_all, get_or, refl, sym, ◌∙◌, ap, arith}
use Rattle.std.specs.Prelude.{All, Option, None, Some, flat_map, sum_by}
use Rattle.std.proofs.lemmas.List.{append-nil, append_assoc, length-map, length_push, length-take-le}
use Rattle.std.proofs.lemmas.List.Concat.{flat_map-append}
use Rattle.std.proofs.lemmas.List.Elements.{All-append, All-cons, All-head, All-map, All-nil, All-pop, All-tail, Contains-get_or}
use Rattle.std.proofs.lemmas.List.Sums.{sum_by-append, sum_by-cons, sum_by_push}
use Rattle.std.proofs.lemmas.Option.{slice_get-get_or}
use Rattle.ux_dawg.specs.Building.{bare}
use Rattle.ux_dawg.specs.Listed.{behind, ending}
use Rattle.ux_dawg.specs.Paths.{AreStates}
use Rattle.ux_dawg.specs.declared.state.Edge.{Edge}
use Rattle.ux_dawg.specs.declared.state.Form.{Form}
use Rattle.ux_dawg.specs.declared.state.State.{State}
use Rattle.ux_image_look_ups.specs.Ways.{behind_all, branches, forms_at, HaveForms, Spelt}
use Rattle.ux_image_look_ups.proofs.WayLemmas.{branch, by_edges, ended, from_here}
use Rattle.ux_image_lexicon.specs.Walking.{branch_by, forms_behind, forms_left, letters_from, letters_left, word_of, AreRising, IsWalk}
use Rattle.ux_image_lexicon.specs.declared.walk.Branch.{Branch}

-- one more letter behind some, and then a form's
behind_all-one : (letters : List ℕ) (a : ℕ) (forms : List Form) →
    map (behind_all (letters ++ a ∷ [])) forms ≡ map (behind_all letters) (map (behind a) forms)
behind_all-one letters a [] = refl
behind_all-one letters a (f ∷ forms) =
    let first : behind_all (letters ++ a ∷ []) f ≡ behind_all letters (behind a f) =
    λ i. record { letters = append_assoc letters (a ∷ []) f.letters i; code = f.code } in
    ap (λ (g : Form). g ∷ map (behind_all (letters ++ a ∷ [])) forms) first
    ∙ ap (λ (l : List Form). behind_all letters (behind a f) ∷ l) (behind_all-one letters a forms)

-- a shorter front of a front
take_front : (n d : ℕ) (xs : List ℕ) (a : ℕ) → n ≤ d → d ≤ length xs →
    take n (take d xs ++ a ∷ []) ≡ take n xs
take_front zero d xs a low high = refl
take_front (suc n) zero xs a low high = absurd (omega (arith, low))
take_front (suc n) (suc d) [] a low high = absurd (omega (arith, high))
take_front (suc n) (suc d) (x ∷ xs) a low high =
    ap (λ (l : List ℕ). x ∷ l) (take_front n d xs a (omega (arith, low)) (omega (arith, high)))

rising-pop : (some : List Branch) (b : Branch) → AreRising (some ++ b ∷ []) →
    All (λ (c : Branch). c.depth ≤ b.depth) some × AreRising some
rising-pop [] b up = (All-nil (λ (c : Branch). c.depth ≤ b.depth), tt)
rising-pop (c ∷ some) b up =
    let here = All-pop (λ (o : Branch). c.depth ≤ o.depth) (some ++ b ∷ []) some (Some b) refl up.0 in
    let rest = rising-pop some b up.1 in (
      All-cons (λ (o : Branch). o.depth ≤ b.depth) c some here.1 rest.0,
      (here.0, rest.1),
    )

rising-new : (n : ℕ) (edges : List Edge) → AreRising (map (branch_by n) edges)
rising-new n [] = tt
rising-new n (e ∷ edges) = (
  All-map (λ (o : Branch). n ≤ o.depth) (branch_by n) edges (λ k d less. omega arith),
  rising-new n edges,
)

rising-more : (n : ℕ) (some : List Branch) (edges : List Edge) →
    All (λ (c : Branch). c.depth ≤ n) some → AreRising some →
    AreRising (some ++ map (branch_by n) edges)
rising-more n [] edges low up = rising-new n edges
rising-more n (c ∷ some) edges low up =
    let Low : Branch → Type 0 = λ o. o.depth ≤ n in
    let here = All-head Low c some low in (
      All-append (λ (o : Branch). c.depth ≤ o.depth) some (map (branch_by n) edges) up.0
          (All-map (λ (o : Branch). c.depth ≤ o.depth) (branch_by n) edges (λ k d less. here)),
      rising-more n some edges (All-tail Low c some low) up.1,
    )

module _ (states : List State) where
  abbrev most : ℕ
  most = length states

  abbrev at : ℕ → State
  at t = get_or states t bare

  abbrev way_to : List ℕ → ℕ → Spelt
  way_to letters number = record { letters = letters; state = number }

  -- the forms behind a state that was left
  left-edges : (letters : List ℕ) (number : ℕ) (edges : List Edge) →
      forms_left states letters (map (branch_by (length letters)) edges)
      ≡ flat_map (branch states (way_to letters number)) edges
  left-edges letters number [] = refl
  left-edges letters number (e ∷ edges) =
      let all = take_all (length letters) letters (omega arith) in
      let rest = forms_left states letters (map (branch_by (length letters)) edges) in
      ap (λ (l : List ℕ). forms_behind states (l ++ e.letter ∷ []) e.target ++ rest) all
      ∙ ap (λ (l : List Form). l ++ rest)
      (behind_all-one letters e.letter (forms_at states e.target))
      ∙ ap (λ (l : List Form). branch states (way_to letters number) e ++ l)
      (left-edges letters number edges)

  -- the forms that are left, with those behind one more state
  pub left-branched : (letters : List ℕ) (number : ℕ) (old : List Branch) (edges : List Edge) →
      forms_left states letters (old ++ map (branch_by (length letters)) edges)
      ≡ forms_left states letters old ++ flat_map (branch states (way_to letters number)) edges
  left-branched letters number old edges =
      flat_map-append (λ (b : Branch). forms_behind states (word_of letters b) b.state) old
      (map (branch_by (length letters)) edges)
      ∙ ap (λ (l : List Form). forms_left states letters old ++ l)
      (left-edges letters number edges)

  -- the states that are left stay where they were when the walk goes to the last of them
  left-same : (letters : List ℕ) (b : Branch) (some : List Branch) → b.depth ≤ length letters →
      All (λ (c : Branch). c.depth ≤ b.depth) some →
      forms_left states letters some ≡ forms_left states (word_of letters b) some
  left-same letters b [] inside low = refl
  left-same letters b (c ∷ some) inside low =
      let Low : Branch → Type 0 = λ o. o.depth ≤ b.depth in
      let same = take_front c.depth b.depth letters b.letter (All-head Low c some low) inside in
      ap (λ (l : List ℕ). forms_behind states (l ++ c.letter ∷ []) c.state
      ++ forms_left states letters some) (sym same)
      ∙ ap (λ (l : List Form). forms_behind states (word_of (word_of letters b) c) c.state ++ l)
      (left-same letters b some inside (All-tail Low c some low))

  -- the walk goes to the state that was left last
  module _ (letters : List ℕ) (some : List Branch) (b : Branch)
      (is : IsWalk states letters (some ++ b ∷ [])) where
    abbrev Within : Branch → Type 0
    Within c = c.state + 1 < length states

    abbrev Front : List ℕ → Branch → Type 0
    Front word c = c.depth ≤ length word

    inside : All Within some × Within b
    inside =
        let both = All-pop Within (some ++ b ∷ []) some (Some b) refl is.within in (both.0, both.1)

    depth : b.depth ≤ length letters
    depth = (All-pop (Front letters) (some ++ b ∷ []) some (Some b) refl is.front).1

    pub goes_within : b.state + 1 < length states
    goes_within = inside.1

    long : length (word_of letters b) ≡ b.depth + 1
    long =
        let push = length_push (take b.depth letters) b.letter in
        let short = length-take-le b.depth letters depth in
        omega (arith, push, short)

    pub goes_to : IsWalk states (word_of letters b) some
    goes_to =
        let low = (rising-pop some b is.rising).0 in
        record {
          within = inside.0;
          front = λ k d less. let here = low k d less in omega (arith, here, long);
          rising = (rising-pop some b is.rising).1;
        }

    pub goes_left : forms_left states letters (some ++ b ∷ [])
        ≡ forms_left states (word_of letters b) some ++ forms_behind states (word_of letters b) b.state
    goes_left =
        let f : Branch → List Form = λ c. forms_behind states (word_of letters c) c.state in
        flat_map-append f some (b ∷ [])
        ∙ ap (λ (l : List Form). forms_left states letters some ++ l) (append-nil (f b))
        ∙ ap (λ (l : List Form). l ++ f b)
        (left-same letters b some depth (rising-pop some b is.rising).0)

  module _ (fit : AreStates states) (number : ℕ) (within : number < most) where
    targets : All (λ (e : Edge). e.target + 1 < most) (at number).edges
    targets k d less =
        let low = (fit number (at number) (slice_get-get_or states number bare within)).within
        (get_or (at number).edges k d) (Contains-get_or (at number).edges k d less) in
        omega (arith, low, within)

    -- and leaves the states behind it
    pub branches_left : (letters : List ℕ) (some : List Branch) → IsWalk states letters some →
        IsWalk states letters (some ++ map (branch_by (length letters)) (at number).edges)
    branches_left letters some is =
        let edges = (at number).edges in
        let n = length letters in
        let Front : Branch → Type 0 = λ c. c.depth ≤ n in
        let Within : Branch → Type 0 = λ c. c.state + 1 < most in
        record {
          within = All-append Within some (map (branch_by n) edges) is.within
              (All-map Within (branch_by n) edges targets);
          front = All-append Front some (map (branch_by n) edges) is.front
              (All-map Front (branch_by n) edges (λ k d less. omega arith));
          rising = rising-more n some edges is.front is.rising;
        }

    -- the forms behind it are those that end there, and those that go on
    pub behind_is : (letters : List ℕ) → forms_behind states letters number
        ≡ ended states (way_to letters number)
        ++ flat_map (branch states (way_to letters number)) (at number).edges
    behind_is letters = by_edges states fit (way_to letters number) within

  -- FEWER LETTERS ARE LEFT

  abbrev weight : Form → ℕ
  weight form = 1 + length form.letters

  weight-behind : (a : ℕ) (forms : List Form) →
      sum_by weight (map (behind a) forms) ≡ sum_by weight forms + length forms
  weight-behind a [] = refl
  weight-behind a (f ∷ forms) =
      let one = sum_by-cons weight (behind a f) (map (behind a) forms) in
      let other = sum_by-cons weight f forms in
      let rest = weight-behind a forms in
      omega (arith, one, other, rest)

  weight-ending : (code : Option ℕ) → sum_by weight (ending code) ≡ length (ending code)
  weight-ending None = refl
  weight-ending (Some c) = refl

  weight-edges : (n : ℕ) (edges : List Edge) → sum_by weight (branches states edges)
      ≡ letters_left states (map (branch_by n) edges) + length (branches states edges)
  weight-edges n [] = refl
  weight-edges n (e ∷ edges) =
      let there = forms_at states e.target in
      let here = map (behind e.letter) there in
      let sums = sum_by-append weight here (branches states edges) in
      let parts = length-append here (branches states edges) in
      let same = length-map there (behind e.letter) in
      let own = weight-behind e.letter there in
      let rest = weight-edges n edges in
      let more = sum_by-cons (λ (b : Branch). letters_from states b.state) (branch_by n e)
      (map (branch_by n) edges) in
      omega (arith, sums, parts, same, own, rest, more)

  pub letters_less : AreStates states → HaveForms states → (number n : ℕ) → number + 1 < most →
      letters_left states (map (branch_by n) (at number).edges) < letters_from states number
  letters_less fit have number n within =
      let edges = (at number).edges in
      let code = (at number).code in
      let is = from_here states fit number (omega (arith, within)) in
      let whole = ap (sum_by weight) is in
      let sums = sum_by-append weight (ending code) (branches states edges) in
      let long = ap (length {A = Form}) is in
      let parts = length-append (ending code) (branches states edges) in
      let own = weight-ending code in
      let rest = weight-edges n edges in
      let some = have number within in
      omega (arith, whole, sums, long, parts, own, rest, some)

  pub walk_less : AreStates states → HaveForms states → (n : ℕ) (some : List Branch) (b : Branch) →
      b.state + 1 < most →
      letters_left states (some ++ map (branch_by n) (at b.state).edges)
      < letters_left states (some ++ b ∷ [])
  walk_less fit have n some b within =
      let f : Branch → ℕ = λ c. letters_from states c.state in
      let one = sum_by-append f some (map (branch_by n) (at b.state).edges) in
      let other = sum_by_push f some b in
      let less = letters_less fit have b.state n within in
      omega (arith, one, other, less)

  -- also where the walk passes over the state
  pub over_less : AreStates states → HaveForms states → (some : List Branch) (b : Branch) →
      b.state + 1 < most → letters_left states some < letters_left states (some ++ b ∷ [])
  over_less fit have some b within =
      let sums = sum_by_push (λ (c : Branch). letters_from states c.state) some b in
      let less = letters_less fit have b.state 0 within in
      omega (arith, sums, less)
