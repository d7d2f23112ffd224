-- The walk enters a state: the form that ends there is counted, and the states behind it are left.
use Rattle.std.proofs.Common.{◌≡◌, ℕ, ◌+◌, ◌-◌, ◌<◌, ◌≤◌, List, [], ◌∷◌, ◌++◌, length, map, get_or, sym, ◌∙◌, ap, subst, inl, inr, arith}
use Rattle.std.specs.Prelude.{Option, None, Some, flat_map, slice_get}
use Rattle.std.specs.Option.{unwrap_or}
use Rattle.std.specs.Str.{encode_utf8_all}
use Rattle.std.proofs.lemmas.List.{append-nil}
use Rattle.std.proofs.lemmas.List.Elements.{All-nil}
use Rattle.std.proofs.lemmas.Option.{none-some}
use Rattle.ux_dawg.specs.Building.{bare}
use Rattle.ux_dawg.specs.Listed.{ending}
use Rattle.ux_dawg.specs.declared.state.Form.{Form}
use Rattle.ux_dawg.specs.declared.state.State.{State}
use Rattle.ux_base.proofs.OrderedLists.{Contains-nil}
use Rattle.ux_image_lists.specs.Sizes.{forms_of}
use Rattle.ux_image_look_ups.specs.Ways.{behind_all, Spelt}
use Rattle.ux_image_look_ups.proofs.WayLemmas.{behind_all-none, branch}
use Rattle.ux_image_lexicon.specs.Counting.{different_by, AreCountedBut, AreCounts, AreNone, Enters, Notes, Puts}
use Rattle.ux_image_lexicon.specs.Told.{read_in, CodedForms, IsCoded}
use Rattle.ux_image_lexicon.specs.Walking.{branch_by, forms_behind, forms_left, word_of, letters_left, IsWalk}
use Rattle.ux_image_lexicon.specs.declared.counts.Counts.{Counts}
use Rattle.ux_image_lexicon.specs.declared.walk.Branch.{Branch}
use Rattle.ux_image_lexicon.specs.declared.walk.Walk.{Walk}
use Rattle.ux_image_lexicon.proofs.CountLemmas.{content_length, different_made, text_of}
use Rattle.ux_image_lexicon.proofs.CountedLemmas.{one_more}
use Rattle.ux_image_lexicon.proofs.WalkLemmas.{behind_is, branches_left, goes_left, goes_to, goes_within, left-branched, over_less, walk_less}

module _ (coded : CodedForms) (is : IsCoded coded) where
  abbrev states : List State
  states = coded.states

  -- before any form
  pub begun : (counts : Counts) → AreNone counts → AreCountedBut coded counts (forms_of states)
  begun counts none = record {
    among = λ f has. has;
    total = let zero_total = none.total in omega (arith, zero_total);
    kept = λ f has n at. absurd (none-some n (sym (none.fewer (text_of f)) ∙ at));
    each = λ f has. inl has;
  }

  -- and behind all
  pub all_counted : (counts : Counts) → AreCountedBut coded counts [] → AreCounts coded counts
  all_counted counts are = record {
    total =
        let whole = are.total in
        let same = content_length coded is in
        omega (arith, whole, same);
    each = λ f has. elim (are.each f has) [
      | inl left ↦ absurd (Contains-nil f left)
      | inr tells ↦ tells
    ];
  }

  -- the form that ends in a state
  noted : (letters : List ℕ) (code : Option ℕ) (before behind : List Form) (old new : Counts) →
      AreCountedBut coded old (before ++ (map (behind_all letters) (ending code) ++ behind)) →
      Notes coded.lists letters code old new → AreCountedBut coded new (before ++ behind)
  noted letters None before behind old new are notes = record {
    among = are.among;
    total =
        let whole = are.total in
        let same = notes.0 in
        omega (arith, whole, same);
    kept = λ f has n at. are.kept f has n (sym (notes.1 (text_of f)) ∙ at);
    each = λ f has. elim (are.each f has) [
      | inl left ↦ inl left
      | inr tells ↦ inr (ap (λ (o : Option ℕ).
          unwrap_or o (length (read_in (slice_get coded.lists f.code)))) (notes.1 (text_of f))
          ∙ tells)
    ];
  }
  noted letters (Some c) before behind old new are notes =
      let g : Form = record { letters = letters ++ []; code = c } in
      let text = ap encode_utf8_all (append-nil letters) in
      one_more coded is old new before behind g
      (different_by (text_of g) (read_in (slice_get coded.lists c))) are
      (different_made coded.lists g)
      (subst (λ (l : List ℕ). Puts l (different_by l (read_in (slice_get coded.lists c)))
      (length (read_in (slice_get coded.lists c))) old new) (sym text) notes) is.few

  -- the walk is in the state, and all forms are counted but those behind it and those that are left
  module _ (number : ℕ) (walk next : Walk) (old new : Counts) (within : number < length states)
      (enters : Enters coded number walk next old new)
      (going : IsWalk states walk.letters.items walk.branches.items)
      (are : AreCountedBut coded old
      (forms_left states walk.letters.items walk.branches.items
      ++ forms_behind states walk.letters.items number)) where
    abbrev letters : List ℕ
    letters = walk.letters.items

    abbrev here : State
    here = get_or states number bare

    abbrev put : List Branch
    put = walk.branches.items ++ map (branch_by (length letters)) here.edges

    pub enters_walk : IsWalk states next.letters.items next.branches.items
    enters_walk =
        subst (λ (l : List ℕ). IsWalk states l next.branches.items) (sym enters.letters)
        (subst (IsWalk states letters) (sym enters.branches)
        (branches_left states is.automaton.fit number within letters walk.branches.items going))

    pub enters_counted :
        AreCountedBut coded new (forms_left states next.letters.items next.branches.items)
    enters_counted =
        let left = forms_left states letters walk.branches.items in
        let way : Spelt = record { letters = letters; state = number } in
        let more = flat_map (branch states way) here.edges in
        let whole = subst (λ (l : List Form). AreCountedBut coded old (left ++ l))
        (behind_is states is.automaton.fit number within letters) are in
        subst (λ (l : List ℕ). AreCountedBut coded new (forms_left states l next.branches.items))
        (sym enters.letters)
        (subst (λ (l : List Branch). AreCountedBut coded new (forms_left states letters l))
        (sym enters.branches)
        (subst (AreCountedBut coded new)
        (sym (left-branched states letters number walk.branches.items here.edges))
        (noted letters here.code left more old new whole enters.notes)))

  -- the walk begins in the root
  pub first_left : (counts : Counts) → AreNone counts → (walk : Walk) → walk.letters.items ≡ [] →
      walk.branches.items ≡ [] → (root : ℕ) → root ≡ length states - 1 →
      AreCountedBut coded counts (forms_left states walk.letters.items walk.branches.items
      ++ forms_behind states walk.letters.items root)
  first_left counts none walk no_letters no_branches root last =
      subst (λ (l : List Branch). AreCountedBut coded counts
      (forms_left states walk.letters.items l
      ++ forms_behind states walk.letters.items root)) (sym no_branches)
      (subst (λ (l : List ℕ). AreCountedBut coded counts (forms_behind states l root))
      (sym no_letters)
      (subst (λ n. AreCountedBut coded counts (forms_behind states [] n)) (sym last)
      (subst (AreCountedBut coded counts) (sym (behind_all-none (forms_of states)))
      (begun counts none))))

  pub first_walk : (walk : Walk) → walk.branches.items ≡ [] →
      IsWalk states walk.letters.items walk.branches.items
  first_walk walk none =
      subst (IsWalk states walk.letters.items) (sym none) (record {
        within = All-nil (λ (b : Branch). b.state + 1 < length states);
        front = All-nil (λ (b : Branch). b.depth ≤ length walk.letters.items);
        rising = tt;
      })

  -- the walk goes to the state that was left last
  module _ (walk gone : Walk) (some : List Branch) (b : Branch) (counts : Counts)
      (going : IsWalk states walk.letters.items walk.branches.items)
      (are : AreCountedBut coded counts
      (forms_left states walk.letters.items walk.branches.items))
      (last : walk.branches.items ≡ some ++ b ∷ [])
      (to : gone.letters.items ≡ word_of walk.letters.items b)
      (rest : gone.branches.items ≡ some) where
    abbrev letters_so_far : List ℕ
    letters_so_far = walk.letters.items

    going_last : IsWalk states letters_so_far (some ++ b ∷ [])
    going_last = subst (IsWalk states letters_so_far) last going

    pub gone_within : b.state + 1 < length states
    gone_within = goes_within states letters_so_far some b going_last

    pub gone_walk : IsWalk states gone.letters.items gone.branches.items
    gone_walk =
        subst (λ (l : List ℕ). IsWalk states l gone.branches.items) (sym to)
        (subst (IsWalk states (word_of letters_so_far b)) (sym rest)
        (goes_to states letters_so_far some b going_last))

    pub gone_counted : AreCountedBut coded counts
        (forms_left states gone.letters.items gone.branches.items
        ++ forms_behind states gone.letters.items b.state)
    gone_counted =
        subst (λ (l : List Branch). AreCountedBut coded counts
        (forms_left states gone.letters.items l
        ++ forms_behind states gone.letters.items b.state)) (sym rest)
        (subst (λ (l : List ℕ). AreCountedBut coded counts
        (forms_left states l some ++ forms_behind states l b.state)) (sym to)
        (subst (AreCountedBut coded counts)
        (goes_left states letters_so_far some b going_last)
        (subst (λ (l : List Branch). AreCountedBut coded counts
        (forms_left states letters_so_far l)) last are)))

    pub gone_less : (next : Walk) → next.branches.items ≡ gone.branches.items
        ++ map (branch_by (length gone.letters.items)) (get_or states b.state bare).edges →
        letters_left states next.branches.items < letters_left states walk.branches.items
    gone_less next branches =
        subst (λ (l : List Branch). letters_left states l
        < letters_left states walk.branches.items)
        (sym (branches ∙ ap (λ (l : List Branch).
        l ++ map (branch_by (length gone.letters.items)) (get_or states b.state bare).edges) rest))
        (subst (λ (l : List Branch). letters_left states
        (some ++ map (branch_by (length gone.letters.items)) (get_or states b.state bare).edges)
        < letters_left states l) (sym last)
        (walk_less states is.automaton.fit is.forms (length gone.letters.items) some b
        gone_within))

    pub passed_less : (next : Walk) → next.branches.items ≡ gone.branches.items →
        letters_left states next.branches.items < letters_left states walk.branches.items
    passed_less next branches =
        subst (λ (l : List Branch). letters_left states l
        < letters_left states walk.branches.items) (sym (branches ∙ rest))
        (subst (λ (l : List Branch). letters_left states some < letters_left states l) (sym last)
        (over_less states is.automaton.fit is.forms some b gone_within))
