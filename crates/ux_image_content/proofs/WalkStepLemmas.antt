-- Each step of a walk leaves the forms that are listed and left together as they were, and has fewer
-- steps left.
use Rattle.std.proofs.Common.{arith, ◌≡◌, ℕ, zero, suc, ◌+◌, ◌<◌, List, [], ◌∷◌, ◌++◌, ◌⊎◌, inl, inr, refl, sym, ◌∙◌, ap, subst, length, get_or}
use Rattle.std.specs.Prelude.{All, MatchOption, Option, None, Some, option_to_list}
use Rattle.std.proofs.lemmas.List.{append_assoc, length_push, nil_from_length}
use Rattle.std.proofs.lemmas.List.Elements.{All-pop, All-push}
use Rattle.ux_dawg.specs.Building.{bare}
use Rattle.ux_dawg.specs.Paths.{AreStates}
use Rattle.ux_dawg.specs.declared.state.Edge.{Edge}
use Rattle.ux_dawg.specs.declared.state.Form.{Form}
use Rattle.ux_dawg.specs.declared.state.State.{State}
use Rattle.ux_image_lists.specs.Sizes.{forms_of}
use Rattle.ux_image_content.specs.declared.walk.Frame.{Frame}
use Rattle.ux_image_content.specs.declared.walk.Walk.{Walk}
use Rattle.ux_image_content.specs.Walking.{edges_left, ended, forms_left, steps_left, Enters, GoesOn, IsNext, IsWay}
use Rattle.ux_image_content.proofs.WalkLemmas.{entered, forms_back, forms_begin, forms_down, forms_end, steps_back, steps_down}

-- the last letter leaves, if there is one
abbrev pub IsPopped : (old new : List ℕ) → Type 0
IsPopped old new = ((old ≡ []) × (new ≡ [])) ⊎ ((a : ℕ) × (old ≡ new ++ a ∷ []))

pub popped : (old new : List ℕ) (last : Option ℕ) (m n : ℕ) → old ≡ new ++ option_to_list last →
    m ≡ length old → n ≡ length new → MatchOption last ((m ≡ 0) × (n ≡ 0)) (λ a. n + 1 ≡ m) →
    IsPopped old new
popped old new None m n is before after none =
    let first = none.0 in
    let second = none.1 in
    inl (
      nil_from_length old (omega (arith, before, first)),
      nil_from_length new (omega (arith, after, second)),
    )
popped old new (Some a) m n is before after some = inr (a, is)

module _ (states : List State) (fit : AreStates states) where
  -- a walk that enters the root has all forms before it
  pub begins : (root : ℕ) (old new : Walk) → length states ≡ root + 1 → old.stack.items ≡ [] →
      old.letters.items ≡ [] → Enters states root old new →
      IsWay states new.stack.items new.letters.items
      × (new.forms.items ++ forms_left states new.stack.items new.letters.items
      ≡ old.forms.items ++ forms_of states)
  begins root old new last none bare_way enters =
      let stack : new.stack.items ≡ entered root ∷ [] =
      enters.stack ∙ ap (λ (l : List Frame). l ++ entered root ∷ []) none in
      let letters = enters.letters ∙ bare_way in
      let own = (get_or states root bare).code in (
        record {
          within = subst (λ (l : List Frame). All (λ frame. frame.state < length states) l)
              (sym stack) (λ k d less. first k d less);
          long = λ some.
              let one = ap (length {A = Frame}) stack in
              let zero_letters = ap (length {A = ℕ}) letters in
              omega (arith, one, zero_letters);
        },
        ap (λ (l : List Form). l ++ forms_left states new.stack.items new.letters.items)
            enters.forms
            ∙ ap (λ (w : List ℕ). (old.forms.items ++ ended w own)
            ++ forms_left states new.stack.items new.letters.items) bare_way
            ∙ append_assoc old.forms.items (ended [] own)
            (forms_left states new.stack.items new.letters.items)
            ∙ ap (λ (l : List Frame). old.forms.items
            ++ (ended [] own ++ forms_left states l new.letters.items)) stack
            ∙ ap (λ (w : List ℕ). old.forms.items
            ++ (ended [] own ++ forms_left states (entered root ∷ []) w)) letters
            ∙ ap (λ (l : List Form). old.forms.items ++ l) (forms_begin states fit root last),
      )
    where
      first : (k : ℕ) (d : Frame) → k < length (entered root ∷ []) →
          (get_or (entered root ∷ []) k d).state < length states
      first zero d less = omega (arith, last)
      first (suc k) d less = absurd (omega (arith, less))

  -- it goes down by an edge
  pub goes_down : (frame past : Frame) (e : Edge) (old mid new : Walk) →
      IsWay states (old.stack.items ++ frame ∷ []) old.letters.items →
      IsNext states frame e past → mid.stack.items ≡ old.stack.items ++ past ∷ [] →
      mid.letters.items ≡ old.letters.items ++ e.letter ∷ [] →
      mid.forms.items ≡ old.forms.items → Enters states e.target mid new →
      GoesOn states frame old new
  goes_down frame past e old mid new way next stack letters forms enters =
      let down = old.stack.items in
      let word = old.letters.items in
      let whole = length_push down frame in
      let long = way.long (omega (arith, whole)) in
      let new_stack : new.stack.items ≡ (down ++ past ∷ []) ++ entered e.target ∷ [] =
      enters.stack ∙ ap (λ (l : List Frame). l ++ entered e.target ∷ []) stack in
      let new_letters : new.letters.items ≡ word ++ e.letter ∷ [] = enters.letters ∙ letters in
      let left = forms_left states new.stack.items new.letters.items in
      let own = (get_or states e.target bare).code in
      let IsIn : Frame → Type 0 = λ f. f.state < length states in
      let here = All-pop_push down frame IsIn way.within in
      record {
        way = record {
          within = subst (λ (l : List Frame). All IsIn l) (sym new_stack)
              (All-push IsIn (down ++ past ∷ []) (entered e.target)
              (All-push IsIn down past here.0
              (subst (λ k. k < length states) (sym next.same) here.1)) next.target);
          long = λ some.
              let stack_long = ap (length {A = Frame}) new_stack in
              let one = length_push (down ++ past ∷ []) (entered e.target) in
              let two = length_push down past in
              let word_long = ap (length {A = ℕ}) new_letters in
              let three = length_push word e.letter in
              omega (arith, stack_long, one, two, word_long, three, long, whole);
        };
        forms = ap (λ (l : List Form). l ++ left)
            (enters.forms ∙ ap (λ (l : List Form). l ++ ended mid.letters.items own) forms
            ∙ ap (λ (w : List ℕ). old.forms.items ++ ended w own) letters)
            ∙ append_assoc old.forms.items (ended (word ++ e.letter ∷ []) own) left
            ∙ ap (λ (l : List Frame). old.forms.items ++ (ended (word ++ e.letter ∷ []) own
            ++ forms_left states l new.letters.items)) new_stack
            ∙ ap (λ (w : List ℕ). old.forms.items ++ (ended (word ++ e.letter ∷ []) own
            ++ forms_left states ((down ++ past ∷ []) ++ entered e.target ∷ []) w)) new_letters
            ∙ ap (λ (l : List Form). old.forms.items ++ l)
            (sym (forms_down states fit frame past e (edges_left states past) next.edges refl
            next.target down word (omega (arith, long, whole))));
        less = subst (λ (l : List Frame). steps_left states l
            < steps_left states (down ++ frame ∷ [])) (sym new_stack)
            (steps_down states fit frame past e (edges_left states past) next.edges refl next.target
            down);
      }
    where
      All-pop_push : (xs : List Frame) (x : Frame) (P : Frame → Type 0) → All P (xs ++ x ∷ []) →
          All P xs × P x
      All-pop_push xs x P all =
          let both = All-pop P (xs ++ x ∷ []) xs (Some x) refl all in (both.0, both.1)

  -- or goes back
  pub goes_back : (frame : Frame) (old : Walk) (letters : List ℕ) (new : Walk) →
      IsWay states (old.stack.items ++ frame ∷ []) old.letters.items →
      edges_left states frame ≡ [] → new.stack.items ≡ old.stack.items →
      new.forms.items ≡ old.forms.items → new.letters.items ≡ letters →
      IsPopped old.letters.items letters → GoesOn states frame old new
  goes_back frame old letters new way none stack forms is last =
      let whole = length_push old.stack.items frame in
      let long = way.long (omega (arith, whole)) in
      let IsIn : Frame → Type 0 = λ f. f.state < length states in
      let both = All-pop IsIn (old.stack.items ++ frame ∷ []) old.stack.items (Some frame) refl
      way.within in
      record {
        way = record {
          within = subst (λ (l : List Frame). All IsIn l) (sym stack) both.0;
          long = λ some.
              let same = ap (length {A = Frame}) stack in
              let word = ap (length {A = ℕ}) is in
              shorter last (omega (arith, some, same)) (omega (arith, long, whole)) same word;
        };
        forms = ap (λ (l : List Form). l ++ forms_left states new.stack.items new.letters.items)
            forms
            ∙ ap (λ (l : List Frame). old.forms.items ++ forms_left states l new.letters.items)
            stack
            ∙ ap (λ (w : List ℕ). old.forms.items ++ forms_left states old.stack.items w) is
            ∙ ap (λ (l : List Form). old.forms.items ++ l)
            (sym (left_same last (omega (arith, long, whole))));
        less = subst (λ (l : List Frame). steps_left states l
            < steps_left states (old.stack.items ++ frame ∷ [])) (sym stack)
            (steps_back states fit frame none old.stack.items);
      }
    where
      shorter : IsPopped old.letters.items letters → 0 < length old.stack.items →
          length old.stack.items ≡ length old.letters.items →
          length new.stack.items ≡ length old.stack.items →
          length new.letters.items ≡ length letters →
          length new.stack.items ≡ length new.letters.items + 1
      shorter (inl empty) some long same word =
          let zero_letters = ap (length {A = ℕ}) empty.0 in
          absurd (omega (arith, some, long, zero_letters))
      shorter (inr some_letter) some long same word =
          let one = ap (length {A = ℕ}) some_letter.1 in
          let parts = length_push letters some_letter.0 in
          omega (arith, long, same, word, one, parts)

      left_same : IsPopped old.letters.items letters →
          length old.stack.items ≡ length old.letters.items →
          forms_left states (old.stack.items ++ frame ∷ []) old.letters.items
          ≡ forms_left states old.stack.items letters
      left_same (inl empty) long =
          let zero_letters = ap (length {A = ℕ}) empty.0 in
          let no_stack = nil_from_length old.stack.items (omega (arith, long, zero_letters)) in
          ap (λ (w : List ℕ). forms_left states (old.stack.items ++ frame ∷ []) w) empty.0
          ∙ ap (λ (l : List Frame). forms_left states (l ++ frame ∷ []) []) no_stack
          ∙ forms_end states fit frame none
          ∙ sym (ap (λ (l : List Frame). forms_left states l []) no_stack)
          ∙ sym (ap (λ (w : List ℕ). forms_left states old.stack.items w) empty.1)
      left_same (inr some) long =
          let one = ap (length {A = ℕ}) some.1 in
          let parts = length_push letters some.0 in
          ap (λ (w : List ℕ). forms_left states (old.stack.items ++ frame ∷ []) w) some.1
          ∙ forms_back states fit frame none old.stack.items letters some.0
          (omega (arith, long, one, parts))
