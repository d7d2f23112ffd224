-- What is kept where something else is known of a variable.
use Rattle.std.proofs.Common.{arith, ◌≡◌, ℕ, ◌+◌, ◌<◌, ◌≤◌, Bool, true, false, List, [], ◌∷◌, ◌++◌, inl, inr, refl, sym, ap, subst, ◌∙◌, length, set}
use Rattle.std.specs.Prelude.{Option, Some, None, option_map, slice_get, if◌then◌else◌}
use Rattle.std.specs.Option.{option_or}
use Rattle.std.specs.Str.{IsUtf8, bytes_eq}
use Rattle.std.proofs.lemmas.List.{get_or-set_same, get_or-set_other, length-append, length-set}
use Rattle.std.proofs.lemmas.Option.{same_Some, none-some, slice_get_within, slice_get-get_or, get_or_from_slice_get}
use Rattle.std.proofs.lemmas.Slice.Eq.{bytes_eq-Decides}
use Rattle.std.proofs.lemmas.Str.{IsUtf8-nil}
use Rattle.ux_base.specs.Distinct.{StandOnce}
use Rattle.ux_base.proofs.Lists.{same_or}
use Rattle.ux_tokens.specs.Tokens.{Token}
use Rattle.ux_outputs.specs.Variables.{NO_VARIABLES, Variable, Variables, changed_at, ended_input, ended_output, input, noted_at, opened, output}
use Rattle.ux_outputs.specs.Rendering.{State, after_begin, after_end, changing, skip, text_between}
use Rattle.ux_folds.specs.declared.kept.Kept.{Kept}
use Rattle.ux_folds.specs.declared.kept.Known.{Known}
use Rattle.ux_folds.specs.declared.lists.Link.{Link}
use Rattle.ux_folds.specs.declared.tables.Tables.{Tables}
use Rattle.ux_folds.specs.Known.{NOTHING_KNOWN}
use Rattle.ux_folds.specs.Laws.{Agree, agree_stands}
use Rattle.ux_folds.specs.Lists.{AreSound, IsMore, Spells}
use Rattle.ux_folds.specs.Tables.{AreTables, AreVariables, Counts, IsGrown, IsKnown, IsNothing, IsPushed, IsText, IsVariable, Stands, Turns, states_of, texts_of, variables_of}
use Rattle.ux_folds.proofs.ListsLemmas.{get_pushed}
use Rattle.ux_folds.proofs.TablesLemmas.{grown_same, grown_then, knowns_pushed, stands_kept, variable_kept, variables_kept}

not_true : (b : Bool) → (b ≡ true → ⊥) → b ≡ false
not_true true never = absurd (never refl)
not_true false never = refl

-- the list that was read is the one that is kept
abbrev pub AreRead : Tables → ℕ → List Known → Type 0
AreRead tables number items = (knowns : List Known) → AreSound (variables_of tables) →
    Spells (variables_of tables) number knowns → items ≡ knowns

module _ (tokens : List Token) (names : List (List ℕ)) where
  -- what stands at a place of it is known
  pub known_found : (tables : Tables) (kept : Kept) (place : ℕ) (known : Known) (items : List Known) →
      AreRead tables kept.variables items → slice_get items place ≡ Some known →
      IsKnown tokens names tables kept place known
  known_found tables kept place known items read found name state sound h at =
      h.variables.each place name known at
      (subst (λ (l : List Known). slice_get l place ≡ Some known)
      (read h.knowns sound.variables h.listed) found)

  -- a name that counts has a place in it
  pub known_missing : (tables : Tables) (kept : Kept) (place : ℕ) (known : Known)
      (items : List Known) → AreRead tables kept.variables items → slice_get items place ≡ None →
      IsKnown tokens names tables kept place known
  known_missing tables kept place known items read none name state sound h at =
      let within : place < length h.knowns = subst (λ (n : ℕ). place < n) (sym h.variables.count)
      (slice_get_within names place name at) in
      let there = slice_get-get_or h.knowns place NOTHING_KNOWN within in
      absurd (none-some _ (sym (subst (λ (l : List Known). slice_get l place ≡ None)
      (read h.knowns sound.variables h.listed) none) ∙ there))

-- this is known of a variable, where it has changed, or where it hasn't
abbrev IsAfter : List (Link ℕ) → Variables → (Variable → Variable) → Known → List ℕ → Bool → Type 0
IsAfter texts variables change k other b =
    IsVariable texts k (if b then change (variables other) else variables other)

-- one of the variables has changed
known_set : (texts : List (Link ℕ)) (names : List (List ℕ)) (knowns : List Known)
    (variables : Variables) (place : ℕ) (known : Known) (name : List ℕ)
    (change : Variable → Variable) → StandOnce names → slice_get names place ≡ Some name →
    IsVariable texts known (change (variables name)) →
    AreVariables texts names knowns variables →
    AreVariables texts names (set knowns place known) (changed_at name change variables)
known_set texts names knowns variables place known name change once named is h = record {
  count = length-set knowns place known ∙ h.count;
  each = λ i other k at k_at. elim (same_or i place) [
    | inl same ↦ here i other k at k_at same
    | inr never ↦ elsewhere i other k at k_at never
  ];
}
  where
    within : place < length knowns
    within = subst (λ (n : ℕ). place < n) (sym h.count) (slice_get_within names place name named)

    here : (i : ℕ) (other : List ℕ) (k : Known) → slice_get names i ≡ Some other →
        slice_get (set knowns place known) i ≡ Some k → i ≡ place →
        IsAfter texts variables change k other (bytes_eq name other)
    here i other k at k_at same =
        let is_name : name ≡ other = same_Some name other
        (sym named ∙ subst (λ (n : ℕ). slice_get names n ≡ Some other) same at) in
        let inside : place < length (set knowns place known) =
        subst (λ (n : ℕ). place < n) (sym (length-set knowns place known)) within in
        let set_there : slice_get (set knowns place known) place ≡ Some known =
        slice_get-get_or (set knowns place known) place known inside
        ∙ ap Some (get_or-set_same knowns place known known within) in
        let is_known : known ≡ k = same_Some known k
        (sym set_there ∙ subst (λ (n : ℕ). slice_get (set knowns place known) n ≡ Some k) same k_at) in
        subst (λ (b : Bool). IsAfter texts variables change k other b) (sym ((bytes_eq-Decides name other).1 is_name))
        (subst (λ (l : Known). IsVariable texts l (change (variables other))) is_known
        (subst (λ (n : List ℕ). IsVariable texts known (change (variables n))) is_name is))

    elsewhere : (i : ℕ) (other : List ℕ) (k : Known) → slice_get names i ≡ Some other →
        slice_get (set knowns place known) i ≡ Some k → (i ≡ place → ⊥) →
        IsAfter texts variables change k other (bytes_eq name other)
    elsewhere i other k at k_at never =
        let apart : bytes_eq name other ≡ false = not_true (bytes_eq name other) (λ e.
        let is_name : name ≡ other = (bytes_eq-Decides name other).0 e in
        never (once i place other at (named ∙ ap Some is_name))) in
        let inside : i < length knowns = subst (λ (n : ℕ). i < n) (length-set knowns place known)
        (slice_get_within (set knowns place known) i k k_at) in
        let there : slice_get knowns i ≡ Some k = slice_get-get_or knowns i k inside
        ∙ ap Some (sym (get_or-set_other knowns place i known k never)
        ∙ get_or_from_slice_get (set knowns place known) i k k k_at) in
        subst (λ (b : Bool). IsAfter texts variables change k other b) (sym apart) (h.each i other k at there)

-- something else is known of the variable at a place
pub known_changed : (old new : Tables) (kept : Kept) (place : ℕ) (known : Known)
    (items later : List Known) (number : ℕ) → AreRead old kept.variables items →
    (place < length items → later ≡ set items place known) →
    texts_of new ≡ texts_of old → states_of new ≡ states_of old →
    IsMore (variables_of old) (variables_of new) 0 later number →
    (tokens : List Token) (names : List (List ℕ)) (name : List ℕ)
    (change : Variable → Variable) (state : State) → AreTables names old →
    Stands tokens names old kept state → slice_get names place ≡ Some name →
    IsVariable (texts_of old) known (change (state.variables name)) →
    IsGrown names old new
    × Stands tokens names new (record kept { variables = number }) (changing name change state)
known_changed old new kept place known items later number read put texts states more tokens names
    name change state sound h at is =
    let pushed = knowns_pushed old new 0 number later texts states more names [] sound refl in
    let items_are : items ≡ h.knowns = read h.knowns sound.variables h.listed in
    let within : place < length items = subst (λ (l : List Known). place < length l) (sym items_are)
    (subst (λ (n : ℕ). place < n) (sym h.variables.count) (slice_get_within names place name at)) in
    let later_is : later ≡ set h.knowns place known = put within
    ∙ ap (λ (l : List Known). set l place known) items_are in
    let stands = stands_kept names tokens old new pushed.0.texts pushed.0.variables kept state h in (
      pushed.0,
      record {
        position = stands.position;
        within = stands.within;
        text = stands.text;
        utf8 = stands.utf8;
        span = stands.span;
        first = stands.first;
        knowns = set h.knowns place known;
        listed = subst (λ (l : List Known). Spells (variables_of new) number l) later_is pushed.1;
        variables = variables_kept (texts_of old) (texts_of new) pushed.0.texts names
            (set h.knowns place known) (changed_at name change state.variables)
            (known_set (texts_of old) names h.knowns state.variables place known name change
            sound.names_once at is h.variables);
      },
    )

-- a change that changes no variable that counts
pub agree_changed : (names : List (List ℕ)) (name : List ℕ) (change : Variable → Variable)
    (state : State) → ((other : List ℕ) → Counts names other → name ≡ other →
    state.variables other ≡ change (state.variables other)) →
    Agree names state (changing name change state)
agree_changed names name change state same = record {
  position = refl;
  text = refl;
  span = refl;
  variables = λ other counts. by other counts (bytes_eq name other) refl;
}
  where
    by : (other : List ℕ) → Counts names other → (b : Bool) → bytes_eq name other ≡ b →
        state.variables other
        ≡ (if b then change (state.variables other) else state.variables other)
    by other counts true e = same other counts ((bytes_eq-Decides name other).0 e)
    by other counts false e = refl

module _ (tokens : List Token) (names : List (List ℕ)) (tables : Tables) (kept : Kept)
    (name : List ℕ) where
  -- so what is kept stays
  pub unchanged : (change : State → Variable → Variable) →
      ((state : State) → AreTables names tables → Stands tokens names tables kept state →
      (other : List ℕ) → Counts names other → name ≡ other →
      state.variables other ≡ change state (state.variables other)) →
      Turns tokens names tables tables kept (λ state. changing name (change state) state) kept
  unchanged change same state sound h = (
    grown_same names tables sound,
    agree_stands tokens names tables kept state (changing name (change state) state)
        (agree_changed names name (change state) state (same state sound h)) h,
  )

  -- a name that doesn't count
  pub uncounted : (change : State → Variable → Variable) →
      ((i : ℕ) → slice_get names i ≡ Some name → ⊥) →
      Turns tokens names tables tables kept (λ state. changing name (change state) state) kept
  uncounted change never = unchanged change (λ state sound h other counts is.
      absurd (never counts.0 (counts.1 ∙ ap Some (sym is))))

-- a list is told, where all are changed so
abbrev pub KnowsOf : Tables → Tables → Kept → (place : ℕ) → Known → Kept → Type 0
KnowsOf old new kept place known next = (tokens : List Token) (names : List (List ℕ))
    (name : List ℕ) (change : Variable → Variable) (state : State) → AreTables names old →
    Stands tokens names old kept state → slice_get names place ≡ Some name →
    IsVariable (texts_of old) known (change (state.variables name)) →
    IsGrown names old new × Stands tokens names new next (changing name change state)

module _ (tokens : List Token) (names : List (List ℕ)) (old new : Tables) (kept next : Kept)
    (name : List ℕ) (place : ℕ) (at : slice_get names place ≡ Some name) (known : Known)
    (is_known : IsKnown tokens names old kept place known) where
  -- an input begins
  pub noted : KnowsOf old new kept place (record known { noted = Some kept.position }) next →
      Turns tokens names old new kept (λ state. after_begin state (input name)) next
  noted knows state sound h =
      let v = is_known name state sound h at in
      knows tokens names name (noted_at state.position) state sound h at (record {
        noted = ap Some h.position;
        collected = v.collected;
        value = v.value;
      })

  -- an output is opened
  pub opens : KnowsOf old new kept place (record known { collected = Some 0 }) next →
      Turns tokens names old new kept (λ state. after_begin state (output name)) next
  opens knows state sound h =
      let v = is_known name state sound h at in
      knows tokens names name opened state sound h at (record {
        noted = v.noted;
        collected = ([], refl, refl, IsUtf8-nil);
        value = v.value;
      })

  -- an output is closed
  pub closes : (collected : ℕ) → known.collected ≡ Some collected → KnowsOf old new kept place
      (record known { collected = None; value = Some collected }) next →
      Turns tokens names old new kept (λ state. after_end tokens state (output name)) next
  closes collected some knows state sound h =
      let v = is_known name state sound h at in
      let c = subst (λ (o : Option ℕ). IsText (texts_of old) o (state.variables name).collected)
      some v.collected in
      knows tokens names name ended_output state sound h at (record {
        noted = v.noted;
        collected = refl;
        value = (
          c.0,
          ap (λ (o : Option (List ℕ)). option_or o (state.variables name).value) c.1,
          c.2,
          c.3,
        );
      })

  -- an input ends
  pub ends_input : (mid : Tables) (begin value : ℕ) → known.noted ≡ Some begin →
      IsPushed old mid 0 (text_between tokens (skip tokens begin) kept.position) value →
      IsUtf8 (text_between tokens (skip tokens begin) kept.position) →
      KnowsOf mid new kept place (record known { value = Some value }) next →
      Turns tokens names old new kept (λ state. after_end tokens state (input name)) next
  ends_input mid begin value some pushed utf8 knows state sound h =
      let v = is_known name state sound h at in
      let p = pushed names [] sound refl in
      let w = variable_kept (texts_of old) (texts_of mid) p.0.texts known (state.variables name) v in
      let text_from : ℕ → List ℕ = λ b. text_between tokens (skip tokens b) state.position in
      let is : option_or (option_map text_from (state.variables name).noted)
      (state.variables name).value
      ≡ Some (text_between tokens (skip tokens begin) kept.position) =
      ap (λ (o : Option ℕ). option_or (option_map text_from o) (state.variables name).value)
      (v.noted ∙ some)
      ∙ ap (λ (q : ℕ). Some (text_between tokens (skip tokens begin) q)) h.position in
      let done = knows tokens names name (ended_input text_from) state p.0.tables
      (stands_kept names tokens old mid p.0.texts p.0.variables kept state h) at (record {
        noted = w.noted;
        collected = w.collected;
        value = (
          text_between tokens (skip tokens begin) kept.position,
          is,
          p.1,
          utf8,
        );
      }) in
      (grown_then names old mid new p.0 done.0, done.1)

module _ (tokens : List Token) (names : List (List ℕ)) (tables : Tables) (kept : Kept)
    (name : List ℕ) (place : ℕ) (at : slice_get names place ≡ Some name) (known : Known)
    (is_known : IsKnown tokens names tables kept place known) where
  variable_here : (state : State) → AreTables names tables → Stands tokens names tables kept state →
      (other : List ℕ) → name ≡ other →
      IsVariable (texts_of tables) known (state.variables other)
  variable_here state sound h other is =
      subst (λ (n : List ℕ). IsVariable (texts_of tables) known (state.variables n)) is
      (is_known name state sound h at)

  -- an input ends that never began
  pub ends_nothing : known.noted ≡ None →
      Turns tokens names tables tables kept (λ state. after_end tokens state (input name)) kept
  ends_nothing none = unchanged tokens names tables kept name
      (λ state. ended_input (λ begin. text_between tokens (skip tokens begin) state.position))
      (λ state sound h other counts is.
      let v = variable_here state sound h other is in
      let text_from : ℕ → List ℕ = λ b. text_between tokens (skip tokens b) state.position in
      sym (ap (λ (o : Option ℕ). record (state.variables other) {
        value = option_or (option_map text_from o) (state.variables other).value;
      }) (v.noted ∙ none)))

  -- an output is closed that wasn't opened
  pub closes_nothing : known.collected ≡ None →
      Turns tokens names tables tables kept (λ state. after_end tokens state (output name)) kept
  closes_nothing none = unchanged tokens names tables kept name (λ state. ended_output)
      (λ state sound h other counts is.
      let v = variable_here state sound h other is in
      let c : (state.variables other).collected ≡ None =
      subst (λ (o : Option ℕ). IsText (texts_of tables) o (state.variables other).collected) none
      v.collected in
      let variable = state.variables other in
      let ended : Option (List ℕ) → Option (List ℕ) → Variable = λ collected value.
      record variable { collected = collected; value = value } in
      ap (λ (o : Option (List ℕ)). ended o variable.value) c
      ∙ sym (ap (λ (o : Option (List ℕ)). ended None (option_or o variable.value)) c))

-- nothing is known of any variable
abbrev pub AreNothing : Tables → ℕ → (count : ℕ) → Type 0
AreNothing tables number count = (knowns : List Known) × Spells (variables_of tables) number knowns
    × (length knowns ≡ count)
    × ((i : ℕ) (known : Known) → slice_get knowns i ≡ Some known → known ≡ NOTHING_KNOWN)

pub nothing_first : (tables : Tables) → AreNothing tables 0 0
nothing_first tables = (
  [],
  refl,
  refl,
  λ i known at.
      absurd (let w = slice_get_within [] i known at in omega (arith, w)),
)

-- one more of them
pub nothing_more : (old mid new : Tables) (names : List (List ℕ)) (number after count : ℕ) →
    IsGrown names old mid → texts_of new ≡ texts_of mid → states_of new ≡ states_of mid →
    IsMore (variables_of mid) (variables_of new) number (NOTHING_KNOWN ∷ []) after →
    AreNothing mid number count → IsGrown names old new × AreNothing new after (count + 1)
nothing_more old mid new names number after count grown texts states more (ks, listed, many, each) =
    let p = knowns_pushed mid new number after (NOTHING_KNOWN ∷ []) texts states more names ks
    grown.tables listed in (
      grown_then names old mid new grown p.0,
      (
        ks ++ NOTHING_KNOWN ∷ [],
        p.1,
        length-append ks (NOTHING_KNOWN ∷ []) ∙ ap (λ (n : ℕ). n + 1) many,
        λ i known at. elim (get_pushed ks NOTHING_KNOWN i known at) [
          | inl there ↦ each i known there
          | inr last ↦ last.1
        ],
      ),
    )

-- as many as there are names
pub nothing_all : (tables : Tables) (names : List (List ℕ)) (number count : ℕ) →
    length names ≡ count → AreNothing tables number count → IsNothing names tables number
nothing_all tables names number count all (ks, listed, many, each) = record {
  knowns = ks;
  listed = listed;
  variables = record {
    count = many ∙ sym all;
    each = λ i name known at known_at. subst (λ (k : Known).
        IsVariable (texts_of tables) k (NO_VARIABLES name)) (sym (each i known known_at))
        (record { noted = refl; collected = refl; value = refl });
  };
}

-- what holds while they are listed
abbrev pub Naming : (old now : Tables) → List (List ℕ) → (number count : ℕ) → Type 0
Naming old now names number count = (count ≤ length names)
    × (AreTables names old → IsGrown names old now × AreNothing now number count)

pub naming_first : (tables : Tables) (names : List (List ℕ)) → Naming tables tables names 0 0
naming_first tables names =
    (omega arith, λ sound. (grown_same names tables sound, nothing_first tables))

pub naming_more : (old mid new : Tables) (names : List (List ℕ)) (number after count : ℕ)
    (known : Known) → count < length names → known ≡ NOTHING_KNOWN →
    texts_of new ≡ texts_of mid → states_of new ≡ states_of mid →
    IsMore (variables_of mid) (variables_of new) number (known ∷ []) after →
    Naming old mid names number count → Naming old new names after (count + 1)
naming_more old mid new names number after count known lt nothing texts states more before = (
  omega (arith, lt),
  λ sound.
      let b = before.1 sound in
      nothing_more old mid new names number after count b.0 texts states
      (subst (λ (k : Known). IsMore (variables_of mid) (variables_of new) number (k ∷ []) after)
      nothing more) b.1,
)

pub naming_all : (old new : Tables) (names : List (List ℕ)) (number count : ℕ) →
    length names ≤ count → Naming old new names number count → AreTables names old →
    IsGrown names old new × IsNothing names new number
naming_all old new names number count past before sound =
    let b = before.1 sound in
    (b.0, nothing_all new names number count (omega (arith, past, before.0)) b.1)

-- the text that an input ends with
pub told_text : (tokens : List Token) (old new : Tables) (text : List ℕ) (from begin to number : ℕ) →
    text ≡ text_between tokens from to → from ≡ skip tokens begin →
    IsPushed old new 0 text number →
    IsPushed old new 0 (text_between tokens (skip tokens begin) to) number
told_text tokens old new text from begin to number is from_is pushed =
    subst (λ (t : List ℕ). IsPushed old new 0 t number)
    (is ∙ ap (λ (p : ℕ). text_between tokens p to) from_is) pushed

pub told_utf8 : (tokens : List Token) (text : List ℕ) (from begin to : ℕ) →
    text ≡ text_between tokens from to → from ≡ skip tokens begin → IsUtf8 text →
    IsUtf8 (text_between tokens (skip tokens begin) to)
told_utf8 tokens text from begin to is from_is utf8 =
    subst IsUtf8 (is ∙ ap (λ (p : ℕ). text_between tokens p to) from_is) utf8
