-- What is kept where a text is put out, and where an output is answered.
use Rattle.std.proofs.Common.{arith, ◌≡◌, ℕ, ◌+◌, ◌<◌, ◌≤◌, Bool, true, false, not, List, [], ◌∷◌, ◌++◌, inl, inr, refl, sym, ap, subst, ◌∙◌, length, get_or}
use Rattle.std.specs.Prelude.{Option, Some, None, is_some, is_none, slice_get, if◌then◌else◌}
use Rattle.std.specs.Str.{IsUtf8}
use Rattle.std.proofs.lemmas.List.{length-append}
use Rattle.std.proofs.lemmas.Option.{same_Some, slice_get_within, slice_get-get_or}
use Rattle.std.proofs.lemmas.Str.{IsUtf8-append}
use Rattle.ux_base.specs.declared.settings.NoVar.{NoVar}
use Rattle.ux_tokens.specs.Tokens.{Token}
use Rattle.ux_outputs.specs.Variables.{Asked, Variables, asked_by, collecting, is_set, is_unset, value_of}
use Rattle.ux_outputs.specs.Rendering.{State, after_asked, after_put, after_test, after_value}
use Rattle.ux_folds.specs.declared.kept.Kept.{Kept}
use Rattle.ux_folds.specs.declared.kept.Known.{Known}
use Rattle.ux_folds.specs.declared.lists.Link.{Link}
use Rattle.ux_folds.specs.declared.tables.Tables.{Tables}
use Rattle.ux_folds.specs.Following.{AreBoth, IsAnswered, IsAnsweredBy}
use Rattle.ux_folds.specs.Lists.{IsMore, Spells}
use Rattle.ux_folds.specs.Names.{asked_name}
use Rattle.ux_folds.specs.Tables.{AreTables, AreVariables, IsCollected, IsCollecting, IsGrown, IsKnown, IsPushed, IsText, IsVariable, Stands, Turns, states_of, texts_of, variables_of}
use Rattle.ux_folds.proofs.ListsLemmas.{get_pushed, spells_kept}
use Rattle.ux_folds.proofs.TablesLemmas.{grown_same, grown_then, knowns_pushed, stands_kept, variable_kept}
use Rattle.ux_folds.proofs.VariablesLemmas.{AreRead}

-- an output that is open collects a text
pub collects : (old new : Tables) (known : Known) (put : List ℕ) (front collected : ℕ) →
    known.collected ≡ Some front → IsPushed old new front put collected →
    IsCollected old new known put (record known { collected = Some collected })
collects old new known put front collected some pushed names variable sound utf8 v =
    let c = subst (λ (o : Option ℕ). IsText (texts_of old) o variable.collected) some v.collected in
    let p = pushed names c.0 sound c.2 in
    let w = variable_kept (texts_of old) (texts_of new) p.0.texts known variable v in (
      p.0,
      record {
        noted = w.noted;
        collected = (
          c.0 ++ put,
          ap (λ (o : Option (List ℕ)).
              (collecting put (record variable { collected = o })).collected) c.1,
          p.1,
          IsUtf8-append c.0 put c.3 utf8,
        );
        value = w.value;
      },
    )

-- one that isn't collects nothing
pub collects_nothing : (tables : Tables) (known : Known) (put : List ℕ) → known.collected ≡ None →
    IsCollected tables tables known put known
collects_nothing tables known put none names variable sound utf8 v =
    let c : variable.collected ≡ None =
    subst (λ (o : Option ℕ). IsText (texts_of tables) o variable.collected) none v.collected in (
      grown_same names tables sound,
      record {
        noted = v.noted;
        collected = subst (λ (o : Option ℕ). IsText (texts_of tables) o
            (collecting put variable).collected) (sym none)
            (ap (λ (o : Option (List ℕ)).
            (collecting put (record variable { collected = o })).collected) c);
        value = v.value;
      },
    )

-- so many of the variables have collected the text
pub record AreCollected (names : List (List ℕ)) (tables : Tables) (variables : Variables)
    (put : List ℕ) (number count : ℕ) : Type 0 where
  pub knowns : List Known
  pub listed : Spells (variables_of tables) number knowns
  pub many : length knowns ≡ count
  pub each : (i : ℕ) (name : List ℕ) (known : Known) → slice_get names i ≡ Some name →
      slice_get knowns i ≡ Some known →
      IsVariable (texts_of tables) known (collecting put (variables name))

-- what holds while they collect
abbrev pub Collecting : (old now : Tables) → List Known → List ℕ → (number count : ℕ) → Type 0
Collecting old now knowns put number count = (count ≤ length knowns)
    × ((names : List (List ℕ)) (variables : Variables) → AreTables names old → IsUtf8 put →
    AreVariables (texts_of old) names knowns variables →
    IsGrown names old now × AreCollected names now variables put number count)

pub collecting_first : (tables : Tables) (knowns : List Known) (put : List ℕ) →
    Collecting tables tables knowns put 0 0
collecting_first tables knowns put = (
  omega arith,
  λ names variables sound utf8 h. (
    grown_same names tables sound,
    record {
      knowns = [];
      listed = refl;
      many = refl;
      each = λ i name known at known_at.
          absurd (let w = slice_get_within [] i known known_at in omega (arith, w));
    },
  ),
)

-- one more
pub collecting_more : (old now mid new : Tables) (knowns : List Known) (put : List ℕ)
    (known after : Known) (number next count : ℕ) → count < length knowns →
    slice_get knowns count ≡ Some known → IsCollected now mid known put after →
    texts_of new ≡ texts_of mid → states_of new ≡ states_of mid →
    IsMore (variables_of mid) (variables_of new) number (after ∷ []) next →
    Collecting old now knowns put number count → Collecting old new knowns put next (count + 1)
collecting_more old now mid new knowns put known after number next count lt at collected texts states
    more before = (
      omega (arith, lt),
      λ names variables sound utf8 h.
          let b = before.1 names variables sound utf8 h in
          let name = get_or names count [] in
          let named : slice_get names count ≡ Some name = slice_get-get_or names count []
          (subst (λ (n : ℕ). count < n) h.count lt) in
          let c = collected names (variables name) b.0.tables utf8
          (variable_kept (texts_of old) (texts_of now) b.0.texts known (variables name)
          (h.each count name known named at)) in
          let listed = spells_kept (variables_of now) (variables_of mid) c.0.variables number
          b.1.knowns b.1.listed in
          let p = knowns_pushed mid new number next (after ∷ []) texts states more names b.1.knowns
          c.0.tables listed in (
            grown_then names old mid new (grown_then names old now mid b.0 c.0) p.0,
            record {
              knowns = b.1.knowns ++ after ∷ [];
              listed = p.1;
              many = length-append b.1.knowns (after ∷ []) ∙ ap (λ (n : ℕ). n + 1) b.1.many;
              each = λ i other k other_at k_at. elim (get_pushed b.1.knowns after i k k_at) [
                | inl there ↦
                    variable_kept (texts_of mid) (texts_of new) p.0.texts k
                    (collecting put (variables other))
                    (variable_kept (texts_of now) (texts_of mid) c.0.texts k
                    (collecting put (variables other)) (b.1.each i other k other_at there))
                | inr last ↦
                    let place : i ≡ count = last.0 ∙ b.1.many in
                    let same : name ≡ other = same_Some name other (sym named
                    ∙ subst (λ (n : ℕ). slice_get names n ≡ Some other) place other_at) in
                    subst (λ (x : Known). IsVariable (texts_of new) x
                    (collecting put (variables other))) (sym last.1)
                    (subst (λ (n : List ℕ). IsVariable (texts_of new) after
                    (collecting put (variables n))) same
                    (variable_kept (texts_of mid) (texts_of new) p.0.texts after
                    (collecting put (variables name)) c.1))
              ];
            },
          ),
    )

-- all have
pub collecting_all : (old new : Tables) (items : List Known) (put : List ℕ)
    (variables_number number count : ℕ) → AreRead old variables_number items →
    length items ≤ count → Collecting old new items put number count →
    IsCollecting old new variables_number put number
collecting_all old new items put from number count read past before names knowns variables sound utf8
    listed h =
    let items_are : items ≡ knowns = read knowns sound.variables listed in
    let b = before.1 names variables sound utf8
    (subst (λ (l : List Known). AreVariables (texts_of old) names l variables) (sym items_are) h) in
    let count_is : count ≡ length items = omega (arith, past, before.0) in (
      b.0,
      b.1.knowns,
      b.1.listed,
      record {
        count = b.1.many ∙ (count_is ∙ (ap (λ (l : List Known). length l) items_are ∙ h.count));
        each = b.1.each;
      },
    )

-- a text is put out
pub puts : (old mid new : Tables) (kept : Kept) (put : List ℕ) (text variables : ℕ) →
    IsPushed old mid kept.text put text → IsCollecting mid new kept.variables put variables →
    IsUtf8 put → (tokens : List Token) (names : List (List ℕ)) →
    Turns tokens names old new kept (λ state. after_put state put)
    (record kept { text = text; variables = variables })
puts old mid new kept put text variables pushed collected utf8 tokens names state sound h =
    let p = pushed names state.text sound h.text in
    let s = stands_kept names tokens old mid p.0.texts p.0.variables kept state h in
    let c = collected names s.knowns state.variables p.0.tables utf8 s.listed s.variables in (
      grown_then names old mid new p.0 c.0,
      record {
        position = h.position;
        within = h.within;
        text = (spells_on mid new c.0 p.1);
        utf8 = IsUtf8-append state.text put h.utf8 utf8;
        span = h.span;
        first = h.first;
        knowns = c.1;
        listed = c.2;
        variables = c.3;
      },
    )
  where
    spells_on : (mid new : Tables) → IsGrown names mid new →
        Spells (texts_of mid) text (state.text ++ put) →
        Spells (texts_of new) text (state.text ++ put)
    spells_on mid new grown named =
        spells_kept (texts_of mid) (texts_of new) grown.texts text (state.text ++ put) named

pub not_not : (b : Bool) → not (not b) ≡ b
not_not true = refl
not_not false = refl

module _ (tokens : List Token) (names : List (List ℕ)) (novar : NoVar) where
  -- a test
  holds_both : (tables : Tables) (kept : Kept) (state : State) (b c : Bool) → b ≡ c →
      Stands tokens names tables kept state →
      AreBoth tokens names tables (after_test state c) (if b then Some kept else None)
  holds_both tables kept state b c same h =
      subst (λ (x : Bool). AreBoth tokens names tables (after_test state x)
      (if b then Some kept else None)) same (by b)
    where
      by : (b : Bool) →
          AreBoth tokens names tables (after_test state b) (if b then Some kept else None)
      by true = (kept, refl, h)
      by false = refl

  some_text : (texts : List (Link ℕ)) (number : Option ℕ) (text : Option (List ℕ)) →
      IsText texts number text → is_some number ≡ is_some text
  some_text texts None text h = sym (ap (λ (o : Option (List ℕ)). is_some o) h)
  some_text texts (Some n) text h = sym (ap (λ (o : Option (List ℕ)). is_some o) h.1)

  none_text : (texts : List (Link ℕ)) (number : Option ℕ) (text : Option (List ℕ)) →
      IsText texts number text → is_none number ≡ is_none text
  none_text texts None text h = sym (ap (λ (o : Option (List ℕ)). is_none o) h)
  none_text texts (Some n) text h = sym (ap (λ (o : Option (List ℕ)). is_none o) h.1)

-- the answer to each question
pub answered_set : (novar : NoVar) (tables : Tables) (kept : Kept) (name : List ℕ)
    (value : Option ℕ) (next : Option Kept) →
    next ≡ (if is_some value then Some kept else None) →
    IsAnsweredBy novar tables tables kept (is_set name) value next
answered_set novar tables kept name value next is tokens names state sound h text = (
  grown_same names tables sound,
  subst (λ (o : Option Kept). AreBoth tokens names tables (after_asked novar state (is_set name)) o)
      (sym is) (holds_both tokens names novar tables kept state (is_some value)
      (is_some (state.variables name).value)
      (some_text tokens names novar (texts_of tables) value (state.variables name).value text) h),
)

pub answered_unset : (novar : NoVar) (tables : Tables) (kept : Kept) (name : List ℕ)
    (value : Option ℕ) (next : Option Kept) →
    next ≡ (if is_none value then Some kept else None) →
    IsAnsweredBy novar tables tables kept (is_unset name) value next
answered_unset novar tables kept name value next is tokens names state sound h text = (
  grown_same names tables sound,
  subst (λ (o : Option Kept).
      AreBoth tokens names tables (after_asked novar state (is_unset name)) o)
      (sym is) (holds_both tokens names novar tables kept state (is_none value)
      (is_none (state.variables name).value)
      (none_text tokens names novar (texts_of tables) value (state.variables name).value text) h),
)

pub answered_value : (novar : NoVar) (old new : Tables) (kept next : Kept) (name : List ℕ)
    (number : ℕ) (bytes : List ℕ) (value : Option ℕ) → value ≡ Some number →
    ((text : List ℕ) → (names : List (List ℕ)) → AreTables names old →
    Spells (texts_of old) number text → bytes ≡ text) →
    ((tokens : List Token) (names : List (List ℕ)) → IsUtf8 bytes →
    Turns tokens names old new kept (λ state. after_put state bytes) next) →
    IsAnsweredBy novar old new kept (value_of name) value (Some next)
answered_value novar old new kept next name number bytes value some read put tokens names state sound h
    text =
    let t = subst (λ (o : Option ℕ). IsText (texts_of old) o (state.variables name).value) some text in
    let bytes_are : bytes ≡ t.0 = read t.0 names sound t.2 in
    let done = put tokens names (subst (λ (b : List ℕ). IsUtf8 b) (sym bytes_are) t.3) state sound h in (
      done.0,
      subst (λ (o : Option (List ℕ)).
          AreBoth tokens names new (after_value novar state o) (Some next))
          (sym (t.1 ∙ ap (λ (b : List ℕ). Some b) (sym bytes_are))) (next, refl, done.1),
    )

pub answered_without : (novar : NoVar) (tables : Tables) (kept : Kept) (name : List ℕ)
    (goes_on : Bool) (value : Option ℕ) (next : Option Kept) → value ≡ None →
    ((state : State) → after_value novar state None ≡ (if goes_on then Some state else None)) →
    next ≡ (if goes_on then Some kept else None) →
    IsAnsweredBy novar tables tables kept (value_of name) value next
answered_without novar tables kept name goes_on value next none without is tokens names state sound h
    text =
    let t : (state.variables name).value ≡ None =
    subst (λ (o : Option ℕ). IsText (texts_of tables) o (state.variables name).value) none text in
    let after : after_value novar state (state.variables name).value
    ≡ (if goes_on then Some state else None) =
    ap (λ (o : Option (List ℕ)). after_value novar state o) t ∙ without state in (
      grown_same names tables sound,
      subst (λ (o : Option State). AreBoth tokens names tables o next) (sym after)
          (subst (λ (o : Option Kept). AreBoth tokens names tables
          (if goes_on then Some state else None) o) (sym is)
          (holds_both tokens names novar tables kept state goes_on goes_on refl h)),
    )

-- an output whose name counts is answered by what is known
pub answered : (tokens : List Token) (novar : NoVar) (names : List (List ℕ)) (old new : Tables)
    (kept : Kept) (asked : List ℕ) (next : Option Kept) (question : Asked) (name : List ℕ)
    (place : ℕ) (known : Known) → question ≡ asked_by asked → name ≡ asked_name question →
    slice_get names place ≡ Some name → IsKnown tokens names old kept place known →
    IsAnsweredBy novar old new kept question known.value next →
    IsAnswered tokens novar names old new kept asked next
answered tokens novar names old new kept asked next question name place known is named at is_known by
    state sound h =
    let v = is_known name state sound h at in
    let done = by tokens names state sound h
    (subst (λ (n : List ℕ). IsText (texts_of old) known.value (state.variables n).value) named
    v.value) in (
      done.0,
      inl (
        (
          place,
          subst (λ (q : Asked). slice_get names place ≡ Some (asked_name q)) is
              (at ∙ ap (λ (n : List ℕ). Some n) named),
        ),
        subst (λ (q : Asked). AreBoth tokens names new (after_asked novar state q) next) is done.1,
      ),
    )

-- and else it doesn't fit
pub unanswered : (tokens : List Token) (novar : NoVar) (names : List (List ℕ)) (tables : Tables)
    (kept : Kept) (asked : List ℕ) (question : Asked) (name : List ℕ) →
    question ≡ asked_by asked → name ≡ asked_name question →
    ((i : ℕ) → slice_get names i ≡ Some name → ⊥) →
    IsAnswered tokens novar names tables tables kept asked None
unanswered tokens novar names tables kept asked question name is named never state sound h = (
  grown_same names tables sound,
  inr (
    λ counts. never counts.0 (counts.1 ∙ ap (λ (n : List ℕ). Some n)
        (sym (named ∙ ap (λ (q : Asked). asked_name q) is))),
    refl,
  ),
)
