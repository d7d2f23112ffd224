-- The laws of the fold that renders: an event has one result, which stands for something. States are
-- told apart as far as names count.
use Rattle.std.proofs.Common.{◌≡◌, ℕ, ◌<◌, Bool, true, false, List, [], ◌++◌, inl, inr, refl, sym, ap, subst, ◌∙◌, length, get_or}
use Rattle.std.specs.Prelude.{Option, Some, None, is_some, is_none, slice_get, if◌then◌else◌}
use Rattle.std.specs.Str.{IsUtf8, bytes_eq}
use Rattle.std.proofs.lemmas.List.{ext_get_or}
use Rattle.std.proofs.lemmas.Option.{same_Some, none-some, slice_get_within, slice_get-get_or}
use Rattle.ux_base.specs.declared.settings.Mode.{Mode}
use Rattle.ux_base.specs.declared.settings.Mode.TheVariants.{Ignore, Merge, Replace}
use Rattle.ux_base.specs.declared.settings.NoVar.{NoVar}
use Rattle.ux_base.specs.declared.settings.NoVar.TheVariants.{Nothing, Drop}
use Rattle.ux_tokens.specs.Tokens.{Token}
use Rattle.ux_outputs.specs.declared.event.Event.{Event}
use Rattle.ux_outputs.specs.declared.event.Event.TheVariants.{Take, Put, Value, Begin, End, Cut}
use Rattle.ux_outputs.specs.declared.span.Span.{Span}
use Rattle.ux_outputs.specs.Variables.{Variable, Variables, Asked, Named, asked_by, collecting, ended_input, ended_output, input, is_set, is_unset, named_by, noted_at, opened, output, value_of}
use Rattle.ux_outputs.specs.Rendering.{State, after_asked, after_begin, after_end, after_event, after_put, after_test, after_value, begin_of, changing, skip, span_after, text_between, text_taken}
use Rattle.ux_folds.specs.declared.kept.Kept.{Kept}
use Rattle.ux_folds.specs.declared.kept.Known.{Known}
use Rattle.ux_folds.specs.declared.lists.Link.{Link}
use Rattle.ux_folds.specs.declared.rendering.RenderingFold.{RenderingFold}
use Rattle.ux_folds.specs.declared.tables.Tables.{Tables}
use Rattle.ux_folds.specs.Known.{NOTHING_KNOWN}
use Rattle.ux_folds.specs.ListNumbers.{number_one, spells_one}
use Rattle.ux_folds.specs.Lists.{AreSound, Spells}
use Rattle.ux_folds.specs.Names.{asked_name}
use Rattle.ux_folds.specs.Tables.{AreTables, AreVariables, Counts, IsState, IsText, IsVariable, Stands, span_to, texts_of, variables_of}
use Rattle.ux_folds.specs.Following.{AreNumbered, Fits, Means, NextBy, Rendered, rendered_by}

-- the same is rendered, and the same is known of each variable that counts
pub record Agree (names : List (List ℕ)) (v w : State) : Type 0 where
  pub position : v.position ≡ w.position
  pub text : v.text ≡ w.text
  pub span : v.span ≡ w.span
  pub variables : (name : List ℕ) → Counts names name → v.variables name ≡ w.variables name

-- both are dropped, or they agree
abbrev pub AgreeBoth : List (List ℕ) → Option State → Option State → Type 0
AgreeBoth names None None = Unit {0}
AgreeBoth names None (Some w) = ⊥
AgreeBoth names (Some v) None = ⊥
AgreeBoth names (Some v) (Some w) = Agree names v w

variable_same : (a b : Variable) → a.noted ≡ b.noted → a.collected ≡ b.collected →
    a.value ≡ b.value → a ≡ b
variable_same a b noted collected value =
    ap (λ (x : Option ℕ). record a { noted = x }) noted
    ∙ (ap (λ (x : Option (List ℕ)). record b { collected = x; value = a.value }) collected
    ∙ ap (λ (x : Option (List ℕ)). record b { value = x }) value)

known_same : (a b : Known) → a.noted ≡ b.noted → a.collected ≡ b.collected →
    a.value ≡ b.value → a ≡ b
known_same a b noted collected value =
    ap (λ (x : Option ℕ). record a { noted = x }) noted
    ∙ (ap (λ (x : Option ℕ). record b { collected = x; value = a.value }) collected
    ∙ ap (λ (x : Option ℕ). record b { value = x }) value)

kept_same : (a b : Kept) → a.position ≡ b.position → a.text ≡ b.text → a.first ≡ b.first →
    a.variables ≡ b.variables → a ≡ b
kept_same a b position text first variables =
    ap (λ (x : ℕ). record a { position = x }) position
    ∙ (ap (λ (x : ℕ). record a { position = b.position; text = x }) text
    ∙ (ap (λ (x : Option ℕ). record b { first = x; variables = a.variables }) first
    ∙ ap (λ (x : ℕ). record b { variables = x }) variables))

module _ (texts : List (Link ℕ)) where
  text_one : (number : Option ℕ) (t u : Option (List ℕ)) → IsText texts number t →
      IsText texts number u → t ≡ u
  text_one None t u h k = h ∙ sym k
  text_one (Some n) t u h k = h.1 ∙ (ap Some (spells_one texts n h.0 k.0 h.2 k.2) ∙ sym k.1)

  variable_one : (known : Known) (a b : Variable) → IsVariable texts known a →
      IsVariable texts known b → a ≡ b
  variable_one known a b h k = variable_same a b (h.noted ∙ sym k.noted)
      (text_one known.collected a.collected b.collected h.collected k.collected)
      (text_one known.value a.value b.value h.value k.value)

  -- what is known of a variable that counts
  variable_at : (names : List (List ℕ)) (knowns : List Known) (a b : Variables) →
      AreVariables texts names knowns a → AreVariables texts names knowns b →
      (name : List ℕ) → Counts names name → a name ≡ b name
  variable_at names knowns a b h k name counts =
      let within : counts.0 < length knowns = subst (λ (n : ℕ). counts.0 < n) (sym h.count)
      (slice_get_within names counts.0 name counts.1) in
      let known = get_or knowns counts.0 NOTHING_KNOWN in
      let at = slice_get-get_or knowns counts.0 NOTHING_KNOWN within in
      variable_one known (a name) (b name) (h.each counts.0 name known counts.1 at)
      (k.each counts.0 name known counts.1 at)

  module _ (sound : AreSound texts) where
    number_text : (n m : Option ℕ) (t : Option (List ℕ)) → IsText texts n t → IsText texts m t →
        n ≡ m
    number_text None None t h k = refl
    number_text None (Some m) t h k = absurd (none-some k.0 (sym h ∙ k.1))
    number_text (Some n) None t h k = absurd (none-some h.0 (sym k ∙ h.1))
    number_text (Some n) (Some m) t h k =
        let same : h.0 ≡ k.0 = same_Some h.0 k.0 (sym h.1 ∙ k.1) in
        ap Some (number_one texts sound k.0 n m
        (subst (λ (b : List ℕ). Spells texts n b) same h.2) k.2)

    known_one : (k l : Known) (a : Variable) → IsVariable texts k a → IsVariable texts l a → k ≡ l
    known_one k l a h g = known_same k l (sym h.noted ∙ g.noted)
        (number_text k.collected l.collected a.collected h.collected g.collected)
        (number_text k.value l.value a.value h.value g.value)

    -- what is known of the variables that count is one list
    knowns_one : (names : List (List ℕ)) (ks ls : List Known) (a b : Variables) →
        AreVariables texts names ks a → AreVariables texts names ls b →
        ((name : List ℕ) → Counts names name → a name ≡ b name) → ks ≡ ls
    knowns_one names ks ls a b h g agree =
        ext_get_or NOTHING_KNOWN ks ls (h.count ∙ sym g.count) (λ i lt.
        let name = get_or names i [] in
        let at : slice_get names i ≡ Some name = slice_get-get_or names i []
        (subst (λ (n : ℕ). i < n) h.count lt) in
        let k = get_or ks i NOTHING_KNOWN in
        let l = get_or ls i NOTHING_KNOWN in
        let k_at = slice_get-get_or ks i NOTHING_KNOWN lt in
        let l_at = slice_get-get_or ls i NOTHING_KNOWN
        (subst (λ (n : ℕ). i < n) (h.count ∙ sym g.count) lt) in
        known_one k l (b name)
        (subst (λ (x : Variable). IsVariable texts k x) (agree name (i, at)) (h.each i name k at k_at))
        (g.each i name l at l_at))

first_same : (p q : ℕ) (f g : Option ℕ) → span_to p f ≡ span_to q g → f ≡ g
first_same p q None None e = refl
first_same p q None (Some g) e = absurd (none-some _ e)
first_same p q (Some f) None e = absurd (none-some _ (sym e))
first_same p q (Some f) (Some g) e = ap Some (ap (λ (s : Span). s.first) (same_Some _ _ e))

module _ (tokens : List Token) (names : List (List ℕ)) where
  module _ (tables : Tables) where
    -- what is kept stands for states that agree alone
    pub one_stands : (kept : Kept) (v w : State) → Stands tokens names tables kept v →
        Stands tokens names tables kept w → Agree names v w
    one_stands kept v w h k = record {
      position = h.position ∙ sym k.position;
      text = spells_one (texts_of tables) kept.text v.text w.text h.text k.text;
      span = h.span ∙ sym k.span;
      variables = variable_at (texts_of tables) names h.knowns v.variables w.variables h.variables
          (subst (λ (ks : List Known). AreVariables (texts_of tables) names ks w.variables)
          (spells_one (variables_of tables) kept.variables k.knowns h.knowns k.listed h.listed)
          k.variables);
    }

    -- and for all of them
    pub agree_stands : (kept : Kept) (v w : State) → Agree names v w →
        Stands tokens names tables kept v → Stands tokens names tables kept w
    agree_stands kept v w agree h = record {
      position = sym agree.position ∙ h.position;
      within = h.within;
      text = subst (λ (t : List ℕ). Spells (texts_of tables) kept.text t) agree.text h.text;
      utf8 = subst IsUtf8 agree.text h.utf8;
      span = sym agree.span ∙ h.span;
      first = h.first;
      knowns = h.knowns;
      listed = h.listed;
      variables = record {
        count = h.variables.count;
        each = λ i name known at known_at.
            subst (λ (x : Variable). IsVariable (texts_of tables) known x)
            (agree.variables name (i, at)) (h.variables.each i name known at known_at);
      };
    }

    -- states that agree are kept as one
    stands_one : AreTables names tables → (k l : Kept) (v w : State) →
        Stands tokens names tables k v → Stands tokens names tables l w → Agree names v w → k ≡ l
    stands_one sound k l v w h g agree =
        let same = knowns_one (texts_of tables) sound.texts names h.knowns g.knowns v.variables
        w.variables h.variables g.variables agree.variables in
        kept_same k l (sym h.position ∙ (agree.position ∙ g.position))
        (number_one (texts_of tables) sound.texts w.text k.text l.text
        (subst (λ (t : List ℕ). Spells (texts_of tables) k.text t) agree.text h.text) g.text)
        (first_same k.position l.position k.first l.first (sym h.span ∙ (agree.span ∙ g.span)))
        (number_one (variables_of tables) sound.variables g.knowns k.variables l.variables
        (subst (λ (ks : List Known). Spells (variables_of tables) k.variables ks) same h.listed)
        g.listed)

    -- a number stands for states that agree alone
    pub state_agree : (s : ℕ) (v w : State) → IsState tokens names tables s v →
        IsState tokens names tables s w → Agree names v w
    state_agree s v w h k =
        let same : k.kept ≡ h.kept = same_Some k.kept h.kept (sym k.at ∙ h.at) in
        one_stands h.kept v w h.stands
        (subst (λ (kept : Kept). Stands tokens names tables kept w) same k.stands)

    -- and for all of them
    pub agree_state : (s : ℕ) (v w : State) → Agree names v w → IsState tokens names tables s v →
        IsState tokens names tables s w
    agree_state s v w agree h = record {
      sound = h.sound;
      kept = h.kept;
      at = h.at;
      stands = agree_stands h.kept v w agree h.stands;
    }

    -- states that agree have one number
    state_one : (s t : ℕ) (v w : State) → IsState tokens names tables s v →
        IsState tokens names tables t w → Agree names v w → s ≡ t
    state_one s t v w h k agree =
        let same = stands_one h.sound h.kept k.kept v w h.stands k.stands agree in
        h.sound.states s t k.kept (h.at ∙ ap Some same) k.at

    numbered_one : (o p : Option State) (r t : Option ℕ) → AgreeBoth names o p →
        AreNumbered tokens names tables o r → AreNumbered tokens names tables p t → r ≡ t
    numbered_one None None r t agree h k = h ∙ sym k
    numbered_one None (Some w) r t agree h k = absurd agree
    numbered_one (Some v) None r t agree h k = absurd agree
    numbered_one (Some v) (Some w) r t agree h k =
        h.1 ∙ (ap Some (state_one h.0 k.0 v w h.2 k.2 agree) ∙ sym k.1)

    numbered_state : (o : Option State) (u : ℕ) → AreNumbered tokens names tables o (Some u) →
        (v : State) × IsState tokens names tables u v
    numbered_state None u h = absurd (none-some u (sym h))
    numbered_state (Some v) u h =
        (v, subst (λ (n : ℕ). IsState tokens names tables n v) (sym (same_Some u h.0 h.1)) h.2)

  module _ (novar : NoVar) (v w : State) (agree : Agree names v w) where
    put_agree : (text : List ℕ) → Agree names (after_put v text) (after_put w text)
    put_agree text = record {
      position = agree.position;
      text = ap (λ (t : List ℕ). t ++ text) agree.text;
      span = agree.span;
      variables = λ name counts.
          ap (λ (x : Variable). collecting text x) (agree.variables name counts);
    }

    change_agree : (name : List ℕ) (change : Variable → Variable) →
        Agree names (changing name change v) (changing name change w)
    change_agree name change = record {
      position = agree.position;
      text = agree.text;
      span = agree.span;
      variables = λ other counts.
          ap (λ (x : Variable). if bytes_eq name other then change x else x)
          (agree.variables other counts);
    }

    begin_agree : (named : Named) → Agree names (after_begin v named) (after_begin w named)
    begin_agree (input name) =
        subst (λ (p : ℕ). Agree names (changing name (noted_at v.position) v)
        (changing name (noted_at p) w)) agree.position (change_agree name (noted_at v.position))
    begin_agree (output name) = change_agree name opened

    end_agree : (named : Named) →
        Agree names (after_end tokens v named) (after_end tokens w named)
    end_agree (input name) =
        subst (λ (p : ℕ). Agree names (after_end tokens v (input name)) (changing name
        (ended_input (λ begin. text_between tokens (skip tokens begin) p)) w)) agree.position
        (change_agree name
        (ended_input (λ begin. text_between tokens (skip tokens begin) v.position)))
    end_agree (output name) = change_agree name ended_output

    value_agree : (value : Option (List ℕ)) →
        AgreeBoth names (after_value novar v value) (after_value novar w value)
    value_agree (Some value) = put_agree value
    value_agree None = without novar
      where
        without : (novar : NoVar) →
            AgreeBoth names (after_value novar v None) (after_value novar w None)
        without Nothing = agree
        without Drop = tt

    test_agree : (holds : Bool) → AgreeBoth names (after_test v holds) (after_test w holds)
    test_agree true = agree
    test_agree false = tt

    asked_agree : (asked : Asked) → Counts names (asked_name asked) →
        AgreeBoth names (after_asked novar v asked) (after_asked novar w asked)
    asked_agree (value_of name) counts =
        subst (λ (x : Variable). AgreeBoth names (after_asked novar v (value_of name))
        (after_value novar w x.value)) (agree.variables name counts)
        (value_agree (v.variables name).value)
    asked_agree (is_set name) counts =
        subst (λ (x : Variable). AgreeBoth names (after_asked novar v (is_set name))
        (after_test w (is_some x.value))) (agree.variables name counts)
        (test_agree (is_some (v.variables name).value))
    asked_agree (is_unset name) counts =
        subst (λ (x : Variable). AgreeBoth names (after_asked novar v (is_unset name))
        (after_test w (is_none x.value))) (agree.variables name counts)
        (test_agree (is_none (v.variables name).value))

    -- states that agree do so after an event that fits
    pub after_agree : (mode : Mode) (event : Event) → Fits tokens mode names v.position event →
        AgreeBoth names (after_event mode novar tokens v event)
        (after_event mode novar tokens w event)
    after_agree mode (Take from to) fits = record {
      position = refl;
      text =
          ap (λ (o : Option Span). v.text ++ text_taken mode tokens (begin_of tokens o from to) to)
          agree.span
          ∙ ap (λ (t : List ℕ). t ++ text_taken mode tokens (begin_of tokens w.span from to) to)
          agree.text;
      span = ap (λ (o : Option Span). span_after o (begin_of tokens o from to) to) agree.span;
      variables = agree.variables;
    }
    after_agree Ignore (Put text) fits = agree
    after_agree Merge (Put text) fits = put_agree text
    after_agree Replace (Put text) fits = put_agree text
    after_agree Ignore (Value text) fits = agree
    after_agree Merge (Value text) fits = asked_agree (asked_by text) fits
    after_agree Replace (Value text) fits = asked_agree (asked_by text) fits
    after_agree mode (Begin text) fits = begin_agree (named_by text)
    after_agree mode (End text) fits = end_agree (named_by text)
    after_agree mode Cut fits = record {
      position = agree.position;
      text = refl;
      span = refl;
      variables = agree.variables;
    }

-- an event has one result
pub next_one : (fold : RenderingFold) (s : ℕ) (event : Event) (r t : Option ℕ) →
    NextBy fold s event r → NextBy fold s event t → r ≡ t
next_one fold s event r t h k =
    let agree = state_agree fold.text.now fold.names.now fold.tables s h.state k.state h.is_state
    k.is_state in
    elim h.follows [
      | inl goes ↦ elim k.follows [
        | inl also ↦ numbered_one fold.text.now fold.names.now fold.tables
            (after_event fold.mode fold.novar fold.text.now h.state event)
            (after_event fold.mode fold.novar fold.text.now k.state event) r t
            (after_agree fold.text.now fold.names.now fold.novar h.state k.state agree fold.mode
            event goes.0) goes.1 also.1
        | inr not ↦ absurd (not.0 (subst
            (λ (p : ℕ). Fits fold.text.now fold.mode fold.names.now p event)
            agree.position goes.0))
      ]
      | inr not ↦ elim k.follows [
        | inl also ↦ absurd (not.0 (subst
            (λ (p : ℕ). Fits fold.text.now fold.mode fold.names.now p event)
            (sym agree.position) also.0))
        | inr neither ↦ not.1 ∙ sym neither.1
      ]
    ]

-- what becomes of a state stands for something
pub means_after : (fold : RenderingFold) (s : ℕ) (event : Event) (u : ℕ) →
    NextBy fold s event (Some u) → (meant : Rendered) × Means fold u meant
means_after fold s event u h = elim h.follows [
  | inl goes ↦
      let is = numbered_state fold.text.now fold.names.now fold.tables
      (after_event fold.mode fold.novar fold.text.now h.state event) u goes.1 in
      (rendered_by fold is.0, record { is = refl; is_state = is.1 })
  | inr not ↦ absurd (none-some u (sym not.1))
]
