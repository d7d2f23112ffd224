-- Tables that grow keep what their numbers stand for.
use Rattle.std.proofs.Common.{arith, ◌≡◌, ℕ, ◌-◌, ◌<◌, ◌≤◌, List, [], ◌++◌, refl, sym, ap, subst, ◌∙◌, length, append-nil}
use Rattle.std.specs.Prelude.{Option, Some, None, IfSome, slice_get}
use Rattle.std.specs.Str.{IsUtf8}
use Rattle.std.proofs.lemmas.Option.{slice_get_within}
use Rattle.std.proofs.lemmas.Str.{IsUtf8-append}
use Rattle.ux_base.specs.declared.settings.Mode.{Mode}
use Rattle.ux_tokens.specs.Tokens.{Token}
use Rattle.ux_outputs.specs.declared.hit.Hit.{Hit}
use Rattle.ux_outputs.specs.declared.span.Span.{Span}
use Rattle.ux_outputs.specs.Variables.{Variable, Variables}
use Rattle.ux_outputs.specs.Rendering.{State, after_cut, after_take, begin_of, hit_of, span_after, state_at, text_taken}
use Rattle.ux_folds.specs.declared.kept.Kept.{Kept}
use Rattle.ux_folds.specs.declared.kept.Known.{Known}
use Rattle.ux_folds.specs.declared.lists.Link.{Link}
use Rattle.ux_folds.specs.declared.tables.Tables.{Tables}
use Rattle.ux_folds.specs.Lists.{AreOnce, AreSound, IsFirstOf, IsMore, Keeps, Spells}
use Rattle.ux_folds.specs.Tables.{AreTables, AreVariables, IsGrown, IsNothing, IsPushed, IsText, IsVariable, Stands, Turns, span_to, states_of, texts_of, variables_of}
use Rattle.ux_folds.proofs.ListsLemmas.{keeps_more, keeps_same, spells_kept}

module _ (old new : List (Link ℕ)) (keeps : Keeps old new) where
  text_kept : (number : Option ℕ) (text : Option (List ℕ)) → IsText old number text →
      IsText new number text
  text_kept None text h = h
  text_kept (Some n) text h = (h.0, h.1, spells_kept old new keeps n h.0 h.2, h.3)

  -- more texts keep what is known of a variable
  pub variable_kept : (known : Known) (variable : Variable) → IsVariable old known variable →
      IsVariable new known variable
  variable_kept known variable h = record {
    noted = h.noted;
    collected = text_kept known.collected variable.collected h.collected;
    value = text_kept known.value variable.value h.value;
  }

  -- and of all of them
  pub variables_kept : (names : List (List ℕ)) (knowns : List Known) (variables : Variables) →
      AreVariables old names knowns variables → AreVariables new names knowns variables
  variables_kept names knowns variables h = record {
    count = h.count;
    each = λ i name known at known_at.
        variable_kept known (variables name) (h.each i name known at known_at);
  }

module _ (names : List (List ℕ)) where
  -- tables that stay
  pub grown_same : (tables : Tables) → AreTables names tables → IsGrown names tables tables
  grown_same tables sound = record {
    tables = sound;
    texts = keeps_same (texts_of tables);
    variables = keeps_same (variables_of tables);
    states = keeps_same (states_of tables);
  }

  -- tables that grow twice
  pub grown_then : (old mid new : Tables) → IsGrown names old mid → IsGrown names mid new →
      IsGrown names old new
  grown_then old mid new first second = record {
    tables = second.tables;
    texts = keeps_more (texts_of old) (texts_of mid) (texts_of new) first.texts second.texts;
    variables = keeps_more (variables_of old) (variables_of mid) (variables_of new)
        first.variables second.variables;
    states = keeps_more (states_of old) (states_of mid) (states_of new) first.states second.states;
  }

  -- what is kept stands for the same as tables grow
  pub stands_kept : (tokens : List Token) (old new : Tables) → Keeps (texts_of old) (texts_of new) →
      Keeps (variables_of old) (variables_of new) → (kept : Kept) (state : State) →
      Stands tokens names old kept state → Stands tokens names new kept state
  stands_kept tokens old new texts variables kept state h = record {
    position = h.position;
    within = h.within;
    text = spells_kept (texts_of old) (texts_of new) texts kept.text state.text h.text;
    utf8 = h.utf8;
    span = h.span;
    first = h.first;
    knowns = h.knowns;
    listed = spells_kept (variables_of old) (variables_of new) variables kept.variables h.knowns
        h.listed;
    variables = variables_kept (texts_of old) (texts_of new) texts names h.knowns state.variables
        h.variables;
  }

-- a text with more behind it
pub bytes_pushed : (old new : Tables) (front number : ℕ) (more : List ℕ) →
    variables_of new ≡ variables_of old → states_of new ≡ states_of old →
    IsMore (texts_of old) (texts_of new) front more number → IsPushed old new front more number
bytes_pushed old new front number more variables states is names text sound named =
    let p = is text sound.texts named in (
      record {
        tables = record {
          names_once = sound.names_once;
          texts = p.0;
          variables = subst (λ (l : List (Link Known)). AreSound l) (sym variables) sound.variables;
          states = subst (λ (l : List Kept). AreOnce l) (sym states) sound.states;
        };
        texts = p.1;
        variables = subst (λ (l : List (Link Known)). Keeps (variables_of old) l) (sym variables)
            (keeps_same (variables_of old));
        states = subst (λ (l : List Kept). Keeps (states_of old) l) (sym states)
            (keeps_same (states_of old));
      },
      p.2,
    )

-- a text with nothing behind it
pub nothing_pushed : (tables : Tables) (front : ℕ) → IsPushed tables tables front [] front
nothing_pushed tables front names text sound named = (
  grown_same names tables sound,
  subst (λ (t : List ℕ). Spells (texts_of tables) front t) (sym (append-nil text)) named,
)

-- a list of what is known with more behind it
pub knowns_pushed : (old new : Tables) (front number : ℕ) (more : List Known) →
    texts_of new ≡ texts_of old → states_of new ≡ states_of old →
    IsMore (variables_of old) (variables_of new) front more number → (names : List (List ℕ))
    (knowns : List Known) → AreTables names old → Spells (variables_of old) front knowns →
    IsGrown names old new × Spells (variables_of new) number (knowns ++ more)
knowns_pushed old new front number more texts states is names knowns sound named =
    let p = is knowns sound.variables named in (
      record {
        tables = record {
          names_once = sound.names_once;
          texts = subst (λ (l : List (Link ℕ)). AreSound l) (sym texts) sound.texts;
          variables = p.0;
          states = subst (λ (l : List Kept). AreOnce l) (sym states) sound.states;
        };
        texts = subst (λ (l : List (Link ℕ)). Keeps (texts_of old) l) (sym texts)
            (keeps_same (texts_of old));
        variables = p.1;
        states = subst (λ (l : List Kept). Keeps (states_of old) l) (sym states)
            (keeps_same (states_of old));
      },
      p.2,
    )

-- a state with a number
pub state_placed : (old new : Tables) (kept : Kept) (number : ℕ) → texts_of new ≡ texts_of old →
    variables_of new ≡ variables_of old → IsFirstOf (states_of old) (states_of new) kept number →
    (names : List (List ℕ)) → AreTables names old →
    IsGrown names old new × (slice_get (states_of new) number ≡ Some kept)
state_placed old new kept number texts variables is names sound = (
  record {
    tables = record {
      names_once = sound.names_once;
      texts = subst (λ (l : List (Link ℕ)). AreSound l) (sym texts) sound.texts;
      variables = subst (λ (l : List (Link Known)). AreSound l) (sym variables) sound.variables;
      states = is.once;
    };
    texts = subst (λ (l : List (Link ℕ)). Keeps (texts_of old) l) (sym texts)
        (keeps_same (texts_of old));
    variables = subst (λ (l : List (Link Known)). Keeps (variables_of old) l) (sym variables)
        (keeps_same (variables_of old));
    states = is.kept;
  },
  is.at,
)

-- what is kept stands for the same where texts and lists stay
pub stands_same : (tokens : List Token) (names : List (List ℕ)) (old new : Tables) →
    texts_of new ≡ texts_of old → variables_of new ≡ variables_of old → (kept : Kept)
    (state : State) → Stands tokens names old kept state → Stands tokens names new kept state
stands_same tokens names old new texts variables kept state h =
    stands_kept names tokens old new
    (subst (λ (l : List (Link ℕ)). Keeps (texts_of old) l) (sym texts) (keeps_same (texts_of old)))
    (subst (λ (l : List (Link Known)). Keeps (variables_of old) l) (sym variables)
    (keeps_same (variables_of old))) kept state h

-- tokens that are taken
pub taken : (old new : Tables) (tokens : List Token) (mode : Mode) (kept : Kept)
    (from to begin text : ℕ) (first : Option ℕ) → from ≡ kept.position → from < to →
    to ≤ length tokens → IsPushed old new kept.text (text_taken mode tokens begin to) text →
    IsUtf8 (text_taken mode tokens begin to) →
    ((position : ℕ) → begin ≡ begin_of tokens (span_to position kept.first) from to) →
    ((position : ℕ) → span_to to first ≡ span_after (span_to position kept.first) begin to) →
    ((position : ℕ) → position ≤ to → IfSome kept.first (λ token. token < position) →
    IfSome first (λ token. token < to)) → (names : List (List ℕ)) →
    Turns tokens names old new kept (λ state. after_take mode tokens state from to)
    (record kept { position = to; text = text; first = first })
taken old new tokens mode kept from to begin text first here some within pushed utf8 begins spans
    below names state sound h =
    let p = pushed names state.text sound h.text in
    let begin_is : begin ≡ begin_of tokens state.span from to = begins kept.position
    ∙ ap (λ (o : Option Span). begin_of tokens o from to) (sym h.span) in (
      p.0,
      record {
        position = refl;
        within = within;
        text = subst (λ (b : ℕ). Spells (texts_of new) text
            (state.text ++ text_taken mode tokens b to)) begin_is p.1;
        utf8 = IsUtf8-append state.text (text_taken mode tokens
            (begin_of tokens state.span from to) to) h.utf8
            (subst (λ (b : ℕ). IsUtf8 (text_taken mode tokens b to)) begin_is utf8);
        span = sym (spans kept.position
            ∙ (ap (λ (o : Option Span). span_after o begin to) (sym h.span)
            ∙ ap (λ (b : ℕ). span_after state.span b to) begin_is));
        first = below kept.position (omega (arith, here, some)) h.first;
        knowns = h.knowns;
        listed = spells_kept (variables_of old) (variables_of new) p.0.variables kept.variables
            h.knowns h.listed;
        variables = variables_kept (texts_of old) (texts_of new) p.0.texts names h.knowns
            state.variables h.variables;
      },
    )

-- what stands to the left is left out
pub cut_off : (tokens : List Token) (names : List (List ℕ)) (tables : Tables) (kept : Kept) →
    IsUtf8 [] →
    Turns tokens names tables tables kept after_cut (record kept { text = 0; first = None })
cut_off tokens names tables kept empty state sound h = (
  grown_same names tables sound,
  record {
    position = h.position;
    within = h.within;
    text = refl;
    utf8 = empty;
    span = refl;
    first = tt;
    knowns = h.knowns;
    listed = h.listed;
    variables = h.variables;
  },
)

-- the start, at which nothing is rendered
pub started : (tokens : List Token) (names : List (List ℕ)) (tables : Tables)
    (start variables : ℕ) → start ≤ length tokens → IsUtf8 [] → IsNothing names tables variables →
    Stands tokens names tables
    (record { position = start; text = 0; first = None; variables = variables }) (state_at start)
started tokens names tables start variables inside empty nothing = record {
  position = refl;
  within = inside;
  text = refl;
  utf8 = empty;
  span = refl;
  first = tt;
  knowns = nothing.knowns;
  listed = nothing.listed;
  variables = nothing.variables;
}

-- where no token was taken there is no hit
pub no_hit : (tokens : List Token) (names : List (List ℕ)) (tables : Tables) (kept : Kept)
    (state : State) → kept.first ≡ None → Stands tokens names tables kept state →
    None ≡ hit_of state
no_hit tokens names tables kept state none h =
    let span : state.span ≡ None = h.span
    ∙ ap (λ (o : Option ℕ). span_to kept.position o) none in
    let hit : (text : List ℕ) → Option Span → Option Hit = λ text span.
    hit_of (record state { text = text; span = span }) in
    sym (ap (hit state.text) span)

-- and else it has the tokens and the text
pub has_hit : (tokens : List Token) (names : List (List ℕ)) (tables : Tables) (kept : Kept)
    (state : State) (first : ℕ) (bytes : List ℕ) → kept.first ≡ Some first → bytes ≡ state.text →
    Stands tokens names tables kept state →
    Some (record { first = first; last = kept.position - 1; text = bytes }) ≡ hit_of state
has_hit tokens names tables kept state first bytes some text h =
    let span : state.span ≡ Some (record { first = first; last = kept.position - 1 }) = h.span
    ∙ ap (λ (o : Option ℕ). span_to kept.position o) some in
    let hit : (text : List ℕ) → Option Span → Option Hit = λ text span.
    hit_of (record state { text = text; span = span }) in
    ap (λ (t : List ℕ). hit t (Some (record { first = first; last = kept.position - 1 }))) text
    ∙ sym (ap (hit state.text) span)

-- no link
pub sound_none : {A : Type 0} (links : List (Link A)) → links ≡ [] → AreSound links
sound_none {A} links none = subst (λ (l : List (Link A)). AreSound l) (sym none) (record {
  once = λ i j link at there.
      absurd (let w = slice_get_within [] i link at in omega (arith, w));
  below = λ i link at. absurd (let w = slice_get_within [] i link at in omega (arith, w));
})

-- no value
pub once_none : {A : Type 0} (xs : List A) → xs ≡ [] → AreOnce xs
once_none {A} xs none = subst (λ (l : List A). AreOnce l) (sym none)
    (λ i j x at there. absurd (let w = slice_get_within [] i x at in omega (arith, w)))
