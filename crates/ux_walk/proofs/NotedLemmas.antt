-- A noted event stands for one event, and stays so as texts and links are added; where no text and
-- no link stands twice, the same events have one number.
use Rattle.std.proofs.Common.{◌≡◌, ℕ, List, [], ◌∷◌, refl, sym, ◌∙◌, ap, subst}
use Rattle.std.specs.Prelude.{Some, slice_get}
use Rattle.std.specs.List.{AllZip}
use Rattle.std.proofs.lemmas.Option.{same_Some}
use Rattle.ux_base.specs.Distinct.{StandOnce}
use Rattle.ux_outputs.specs.declared.event.Event.{Event}
use Rattle.ux_outputs.specs.declared.event.Event.TheVariants as event
use Rattle.ux_walk.specs.declared.lists.Link.{Link}
use Rattle.ux_walk.specs.declared.noted.Noted.{Noted}
use Rattle.ux_walk.specs.declared.noted.Noted.TheVariants as note
use Rattle.ux_walk.specs.Links.{AreOnce, Extends, IsConsed, Names}
use Rattle.ux_walk.specs.Noted.{IsOfText, KeepPlaces, StandsFor, NamesEvents}
use Rattle.ux_walk.proofs.LinksLemmas.{names_kept, one_list, one_number, consed_names}

module _ (old new : List (List ℕ)) (kept : KeepPlaces old new) where
  of_text_kept : (place : ℕ) (of : List ℕ → Event) (e : Event) → IsOfText old place of e →
      IsOfText new place of e
  of_text_kept place of e is = (is.0, kept place is.0 is.1, is.2)

  -- a noted event stands for the same as more texts have places
  pub stands_kept : (n : Noted) (e : Event) → StandsFor old n e → StandsFor new n e
  stands_kept (note.Take from to) e is = is
  stands_kept (note.Put place) e is = of_text_kept place (λ text. event.Put text) e is
  stands_kept (note.Value place) e is = of_text_kept place (λ text. event.Value text) e is
  stands_kept (note.Begin place) e is = of_text_kept place (λ text. event.Begin text) e is
  stands_kept (note.End place) e is = of_text_kept place (λ text. event.End text) e is
  stands_kept note.Cut e is = is

  all_kept : (ns : List Noted) (es : List Event) → AllZip (StandsFor old) ns es →
      AllZip (StandsFor new) ns es
  all_kept [] [] zip = tt
  all_kept [] (e ∷ es) zip = absurd zip
  all_kept (n ∷ ns) [] zip = absurd zip
  all_kept (n ∷ ns) (e ∷ es) zip = (stands_kept n e zip.0, all_kept ns es zip.1)

  -- and so does a number
  pub tells_kept : (before after : List (Link Noted)) → Extends before after → (number : ℕ)
      (es : List Event) → NamesEvents old before number es → NamesEvents new after number es
  tells_kept before after extends number es tells = record {
    listed = tells.listed;
    names = names_kept before after extends number tells.listed tells.names;
    each = all_kept tells.listed es tells.each;
  }

module _ (texts : List (List ℕ)) where
  one_of_text : (place : ℕ) (of : List ℕ → Event) (d e : Event) → IsOfText texts place of d →
      IsOfText texts place of e → d ≡ e
  one_of_text place of d e is that =
      is.2 ∙ (ap of (same_Some is.0 that.0 (sym is.1 ∙ that.1)) ∙ sym that.2)

  -- a noted event stands for one event
  pub one_event : (n : Noted) (d e : Event) → StandsFor texts n d → StandsFor texts n e → d ≡ e
  one_event (note.Take from to) d e is that = is ∙ sym that
  one_event (note.Put place) d e is that = one_of_text place (λ text. event.Put text) d e is that
  one_event (note.Value place) d e is that =
      one_of_text place (λ text. event.Value text) d e is that
  one_event (note.Begin place) d e is that =
      one_of_text place (λ text. event.Begin text) d e is that
  one_event (note.End place) d e is that = one_of_text place (λ text. event.End text) d e is that
  one_event note.Cut d e is that = is ∙ sym that

  same_events : (ns : List Noted) (ds es : List Event) → AllZip (StandsFor texts) ns ds →
      AllZip (StandsFor texts) ns es → ds ≡ es
  same_events [] [] [] this that = refl
  same_events [] (d ∷ ds) es this that = absurd this
  same_events [] [] (e ∷ es) this that = absurd that
  same_events (n ∷ ns) [] es this that = absurd this
  same_events (n ∷ ns) (d ∷ ds) [] this that = absurd that
  same_events (n ∷ ns) (d ∷ ds) (e ∷ es) this that =
      ap (λ (x : Event). x ∷ ds) (one_event n d e this.0 that.0)
      ∙ ap (λ (l : List Event). e ∷ l) (same_events ns ds es this.1 that.1)

  -- a number tells of one list of events
  pub one_telling : (links : List (Link Noted)) (number : ℕ) (ds es : List Event) →
      NamesEvents texts links number ds → NamesEvents texts links number es → ds ≡ es
  one_telling links number ds es this that =
      let listed = one_list links number this.listed that.listed this.names that.names in
      same_events that.listed ds es
      (subst (λ (l : List Noted). AllZip (StandsFor texts) l ds) listed this.each) that.each

  -- one more event, in front of those of a list
  pub tells_more : (old new : List (Link Noted)) (n : Noted) (e : Event) (tail number : ℕ) →
      IsConsed old new n tail number → StandsFor texts n e → (es : List Event) →
      NamesEvents texts old tail es → NamesEvents texts new number (e ∷ es)
  tells_more old new n e tail number consed stands es tells = record {
    listed = n ∷ tells.listed;
    names = consed_names old new n tail number consed tells.listed tells.names;
    each = (stands, tells.each);
  }

  -- the noted event that stands for an event, where each text has one place
  abbrev IsNotedAs : Event → Noted → Type 0
  IsNotedAs (event.Take from to) n = n ≡ note.Take from to
  IsNotedAs (event.Put text) n =
      (place : ℕ) × (slice_get texts place ≡ Some text) × (n ≡ note.Put place)
  IsNotedAs (event.Value text) n =
      (place : ℕ) × (slice_get texts place ≡ Some text) × (n ≡ note.Value place)
  IsNotedAs (event.Begin text) n =
      (place : ℕ) × (slice_get texts place ≡ Some text) × (n ≡ note.Begin place)
  IsNotedAs (event.End text) n =
      (place : ℕ) × (slice_get texts place ≡ Some text) × (n ≡ note.End place)
  IsNotedAs event.Cut n = n ≡ note.Cut

  noted_as : (n : Noted) (e : Event) → StandsFor texts n e → IsNotedAs e n
  noted_as (note.Take from to) e is =
      subst (λ (x : Event). IsNotedAs x (note.Take from to)) (sym is) refl
  noted_as (note.Put place) e is =
      subst (λ (x : Event). IsNotedAs x (note.Put place)) (sym is.2) (place, is.1, refl)
  noted_as (note.Value place) e is =
      subst (λ (x : Event). IsNotedAs x (note.Value place)) (sym is.2) (place, is.1, refl)
  noted_as (note.Begin place) e is =
      subst (λ (x : Event). IsNotedAs x (note.Begin place)) (sym is.2) (place, is.1, refl)
  noted_as (note.End place) e is =
      subst (λ (x : Event). IsNotedAs x (note.End place)) (sym is.2) (place, is.1, refl)
  noted_as note.Cut e is = subst (λ (x : Event). IsNotedAs x note.Cut) (sym is) refl

  module _ (once : StandOnce texts) where
    same_place : (of : ℕ → Noted) (n m : Noted) (text : List ℕ) →
        ((place : ℕ) × (slice_get texts place ≡ Some text) × (n ≡ of place)) →
        ((place : ℕ) × (slice_get texts place ≡ Some text) × (m ≡ of place)) → n ≡ m
    same_place of n m text this that =
        this.2 ∙ (ap of (once this.0 that.0 text this.1 that.1) ∙ sym that.2)

    as_one : (e : Event) (n m : Noted) → IsNotedAs e n → IsNotedAs e m → n ≡ m
    as_one (event.Take from to) n m this that = this ∙ sym that
    as_one (event.Put text) n m this that =
        same_place (λ place. note.Put place) n m text this that
    as_one (event.Value text) n m this that =
        same_place (λ place. note.Value place) n m text this that
    as_one (event.Begin text) n m this that =
        same_place (λ place. note.Begin place) n m text this that
    as_one (event.End text) n m this that =
        same_place (λ place. note.End place) n m text this that
    as_one event.Cut n m this that = this ∙ sym that

    same_noted : (ns ms : List Noted) (es : List Event) → AllZip (StandsFor texts) ns es →
        AllZip (StandsFor texts) ms es → ns ≡ ms
    same_noted [] [] [] this that = refl
    same_noted [] ms (e ∷ es) this that = absurd this
    same_noted (n ∷ ns) ms [] this that = absurd this
    same_noted [] (m ∷ ms) [] this that = absurd that
    same_noted (n ∷ ns) [] (e ∷ es) this that = absurd that
    same_noted (n ∷ ns) (m ∷ ms) (e ∷ es) this that =
        let first : n ≡ m = as_one e n m (noted_as n e this.0) (noted_as m e that.0) in
        ap (λ (x : Noted). x ∷ ns) first
        ∙ ap (λ (l : List Noted). m ∷ l) (same_noted ns ms es this.1 that.1)

    -- a list of events has one number
    pub one_teller : (links : List (Link Noted)) → AreOnce links → (n m : ℕ) (es : List Event) →
        NamesEvents texts links n es → NamesEvents texts links m es → n ≡ m
    one_teller links links_once n m es this that =
        let listed = same_noted this.listed that.listed es this.each that.each in
        one_number links links_once that.listed n m
        (subst (λ (l : List Noted). Names links n l) listed this.names) that.names
