-- What is added to what a walk has reached, one step after another.
use Rattle.std.proofs.Common.{◌≡◌, ℕ, ◌+◌, ◌<◌, List, [], ◌∷◌, ◌++◌, ◌⊎◌, ◌↔◌, inl, inr, refl, sym, ◌∙◌, ap, subst, Bool, length, get_or, map, reverse, take}
use Rattle.std.specs.Prelude.{Contains}
use Rattle.std.proofs.lemmas.List.{map_more, reverse-append}
use Rattle.ux_grf.specs.declared.item.Piece.{Piece}
use Rattle.ux_outputs.specs.declared.event.Event.{Event}
use Rattle.ux_walk.specs.declared.lists.Link.{Link}
use Rattle.ux_walk.specs.declared.config.Frame.{Frame}
use Rattle.ux_walk.specs.declared.config.Visit.{Visit}
use Rattle.ux_walk.specs.declared.config.Config.{Config}
use Rattle.ux_walk.specs.declared.noted.Noted.{Noted}
use Rattle.ux_walk.specs.declared.reached.Reached.{Reached}
use Rattle.ux_walk.specs.Groups.{AreGrouped, Grows, IsAdded, IsIn}
use Rattle.ux_walk.specs.Links.{AreBelow, IsConsed}
use Rattle.ux_walk.specs.Courses.{Course, put_event, put_events}
use Rattle.ux_walk.specs.Noted.{IsPlacedIn, StandsFor, NamesEvents}
use Rattle.ux_walk.specs.Configurations.{Adds, AddsFrom, IsNamed, IsSound, IsVisit, NoCourse, Notes, Numbers, Of, Places, Spells, events_of, given, going, texts_of}
use Rattle.ux_walk.proofs.AppendLemmas.{extends_more, extends_same}
use Rattle.ux_walk.proofs.JoinsLemmas.{grows_alike, grows_more, grows_same}
use Rattle.ux_walk.proofs.LinksLemmas.{consed_extends, consed_below}
use Rattle.ux_walk.proofs.NotedLemmas.{tells_more}
use Rattle.ux_walk.proofs.Items.{Items, adds_items, closed_items}
use Rattle.ux_walk.proofs.Keeping.{places_alike, Keeps, keeps, telling_kept, visit_kept, named_kept, places_same, spread_more}

-- nothing was added
pub adds_nothing : (Told : Visit → Course → Type 0) (r : Reached) → IsSound r →
    ((v : Visit) (w : Course) → Told v w → ⊥) → Adds Told r r
adds_nothing Told r sound never = record {
  sound = sound;
  closed = λ closed. closed;
  events = extends_same (events_of r);
  texts = places_same (texts_of r);
  visits = grows_same r.visits.keys;
  configs = grows_same r.configs.keys;
  kept = λ v w h. h;
  has = λ v w t. absurd (never v w t);
  only = λ v w h. given (inl h);
}

-- one step after another
pub adds_then : (First Second Told : Visit → Course → Type 0) (old mid new : Reached) →
    Adds First old mid → Adds Second mid new →
    ((v : Visit) (w : Course) → Told v w ↔ (First v w ⊎ Second v w)) → Adds Told old new
adds_then First Second Told old mid new first second told = record {
  sound = second.sound;
  closed = λ closed. second.closed (first.closed closed);
  events = extends_more (events_of old) (events_of mid) (events_of new) first.events second.events;
  texts = λ place text at. second.texts place text (first.texts place text at);
  visits = grows_more old.visits.keys mid.visits.keys new.visits.keys first.visits second.visits;
  configs = grows_more old.configs.keys mid.configs.keys new.configs.keys first.configs
      second.configs;
  kept = λ v w h. second.kept v w (first.kept v w h);
  has = λ v w t. elim ((told v w).0 t) [
    | inl a ↦ second.kept v w (first.has v w a)
    | inr b ↦ second.has v w b
  ];
  only = λ v w h. spread_more (λ u x e. elim e [
    | inl m ↦ spread_more (λ t y d. elim d [
      | inl o ↦ given (inl o)
      | inr a ↦ given (inr ((told t y).1 (inl a)))
    ]) (first.only u x m)
    | inr b ↦ given (inr ((told u x).1 (inr b)))
  ]) (second.only v w h);
}

-- the same in other words
pub adds_alike : (Told Wanted : Visit → Course → Type 0) (old new : Reached) → Adds Told old new →
    ((v : Visit) (w : Course) → Told v w ↔ Wanted v w) → Adds Wanted old new
adds_alike Told Wanted old new adds same = record {
  sound = adds.sound;
  closed = adds.closed;
  events = adds.events;
  texts = adds.texts;
  visits = adds.visits;
  configs = adds.configs;
  kept = adds.kept;
  has = λ v w t. adds.has v w ((same v w).1 t);
  only = λ v w h. spread_more (λ u x e. elim e [
    | inl o ↦ given (inl o)
    | inr t ↦ given (inr ((same u x).0 t))
  ]) (adds.only v w h);
}

module _ (v : Visit) (Told : Course → Type 0) where
  -- no course of the visit
  pub nothing_of : (r : Reached) → IsSound r → ((w : Course) → Told w → ⊥) → Adds (Of v Told) r r
  nothing_of r sound never = adds_nothing (Of v Told) r sound (λ u w t. never w t.1)

  -- the same courses of the visit in other words
  pub adds_of : (Wanted : Course → Type 0) (old new : Reached) → Adds (Of v Told) old new →
      ((w : Course) → Told w ↔ Wanted w) → Adds (Of v Wanted) old new
  adds_of Wanted old new adds same = adds_alike (Of v Told) (Of v Wanted) old new adds
      (λ u w. (λ t. (t.0, (same w).0 t.1), λ t. (t.0, (same w).1 t.1)))

-- what was reached of configurations, callers and derivations is the same
pub record SameItems (old mid : Reached) : Type 0 where
  pub configs : mid.configs.keys ≡ old.configs.keys
  pub returns : mid.returns ≡ old.returns
  pub found : mid.found ≡ old.found

-- lists alone were added
pub adds_lists : (old mid : Reached) → Keeps old mid → SameItems old mid → IsSound old →
    AreBelow (events_of mid) → Adds NoCourse old mid
adds_lists old mid kept same sound below = adds_items NoCourse old mid sound items
    (closed_items NoCourse old mid sound items
    (λ n r h. inl (subst (λ g. IsIn g n r) same.returns h))
    (λ n r f h k. inl (
      subst (λ g. IsIn g n r) same.returns h,
      subst (λ g. IsIn g n f) same.found k,
    )))
  where
    items : Items NoCourse old mid
    items = record {
      kept = kept;
      below = below;
      returns_grouped = subst (λ g. AreGrouped g) (sym same.returns) sound.returns_grouped;
      found_grouped = subst (λ g. AreGrouped g) (sym same.found) sound.found_grouped;
      grows = (grows_alike old.configs.keys _ same.configs);
      returns_kept = λ n r h. subst (λ g. IsIn g n r) (sym same.returns) h;
      found_kept = λ n f h. subst (λ g. IsIn g n f) (sym same.found) h;
      configs = λ c h. inl (subst (λ (l : List Config). Contains l c) same.configs h);
      returns = λ n r h. inl (subst (λ g. IsIn g n r) same.returns h);
      found = λ n f h. inl (subst (λ g. IsIn g n f) same.found h);
      has = λ v w none. absurd none;
    }

-- a configuration is there beside those that were
pub adds_config : (old new : Reached) (c : Config) (is_new : Bool) → Keeps old new → IsSound old →
    events_of new ≡ events_of old → new.returns ≡ old.returns → new.found ≡ old.found →
    IsAdded old.configs.keys new.configs.keys c is_new → (v : Visit) (before : List Event) →
    Spells old c v before → Adds (Of v (λ w. w ≡ going c.here c.at before)) old new
adds_config old new c is_new kept sound events returns found added v before spells =
    adds_items Told old new sound items (closed_items Told old new sound items
    (λ n r h. inl (subst (λ g. IsIn g n r) returns h))
    (λ n r f h k. inl (
      subst (λ g. IsIn g n r) returns h,
      subst (λ g. IsIn g n f) found k,
    )))
  where
    course : Course
    course = going c.here c.at before

    Told : Visit → Course → Type 0
    Told = Of v (λ w. w ≡ going c.here c.at before)

    named : IsNamed new c v course
    named = named_kept old new kept c v course
        (record { before = before; spells = spells; is = refl })

    items : Items Told old new
    items = record {
      kept = kept;
      below = subst (λ (l : List (Link Noted)). AreBelow l) (sym events) sound.events_below;
      returns_grouped = subst (λ g. AreGrouped g) (sym returns) sound.returns_grouped;
      found_grouped = subst (λ g. AreGrouped g) (sym found) sound.found_grouped;
      grows = added.grows;
      returns_kept = λ n r h. subst (λ g. IsIn g n r) (sym returns) h;
      found_kept = λ n f h. subst (λ g. IsIn g n f) (sym found) h;
      configs = λ d h. elim ((added.exact d).0 h) [
        | inl was ↦ inl was
        | inr e ↦ inr (
          v,
          course,
          subst (λ (x : Config). IsNamed new x v course) (sym e) named,
          given (inr (refl, refl)),
        )
      ];
      returns = λ n r h. inl (subst (λ g. IsIn g n r) returns h);
      found = λ n f h. inl (subst (λ g. IsIn g n f) found h);
      has = λ u w t. inl (
        c,
        (added.exact c).1 (inr refl),
        subst (λ (x : Visit). IsNamed new c x w) (sym t.0)
            (subst (λ (x : Course). IsNamed new c v x) (sym t.1) named),
      );
    }

-- lists alone are added, and then courses
pub adds_behind : (Told : Visit → Course → Type 0) (old mid new : Reached) →
    Adds NoCourse old mid → Adds Told mid new → Adds Told old new
adds_behind Told old mid new first second =
    adds_then NoCourse Told Told old mid new first second
    (λ v w. (λ h. inr h, λ h. elim h [ inl none ↦ absurd none | inr t ↦ t ]))

-- an event in front of those of a list
pub adds_event : (old mid : Reached) (n : Noted) (e : Event) (tail number : ℕ) →
    IsConsed (events_of old) (events_of mid) n tail number → StandsFor (texts_of old) n e →
    texts_of mid ≡ texts_of old → mid.visits.keys ≡ old.visits.keys → SameItems old mid →
    Notes old mid (e ∷ []) tail number
adds_event old mid n e tail number consed stands texts visits same before sound tells =
    let kept : Keeps old mid = record {
      events = consed_extends (events_of old) (events_of mid) n tail number consed;
      texts = places_alike (texts_of old) (texts_of mid) texts;
      visits = (grows_alike old.visits.keys _ visits);
    } in (
      adds_lists old mid kept same sound
          (consed_below (events_of old) (events_of mid) n tail number consed sound.events_below
          tells.listed tells.names),
      subst (λ (l : List (List ℕ)). NamesEvents l (events_of mid) number (e ∷ before)) (sym texts)
          (tells_more (texts_of old) (events_of old) (events_of mid) n e tail number consed stands
          before tells),
    )

-- a text has a place in the table
pub adds_text : (old mid : Reached) (text : List ℕ) (place : ℕ) →
    IsPlacedIn (texts_of old) (texts_of mid) text place → events_of mid ≡ events_of old →
    mid.visits.keys ≡ old.visits.keys → SameItems old mid → Places old mid text place
adds_text old mid text place placed events visits same = record {
  placed = placed;
  adds = λ sound.
      let kept : Keeps old mid = record {
        events = (grows_alike (events_of old) _ events);
        texts = placed.kept;
        visits = (grows_alike old.visits.keys _ visits);
      } in
      adds_lists old mid kept same sound
      (subst (λ (l : List (Link Noted)). AreBelow l) (sym events) sound.events_below);
}

-- a visit has a number
pub adds_visit : (old mid : Reached) (v : Visit) (number : ℕ) →
    Grows old.visits.keys mid.visits.keys → IsVisit mid number v →
    events_of mid ≡ events_of old → texts_of mid ≡ texts_of old → SameItems old mid →
    Numbers old mid v number
adds_visit old mid v number grows is events texts same = record {
  visit = is;
  adds = λ sound.
      let kept : Keeps old mid = record {
        events = (grows_alike (events_of old) _ events);
        texts = places_alike (texts_of old) (texts_of mid) texts;
        visits = grows;
      } in
      adds_lists old mid kept same sound
      (subst (λ (l : List (Link Noted)). AreBelow l) (sym events) sound.events_below);
}

-- no event
pub notes_nothing : (r : Reached) (number : ℕ) → Notes r r [] number number
notes_nothing r number before sound tells =
    (adds_nothing NoCourse r sound (λ v w none. none), tells)

pub notes_alike : (r : Reached) (events : List Event) → events ≡ [] → (number : ℕ) →
    Notes r r events number number
notes_alike r events none number = subst (λ (l : List Event). Notes r r l number number) (sym none)
    (notes_nothing r number)

-- a text, and then an event that speaks of it
pub notes_text : (old mid new : Reached) (text : List ℕ) (place : ℕ) (events : List Event)
    (from to : ℕ) → Places old mid text place → Notes mid new events from to →
    Notes old new events from to
notes_text old mid new text place events from to placed notes before sound tells =
    let first = placed.adds sound in
    let second = notes before first.sound (telling_kept old mid (keeps first) from before tells) in
    (adds_behind NoCourse old mid new first second.0, second.1)

-- events, and then one more
pub notes_then : (old mid new : Reached) (e : Event) (events : List Event) (from to last : ℕ) →
    Notes old mid events from to → Notes mid new (e ∷ []) to last →
    Notes old new (e ∷ events) from last
notes_then old mid new e events from to last first second before sound tells =
    let one = first before sound tells in
    let two = second (events ++ before) one.0.sound one.1 in
    (adds_behind NoCourse old mid new one.0 two.0, two.1)

-- one piece more of an output
put_more : (output : List Piece) (i : ℕ) (piece : Piece) → i < length output →
    piece ≡ get_or output i piece →
    reverse (put_events (take (i + 1) output))
    ≡ put_event piece ∷ reverse (put_events (take i output))
put_more output i piece lt is =
    ap (λ (l : List Event). reverse l) (map_more put_event output i piece lt
    ∙ ap (λ (p : Piece). map put_event (take i output) ++ put_event p ∷ []) (sym is))
    ∙ reverse-append (map put_event (take i output)) (put_event piece ∷ [])

pub notes_piece : (old mid new : Reached) (output : List Piece) (i : ℕ) (piece : Piece)
    (from to last : ℕ) → i < length output → piece ≡ get_or output i piece →
    Notes old mid (reverse (put_events (take i output))) from to →
    Notes mid new (put_event piece ∷ []) to last →
    Notes old new (reverse (put_events (take (i + 1) output))) from last
notes_piece old mid new output i piece from to last lt is first second =
    subst (λ (l : List Event). Notes old new l from last) (sym (put_more output i piece lt is))
    (notes_then old mid new (put_event piece) (reverse (put_events (take i output))) from to last
    first second)

-- events were noted, and then courses were added, each with these before it
pub adds_noted : (Told : List Event → Course → Type 0) (old mid new : Reached) (c : Config)
    (here : Frame) (at : ℕ) (events : List Event) (number : ℕ) →
    Notes old mid events c.events number →
    AddsFrom mid new (record {
      visit = c.visit;
      here = here;
      at = at;
      events = number;
    }) Told → AddsFrom old new c (λ before. Told (events ++ before))
adds_noted Told old mid new c here at events number notes adds v before sound spells =
    let first = notes before sound spells.events in
    let visit = visit_kept old mid (keeps first.0) c.visit v spells.visit in
    adds_behind (Of v (Told (events ++ before))) old mid new first.0
    (adds v (events ++ before) first.0.sound (record { visit = visit; events = first.1 }))
