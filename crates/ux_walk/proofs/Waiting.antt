-- A caller waits for what a visit derives.
use Rattle.std.proofs.Common.{◌≡◌, ℕ, List, [], ◌∷◌, ◌++◌, ◌⊎◌, ◌↔◌, inl, inr, refl, sym, subst, Bool, false}
use Rattle.std.specs.Prelude.{Contains}
use Rattle.ux_outputs.specs.declared.event.Event.{Event}
use Rattle.ux_walk.specs.declared.lists.Link.{Link}
use Rattle.ux_walk.specs.declared.config.Visit.{Visit}
use Rattle.ux_walk.specs.declared.config.Config.{Config}
use Rattle.ux_walk.specs.declared.config.Return.{Return}
use Rattle.ux_walk.specs.declared.config.Found.{Found}
use Rattle.ux_walk.specs.declared.noted.Noted.{Noted}
use Rattle.ux_walk.specs.declared.reached.Reached.{Reached}
use Rattle.ux_walk.specs.Courses.{Course}
use Rattle.ux_walk.specs.Groups.{AreGrouped, Grows, IsAdded, IsIn, IsMore}
use Rattle.ux_walk.specs.Joins.{IsJoin, Joins, OfBoth}
use Rattle.ux_walk.specs.Links.{AreBelow}
use Rattle.ux_walk.specs.Noted.{KeepPlaces}
use Rattle.ux_walk.specs.Configurations.{Adds, Has, HasBegun, IsJoined, IsNamed, IsSound, IsVisit, IsWaiting, NamesEventsIn, Of, Spreads, begins, beginning, calling, ended, events_of, given, going, joins, texts_of}
use Rattle.ux_walk.proofs.Items.{Items, NewConfig, adds_items, closed_items}
use Rattle.ux_walk.proofs.Keeping.{Keeps, one_visit, places_same, telling_kept, visit_kept}
use Rattle.ux_walk.proofs.GroupsLemmas.{contains_first}
use Rattle.ux_walk.proofs.JoinsLemmas.{grown_in, grows_alike, grows_more, only_one}
use Rattle.ux_walk.proofs.Calling.{join_named}

module _ (old new : Reached) (sound : IsSound old) (texts : texts_of new ≡ texts_of old)
    (visits : new.visits.keys ≡ old.visits.keys) (number : ℕ) (called : Visit)
    (callee : IsVisit old number called) where
  same_visits : Grows old.visits.keys new.visits.keys
  same_visits = (grows_alike old.visits.keys _ visits)

  -- a derivation that was there is one of the called visit
  of_called : (f : Found) → IsIn old.found number f →
      (inside : List Event) × NamesEventsIn old f.events inside
      × Has old called (ended f.end inside)
  of_called f h =
      let s = sound.found number f h in
      let same : s.0 ≡ called = one_visit old number s.0 called s.2.visit callee in (
        s.2.before,
        s.2.events,
        inr (inr (
          number,
          f,
          h,
          record {
            before = s.2.before;
            visit = callee;
            events = s.2.events;
            is = refl;
          },
        )),
      )

  module _ (w : Return) (v : Visit) (before : List Event) (visit : IsVisit old w.visit v)
      (names : NamesEventsIn old w.events before) (found : new.found ≡ old.found) where
    abbrev Waited : Visit → Course → Type 0
    Waited = Of v (λ x. x ≡ calling called w.here before)

    waiting_in : Keeps old new → IsWaiting new number w v (calling called w.here before)
    waiting_in kept = record {
      called = called;
      before = before;
      callee = visit_kept old new kept number called callee;
      visit = visit_kept old new kept w.visit v visit;
      events = telling_kept old new kept w.events before names;
      is = refl;
    }

    -- the caller waited before
    pub waits_known : events_of new ≡ events_of old → new.configs.keys ≡ old.configs.keys →
        (is_new : Bool) → is_new ≡ false →
        IsMore old.returns new.returns number w is_new → Adds Waited old new
    waits_known events configs is_new off more =
        adds_items Waited old new sound items (closed_items Waited old new sound items
        (λ n r h. inl (only_old n r h))
        (λ n r f h k. inl (only_old n r h, subst (λ g. IsIn g n f) found k)))
      where
        only_old : (n : ℕ) (r : Return) → IsIn new.returns n r → IsIn old.returns n r
        only_old n r h = elim ((more.exact n r).0 h) [
          | inl was ↦ was
          | inr e ↦ subst (λ k. IsIn old.returns k r) (sym e.0)
              (subst (λ (x : Return). IsIn old.returns number x) (sym e.1) (more.known off))
        ]

        kept : Keeps old new
        kept = record {
          events = (grows_alike (events_of old) _ events);
          texts = subst (λ (l : List (List ℕ)). KeepPlaces (texts_of old) l) (sym texts)
              (places_same (texts_of old));
          visits = same_visits;
        }

        items : Items Waited old new
        items = record {
          kept = kept;
          below = subst (λ (l : List (Link Noted)). AreBelow l) (sym events) sound.events_below;
          returns_grouped = more.grouped;
          found_grouped = subst (λ g. AreGrouped g) (sym found) sound.found_grouped;
          grows = (grows_alike old.configs.keys _ configs);
          returns_kept = λ n r h. (more.exact n r).1 (inl h);
          found_kept = λ n f h. subst (λ g. IsIn g n f) (sym found) h;
          configs = λ c h. inl (subst (λ (l : List Config). Contains l c) configs h);
          returns = λ n r h. inl (only_old n r h);
          found = λ n f h. inl (subst (λ g. IsIn g n f) found h);
          has = λ u x t. inr (inl (
            number,
            w,
            (more.exact number w).1 (inr (refl, refl)),
            subst (λ (y : Visit). IsWaiting new number w y x) (sym t.0)
                (subst (λ (y : Course). IsWaiting new number w v y) (sym t.1) (waiting_in kept)),
          ));
        }

    -- the caller is new
    pub waits_new : (is_new first_new : Bool) (first : Config) (between : List Config)
        (derived : List Found) →
        IsMore old.returns new.returns number w is_new →
        first ≡ record {
          visit = number;
          here = record { graph = called.graph; state = 0 };
          at = called.at;
          events = 0;
        } →
        IsAdded old.configs.keys between first first_new →
        ((f : Found) → Contains derived f ↔ IsIn old.found number f) →
        Joins (OfBoth (w ∷ []) derived) (events_of old) (events_of new) between
        new.configs.keys → Adds Waited old new
    waits_new is_new first_new first between derived more first_is added exact joined =
        adds_items Waited old new sound items (closed_items Waited old new sound items begun pairs)
      where
        kept : Keeps old new
        kept = record {
          events = joined.events;
          texts = subst (λ (l : List (List ℕ)). KeepPlaces (texts_of old) l) (sym texts)
              (places_same (texts_of old));
          visits = same_visits;
        }

        told : Spreads (λ u x. Has old u x ⊎ Waited u x) v (calling called w.here before)
        told = given (inr (refl, refl))

        first_named : IsNamed new first called (beginning called)
        first_named = subst (λ (c : Config). IsNamed new c called (beginning called))
            (sym first_is) (record {
              before = [];
              spells = record {
                visit = visit_kept old new kept number called callee;
                events = record { listed = []; names = refl; each = tt };
              };
              is = refl;
            })

        first_in : Contains new.configs.keys first
        first_in = grown_in between new.configs.keys joined.grows first
            ((added.exact first).1 (inr refl))

        joined_named : (f : Found) (c : Config) (inside : List Event) →
            NamesEventsIn old f.events inside → IsJoin (events_of new) w f c →
            IsNamed new c v (going w.here f.end (inside ++ before))
        joined_named f c inside told_inside j = join_named new w f c v before inside j
            (visit_kept old new kept w.visit v visit)
            (telling_kept old new kept w.events before names)
            (telling_kept old new kept f.events inside told_inside)

        by_join : (c : Config) (r : Return) (f : Found) → OfBoth (w ∷ []) derived r f →
            IsJoin (events_of new) r f c → NewConfig Waited old new c
        by_join c r f both j =
            let d = of_called f ((exact f).0 both.1) in
            let is : IsJoin (events_of new) w f c =
            subst (λ (x : Return). IsJoin (events_of new) x f c) (sym (only_one w r both.0)) j in (
              v,
              going w.here f.end (d.0 ++ before),
              joined_named f c d.0 d.1 is,
              joins told (given (inl d.2)),
            )

        new_config : (c : Config) → Contains new.configs.keys c →
            Contains old.configs.keys c ⊎ NewConfig Waited old new c
        new_config c h = elim (joined.only c h) [
          | inl there ↦ elim ((added.exact c).0 there) [
            | inl was ↦ inl was
            | inr e ↦ inr (
              called,
              beginning called,
              subst (λ (x : Config). IsNamed new x called (beginning called)) (sym e) first_named,
              begins told,
            )
          ]
          | inr j ↦ inr (by_join c j.0 j.1 j.2 j.3)
        ]

        items : Items Waited old new
        items = record {
          kept = kept;
          below = joined.below;
          returns_grouped = more.grouped;
          found_grouped = subst (λ g. AreGrouped g) (sym found) sound.found_grouped;
          grows = grows_more old.configs.keys between new.configs.keys added.grows joined.grows;
          returns_kept = λ n r h. (more.exact n r).1 (inl h);
          found_kept = λ n f h. subst (λ g. IsIn g n f) (sym found) h;
          configs = new_config;
          returns = λ n r h. elim ((more.exact n r).0 h) [
            | inl was ↦ inl was
            | inr e ↦ inr (
              v,
              calling called w.here before,
              subst (λ k. IsWaiting new k r v (calling called w.here before)) (sym e.0)
                  (subst (λ (x : Return). IsWaiting new number x v (calling called w.here before))
                  (sym e.1) (waiting_in kept)),
              told,
            )
          ];
          found = λ n f h. inl (subst (λ g. IsIn g n f) found h);
          has = λ u x t. inr (inl (
            number,
            w,
            (more.exact number w).1 (inr (refl, refl)),
            subst (λ (y : Visit). IsWaiting new number w y x) (sym t.0)
                (subst (λ (y : Course). IsWaiting new number w v y) (sym t.1) (waiting_in kept)),
          ));
        }

        begun : (n : ℕ) (r : Return) → IsIn new.returns n r →
            IsIn old.returns n r ⊎ HasBegun new n
        begun n r h = elim ((more.exact n r).0 h) [
          | inl was ↦ inl was
          | inr e ↦ inr (subst (λ k. HasBegun new k) (sym e.0) (
            called,
            visit_kept old new kept number called callee,
            (first, first_in, first_named),
          ))
        ]

        pair_of : (f : Found) → IsIn old.found number f → IsJoined new w f
        pair_of f h =
            let d = of_called f h in
            let j = joined.has w f (contains_first w [], (exact f).1 h) in
            record {
              v = v;
              before = before;
              inside = d.0;
              visit = visit_kept old new kept w.visit v visit;
              earlier = telling_kept old new kept w.events before names;
              later = telling_kept old new kept f.events d.0 d.1;
              has = (j.0, j.1, joined_named f j.0 d.0 d.1 j.2);
            }

        pairs : (n : ℕ) (r : Return) (f : Found) → IsIn new.returns n r → IsIn new.found n f →
            (IsIn old.returns n r × IsIn old.found n f) ⊎ IsJoined new r f
        pairs n r f h k =
            let was_found : IsIn old.found n f = subst (λ g. IsIn g n f) found k in
            elim ((more.exact n r).0 h) [
              | inl was ↦ inl (was, was_found)
              | inr e ↦ inr (subst (λ (x : Return). IsJoined new x f) (sym e.1)
                  (pair_of f (subst (λ m. IsIn old.found m f) e.0 was_found)))
            ]
