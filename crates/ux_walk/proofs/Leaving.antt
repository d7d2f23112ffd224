-- A derivation of a visit reaches each of its callers.
use Rattle.std.proofs.Common.{◌≡◌, ℕ, List, [], ◌∷◌, ◌++◌, ◌⊎◌, ◌↔◌, inl, inr, refl, sym, subst, Bool, false}
use Rattle.std.specs.Prelude.{Contains}
use Rattle.ux_outputs.specs.declared.event.Event.{Event}
use Rattle.ux_walk.specs.declared.lists.Link.{Link}
use Rattle.ux_walk.specs.declared.config.Visit.{Visit}
use Rattle.ux_walk.specs.declared.config.Config.{Config}
use Rattle.ux_walk.specs.declared.config.Return.{Return}
use Rattle.ux_walk.specs.declared.config.Found.{Found}
use Rattle.ux_walk.specs.declared.noted.Noted.{Noted}
use Rattle.ux_walk.specs.declared.reached.Reached.{Reached}
use Rattle.ux_walk.specs.Courses.{Course}
use Rattle.ux_walk.specs.Groups.{AreGrouped, Grows, IsIn, IsMore}
use Rattle.ux_walk.specs.Joins.{IsJoin, Joins, OfBoth}
use Rattle.ux_walk.specs.Links.{AreBelow}
use Rattle.ux_walk.specs.Noted.{KeepPlaces}
use Rattle.ux_walk.specs.Configurations.{Adds, Has, IsFound, IsJoined, IsSound, IsVisit, NamesEventsIn, Of, Spreads, calling, ended, events_of, given, going, joins, texts_of}
use Rattle.ux_walk.proofs.Items.{Items, NewConfig, adds_items, closed_items}
use Rattle.ux_walk.proofs.Keeping.{Keeps, places_same, telling_kept, visit_kept}
use Rattle.ux_walk.proofs.GroupsLemmas.{contains_first}
use Rattle.ux_walk.proofs.JoinsLemmas.{grows_alike, only_one}
use Rattle.ux_walk.proofs.Calling.{join_named}

module _ (old new : Reached) (sound : IsSound old) (texts : texts_of new ≡ texts_of old)
    (visits : new.visits.keys ≡ old.visits.keys) (number : ℕ) (called : Visit)
    (callee : IsVisit old number called) where
  same_visits : Grows old.visits.keys new.visits.keys
  same_visits = (grows_alike old.visits.keys _ visits)

  -- a caller that was there waits for the called visit
  of_caller : (w : Return) → IsIn old.returns number w →
      (v : Visit) × (before : List Event) × IsVisit old w.visit v
      × NamesEventsIn old w.events before × Has old v (calling called w.here before)
  of_caller w h =
      let s = sound.returns number w h in (
        s.0,
        s.2.before,
        s.2.visit,
        s.2.events,
        inr (inl (
          number,
          w,
          h,
          record {
            called = called;
            before = s.2.before;
            callee = callee;
            visit = s.2.visit;
            events = s.2.events;
            is = refl;
          },
        )),
      )

  module _ (f : Found) (inside : List Event) (names : NamesEventsIn old f.events inside)
      (returns : new.returns ≡ old.returns) where
    abbrev Left : Visit → Course → Type 0
    Left = Of called (λ x. x ≡ ended f.end inside)

    found_in : Keeps old new → IsFound new number f called (ended f.end inside)
    found_in kept = record {
      before = inside;
      visit = visit_kept old new kept number called callee;
      events = telling_kept old new kept f.events inside names;
      is = refl;
    }

    -- the derivation was found before
    pub leaves_known : events_of new ≡ events_of old → new.configs.keys ≡ old.configs.keys →
        (is_new : Bool) → is_new ≡ false →
        IsMore old.found new.found number f is_new → Adds Left old new
    leaves_known events configs is_new off more =
        adds_items Left old new sound items (closed_items Left old new sound items
        (λ n r h. inl (subst (λ g. IsIn g n r) returns h))
        (λ n r d h k. inl (subst (λ g. IsIn g n r) returns h, only_old n d k)))
      where
        only_old : (n : ℕ) (d : Found) → IsIn new.found n d → IsIn old.found n d
        only_old n d h = elim ((more.exact n d).0 h) [
          | inl was ↦ was
          | inr e ↦ subst (λ k. IsIn old.found k d) (sym e.0)
              (subst (λ (x : Found). IsIn old.found number x) (sym e.1) (more.known off))
        ]

        kept : Keeps old new
        kept = record {
          events = (grows_alike (events_of old) _ events);
          texts = subst (λ (l : List (List ℕ)). KeepPlaces (texts_of old) l) (sym texts)
              (places_same (texts_of old));
          visits = same_visits;
        }

        items : Items Left old new
        items = record {
          kept = kept;
          below = subst (λ (l : List (Link Noted)). AreBelow l) (sym events) sound.events_below;
          returns_grouped = subst (λ g. AreGrouped g) (sym returns) sound.returns_grouped;
          found_grouped = more.grouped;
          grows = (grows_alike old.configs.keys _ configs);
          returns_kept = λ n r h. subst (λ g. IsIn g n r) (sym returns) h;
          found_kept = λ n d h. (more.exact n d).1 (inl h);
          configs = λ c h. inl (subst (λ (l : List Config). Contains l c) configs h);
          returns = λ n r h. inl (subst (λ g. IsIn g n r) returns h);
          found = λ n d h. inl (only_old n d h);
          has = λ u x t. inr (inr (
            number,
            f,
            (more.exact number f).1 (inr (refl, refl)),
            subst (λ (y : Visit). IsFound new number f y x) (sym t.0)
                (subst (λ (y : Course). IsFound new number f called y) (sym t.1) (found_in kept)),
          ));
        }

    -- the derivation is new
    pub leaves_new : (is_new : Bool) (callers : List Return) →
        IsMore old.found new.found number f is_new →
        ((w : Return) → Contains callers w ↔ IsIn old.returns number w) →
        Joins (OfBoth callers (f ∷ [])) (events_of old) (events_of new) old.configs.keys
        new.configs.keys → Adds Left old new
    leaves_new is_new callers more exact joined =
        adds_items Left old new sound items (closed_items Left old new sound items
        (λ n r h. inl (subst (λ g. IsIn g n r) returns h)) pairs)
      where
        kept : Keeps old new
        kept = record {
          events = joined.events;
          texts = subst (λ (l : List (List ℕ)). KeepPlaces (texts_of old) l) (sym texts)
              (places_same (texts_of old));
          visits = same_visits;
        }

        told : Spreads (λ u x. Has old u x ⊎ Left u x) called (ended f.end inside)
        told = given (inr (refl, refl))

        by_join : (c : Config) (r : Return) (d : Found) → OfBoth callers (f ∷ []) r d →
            IsJoin (events_of new) r d c → NewConfig Left old new c
        by_join c r d both j =
            let w = of_caller r ((exact r).0 both.0) in
            let is : IsJoin (events_of new) r f c =
            subst (λ (x : Found). IsJoin (events_of new) r x c) (sym (only_one f d both.1)) j in (
              w.0,
              going r.here f.end (inside ++ w.1),
              join_named new r f c w.0 w.1 inside is (visit_kept old new kept r.visit w.0 w.2)
                  (telling_kept old new kept r.events w.1 w.3)
                  (telling_kept old new kept f.events inside names),
              joins (given (inl w.4)) told,
            )

        items : Items Left old new
        items = record {
          kept = kept;
          below = joined.below;
          returns_grouped = subst (λ g. AreGrouped g) (sym returns) sound.returns_grouped;
          found_grouped = more.grouped;
          grows = joined.grows;
          returns_kept = λ n r h. subst (λ g. IsIn g n r) (sym returns) h;
          found_kept = λ n d h. (more.exact n d).1 (inl h);
          configs = λ c h. elim (joined.only c h) [
            | inl was ↦ inl was
            | inr j ↦ inr (by_join c j.0 j.1 j.2 j.3)
          ];
          returns = λ n r h. inl (subst (λ g. IsIn g n r) returns h);
          found = λ n d h. elim ((more.exact n d).0 h) [
            | inl was ↦ inl was
            | inr e ↦ inr (
              called,
              ended f.end inside,
              subst (λ k. IsFound new k d called (ended f.end inside)) (sym e.0)
                  (subst (λ (x : Found). IsFound new number x called (ended f.end inside))
                  (sym e.1) (found_in kept)),
              told,
            )
          ];
          has = λ u x t. inr (inr (
            number,
            f,
            (more.exact number f).1 (inr (refl, refl)),
            subst (λ (y : Visit). IsFound new number f y x) (sym t.0)
                (subst (λ (y : Course). IsFound new number f called y) (sym t.1) (found_in kept)),
          ));
        }

        pair_of : (r : Return) → IsIn old.returns number r → IsJoined new r f
        pair_of r h =
            let w = of_caller r h in
            let j = joined.has r f ((exact r).1 h, contains_first f []) in
            record {
              v = w.0;
              before = w.1;
              inside = inside;
              visit = visit_kept old new kept r.visit w.0 w.2;
              earlier = telling_kept old new kept r.events w.1 w.3;
              later = telling_kept old new kept f.events inside names;
              has = (
                j.0,
                j.1,
                join_named new r f j.0 w.0 w.1 inside j.2 (visit_kept old new kept r.visit w.0 w.2)
                    (telling_kept old new kept r.events w.1 w.3)
                    (telling_kept old new kept f.events inside names),
              );
            }

        pairs : (n : ℕ) (r : Return) (d : Found) → IsIn new.returns n r → IsIn new.found n d →
            (IsIn old.returns n r × IsIn old.found n d) ⊎ IsJoined new r d
        pairs n r d h k =
            let was_waiting : IsIn old.returns n r = subst (λ g. IsIn g n r) returns h in
            elim ((more.exact n d).0 k) [
              | inl was ↦ inl (was_waiting, was)
              | inr e ↦ inr (subst (λ (x : Found). IsJoined new r x) (sym e.1)
                  (pair_of r (subst (λ m. IsIn old.returns m r) e.0 was_waiting)))
            ]
