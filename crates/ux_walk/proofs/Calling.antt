-- What the numbers of callers and derivations name, and the configuration in which they are joined.
use Rattle.std.proofs.Common.{ℕ, List, [], ◌∷◌, ◌++◌, ◌↔◌, sym, ◌∙◌, ap, subst}
use Rattle.std.specs.Prelude.{Contains}
use Rattle.std.specs.List.{AllZip}
use Rattle.ux_outputs.specs.declared.event.Event.{Event}
use Rattle.ux_walk.specs.declared.config.Visit.{Visit}
use Rattle.ux_walk.specs.declared.config.Config.{Config}
use Rattle.ux_walk.specs.declared.config.Return.{Return}
use Rattle.ux_walk.specs.declared.config.Found.{Found}
use Rattle.ux_walk.specs.declared.noted.Noted.{Noted}
use Rattle.ux_walk.specs.declared.reached.Reached.{Reached}
use Rattle.ux_walk.specs.Groups.{IsIn}
use Rattle.ux_walk.specs.Joins.{AreListed, IsJoin}
use Rattle.ux_walk.specs.Links.{Names}
use Rattle.ux_walk.specs.Noted.{StandsFor}
use Rattle.ux_walk.specs.Configurations.{IsNamed, IsSound, IsVisit, NamesEventsIn, events_of, going, texts_of}
use Rattle.ux_walk.proofs.JoinsLemmas.{only_one}
use Rattle.ux_walk.proofs.LinksLemmas.{one_list}

module _ {A B : Type 0} (R : A → B → Type 0) where
  zip_append : (xs zs : List A) (ys ws : List B) → AllZip R xs ys → AllZip R zs ws →
      AllZip R (xs ++ zs) (ys ++ ws)
  zip_append [] zs [] ws first second = second
  zip_append [] zs (y ∷ ys) ws first second = absurd first
  zip_append (x ∷ xs) zs [] ws first second = absurd first
  zip_append (x ∷ xs) zs (y ∷ ys) ws first second =
      (first.0, zip_append xs zs ys ws first.1 second)

-- the configuration of a join stands for the course of the caller behind the derivation
pub join_named : (r : Reached) (w : Return) (f : Found) (c : Config) (v : Visit)
    (before inside : List Event) → IsJoin (events_of r) w f c → IsVisit r w.visit v →
    NamesEventsIn r w.events before → NamesEventsIn r f.events inside →
    IsNamed r c v (going w.here f.end (inside ++ before))
join_named r w f c v before inside j visit earlier later =
    let links = events_of r in
    let first = one_list links w.events j.before earlier.listed j.earlier earlier.names in
    let second = one_list links f.events j.inside later.listed j.later later.names in
    record {
      before = inside ++ before;
      spells = record {
        visit = subst (λ n. IsVisit r n v) (sym j.visit) visit;
        events = record {
          listed = later.listed ++ earlier.listed;
          names = subst (λ (l : List Noted). Names links c.events (l ++ earlier.listed)) second
              (subst (λ (l : List Noted). Names links c.events (j.inside ++ l)) first j.all);
          each = zip_append (StandsFor (texts_of r)) later.listed earlier.listed inside before
              later.each earlier.each;
        };
      };
      is = ap (λ h. going h f.end (inside ++ before)) (sym j.here)
          ∙ ap (λ n. going c.here n (inside ++ before)) (sym j.at);
    }

-- what a caller's number of events names, and those of the derivations so far
pub wait_listed : (r : Reached) (w : Return) (before : List Event) (number : ℕ)
    (derived : List Found) → IsSound r → NamesEventsIn r w.events before →
    ((f : Found) → Contains derived f ↔ IsIn r.found number f) →
    AreListed (events_of r) (w ∷ []) derived
wait_listed r w before number derived sound names exact = record {
  below = sound.events_below;
  waiting = λ x h. (
    names.listed,
    subst (λ (y : Return). Names (events_of r) y.events names.listed) (only_one w x h) names.names,
  );
  ends = λ f h.
      let s = sound.found number f ((exact f).0 h) in
      (s.2.events.listed, s.2.events.names);
}

pub leave_listed : (r : Reached) (f : Found) (before : List Event) (number : ℕ)
    (returns : List Return) → IsSound r → NamesEventsIn r f.events before →
    ((w : Return) → Contains returns w ↔ IsIn r.returns number w) →
    AreListed (events_of r) returns (f ∷ [])
leave_listed r f before number returns sound names exact = record {
  below = sound.events_below;
  waiting = λ w h.
      let s = sound.returns number w ((exact w).0 h) in
      (s.2.events.listed, s.2.events.names);
  ends = λ x h. (
    names.listed,
    subst (λ (y : Found). Names (events_of r) y.events names.listed) (only_one f x h) names.names,
  );
}
