-- What a number names stays, as more is reached, and what follows from what follows, follows.
use Rattle.std.proofs.Common.{◌≡◌, ℕ, List, sym, ◌∙◌, subst}
use Rattle.std.specs.Prelude.{Some, slice_get}
use Rattle.std.proofs.lemmas.Option.{same_Some}
use Rattle.ux_outputs.specs.declared.event.Event.{Event}
use Rattle.ux_walk.specs.declared.config.Visit.{Visit}
use Rattle.ux_walk.specs.declared.config.Config.{Config}
use Rattle.ux_walk.specs.declared.config.Return.{Return}
use Rattle.ux_walk.specs.declared.config.Found.{Found}
use Rattle.ux_walk.specs.declared.reached.Reached.{Reached}
use Rattle.ux_walk.specs.Groups.{Grows}
use Rattle.ux_walk.specs.Links.{Extends}
use Rattle.ux_walk.specs.Courses.{Course}
use Rattle.ux_walk.specs.Noted.{KeepPlaces}
use Rattle.ux_walk.specs.Configurations.{Adds, IsFound, IsNamed, IsVisit, IsWaiting, NamesEventsIn, Spells, Spreads, begins, events_of, given, joins, texts_of}
use Rattle.ux_walk.proofs.JoinsLemmas.{grows_alike}
use Rattle.ux_walk.proofs.LinksLemmas.{get_extended}
use Rattle.ux_walk.proofs.NotedLemmas.{one_telling, tells_kept}

-- events, texts and visits stay, and more of them may be there
pub record Keeps (old new : Reached) : Type 0 where
  pub events : Extends (events_of old) (events_of new)
  pub texts : KeepPlaces (texts_of old) (texts_of new)
  pub visits : Grows old.visits.keys new.visits.keys

pub keeps : {Told : Visit → Course → Type 0} {old new : Reached} → Adds Told old new →
    Keeps old new
keeps adds = record { events = adds.events; texts = adds.texts; visits = adds.visits }

module _ (old new : Reached) (kept : Keeps old new) where
  -- what a number tells of stays
  pub telling_kept : (number : ℕ) (before : List Event) → NamesEventsIn old number before →
      NamesEventsIn new number before
  telling_kept number before tells = tells_kept (texts_of old) (texts_of new) kept.texts
      (events_of old) (events_of new) kept.events number before tells

  pub visit_kept : (number : ℕ) (v : Visit) → IsVisit old number v → IsVisit new number v
  visit_kept number v is = subst (λ (l : List Visit). slice_get l number ≡ Some v)
      (sym kept.visits.1) (get_extended old.visits.keys kept.visits.0 number v is)

  pub spells_kept : (c : Config) (v : Visit) (before : List Event) → Spells old c v before →
      Spells new c v before
  spells_kept c v before s = record {
    visit = visit_kept c.visit v s.visit;
    events = telling_kept c.events before s.events;
  }

  pub named_kept : (c : Config) (v : Visit) (w : Course) → IsNamed old c v w → IsNamed new c v w
  named_kept c v w n = record {
    before = n.before;
    spells = spells_kept c v n.before n.spells;
    is = n.is;
  }

  pub waiting_kept : (number : ℕ) (r : Return) (v : Visit) (w : Course) →
      IsWaiting old number r v w → IsWaiting new number r v w
  waiting_kept number r v w n = record {
    called = n.called;
    before = n.before;
    callee = visit_kept number n.called n.callee;
    visit = visit_kept r.visit v n.visit;
    events = telling_kept r.events n.before n.events;
    is = n.is;
  }

  pub found_kept : (number : ℕ) (f : Found) (v : Visit) (w : Course) → IsFound old number f v w →
      IsFound new number f v w
  found_kept number f v w n = record {
    before = n.before;
    visit = visit_kept number v n.visit;
    events = telling_kept f.events n.before n.events;
    is = n.is;
  }

-- a number is that of one visit, and names one list of events
module _ (r : Reached) where
  pub one_visit : (number : ℕ) (u v : Visit) → IsVisit r number u → IsVisit r number v → u ≡ v
  one_visit number u v this that = same_Some u v (sym this ∙ that)

  pub one_before : (number : ℕ) (a b : List Event) → NamesEventsIn r number a →
      NamesEventsIn r number b → a ≡ b
  one_before number a b this that = one_telling (texts_of r) (events_of r) number a b this that

module _ (old new : Reached) (kept : Keeps old new) where
  -- what a number that named something before names now, it named before
  pub visit_back : (number : ℕ) (u v : Visit) → IsVisit old number u → IsVisit new number v →
      IsVisit old number v
  visit_back number u v was is = subst (λ (x : Visit). IsVisit old number x)
      (one_visit new number u v (visit_kept old new kept number u was) is) was

  pub telling_back : (number : ℕ) (a b : List Event) → NamesEventsIn old number a →
      NamesEventsIn new number b → NamesEventsIn old number b
  telling_back number a b was is = subst (λ (x : List Event). NamesEventsIn old number x)
      (one_before new number a b (telling_kept old new kept number a was) is) was

  pub named_back : (c : Config) (u v : Visit) (x w : Course) → IsNamed old c u x →
      IsNamed new c v w → IsNamed old c v w
  named_back c u v x w was is = record {
    before = is.before;
    spells = record {
      visit = visit_back c.visit u v was.spells.visit is.spells.visit;
      events = telling_back c.events was.before is.before was.spells.events is.spells.events;
    };
    is = is.is;
  }

  pub waiting_back : (number : ℕ) (r : Return) (u v : Visit) (x w : Course) →
      IsWaiting old number r u x → IsWaiting new number r v w → IsWaiting old number r v w
  waiting_back number r u v x w was is = record {
    called = is.called;
    before = is.before;
    callee = visit_back number was.called is.called was.callee is.callee;
    visit = visit_back r.visit u v was.visit is.visit;
    events = telling_back r.events was.before is.before was.events is.events;
    is = is.is;
  }

  pub found_back : (number : ℕ) (f : Found) (u v : Visit) (x w : Course) →
      IsFound old number f u x → IsFound new number f v w → IsFound old number f v w
  found_back number f u v x w was is = record {
    before = is.before;
    visit = visit_back number u v was.visit is.visit;
    events = telling_back f.events was.before is.before was.events is.events;
    is = is.is;
  }

pub places_alike : (old new : List (List ℕ)) → new ≡ old → KeepPlaces old new
places_alike old new same place text at =
    subst (λ (l : List (List ℕ)). slice_get l place ≡ Some text) (sym same) at

-- the same texts
pub places_same : (texts : List (List ℕ)) → KeepPlaces texts texts
places_same texts place text at = at

-- the same lists
pub keeps_same : (old new : Reached) → events_of new ≡ events_of old →
    texts_of new ≡ texts_of old → new.visits.keys ≡ old.visits.keys → Keeps old new
keeps_same old new events texts visits = record {
  events = (grows_alike (events_of old) _ events);
  texts = places_alike (texts_of old) (texts_of new) texts;
  visits = (grows_alike old.visits.keys _ visits);
}

-- what follows from what follows, follows
pub spread_more : {Given Wanted : Visit → Course → Type 0} →
    ((v : Visit) (w : Course) → Given v w → Spreads Wanted v w) → {v : Visit} {w : Course} →
    Spreads Given v w → Spreads Wanted v w
spread_more each {v = v} {w = w} (given g) = each v w g
spread_more each (begins s) = begins (spread_more each s)
spread_more each (joins s t) = joins (spread_more each s) (spread_more each t)
