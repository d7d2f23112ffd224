-- What a walk adds means what it should.
use Rattle.std.proofs.Common.{◌≡◌, ℕ, List, [], ◌∷◌, ◌++◌, inl, inr, refl, sym, subst}
use Rattle.std.specs.Prelude.{Some, None}
use Rattle.std.proofs.lemmas.Option.{same_Some}
use Rattle.ux_outputs.specs.declared.event.Event.{Event}
use Rattle.ux_folds.specs.Folding.{Next, Folds}
use Rattle.ux_folds.proofs.FoldLemmas.{folds_append, folds_from_none, folds_grow}
use Rattle.ux_walk.specs.Contexts.{Applying}
use Rattle.ux_walk.specs.Settings.{Setting}
use Rattle.ux_listing.specs.declared.config.Visit.{Visit}
use Rattle.ux_listing.specs.declared.config.Config.{Config}
use Rattle.ux_listing.specs.declared.config.Return.{Return}
use Rattle.ux_listing.specs.declared.config.Found.{Found}
use Rattle.ux_listing.specs.declared.config.Item.{Item}
use Rattle.ux_listing.specs.declared.config.Item.TheVariants.{At, Waits, Ends}
use Rattle.ux_listing.specs.Moves.{Move, goes, calls, Moves, IsFinal}
use Rattle.ux_listing.specs.Runs.{Goes, Way, Entered}
use Rattle.ux_listing.specs.Runs as run
use Rattle.ux_listing.specs.Walking.{Gives, IsNext, IsWay, IsMeant, ending, going, joined}
use Rattle.ux_listing.proofs.FollowsLemmas.{Tells}
use Rattle.ux_listing.proofs.RunsLemmas.{way_derives}

-- what events lead to is known
pub folds_known : (next : Next) (IsState : ℕ → Type 0) →
    ((s : ℕ) (e : Event) (u : ℕ) → next s e (Some u) → IsState u) → (events : List Event) (s u : ℕ) →
    IsState s → Folds next events (Some s) (Some u) → IsState u
folds_known next IsState lands [] s u known f = subst IsState (sym (same_Some u s f)) known
folds_known next IsState lands (e ∷ es) s u known (None, told, on) =
    absurd (let no : Some u ≡ None = folds_from_none next es (Some u) on in cc)
folds_known next IsState lands (e ∷ es) s u known (Some m, told, on) =
    folds_known next IsState lands es m u (lands s e m told) on

module _ (setting : Setting) (applies : Applying) (start : ℕ) (next : Next) (IsState : ℕ → Type 0) where
  abbrev Meant : Item → Type 0
  Meant = IsMeant next setting applies IsState start

  abbrev OnWay : Config → Type 0
  OnWay = IsWay next setting applies IsState start

  module _ (lands : (s : ℕ) (e : Event) (u : ℕ) → next s e (Some u) → IsState u) where
    -- a move to a state
    goes_meant : (c : Config) (b k u : ℕ) (here : List Event) → OnWay c →
        Moves setting applies c.visit.graph c.state c.at (goes b k) here →
        Folds next here (Some c.fold) (Some u) → OnWay (going c b k u)
    goes_meant c b k u here w move folds = record {
      entered = w.entered;
      before = w.before ++ here;
      way = run.along here w.way move;
      folds = folds_append next w.before here (Some c.visit.fold) (Some c.fold) (Some u) w.folds folds;
      known = folds_known next IsState lands here c.fold u w.known folds;
    }

    -- a move over a call
    call_meant : (c : Config) (h b u : ℕ) (here : List Event) → OnWay c →
        Moves setting applies c.visit.graph c.state c.at (calls h b) here →
        Folds next here (Some c.fold) (Some u) → (w : Item) → Gives c (calls h b) u w → Meant w
    call_meant c h b u here w move folds item (inl is) = subst Meant (sym is) (record {
      from = c;
      is_way = w;
      visit = refl;
      events = here;
      moves = move;
      folds = folds;
      at = refl;
    })
    call_meant c h b u here w move folds item (inr is) = subst Meant (sym is) (record {
      entered = run.called here w.entered w.way move;
      before = [];
      way = run.begins;
      folds = refl;
      known = folds_known next IsState lands here c.fold u w.known folds;
    })

    move_meant : (c : Config) (move : Move) (u : ℕ) (here : List Event) → OnWay c →
        Moves setting applies c.visit.graph c.state c.at move here →
        Folds next here (Some c.fold) (Some u) → (w : Item) → Gives c move u w → Meant w
    move_meant c (goes b k) u here w moves folds item is =
        subst Meant (sym is) (goes_meant c b k u here w moves folds)
    move_meant c (calls h b) u here w moves folds item is =
        call_meant c h b u here w moves folds item is

    -- an end
    end_meant : (c : Config) → OnWay c → IsFinal setting applies c.visit.graph c.state →
        Meant (Ends (ending c))
    end_meant c w final = record {
      inside = w.before ++ [];
      run = way_derives setting applies w.way (run.ends final);
      folds = folds_append next w.before [] (Some c.visit.fold) (Some c.fold) (Some c.fold) w.folds refl;
      known = w.known;
    }

    -- what follows a configuration
    pub next_meant : (c : Config) (w : Item) → Meant (At c) → IsNext next setting applies c w → Meant w
    next_meant c w meant (inl g) = move_meant c g.move g.fold g.events meant g.told g.folds w g.gives
    next_meant c w meant (inr (final, is)) = subst Meant (sym is) (end_meant c meant final)

    -- where a caller goes on behind what was found
    pub joined_meant : (r : Return) (f : Found) → Meant (Waits r) → Meant (Ends f) →
        r.callee ≡ f.visit → Meant (At (joined r f))
    joined_meant r f mr mf same =
        subst (λ (v : Visit). OnWay (record { visit = v; state = r.to; at = f.end; fold = f.fold }))
        mr.visit (record {
          entered = mr.is_way.entered;
          before = mr.is_way.before ++ (mr.events ++ mf.inside);
          way = run.across mr.events mr.is_way.way mr.moves inner;
          folds = folds_append next mr.is_way.before (mr.events ++ mf.inside)
              (Some mr.from.visit.fold) (Some mr.from.fold) (Some f.fold) mr.is_way.folds
              (folds_append next mr.events mf.inside (Some mr.from.fold) (Some r.callee.fold)
              (Some f.fold) mr.folds
              (subst (λ (v : Visit). Folds next mf.inside (Some v.fold) (Some f.fold)) (sym same)
              mf.folds));
          known = mf.known;
        })
      where
        inner : Goes setting applies r.callee.graph 0 mr.from.at f.end mf.inside
        inner = subst (λ (p : ℕ). Goes setting applies r.callee.graph 0 p f.end mf.inside) mr.at
            (subst (λ (v : Visit). Goes setting applies v.graph 0 v.at f.end mf.inside) (sym same)
            mf.run)

-- it goes on to mean that as the fold grows
module _ (setting : Setting) (applies : Applying) (start : ℕ) (old new : Next) (tells : Tells old new)
    (was is : ℕ → Type 0) (more : (s : ℕ) → was s → is s) where
  way_grows : (c : Config) → IsWay old setting applies was start c → IsWay new setting applies is start c
  way_grows c w = record {
    entered = w.entered;
    before = w.before;
    way = w.way;
    folds = folds_grow old new tells w.before (Some c.visit.fold) (Some c.fold) w.folds;
    known = more c.fold w.known;
  }

  pub meant_grows : (w : Item) → IsMeant old setting applies was start w →
      IsMeant new setting applies is start w
  meant_grows (At c) w = way_grows c w
  meant_grows (Waits r) w = record {
    from = w.from;
    is_way = way_grows w.from w.is_way;
    visit = w.visit;
    events = w.events;
    moves = w.moves;
    folds = folds_grow old new tells w.events (Some w.from.fold) (Some r.callee.fold) w.folds;
    at = w.at;
  }
  meant_grows (Ends f) w = record {
    inside = w.inside;
    run = w.run;
    folds = folds_grow old new tells w.inside (Some f.visit.fold) (Some f.fold) w.folds;
    known = more f.fold w.known;
  }
