-- What a configuration leads to, move by move.
use Rattle.std.proofs.Common.{◌≡◌, ℕ, ◌+◌, ◌<◌, ◌≤◌, List, [], ◌∷◌, ◌++◌, ◌⊎◌, inl, inr, refl, sym, ap, subst, ◌∙◌, length, take, get_or}
use Rattle.std.specs.Prelude.{Option, Some, None, Contains}
use Rattle.std.proofs.lemmas.Option.{same_Some}
use Rattle.ux_outputs.specs.declared.event.Event.{Event}
use Rattle.ux_folds.specs.Folding.{Next, Folds, Grows}
use Rattle.ux_folds.proofs.FoldLemmas.{folds_none, folds_append, folds_grow}
use Rattle.ux_listing.specs.declared.config.Config.{Config}
use Rattle.ux_listing.specs.declared.config.Mark.{Mark}
use Rattle.ux_listing.specs.declared.config.Item.{Item}
use Rattle.ux_listing.specs.declared.config.Item.TheVariants.{At, Waits, Ends}
use Rattle.ux_listing.specs.Moves.{Move, goes, calls, Only}
use Rattle.ux_listing.specs.Sets.{Adds, IsAdded}
use Rattle.ux_listing.specs.Walking.{Gives, IsPut, IsGiven, IsMade, Follows, IsKnown, beginning, entering, going, waiting}
use Rattle.ux_listing.proofs.SetsLemmas.{adds_none, adds_as, adds_both, adds_item, still, taken_cases, taken_before, taken_itself, taken_all, taken_none}

-- what a fold tells, it goes on to tell
abbrev pub Tells : (old new : Next) → Type 0
Tells old new = (s : ℕ) (e : Event) (r : Option ℕ) → old s e r → new s e r

pub grows_none : {M : Type 0} (next : Next) (means : ℕ → M → Type 0) → Grows next next means means
grows_none next means = record { next = λ s e r h. h; means = λ s m h. h }

pub grows_both : {M : Type 0} {old mid new : Next} {a b c : ℕ → M → Type 0} → Grows old mid a b →
    Grows mid new b c → Grows old new a c
grows_both f g = record {
  next = λ s e r h. g.next s e r (f.next s e r h);
  means = λ s m h. g.means s m (f.means s m h);
}

-- a state that is known stays known
pub known_still : {M : Type 0} {old new : Next} {a b : ℕ → M → Type 0} → Grows old new a b →
    (s : ℕ) → IsKnown a s → IsKnown b s
known_still g s k = (k.0, g.means s k.0 k.1)

-- what is put stays put
pub put_as : (Marked : Mark → Type 0) (Old New : Item → Type 0) → ((w : Item) → Old w → New w) →
    (w : Item) → IsPut Marked Old w → IsPut Marked New w
put_as Marked Old New more (At c) h = λ m. more (At c) (h m)
put_as Marked Old New more (Waits r) h = more (Waits r) h
put_as Marked Old New more (Ends f) h = more (Ends f) h

-- what is made of events stays made
pub made_as : (old new : Next) → Tells old new → (Marked : Mark → Type 0) (Old New : Item → Type 0) →
    ((w : Item) → Old w → New w) → (c : Config) (move : Move) (events : List Event) →
    IsMade old Marked Old c move events → IsMade new Marked New c move events
made_as old new tells Marked Old New more c move events m = record {
  result = m.result;
  folds = folds_grow old new tells events (Some c.fold) m.result m.folds;
  so = λ u is w g. put_as Marked Old New more w (m.so u is w g);
}

module _ (old new : Next) (tells : Tells old new) (c : Config) where
  pub given_as : (Told Now : Move → List Event → Type 0) →
      ((move : Move) (events : List Event) → Told move events → Now move events) → (w : Item) →
      IsGiven old c Told w → IsGiven new c Now w
  given_as Told Now more w g = record {
    move = g.move;
    events = g.events;
    told = more g.move g.events g.told;
    fold = g.fold;
    folds = folds_grow old new tells g.events (Some c.fold) (Some g.fold) g.folds;
    gives = g.gives;
  }

-- what was added follows by more moves of the same kind
module _ (Marked : Mark → Type 0) (c : Config) where
  pub follows_as : (next : Next) (Told Now : Move → List Event → Type 0) (old new : List Item) →
      ((move : Move) (events : List Event) → Told move events → Now move events) →
      ((move : Move) (events : List Event) → Now move events → Told move events) →
      Follows next Marked c Told old new → Follows next Marked c Now old new
  follows_as next Told Now old new forth back f = record {
    adds = adds_as (given_as next next (λ s e r h. h) c Told Now forth) f.adds;
    made = λ move events t. f.made move events (back move events t);
  }

  -- no move
  pub follows_none : (next : Next) (Told : Move → List Event → Type 0) (items : List Item) →
      ((move : Move) (events : List Event) → Told move events → ⊥) →
      Follows next Marked c Told items items
  follows_none next Told items never = record {
    adds = adds_none items;
    made = λ move events t. absurd (never move events t);
  }

  -- some moves, and then some
  pub follows_both : (next now : Next) → Tells next now →
      (First Then All : Move → List Event → Type 0) (old mid new : List Item) →
      ((move : Move) (events : List Event) → First move events → All move events) →
      ((move : Move) (events : List Event) → Then move events → All move events) →
      ((move : Move) (events : List Event) → All move events →
      First move events ⊎ Then move events) →
      Follows next Marked c First old mid → Follows now Marked c Then mid new →
      Follows now Marked c All old new
  follows_both next now tells First Then All old mid new first then either f g = record {
    adds = adds_both (adds_as (given_as next now tells c First All first) f.adds)
        (adds_as (given_as now now (λ s e r h. h) c Then All then) g.adds);
    made = λ move events t. elim (either move events t) [
      | inl a ↦ made_as next now tells Marked (Contains mid) (Contains new) (still _ _ g.adds.kept) c
          move events (f.made move events a)
      | inr b ↦ g.made move events b
    ];
  }

-- the moves of the first so many elements, and of all
abbrev pub SoFar : {S : Type 0} → (S → Move → List Event → Type 0) → List S → ℕ → Move →
    List Event → Type 0
SoFar {S} Of all i move events = (s : S) × Contains (take i all) s × Of s move events

abbrev pub OfSome : {S : Type 0} → (S → Move → List Event → Type 0) → List S → Move →
    List Event → Type 0
OfSome {S} Of all move events = (s : S) × Contains all s × Of s move events

module _ {S : Type 0} (Marked : Mark → Type 0) (c : Config) (Of : S → Move → List Event → Type 0)
    (all : List S) where
  pub so_far_none : (next : Next) (items : List Item) →
      Follows next Marked c (SoFar Of all 0) items items
  so_far_none next items = follows_none Marked c next (SoFar Of all 0) items
      (λ move events t. taken_none all t.1)

  pub so_far_more : (next now : Next) → Tells next now → (old mid new : List Item) (i : ℕ) (s : S) →
      i < length all → s ≡ get_or all i s → Follows next Marked c (SoFar Of all i) old mid →
      Follows now Marked c (Of s) mid new → Follows now Marked c (SoFar Of all (i + 1)) old new
  so_far_more next now tells old mid new i s lt is f g =
      follows_both Marked c next now tells (SoFar Of all i) (Of s) (SoFar Of all (i + 1)) old mid new
      (λ move events t. (t.0, taken_before all i s t.0 lt is t.1, t.2))
      (λ move events t. (s, taken_itself all i s lt is, t))
      (λ move events t. elim (taken_cases all i s t.0 lt is t.1) [
        | inl o ↦ inl (t.0, o, t.2)
        | inr e ↦ inr (subst (λ (x : S). Of x move events) e t.2)
      ]) f g

  pub so_far_all : (next : Next) (old new : List Item) (i : ℕ) → length all ≤ i →
      Follows next Marked c (SoFar Of all i) old new → Follows next Marked c (OfSome Of all) old new
  so_far_all next old new i past f =
      subst (λ (l : List S). Follows next Marked c (OfSome Of l) old new) (taken_all all i past) f

module _ (next : Next) (Marked : Mark → Type 0) where
  -- one move to a state, with its events
  pub follows_one : (c : Config) (b k u : ℕ) (own : List Event) (old new : List Item) →
      Folds next own (Some c.fold) (Some u) →
      Adds (λ w. w ≡ At (going c b k u)) old new →
      IsPut Marked (Contains new) (At (going c b k u)) →
      Follows next Marked c (Only (goes b k) own) old new
  follows_one c b k u own old new folds adds put = record {
    adds = adds_as (λ w is. record {
      move = goes b k;
      events = own;
      told = (refl, refl);
      fold = u;
      folds = folds;
      gives = is;
    }) adds;
    made = λ move events t.
        subst (λ (m : Move). IsMade next Marked (Contains new) c m events) (sym t.0)
        (subst (λ (l : List Event). IsMade next Marked (Contains new) c (goes b k) l) (sym t.1)
        (record {
          result = Some u;
          folds = folds;
          so = λ v is w g. subst (λ (x : Item). IsPut Marked (Contains new) x)
              (sym (g ∙ ap (λ (n : ℕ). At (going c b k n)) (sym (same_Some u v is)))) put;
        }));
  }

  -- a move of one event is dropped
  pub event_dropped : (c : Config) (one : Move) (event : Event) (items : List Item) →
      next c.fold event None → Follows next Marked c (Only one (event ∷ [])) items items
  event_dropped c one event items dropped = record {
    adds = adds_none items;
    made = λ move events t.
        subst (λ (l : List Event). IsMade next Marked (Contains items) c move l) (sym t.1) (record {
          result = None;
          folds = (None, dropped, refl);
          so = λ u is. absurd (let no : None ≡ Some u = is in cc);
        });
  }

  -- a call
  pub follows_call : (c : Config) (h b : ℕ) (old mid new : List Item) →
      IsAdded old mid (Waits (waiting h c c.fold b)) →
      Adds (λ w. w ≡ At (beginning (entering h c c.fold))) mid new →
      IsPut Marked (Contains new) (At (beginning (entering h c c.fold))) →
      Follows next Marked c (Only (calls h b) []) old new
  follows_call c h b old mid new first adds put = record {
    adds = adds_both
        (adds_item first (given (Waits (waiting h c c.fold b)) (inl refl)))
        (adds_as (λ w is. given w (inr is)) adds);
    made = λ move events t.
        subst (λ (m : Move). IsMade next Marked (Contains new) c m events) (sym t.0)
        (subst (λ (l : List Event). IsMade next Marked (Contains new) c (calls h b) l) (sym t.1)
        (record {
          result = Some c.fold;
          folds = refl;
          so = λ v is w g. put_so v (same_Some c.fold v is) w g;
        }));
  }
    where
      given : (w : Item) → Gives c (calls h b) c.fold w →
          IsGiven next c (Only (calls h b) []) w
      given w g = record {
        move = calls h b;
        events = [];
        told = (refl, refl);
        fold = c.fold;
        folds = refl;
        gives = g;
      }

      here : (w : Item) → Gives c (calls h b) c.fold w → IsPut Marked (Contains new) w
      here w g = elim g [
        | inl is ↦ subst (λ (x : Item). IsPut Marked (Contains new) x) (sym is)
            (still _ _ adds.kept (Waits (waiting h c c.fold b)) first.has)
        | inr is ↦ subst (λ (x : Item). IsPut Marked (Contains new) x) (sym is) put
      ]

      put_so : (v : ℕ) → c.fold ≡ v → (w : Item) → Gives c (calls h b) v w →
          IsPut Marked (Contains new) w
      put_so v is w g = here w (subst (λ (n : ℕ). Gives c (calls h b) n w) (sym is) g)

-- the configuration in another state of the fold
abbrev pub folded : Config → ℕ → Config
folded c s = record { visit = c.visit; state = c.state; at = c.at; fold = s }

-- what a move gives depends on the state after it alone
gives_folded : (c : Config) (s : ℕ) (move : Move) (u : ℕ) (w : Item) →
    Gives (folded c s) move u w → Gives c move u w
gives_folded c s (goes b k) u w g = g
gives_folded c s (calls h b) u w g = g

gives_unfolded : (c : Config) (s : ℕ) (move : Move) (u : ℕ) (w : Item) →
    Gives c move u w → Gives (folded c s) move u w
gives_unfolded c s (goes b k) u w g = g
gives_unfolded c s (calls h b) u w g = g

-- moves behind an output
module _ (next : Next) (Marked : Mark → Type 0) (c : Config) (output : List Event)
    (Behind : Move → List Event → Type 0) where
  abbrev pub Over : Move → List Event → Type 0
  Over move events = (own : List Event) × Behind move own × (events ≡ output ++ own)

  pub follows_output : (now : Next) → Tells next now → (s : ℕ) →
      Folds next output (Some c.fold) (Some s) → (old new : List Item) →
      Follows now Marked (folded c s) Behind old new → Follows now Marked c Over old new
  follows_output now tells s folds old new f = record {
    adds = adds_as (λ w g. record {
      move = g.move;
      events = output ++ g.events;
      told = (g.events, g.told, refl);
      fold = g.fold;
      folds = folds_append now output g.events (Some c.fold) (Some s) (Some g.fold) first g.folds;
      gives = gives_folded c s g.move g.fold w g.gives;
    }) f.adds;
    made = λ move events t.
        let m = f.made move t.0 t.1 in
        subst (λ (l : List Event). IsMade now Marked (Contains new) c move l) (sym t.2) (record {
          result = m.result;
          folds = folds_append now output t.0 (Some c.fold) (Some s) m.result first m.folds;
          so = λ u is w g. m.so u is w (gives_unfolded c s move u w g);
        });
  }
    where
      first : Folds now output (Some c.fold) (Some s)
      first = folds_grow next now tells output (Some c.fold) (Some s) folds

  pub output_dropped : (one : (s : ℕ) (e : Event) (r t : Option ℕ) → next s e r → next s e t →
      r ≡ t) → Folds next output (Some c.fold) None → (items : List Item) →
      Follows next Marked c Over items items
  output_dropped one folds items = record {
    adds = adds_none items;
    made = λ move events t.
        subst (λ (l : List Event). IsMade next Marked (Contains items) c move l) (sym t.2) (record {
          result = None;
          folds = folds_append next output t.0 (Some c.fold) None None folds (folds_none next t.0);
          so = λ u is. absurd (let no : None ≡ Some u = is in cc);
        });
  }
