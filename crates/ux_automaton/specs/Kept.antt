-- What an automaton keeps is right for its setting. Inner: contracts see an
-- automaton as its setting and its fronts.
use Rattle.std.specs.Prelude.{◌≡◌, ◌↔◌, ◌≤◌, ℕ, List, Bool, true, false, Contains, Some, IsTrue, length, slice_get}
use Rattle.ux_lexical_tables.specs.Accepting.{IsAlone}
use Rattle.ux_closure.specs.declared.stand.Stand.{Stand}
use Rattle.ux_mask_table.specs.declared.masked_text.MaskedText.{MaskedText}
use Rattle.ux_mask_table.specs.MaskedTexts.{HasTable}
use Rattle.ux_tokens.specs.declared.kind.Kind.{Kind}
use Rattle.ux_tokens.specs.Numbers.{different_texts}
use Rattle.ux_walk.specs.declared.lists.Link.{Link}
use Rattle.ux_walk.specs.declared.look_ups.LookUps.{LookUps}
use Rattle.ux_walk.specs.Leads.{Stack, main_stack}
use Rattle.ux_walk.specs.Links.{AreBelow, Extends}
use Rattle.ux_walk.specs.LookUps.{AreSound}
use Rattle.ux_walk.specs.Settings.{Setting, masked_setting}
use Rattle.ux_automaton.specs.declared.automaton.Automaton.TheInside.{Inside}
use Rattle.ux_automaton.specs.declared.closed.Closed.{Closed}
use Rattle.ux_automaton.specs.declared.closed.Closures.{Closures}
use Rattle.ux_automaton.specs.declared.fronts.Fronts.{Fronts}
use Rattle.ux_automaton.specs.declared.kept.Kept.{Kept}
use Rattle.ux_automaton.specs.declared.transitions.Transition.{Transition}
use Rattle.ux_automaton.specs.declared.transitions.Transitions.{Transitions}
use Rattle.ux_automaton.specs.FrontIndexes.{AreFrontsIndexed}
use Rattle.ux_automaton.specs.Fronts.{Known, Store, HoldsIn, IsFrontIn}
use Rattle.ux_automaton.specs.Caches.{HasValue, IsBarred, IsClosed, IsTransition}

-- each index is that of a state's edges, for the tokens of the text
abbrev pub AreIndexed : MaskedText → LookUps → Type 0
AreIndexed masked look_ups =
    AreSound masked.alphabet.now masked.net.now (different_texts masked.text.now) look_ups

-- the lists by which fronts are told
abbrev pub store_of : Fronts → Store
store_of fronts =
    record { stacks = fronts.stacks.links.keys; fronts = fronts.fronts.links.keys }

-- the stand returns to a list that is there
abbrev pub IsStand : Store → Stand → Type 0
IsStand store stand = stand.back ≤ length store.stacks

-- so do these
abbrev pub AreStands : Store → List Stand → Type 0
AreStands store stands = (stand : Stand) → Contains stands stand → IsStand store stand

-- tails are below, and each stand of a front returns to a list that is there
pub record IsSound (store : Store) : Type 0 where
  pub stacks_below : AreBelow store.stacks
  pub fronts_below : AreBelow store.fronts
  pub stands : (i : ℕ) (link : Link Stand) → slice_get store.fronts i ≡ Some link →
      IsStand store link.head

-- lists were added, if any
pub record Grows (old new : Store) : Type 0 where
  pub stacks : Extends old.stacks new.stacks
  pub fronts : Extends old.fronts new.fronts
  pub sound : IsSound new

-- this is kept of the front, where a space stands or where none does
abbrev pub HasClosed : Closures → (is_spaced : Bool) → ℕ → Closed → Type 0
HasClosed closures true front closed = HasValue closures.spaced.items front closed
HasClosed closures false front closed = HasValue closures.bare.items front closed

-- the transition is kept
abbrev pub HasTransition : Transitions → Transition → Type 0
HasTransition transitions transition = (i : ℕ) × HasValue transitions.cells.items i transition

-- the front holds the stack alone in which walks begin
pub record IsFirst (store : Store) (front : ℕ) : Type 0 where
  pub there : IsFrontIn store front
  pub main : (stack : Stack) → HoldsIn store front stack ↔ (stack ≡ main_stack)

-- all that is kept is right
pub record AreRight (setting : Setting) (kept : Kept) : Type 0 where
  pub sound : IsSound (store_of kept.fronts)
  pub first : IsFirst (store_of kept.fronts) kept.first
  pub closures : (is_spaced : Bool) (front : ℕ) (closed : Closed) →
      HasClosed kept.closures is_spaced front closed →
      IsClosed setting (store_of kept.fronts) front is_spaced closed
  pub transitions : (transition : Transition) → HasTransition kept.transitions transition →
      IsTransition setting (store_of kept.fronts) transition
  pub barred : (number : ℕ) (kind : Kind) → HasValue kept.barred.items number kind →
      IsBarred setting number kind

-- what contracts see of what is kept
abbrev pub known_in : MaskedText → Kept → Known
known_in masked kept = record { setting = masked_setting masked; store = store_of kept.fronts }

-- where no mark stands, no span of several tokens begins
abbrev pub AreMarked : Setting → List Bool → Type 0
AreMarked setting marks = (i : ℕ) → slice_get marks i ≡ Some false →
    IsAlone setting.tokens setting.tables i

-- what contracts see of an automaton
abbrev pub known_of : Inside → Known
known_of a = known_in a.masked.now a.kept

-- what it keeps is right, unless memory ran out while it grew
pub record IsConsistent (a : Inside) : Type 0 where
  pub table : HasTable a.masked.now
  pub marked : AreMarked (masked_setting a.masked.now) a.marks.items
  pub right : IsTrue a.is_whole → AreRight (masked_setting a.masked.now) a.kept
  pub indexed : IsTrue a.is_whole → AreIndexed a.masked.now a.look_ups
  pub fronts_indexed : IsTrue a.is_whole →
      AreFrontsIndexed a.masked.now (store_of a.kept.fronts) a.front_indexes
