-- Where the visits of an agenda lead, and how far a walk came. Inner: the crate's own functions alone
-- speak of it.
use Rattle.std.specs.Prelude.{◌≡◌, ◌⊎◌, ◌↔◌, ◌<◌, ◌≤◌, ℕ, List, [], ◌∷◌, ◌++◌, Contains, IsTrue, length}
use Rattle.std.specs.List.Sorted.{IsStrictlyIncreasing}
use Rattle.ux_walk.specs.Leads.{LeadsFrom, LeadsTo, main_stack}
use Rattle.ux_automaton.specs.Fronts.{Known, Holds, IsFront}
use Rattle.ux_automaton.specs.declared.step.Landing.{Landing}
use Rattle.ux_automaton.specs.declared.step.Step.{Step}
use Rattle.ux_walker.specs.declared.agenda.Visit.{Visit}

-- from the front at the position a walk leads to the end
abbrev pub FrontLeads : Known → (front at end : ℕ) → Type 0
FrontLeads known front at end = LeadsFrom known.setting (Holds known front) at end

-- one of the visits leads to the end
abbrev pub VisitsLead : Known → List Visit → (end : ℕ) → Type 0
VisitsLead known visits end = (visit : Visit) × Contains visits visit
    × FrontLeads known visit.front visit.at end

-- one of the landings does
abbrev pub LandingsLead : Known → List Landing → (end : ℕ) → Type 0
LandingsLead known landings end = (landing : Landing) × Contains landings landing
    × FrontLeads known landing.front landing.at end

-- a front waits at a position from low on, within the text
pub record IsReady (known : Known) (low : ℕ) (visit : Visit) : Type 0 where
  pub front : IsFront known visit.front
  pub after : low ≤ visit.at
  pub within : visit.at ≤ length known.setting.tokens

-- a walk may go on so: from a front, and within the text but from the empty one
pub record MayGoOn (known : Known) (front at : ℕ) : Type 0 where
  pub is : IsFront known front
  pub within : (front ≡ 0) ⊎ (at ≤ length known.setting.tokens)

-- at each visit one does
abbrev pub AreReady : Known → (low : ℕ) → List Visit → Type 0
AreReady known low visits = (visit : Visit) → Contains visits visit → IsReady known low visit

-- the position was noted, if a walk ends there after the start
abbrev pub Notes : Step → (start at : ℕ) → (old new : List ℕ) → Type 0
Notes step start at old new =
    (IsTrue step.ends × (start < at) × (new ≡ old ++ at ∷ []))
    ⊎ ((IsTrue step.ends → at ≤ start) × (new ≡ old))

-- The ends are those of the walk from the start that were noted so far; to all others the visits lead.
pub record IsUnderWay (known : Known) (start : ℕ) (visits : List Visit) (ends : List ℕ) : Type 0
  where
    pub ready : AreReady known start visits
    pub exactly : (e : ℕ) → start < e →
        LeadsTo known.setting main_stack start e ↔ (Contains ends e ⊎ VisitsLead known visits e)
    pub later : (e : ℕ) → Contains ends e → start < e
    pub ascending : IsStrictlyIncreasing ends
    pub before : (e : ℕ) (visit : Visit) → Contains ends e → Contains visits visit → e < visit.at

-- The walk from the start came to its first end, and to no other; or to none, and no visit is left.
pub record IsFirstWalk (known : Known) (start : ℕ) (ends : List ℕ) : Type 0 where
  pub visits : List Visit
  pub way : IsUnderWay known start visits ends
  pub one : length ends ≤ 1
  pub all : ends ≡ [] → visits ≡ []
