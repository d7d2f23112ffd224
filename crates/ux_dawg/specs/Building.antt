-- An automaton that is being built: a register of finished states, and above them the pending
-- states on the way of the last form, from the root down. Inner: the crate's own functions alone
-- speak of it.
use Rattle.std.specs.Prelude.{◌≡◌, ℕ, ◌<◌, ◌+◌, ◌≤◌, List, [], ◌∷◌, ◌++◌, ◌⊎◌, ◌↔◌, Some, None, slice_get, Contains, length, map, take}
use Rattle.ux_dawg.specs.declared.state.State.{State}
use Rattle.ux_dawg.specs.declared.state.Edge.{Edge}
use Rattle.ux_dawg.specs.declared.pending.Frame.{Frame}
use Rattle.ux_dawg.specs.Order.{IsOrdered, IsNumbered}
use Rattle.ux_dawg.specs.Register.{IsKept}
use Rattle.ux_dawg.specs.Paths.{edge, Right, IsPath, IsFit, IsAlive, IsMinimal, HavePaths}

-- the word w leads to an end with the code c
abbrev pub Held : List State → List Frame → State → List ℕ → ℕ → Type 0
Held states [] top w c = Right states top w c
Held states (f ∷ fs) top [] c = Right states f.state [] c
Held states (f ∷ fs) top (a ∷ w) c =
    Right states f.state (a ∷ w) c ⊎ ((f.letter ≡ a) × Held states fs top w c)

abbrev pub letters : List Frame → List ℕ
letters above = map (λ (f : Frame). f.letter) above

-- a state that isn't finished
abbrev pub IsPending : List Frame → State → State → Type 0
IsPending above top s = (s ≡ top) ⊎ ((f : Frame) × Contains above f × (f.state ≡ s))

-- some state has a step to state number i
pub record IsTarget (states : List State) (above : List Frame) (top : State) (i : ℕ) : Type 0 where
  pub «from» : State
  pub stands : IsPending above top «from» ⊎ Contains states «from»
  pub letter : ℕ
  pub leads : Contains («from»).edges (edge letter i)

-- a frame's steps come before its letter
pub record IsOpen (n : ℕ) (f : Frame) : Type 0 where
  pub fit : IsFit n f.state
  pub before : (e : Edge) → Contains f.state.edges e → e.letter < f.letter

pub record IsSound (states : List State) (above : List Frame) (top : State) : Type 0 where
  pub fit : (i : ℕ) (s : State) → slice_get states i ≡ Some s → IsFit i s
  pub alive : (i : ℕ) (s : State) → slice_get states i ≡ Some s → IsAlive s
  pub frames : (f : Frame) → Contains above f → IsOpen (length states) f
  pub top_fit : IsFit (length states) top
  pub used : (i : ℕ) → i < length states → IsTarget states above top i
  pub ordered : IsOrdered states above top.edges (letters above)

abbrev pub bare : State
bare = record { code = None; edges = [] }

abbrev pub with_edge : State → ℕ → ℕ → State
with_edge s a t = record { code = s.code; edges = s.edges ++ edge a t ∷ [] }

-- the deepest state was finished
pub record IsClosed (states : List State) (above : List Frame) (top : State) (states' : List State)
    (above' : List Frame) (top' : State) : Type 0 where
  pub frame : Frame
  pub split : above ≡ above' ++ frame ∷ []
  pub number : ℕ
  pub kept : IsKept {A = State} states states' top number
  pub top_is : top' ≡ with_edge frame.state frame.letter number

-- the states deeper than n were finished, and the same words are held
pub record IsCut (states : List State) (above : List Frame) (top : State) (states' : List State)
    (above' : List Frame) (top' : State) (n : ℕ) : Type 0 where
  pub sound : IsSound states' above' top'
  pub held : (w : List ℕ) (c : ℕ) → Held states' above' top' w c ↔ Held states above top w c
  pub spelled : letters above' ≡ take n (letters above)
  pub depth : length above' ≡ n
  pub most : n ≤ length above
  pub under : (e : Edge) → Contains top'.edges e →
      (b : ℕ) × (slice_get (letters above) n ≡ Some b) × (e.letter ≤ b)
  pub alive : 0 < length above → IsAlive top'
  pub still : length above ≡ 0 → states' ≡ states
  pub room : length states' + length above' ≤ length states + length above

-- states for the letters of a word were added, and the same words are held
pub record IsGrown (states : List State) (above : List Frame) (top : State) (word : List ℕ)
    (above' : List Frame) (top' : State) : Type 0 where
  pub sound : IsSound states above' top'
  pub held : (w : List ℕ) (c : ℕ) → Held states above' top' w c ↔ Held states above top w c
  pub spelled : letters above' ≡ letters above ++ word
  pub same : length word ≡ 0 → top' ≡ top
  pub fresh : 0 < length word → top' ≡ bare

-- words of P before Q: how many letters they share, and there the letter of Q is greater
pub record IsShared (P Q : List ℕ) (n : ℕ) : Type 0 where
  pub most : n ≤ length P
  pub less : n < length Q
  pub same : take n P ≡ take n Q
  pub up : (a b : ℕ) → slice_get P n ≡ Some a → slice_get Q n ≡ Some b → a < b

-- between two forms
pub record IsReady (states : List State) (above : List Frame) (top : State) : Type 0 where
  pub sound : IsSound states above top
  pub none : top.edges ≡ []
  pub alive : 0 < length above → IsAlive top
  pub empty : length above ≡ 0 → length states ≡ 0

-- a form was added
pub record IsAdded (states : List State) (above : List Frame) (top : State) (states' : List State)
    (above' : List Frame) (top' : State) (word : List ℕ) (code : ℕ) : Type 0 where
  pub ready : IsReady states' above' top'
  pub held : (w : List ℕ) (c : ℕ) → Held states' above' top' w c
      ↔ (Held states above top w c ⊎ ((w ≡ word) × (c ≡ code)))
  pub spelled : letters above' ≡ word
  pub room : length states' + length above' ≤ length states + length above + length word

-- the root was finished
pub record IsFinished (states : List State) (above : List Frame) (top : State)
    (states' : List State) (root : ℕ) : Type 0 where
  pub exact : (w : List ℕ) (c : ℕ) → IsPath states' root w c ↔ Held states above top w c
  pub minimal : IsMinimal states' root
  pub numbered : IsNumbered states' root
  pub paths : 0 < length above → HavePaths states'
  pub fit : (i : ℕ) (s : State) → slice_get states' i ≡ Some s → IsFit i s
  pub last : length states' ≡ root + 1

-- the root was finished as the last state
abbrev pub IsFinishedAs : List State → List Frame → State → (states' : List State) → Type 0
IsFinishedAs states above top states' = (root : ℕ) × IsFinished states above top states' root
