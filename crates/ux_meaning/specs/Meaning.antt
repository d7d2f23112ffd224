-- What the words of a grammar derive over an input. The manual, on Locate and on contexts. Public:
-- the contracts of the walk and of the search speak of it.
use Rattle.std.specs.Prelude.{◌≡◌, ℕ, zero, suc, ◌≤◌, List, [], ◌∷◌, ◌++◌}
use Rattle.ux_grf.specs.declared.item.Piece.TheVariants.{Chars, Value}
use Rattle.ux_net.specs.declared.label.Label.{Label}
use Rattle.ux_net.specs.declared.label.Label.TheVariants as label
use Rattle.ux_net.specs.Words.{positive, negative, Letter, plain, piece, context, Grammar, IsWord, IsBody}
use Rattle.ux_outputs.specs.declared.event.Event.{Event}
use Rattle.ux_outputs.specs.declared.event.Event.TheVariants as event
use Rattle.ux_meaning.specs.Inputs.{Input}

-- the letter applies at the position, takes nothing, and gives these events
abbrev pub Stays : Input → Letter → ℕ → List Event → Type 0
Stays input (plain label.NoSpace) p here = (input.IsSpaceAt p → ⊥) × (here ≡ [])
Stays input (plain (label.Begin name)) p here = here ≡ event.Begin name ∷ []
Stays input (plain (label.End name)) p here = here ≡ event.End name ∷ []
Stays input (plain label.Cut) p here = here ≡ event.Cut ∷ []
Stays input (piece (Chars text)) p here = here ≡ event.Put text ∷ []
Stays input (piece (Value name)) p here = here ≡ event.Value name ∷ []
Stays input letter p here = ⊥

module _ (input : Input) (grammar : Grammar) where
  -- The letters of a word apply one after another, from a position to a position, and give these
  -- events. What is called applies whole. A positive context holds where a word of its body applies,
  -- a negative one where it is refused; neither takes anything or gives an event.
  pub data Seq (Refuses : (g opening closing p : ℕ) → Type 0) :
      List Letter → ℕ → ℕ → List Event → Type 0 where
    done : {p : ℕ} → Seq Refuses [] p p []
    takes : {x : Label} {word : List Letter} {p k j : ℕ} {later : List Event} →
        input.Takes x p k → Seq Refuses word k j later →
        Seq Refuses (plain x ∷ word) p j (event.Take p k ∷ later)
    stays : {x : Letter} {word : List Letter} {p j : ℕ} {later : List Event} (here : List Event) →
        Stays input x p here → Seq Refuses word p j later →
        Seq Refuses (x ∷ word) p j (here ++ later)
    calls : {h : ℕ} {called word : List Letter} {p k j : ℕ} {inside later : List Event} →
        IsWord h (grammar.graph h) called → Seq Refuses called p k inside →
        Seq Refuses word k j later → Seq Refuses (plain (label.Call h) ∷ word) p j (inside ++ later)
    holds : {g opening closing : ℕ} {body word : List Letter} {p k j : ℕ}
        {inside later : List Event} → IsBody g (grammar.graph g) opening closing body →
        Seq Refuses body p k inside → Seq Refuses word p j later →
        Seq Refuses (context positive g opening closing ∷ word) p j later
    refused : {g opening closing : ℕ} {word : List Letter} {p j : ℕ} {later : List Event} →
        Refuses g opening closing p → Seq Refuses word p j later →
        Seq Refuses (context negative g opening closing ∷ word) p j later

  -- no word of the context's body applies at p, as far as so many levels of negative contexts tell
  abbrev pub RefusesBy : ℕ → (g opening closing p : ℕ) → Type 0
  RefusesBy zero g opening closing p = ⊥
  RefusesBy (suc n) g opening closing p =
      (word : List Letter) (k : ℕ) (events : List Event) →
      IsBody g (grammar.graph g) opening closing word →
      Seq (RefusesBy n) word p k events → ⊥

  -- the graph of this number derives the events from i to j, where contexts are refused so
  pub record DerWith (Refuses : (g opening closing p : ℕ) → Type 0) (g i j : ℕ)
      (events : List Event) : Type 0 where
    pub word : List Letter
    pub of_graph : IsWord g (grammar.graph g) word
    pub seq : Seq Refuses word i j events

  -- the same, as so many levels tell
  abbrev pub DerBy : ℕ → (g i j : ℕ) → List Event → Type 0
  DerBy n = DerWith (RefusesBy n)

  -- The graph derives the events from i to j: some word of it applies so. From some number of levels
  -- on, each tells it.
  abbrev pub Der : (g i j : ℕ) → List Event → Type 0
  Der g i j events = (n : ℕ) × ((m : ℕ) → n ≤ m → DerBy m g i j events)
