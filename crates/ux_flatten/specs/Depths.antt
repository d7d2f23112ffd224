-- What the words of a grammar derive where calls are followed to a depth. The manual, on flattening a
-- grammar. Public: the crate's public contracts speak of it.
use Rattle.std.specs.Prelude.{ℕ, zero, suc, ◌≤◌, List, [], ◌∷◌, ◌++◌}
use Rattle.ux_net.specs.declared.label.Label.{Label}
use Rattle.ux_net.specs.declared.label.Label.TheVariants as label
use Rattle.ux_net.specs.Words.{positive, negative, Letter, plain, context, Grammar, IsWord, IsBody}
use Rattle.ux_outputs.specs.declared.event.Event.{Event}
use Rattle.ux_outputs.specs.declared.event.Event.TheVariants as event
use Rattle.ux_meaning.specs.Inputs.{Input}
use Rattle.ux_meaning.specs.Meaning.{Stays}

module _ (input : Input) (grammar : Grammar) where
  -- The letters of a word apply one after another, as in the meaning of grammars, but a call applies
  -- at a depth of 1 or more alone. What is called applies whole at a depth less by one, and the body
  -- of a context at the same depth.
  pub data SeqTo (Refuses : (depth g opening closing p : ℕ) → Type 0) :
      (depth : ℕ) → List Letter → ℕ → ℕ → List Event → Type 0 where
    done : {d p : ℕ} → SeqTo Refuses d [] p p []
    takes : {d : ℕ} {x : Label} {word : List Letter} {p k j : ℕ} {later : List Event} →
        input.Takes x p k → SeqTo Refuses d word k j later →
        SeqTo Refuses d (plain x ∷ word) p j (event.Take p k ∷ later)
    stays : {d : ℕ} {x : Letter} {word : List Letter} {p j : ℕ} {later : List Event}
        (here : List Event) → Stays input x p here → SeqTo Refuses d word p j later →
        SeqTo Refuses d (x ∷ word) p j (here ++ later)
    calls : {d h : ℕ} {called word : List Letter} {p k j : ℕ} {inside later : List Event} →
        IsWord h (grammar.graph h) called → SeqTo Refuses d called p k inside →
        SeqTo Refuses (suc d) word k j later →
        SeqTo Refuses (suc d) (plain (label.Call h) ∷ word) p j (inside ++ later)
    holds : {d g opening closing : ℕ} {body word : List Letter} {p k j : ℕ}
        {inside later : List Event} → IsBody g (grammar.graph g) opening closing body →
        SeqTo Refuses d body p k inside → SeqTo Refuses d word p j later →
        SeqTo Refuses d (context positive g opening closing ∷ word) p j later
    refused : {d g opening closing : ℕ} {word : List Letter} {p j : ℕ} {later : List Event} →
        Refuses d g opening closing p → SeqTo Refuses d word p j later →
        SeqTo Refuses d (context negative g opening closing ∷ word) p j later

  -- no word of the context's body applies at p to the depth, as far as so many levels of negative
  -- contexts tell
  abbrev pub RefusesTo : ℕ → (depth g opening closing p : ℕ) → Type 0
  RefusesTo zero d g opening closing p = ⊥
  RefusesTo (suc n) d g opening closing p =
      (word : List Letter) (k : ℕ) (events : List Event) →
      IsBody g (grammar.graph g) opening closing word →
      SeqTo (RefusesTo n) d word p k events → ⊥

  -- the graph derives the events from i to j to the depth, as so many levels tell
  pub record DerToBy (n d g i j : ℕ) (events : List Event) : Type 0 where
    pub word : List Letter
    pub of_graph : IsWord g (grammar.graph g) word
    pub seq : SeqTo (RefusesTo n) d word i j events

  -- The graph derives the events from i to j to the depth: some word of it applies so. From some
  -- number of levels on, each tells it.
  abbrev pub DerTo : (d g i j : ℕ) → List Event → Type 0
  DerTo d g i j events = (n : ℕ) × ((m : ℕ) → n ≤ m → DerToBy m d g i j events)
