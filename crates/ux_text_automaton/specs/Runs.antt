-- The sentences of a text, as runs of its tokens, and the states between these. The manual, on the
-- text automaton; that `{STOP}` ends a sentence is this program's own. Public: the crate's public
-- contracts speak of it.
use Rattle.std.specs.Prelude.{◌≡◌, ◌⊎◌, ◌↔◌, ℕ, ◌+◌, ◌<◌, ◌≤◌, Bool, true, false, List, AllPairs, Contains, IsSomeAnd, count_by, length, slice_get, slice_range}
use Rattle.ux_tokens.specs.declared.kind.Kind.{Kind}
use Rattle.ux_tokens.specs.declared.kind.Kind.TheVariants.{Word, Space, Other, Sentence, Stop, Tag}
use Rattle.ux_tokens.specs.Tokens.{Token}
use Rattle.ux_text_automaton.specs.declared.run.Run.{Run}

-- a token of this kind ends a sentence
abbrev pub EndsSentence : Kind → Type 0
EndsSentence Word = ⊥
EndsSentence Space = ⊥
EndsSentence Other = ⊥
EndsSentence Sentence = Unit {0}
EndsSentence Stop = Unit {0}
EndsSentence Tag = ⊥

-- whether a token is other than a space
abbrev pub is_no_space : Kind → Bool
is_no_space Word = true
is_no_space Space = false
is_no_space Other = true
is_no_space Sentence = true
is_no_space Stop = true
is_no_space Tag = true

-- the mark of a sentence's end stands at the place
abbrev pub IsEndAt : List Token → (place : ℕ) → Type 0
IsEndAt tokens place = IsSomeAnd (slice_get tokens place) (λ token. EndsSentence token.kind)

-- a token other than a space stands at the place
abbrev pub IsNoSpaceAt : List Token → (place : ℕ) → Type 0
IsNoSpaceAt tokens place =
    IsSomeAnd (slice_get tokens place) (λ token. is_no_space token.kind ≡ true)

-- a sentence: a longest run of tokens without a mark of an end that has a token other than a space
pub record IsRun (tokens : List Token) (run : Run) : Type 0 where
  pub within : run.end ≤ length tokens
  pub begins : (run.first ≡ 0) ⊎ ((before : ℕ) × (run.first ≡ before + 1) × IsEndAt tokens before)
  pub inside : (place : ℕ) → run.first ≤ place → place < run.end → IsEndAt tokens place → ⊥
  pub ends : (run.end ≡ length tokens) ⊎ IsEndAt tokens run.end
  pub some : (place : ℕ) × (run.first ≤ place) × (place < run.end) × IsNoSpaceAt tokens place

-- the runs are the sentences, in the order of the text
pub record AreRuns (tokens : List Token) (runs : List Run) : Type 0 where
  pub exact : (run : Run) → Contains runs run ↔ IsRun tokens run
  pub in_order : AllPairs (λ run later. run.end < later.first) runs

-- the state before the token at a place of a sentence: how many tokens of the sentence stand before
-- it that aren't spaces
abbrev pub state_at : List Token → (first place : ℕ) → ℕ
state_at tokens first place =
    count_by (λ token. is_no_space token.kind) (slice_range tokens first place)
