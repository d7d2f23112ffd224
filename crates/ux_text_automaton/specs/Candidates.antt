-- How runs are found, states are numbered, and the links from one token are collected. Inner: the
-- crate's own functions alone speak of it.
use Rattle.std.specs.Prelude.{◌≡◌, ◌⊎◌, ◌↔◌, ℕ, ◌+◌, ◌-◌, ◌<◌, ◌≤◌, true, false, cond, List, [], ◌∷◌, ◌++◌, Some, All, AllPairs, Contains, length, map, slice_get, slice_index}
use Rattle.std.specs.List.Sorted.{IsPermutation, IsSorted}
use Rattle.std.specs.declared.cmp.Ordering.{Ordering}
use Rattle.std.specs.Ordering.{nat_cmp, ordering_then}
use Rattle.std.specs.Cmp.Lexicographic.{slice_cmp}
use Rattle.ux_dela.specs.declared.entry.Entry.{Entry}
use Rattle.ux_tokens.specs.declared.kind.Kind.{Kind}
use Rattle.ux_tokens.specs.declared.kind.Kind.TheVariants as kind
use Rattle.ux_tokens.specs.Tokens.{Token}
use Rattle.ux_lexical_tables.specs.Tables.{Tables}
use Rattle.ux_sentence.specs.declared.sentence.Reading.TheVariants.{Word, Raw}
use Rattle.ux_sentence.specs.declared.sentence.Link.{Link}
use Rattle.ux_sentence.specs.Written.{reading_text}
use Rattle.ux_text_automaton.specs.declared.run.Run.{Run}
use Rattle.ux_text_automaton.specs.declared.runs_of.Begun.{Begun}
use Rattle.ux_text_automaton.specs.declared.keyed.Keyed.{Keyed}
use Rattle.ux_text_automaton.specs.Order.{link_cmp}
use Rattle.ux_text_automaton.specs.Runs.{IsEndAt, IsNoSpaceAt, IsRun, state_at}

-- RUNS

-- the run of the tokens from the first one to before a place
abbrev pub run_to : Begun → (place : ℕ) → Run
run_to begun place = record { first = begun.first; end = place }

-- the runs with that one behind, if it has a token other than a space
abbrev pub with_run : List Run → Begun → (place : ℕ) → List Run
with_run runs begun place = cond begun.some (runs ++ run_to begun place ∷ []) runs

-- a mark begins a new run behind it, and another token goes on with the run
abbrev pub next_begun : Kind → (place : ℕ) → Begun → Begun
next_begun kind.Word place begun = record { first = begun.first; some = true }
next_begun kind.Space place begun = begun
next_begun kind.Other place begun = record { first = begun.first; some = true }
next_begun kind.Sentence place begun = record { first = place + 1; some = false }
next_begun kind.Stop place begun = record { first = place + 1; some = false }
next_begun kind.Tag place begun = record { first = begun.first; some = true }

-- and ends the run before it
abbrev pub next_runs : Kind → (place : ℕ) → Begun → List Run → List Run
next_runs kind.Word place begun runs = runs
next_runs kind.Space place begun runs = runs
next_runs kind.Other place begun runs = runs
next_runs kind.Sentence place begun runs = with_run runs begun place
next_runs kind.Stop place begun runs = with_run runs begun place
next_runs kind.Tag place begun runs = runs

-- the runs that end before the one that has begun
pub record AreRunsBefore (tokens : List Token) (first : ℕ) (runs : List Run) : Type 0 where
  pub exact : (run : Run) → Contains runs run ↔ (IsRun tokens run × (run.end < first))
  pub in_order : AllPairs (λ (run later : Run). run.end < later.first) runs

-- a run has begun, and goes on to before a place
pub record HasBegun (tokens : List Token) (place : ℕ) (begun : Begun) : Type 0 where
  pub in_order : begun.first ≤ place
  pub begins : (begun.first ≡ 0) ⊎ ((before : ℕ) × (begun.first ≡ before + 1) × IsEndAt tokens before)
  pub inside : (i : ℕ) → begun.first ≤ i → i < place → IsEndAt tokens i → ⊥
  pub some : begun.some ≡ true →
      (i : ℕ) × (begun.first ≤ i) × (i < place) × IsNoSpaceAt tokens i
  pub none : begun.some ≡ false → (i : ℕ) → begun.first ≤ i → i < place → IsNoSpaceAt tokens i → ⊥

-- STATES

-- the number of the state before each token of a run and behind its last one
pub record AreStates (tokens : List Token) (first end : ℕ) (states : List ℕ) : Type 0 where
  pub each_place : length states ≡ end - first + 1
  pub each : (i : ℕ) → i < length states →
      slice_index states i ≡ state_at tokens first (first + i)

-- LINKS FROM ONE TOKEN

-- the link with what is printed for its reading
abbrev pub keyed_of : Link → Keyed
keyed_of link = record { printed = reading_text link.reading; link = link }

abbrev pub link_in : Keyed → Link
link_in keyed = keyed.link

-- compared as the links are
abbrev pub keyed_cmp : Keyed → Keyed → Ordering
keyed_cmp a b = ordering_then (nat_cmp a.link.from b.link.from)
    (ordering_then (nat_cmp a.link.to b.link.to) (slice_cmp nat_cmp a.printed b.printed))

abbrev pub word_link : (from to : ℕ) → Entry → Link
word_link from to entry = record { from = from; to = to; reading = Word entry }

abbrev pub raw_link : (from to : ℕ) → (text : List ℕ) → Link
raw_link from to text = record { from = from; to = to; reading = Raw text }

-- the link of a token's text, if the token may stand for itself
abbrev pub raw_links : (from to : ℕ) → Kind → (text : List ℕ) → List Link
raw_links from to kind.Word text = raw_link from to text ∷ []
raw_links from to kind.Space text = []
raw_links from to kind.Other text = raw_link from to text ∷ []
raw_links from to kind.Sentence text = []
raw_links from to kind.Stop text = []
raw_links from to kind.Tag text = []

-- the links of the token alone: those of its simple entries, or of its text where it has none
abbrev pub own_links : (from to : ℕ) → Kind → (text : List ℕ) → List Entry → List Link
own_links from to kind text [] = raw_links from to kind text
own_links from to kind text (entry ∷ entries) = map (word_link from to) (entry ∷ entries)

-- the links of the compound entries of a row
abbrev pub span_links : List Token → (first from : ℕ) → List (ℕ × Entry) → List Link
span_links tokens first from row =
    map (λ member. word_link from (state_at tokens first (member.0 + 1)) member.1) row

-- the spans of a row begin at the place and lie in the run
abbrev pub LieWithin : (place end : ℕ) → List (ℕ × Entry) → Type 0
LieWithin place end row = All (λ member. (place ≤ member.0) × (member.0 < end)) row

-- the links that begin at a place of a run
pub record AreLinksFrom (tokens : List Token) (tables : Tables) (first place : ℕ)
    (links : List Link) : Type 0 where
  pub token : Token
  pub simple : List Entry
  pub row : List (ℕ × Entry)
  pub stands : slice_get tokens place ≡ Some token
  pub simple_row : slice_get tables.simple place ≡ Some simple
  pub compound_row : slice_get tables.compounds place ≡ Some row
  pub links_are : links
      ≡ own_links (state_at tokens first place) (state_at tokens first (place + 1)) token.kind
      token.text simple ++ span_links tokens first (state_at tokens first place) row

-- the links that were found stand behind others, in order
pub record ArePutInOrder (found old new : List Link) : Type 0 where
  pub put : List Link
  pub same : IsPermutation found put
  pub in_order : IsSorted link_cmp put
  pub behind : new ≡ old ++ put

-- those that begin at a place do
pub record ArePut (tokens : List Token) (tables : Tables) (first place : ℕ)
    (old new : List Link) : Type 0 where
  pub found : List Link
  pub are : AreLinksFrom tokens tables first place found
  pub in_order : ArePutInOrder found old new
