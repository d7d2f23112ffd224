-- A built sentence is one that its format can write. Public: crates above may cite it.
use Rattle.std.proofs.Common.{arith, ◌≡◌, ℕ, suc, ◌+◌, ◌^◌, ◌<◌, ◌≤◌, List, [], ◌∷◌, length, refl, sym, subst, inl, inr}
use Rattle.std.specs.Prelude.{Some, Contains, slice_get}
use Rattle.std.proofs.lemmas.List.Elements.{All-contains, All-contains_itself, All-weaker}
use Rattle.std.proofs.lemmas.Option.{slice_get_cases, slice_get_within}
use Rattle.ux_base.proofs.OrderedLists.{Contains-at}
use Rattle.ux_alphabet.specs.Letters.{Letters}
use Rattle.ux_dela.specs.Sound.{IsSound}
use Rattle.ux_dela.specs.declared.entry.Entry.{Entry}
use Rattle.ux_tokens.specs.declared.cutting.TheConstants.{MAX_TOKENS}
use Rattle.ux_tokens.specs.Tokens.{AreTokens, Token}
use Rattle.ux_lexical_tables.specs.Belonging.{Belongs}
use Rattle.ux_lexical_tables.specs.Tables.{Tables}
use Rattle.ux_sentence.specs.Paths.{IsWellFormed, LeadsOn}
use Rattle.ux_sentence.specs.Readings.{IsRawText, IsSpellable}
use Rattle.ux_sentence.specs.Valid.{AreNumbered, HasSpellable, IsWritable}
use Rattle.ux_sentence.specs.declared.sentence.Reading.{Reading}
use Rattle.ux_sentence.specs.declared.sentence.Reading.TheVariants.{Word, Raw}
use Rattle.ux_sentence.specs.declared.sentence.Link.{Link}
use Rattle.ux_sentence.specs.declared.sentence.Sentence.{Sentence}
use Rattle.ux_text_automaton.specs.declared.run.Run.{Run}
use Rattle.ux_text_automaton.specs.Built.{AreSentences, IsSentenceOf, StandsOn}
use Rattle.ux_text_automaton.specs.Runs.{IsRun}
use Rattle.ux_text_automaton.proofs.LinkLemmas.{stands_on}
use Rattle.ux_text_automaton.proofs.StateLemmas.{state_bound, state_le, state_less}
use Rattle.ux_text_automaton.proofs.TextLemmas.{raw_text}

module _ (alphabet : Letters) (bytes : List ℕ) (tokens : List Token)
    (are : AreTokens alphabet bytes tokens) (tables : Tables)
    (belongs : Belongs alphabet tokens tables) where
  -- a reading that stands on tokens can be spelled
  spellable : (first last : ℕ) (reading : Reading) → StandsOn tokens tables first last reading →
      IsSpellable reading
  spellable first last (Word entry) (inl (same, has)) =
      All-contains IsSound has.row entry (belongs.sound_simple first has.row has.entries) has.member
  spellable first last (Word entry) (inr has) =
      All-contains (λ (member : ℕ × Entry). IsSound member.1) has.row (last, entry)
      (belongs.sound_compounds first has.row has.entries) has.member
  spellable first last (Raw text) (same, unread) =
      subst IsRawText (sym unread.text_is)
      (raw_text alphabet bytes tokens are unread.token
      (Contains-at tokens unread.token first unread.stands) unread.kind)

  module _ (run : Run) (is_run : IsRun tokens run) (number : ℕ) (sentence : Sentence)
      (is : IsSentenceOf tokens tables run number sentence) where
    leads_on : (link : Link) → Contains sentence.links link → LeadsOn sentence.states link
    leads_on link has =
        let found = (is.links.exact link).0 has in
        let first = found.0 in
        let last = found.1 in
        let at = found.2 in
        let on = stands_on alphabet tokens tables belongs first last link.reading at.stands in
        let begins = at.begins in
        let ends = at.ends in
        let ordered = on.0 in
        let inside = is_run.within in
        let rise = state_less tokens run.first first (last + 1) begins on.1 (omega (arith, ordered))
        (omega (arith, ends, inside)) in
        let top = state_le tokens run.first (last + 1) run.end (omega (arith, begins, ordered))
        (omega (arith, ends)) inside in
        (omega (arith, at.from, at.to, rise), omega (arith, at.to, top, is.states))

    -- the sentence has two states at least, and links that lead on
    pub built_well_formed : IsWellFormed sentence
    built_well_formed =
        let low = is_run.some.1 in
        let high = is_run.some.2 in
        let rise = state_less tokens run.first is_run.some.0 run.end low is_run.some.3 high
        is_run.within in
        inr (
          omega (arith, rise, is.states),
          All-weaker (Contains sentence.links) (LeadsOn sentence.states) leads_on sentence.links
              (All-contains_itself sentence.links),
        )

    -- and its readings can be spelled
    pub built_writable : length tokens ≤ MAX_TOKENS → length sentence.links < 2 ^ 64 →
        IsWritable sentence
    built_writable few fit = record {
      well_formed = built_well_formed;
      states_fit = (
          let bound = state_bound tokens run.first run.end in
          let inside = is_run.within in
          omega (arith, is.states, bound, inside, few));
      links_fit = fit;
      readings = All-weaker (Contains sentence.links) HasSpellable
          (λ link has. (
          let found = (is.links.exact link).0 has in
          spellable found.0 found.1 link.reading found.2.stands)) sentence.links
          (All-contains_itself sentence.links);
    }

numbered_from : (sentences : List Sentence) (n : ℕ) → ((place : ℕ) (sentence : Sentence) →
    slice_get sentences place ≡ Some sentence → sentence.number ≡ n + place) →
    AreNumbered n sentences
numbered_from [] n each = tt
numbered_from (sentence ∷ sentences) n each = (
  omega (arith, each 0 sentence refl),
  numbered_from sentences (n + 1)
      (λ place other at. omega (arith, each (suc place) other at)),
)

-- the sentences of a text are numbered from 1
pub built_numbered : (tokens : List Token) (tables : Tables) (sentences : List Sentence) →
    AreSentences tokens tables sentences → AreNumbered 1 sentences
built_numbered tokens tables sentences are = numbered_from sentences 1 number_at
  where
    number_at : (place : ℕ) (sentence : Sentence) → slice_get sentences place ≡ Some sentence →
        sentence.number ≡ 1 + place
    number_at place sentence at = elim (slice_get_cases are.runs place).1 [
      | inl found ↦ omega (arith, (are.each place found.0 sentence found.2 at).numbered)
      | inr past ↦ absurd (omega (
        arith,
        past.0,
        are.each_run,
        slice_get_within sentences place sentence at,
      ))
    ]
