-- The lists of readings along a built sentence's links are its paths in terms of dictionaries.
-- Public: crates above may cite it.
use Rattle.std.proofs.Common.{◌≡◌, ◌↔◌, ℕ, List, refl}
use Rattle.ux_alphabet.specs.Letters.{Letters}
use Rattle.ux_dela.specs.declared.entry.Entry.{Entry}
use Rattle.ux_tokens.specs.Tokens.{Token}
use Rattle.ux_lexical_tables.specs.Belonging.{Belongs}
use Rattle.ux_lexical_tables.specs.Tables.{Tables}
use Rattle.ux_apply.specs.declared.priority.Priority.{Priority}
use Rattle.ux_apply.specs.Applied.{AreApplied}
use Rattle.ux_sentence.specs.Paths.{IsReadAs}
use Rattle.ux_sentence.specs.declared.sentence.Reading.{Reading}
use Rattle.ux_sentence.specs.declared.sentence.Sentence.{Sentence}
use Rattle.ux_text_automaton.specs.declared.run.Run.{Run}
use Rattle.ux_text_automaton.specs.Built.{IsSentenceOf, StandsOn}
use Rattle.ux_text_automaton.specs.Runs.{IsRun}
use Rattle.ux_text_automaton.specs.DictionaryPaths.{IsReadingOf, IsSentencePath}
use Rattle.ux_text_automaton.proofs.DictionaryLemmas.{of_dictionaries, to_dictionaries}
use Rattle.ux_text_automaton.proofs.PathLemmas.{follow_like, paths_are}

pub built_paths : (alphabet : Letters) (dics : List (Priority × List Entry)) (tokens : List Token)
    (tables : Tables) → AreApplied alphabet dics tokens tables → Belongs alphabet tokens tables →
    (run : Run) → IsRun tokens run → (number : ℕ) (sentence : Sentence) →
    IsSentenceOf tokens tables run number sentence → (readings : List Reading) →
    IsReadAs sentence readings ↔ IsSentencePath alphabet dics tokens run readings
built_paths alphabet dics tokens tables applied belongs run is_run number sentence is readings =
    let paths = paths_are alphabet tokens tables belongs run is_run sentence.links is.links sentence
    is.states refl readings in (
      λ read. (
          let path = paths.0 read in (
            path.0,
            follow_like tokens (StandsOn tokens tables) (IsReadingOf alphabet dics tokens)
                (to_dictionaries alphabet dics tokens tables applied) run.first run.end path.0 path.1,
            path.2,
          )),
      λ path. paths.1 (
        path.0,
        follow_like tokens (IsReadingOf alphabet dics tokens) (StandsOn tokens tables)
            (of_dictionaries alphabet dics tokens tables applied) run.first run.end path.0 path.1,
        path.2,
      ),
    )
