-- The sentences of a text, run by run.
use Rattle.std.proofs.Common.{arith, ◌≡◌, ℕ, ◌+◌, List, [], ◌∷◌, ◌++◌, length, length-append, refl, sym, ◌∙◌, ap, subst, inl, inr}
use Rattle.std.specs.Prelude.{Some, slice_get}
use Rattle.std.proofs.lemmas.Option.{same_Some}
use Rattle.ux_tokens.specs.Tokens.{Token}
use Rattle.ux_tokens.proofs.CutLemmas.{slice_get-push_cases}
use Rattle.ux_lexical_tables.specs.Tables.{Tables}
use Rattle.ux_sentence.specs.declared.sentence.Sentence.{Sentence}
use Rattle.ux_text_automaton.specs.declared.run.Run.{Run}
use Rattle.ux_text_automaton.specs.Built.{AreSentences, IsSentenceOf}
use Rattle.ux_text_automaton.specs.Runs.{AreRuns}

-- the sentences are those of the first runs
pub record AreBuilt (tokens : List Token) (tables : Tables) (runs : List Run) (count : ℕ)
    (sentences : List Sentence) : Type 0 where
  pub each_run : length sentences ≡ count
  pub each : (place : ℕ) (run : Run) (sentence : Sentence) → slice_get runs place ≡ Some run →
      slice_get sentences place ≡ Some sentence →
      IsSentenceOf tokens tables run (place + 1) sentence

module _ (tokens : List Token) (tables : Tables) (runs : List Run) where
  pub built_none : AreBuilt tokens tables runs 0 []
  built_none = record {
    each_run = refl;
    each = λ place run sentence at is. absurd (cc);
  }

  -- a sentence more
  pub built_more : (count : ℕ) (sentences : List Sentence) (run : Run) (sentence : Sentence) →
      slice_get runs count ≡ Some run → IsSentenceOf tokens tables run (count + 1) sentence →
      AreBuilt tokens tables runs count sentences →
      AreBuilt tokens tables runs (count + 1) (sentences ++ sentence ∷ [])
  built_more count sentences run sentence at is before = record {
    each_run = omega (arith, length-append sentences (sentence ∷ []), before.each_run);
    each = λ place other made here there.
        elim (slice_get-push_cases sentences sentence place made there) [
          | inl old ↦ before.each place other made here old.1
          | inr new ↦ last place other made here (new.0 ∙ before.each_run) new.1
        ];
  }
    where
      last : (place : ℕ) (other : Run) (made : Sentence) → slice_get runs place ≡ Some other →
          place ≡ count → sentence ≡ made → IsSentenceOf tokens tables other (place + 1) made
      last place other made here same made_is =
          let run_is : run ≡ other =
          same_Some run other (sym at ∙ (ap (slice_get runs) (sym same) ∙ here)) in
          let one = subst (λ (s : Sentence). IsSentenceOf tokens tables run (count + 1) s) made_is is in
          let two = subst (λ (r : Run). IsSentenceOf tokens tables r (count + 1) made) run_is one in
          subst (λ (n : ℕ). IsSentenceOf tokens tables other (n + 1) made) (sym same) two

  -- all of them
  pub built_all : (count : ℕ) (sentences : List Sentence) → AreRuns tokens runs →
      count ≡ length runs → AreBuilt tokens tables runs count sentences →
      AreSentences tokens tables sentences
  built_all count sentences are all built = record {
    runs = runs;
    are_runs = are;
    each_run = built.each_run ∙ all;
    each = built.each;
  }
