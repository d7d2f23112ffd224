-- Automata that are written one behind the other.
use Rattle.std.proofs.Common.{◌≡◌, ◌⊎◌, inl, inr, ℕ, ◌+◌, ◌<◌, List, [], ◌∷◌, ◌++◌, length, length-append, Some, refl, sym, ◌∙◌, ap, subst, append_assoc}
use Rattle.std.specs.Prelude.{slice_get}
use Rattle.std.proofs.lemmas.List.{append-nil}
use Rattle.std.proofs.lemmas.Option.{same_Some}
use Rattle.ux_tokens.proofs.CutLemmas.{slice_get-push_cases}
use Rattle.ux_lexical_tables.specs.Tables.{Tables}
use Rattle.ux_sentence.specs.Written.{ArePrinted, IsPrinted, ended, head_line}
use Rattle.ux_sentence.specs.declared.sentence.Sentence.{Sentence}
use Rattle.ux_text_automaton.specs.Built.{IsSentenceOf}
use Rattle.ux_text_automaton.specs.Runs.{AreRuns}
use Rattle.ux_text_automaton.specs.declared.run.Run.{Run}
use Rattle.ux_tokens.specs.Tokens.{Token}
use Rattle.ux_cmd_txt2tfst.specs.Tfst.{AreAutomata}

-- one more sentence is written behind the others
printed_more : (sentences : List Sentence) (text : List ℕ) (sentence : Sentence) (more : List ℕ) →
    ArePrinted sentences text → IsPrinted sentence more →
    ArePrinted (sentences ++ sentence ∷ []) (text ++ more)
printed_more [] text sentence more none is =
    (more, [], ap (λ (l : List ℕ). l ++ more) none ∙ sym (append-nil more), is, refl)
printed_more (first ∷ others) text sentence more (front, back, whole, is_first, are) is = (
  front,
  back ++ more,
  ap (λ (l : List ℕ). l ++ more) whole ∙ append_assoc front back more,
  is_first,
  printed_more others back sentence more are is,
)

module _ (tokens : List Token) (tables : Tables) (runs : List Run) where
  -- the answer has the automata of the first runs
  pub record HasWritten (place : ℕ) (answer : List ℕ) : Type 0 where
    pub sentences : List Sentence
    pub later : List ℕ
    pub count : length sentences ≡ place
    pub each : (k : ℕ) (run : Run) (sentence : Sentence) → slice_get runs k ≡ Some run →
        slice_get sentences k ≡ Some sentence → IsSentenceOf tokens tables run (k + 1) sentence
    pub printed : ArePrinted sentences later
    pub is : answer ≡ ended (head_line (length runs)) ++ later

  -- no sentence is written at first
  pub written_none : (answer : List ℕ) → answer ≡ ended (head_line (length runs)) →
      HasWritten 0 answer
  written_none answer is = record {
    sentences = [];
    later = [];
    count = refl;
    each = λ k run sentence at has. absurd (no_sentence k sentence has);
    printed = refl;
    is = is ∙ sym (append-nil (ended (head_line (length runs))));
  }
    where
      no_sentence : (k : ℕ) (sentence : Sentence) → slice_get [] k ≡ Some sentence → ⊥
      no_sentence k sentence has = cc

  -- and then one more
  pub written_more : (place : ℕ) (old new : List ℕ) (run : Run) (sentence : Sentence)
      (printed : List ℕ) → HasWritten place old → slice_get runs place ≡ Some run →
      IsSentenceOf tokens tables run (place + 1) sentence → IsPrinted sentence printed →
      new ≡ old ++ printed → HasWritten (place + 1) new
  written_more place old new run sentence printed has at is_of is_printed is = record {
    sentences = has.sentences ++ sentence ∷ [];
    later = has.later ++ printed;
    count = length-append has.sentences (sentence ∷ []) ∙ ap (λ n. n + 1) has.count;
    each = λ k other made at_k found. by k other made at_k
        (slice_get-push_cases has.sentences sentence k made found);
    printed = printed_more has.sentences has.later sentence printed has.printed is_printed;
    is = is ∙ (ap (λ (l : List ℕ). l ++ printed) has.is
        ∙ append_assoc (ended (head_line (length runs))) has.later printed);
  }
    where
      by : (k : ℕ) (other : Run) (made : Sentence) → slice_get runs k ≡ Some other →
          ((k < length has.sentences) × (slice_get has.sentences k ≡ Some made))
          ⊎ ((k ≡ length has.sentences) × (sentence ≡ made)) →
          IsSentenceOf tokens tables other (k + 1) made
      by k other made at_k (inl (low, found)) = has.each k other made at_k found
      by k other made at_k (inr (last, same)) =
          let here : k ≡ place = last ∙ has.count in
          let run_is : run ≡ other = same_Some run other
          (sym at ∙ subst (λ n. slice_get runs n ≡ Some other) here at_k) in
          subst (λ (s : Sentence). IsSentenceOf tokens tables other (k + 1) s) same
          (subst (λ n. IsSentenceOf tokens tables other (n + 1) sentence) (sym here)
          (subst (λ (r : Run). IsSentenceOf tokens tables r (place + 1) sentence) run_is is_of))

  -- all are written
  pub written_all : (answer : List ℕ) → AreRuns tokens runs → HasWritten (length runs) answer →
      AreAutomata tokens tables answer
  written_all answer are has = record {
    sentences = has.sentences;
    built = record { runs = runs; are_runs = are; each_run = has.count; each = has.each };
    is = (
      has.later,
      has.is ∙ ap (λ n. ended (head_line n) ++ has.later) (sym has.count),
      has.printed,
    );
  }
