-- The answer of `tfind` as text: a head line, and a line for each span. The format is this program's
-- own. Public, through `Tfind`.
use Rattle.std.specs.Prelude.{◌≡◌, ℕ, List, [], ◌∷◌, ◌++◌, codes, flat_map}
use Rattle.std.specs.Fmt.{decimal}
use Rattle.ux_alphabet.specs.Letters.{Letters}
use Rattle.ux_net.specs.Nets.{net_grammar}
use Rattle.ux_net.specs.Words.{Grammar}
use Rattle.ux_sentence.specs.Files.{AreSentences}
use Rattle.ux_sentence.specs.Written.{SPACE, ended}
use Rattle.ux_sentence.specs.declared.sentence.Sentence.{Sentence}
use Rattle.ux_tfst_locate.specs.Sought.{Sought}
use Rattle.ux_tfst_locate.specs.Spans.{AreSpans}
use Rattle.ux_tfst_locate.specs.declared.span.Span.{Span}

-- the line of a span: the number of its sentence, and the states from which and to which it leads
abbrev pub span_line : Span → List ℕ
span_line span =
    decimal span.sentence ++ SPACE ∷ (decimal span.from ++ SPACE ∷ decimal span.to)

-- the lines of spans
abbrev pub span_lines : List Span → List ℕ
span_lines spans = flat_map (λ span. ended (span_line span)) spans

-- the head line, and the lines behind it
abbrev pub found_text : List Span → List ℕ
found_text spans = ended (codes "#T") ++ span_lines spans

-- the answer has the lines of exactly the spans of these sentences
pub record HasSpans (letters : Letters) (grammar : Grammar) (sentences : List Sentence)
    (answer : List ℕ) : Type 0 where
  pub spans : List Span
  pub are : AreSpans letters grammar sentences spans
  pub is : answer ≡ found_text spans

-- so has it those of the sentences that the text says
pub record IsFoundText (letters : Letters) (grammar : Grammar) (text answer : List ℕ) : Type 0 where
  pub sentences : List Sentence
  pub said : AreSentences text sentences
  pub found : HasSpans letters grammar sentences answer

-- the lines of the spans of some sentences are added
pub record PrintsFound (sought : Sought) (sentences : List Sentence) (old new : List ℕ) : Type 0 where
  pub spans : List Span
  pub are : AreSpans sought.letters (net_grammar sought.net) sentences spans
  pub is : new ≡ old ++ span_lines spans
