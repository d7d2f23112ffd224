-- How the plan of `tfind` is carried out, and what answers what was read.
use Rattle.std.proofs.Common.{◌≡◌, ◌⊎◌, inl, inr, ℕ, List, Option, refl, sym, subst}
use Rattle.ux_alphabet.specs.Letters.{Letters}
use Rattle.ux_base.specs.Outside.{Files, Seen}
use Rattle.ux_grammars.specs.Reading.{Compiles, HasStatesOf}
use Rattle.ux_grammars.specs.Sources.{Source, grammar_of}
use Rattle.ux_meaning.proofs.Renaming.{same_meaning}
use Rattle.ux_net.specs.Nets.{net_grammar}
use Rattle.ux_net.specs.Words.{Grammar, SayTheSame}
use Rattle.ux_net.specs.declared.net_graph.NetGraph.{NetGraph}
use Rattle.ux_plan.proofs.Decoded.{decoded_reads, decoded_refused}
use Rattle.ux_plan.specs.Plans.{Reads, StopsFile, StopsTest, bytes_format, decoded, refusing, said_as}
use Rattle.ux_plan.specs.declared.stop.Stop.{Stop}
use Rattle.ux_plan.specs.declared.stop.Stop.TheVariants.{Absent, ReadFault, TooLarge, Refused, NoMemory}
use Rattle.ux_reading_match.specs.Usable.{IsUsable}
use Rattle.ux_reading_table.specs.Numbered.{IsTableOf}
use Rattle.ux_reasons.specs.declared.reason.Reason.{Reason}
use Rattle.ux_reasons.specs.declared.reason.Reason.TheVariants.{Decode, Sentence}
use Rattle.ux_sentence.proofs.Laws.{sentences_are_unique}
use Rattle.ux_sentence.specs.Files as file
use Rattle.ux_sentence.specs.declared.error.SentenceError.{SentenceError}
use Rattle.ux_sentence.specs.declared.error.SentenceError.TheVariants as sentence_error
use Rattle.ux_sentence.specs.declared.sentence.Sentence as sentence
use Rattle.ux_tfst_locate.specs.Inputs.{sentence_input}
use Rattle.ux_tfst_locate.specs.Spans.{AreSpans, IsSpan}
use Rattle.ux_tfst_locate.specs.declared.span.Span.{Span}
use Rattle.ux_cmd_tfind.specs.Files.{IsRefusedBy, StopsSentences, StopsText}
use Rattle.ux_cmd_tfind.specs.Lines.{HasSpans, IsFoundText}
use Rattle.ux_cmd_tfind.specs.Reading.{sentences_format}
use Rattle.ux_cmd_tfind.specs.Refusing.{CanSearch, RefusesGrammar, RefusesNet}

-- the file of this text says the sentences of its table
pub table_reads : (name : List ℕ) (told : Option Files) (text : List ℕ) (texts : List (List ℕ)) →
    Reads (decoded Decode bytes_format) name told text → (table : IsTableOf text texts) →
    Reads sentences_format name told table.sentences
table_reads name told text texts has table =
    decoded_reads Decode (said_as Sentence file.AreSentences file.Refuses) name told text
    table.sentences has table.said

-- the error isn't want of memory, so it refuses
refused_so : (Refuses : SentenceError → Type 0) (error : SentenceError) →
    (error ≡ sentence_error.NoMemory → ⊥) →
    (error ≡ sentence_error.NoMemory) ⊎ Refuses error → Refuses error
refused_so Refuses error some (inl none) = absurd (some none)
refused_so Refuses error some (inr refuses) = refuses

module _ (name : List ℕ) (old new : Seen) where
  -- the file of sentences is refused for this reason, if memory doesn't run out
  by_reason : (text : List ℕ) (error : SentenceError) (by : Stop Reason) →
      Reads (decoded Decode bytes_format) name old.files text → file.Refuses text error →
      IsRefusedBy name (Sentence error) by → StopsFile sentences_format name old new by
  by_reason text error by has refuses (inl is) =
      subst (StopsFile sentences_format name old new) (sym is)
      (decoded_refused Decode (said_as Sentence file.AreSentences file.Refuses) name old new text
      (Sentence error) has (record { error = error; refuses = refuses; is = refl }))
  by_reason text error by has refuses (inr is) =
      subst (StopsFile sentences_format name old new) (sym is) tt

  sentences_stop : (text : List ℕ) (error : SentenceError) (by : Stop Reason) →
      Reads (decoded Decode bytes_format) name old.files text →
      (error ≡ sentence_error.NoMemory) ⊎ file.Refuses text error →
      StopsSentences name error by → StopsFile sentences_format name old new by
  sentences_stop text (sentence_error.BadLine line) by has refuses is =
      by_reason text (sentence_error.BadLine line) by has
      (refused_so (file.Refuses text) (sentence_error.BadLine line) (λ e. cc) refuses) is
  sentences_stop text (sentence_error.BadEdge line) by has refuses is =
      by_reason text (sentence_error.BadEdge line) by has
      (refused_so (file.Refuses text) (sentence_error.BadEdge line) (λ e. cc) refuses) is
  sentences_stop text (sentence_error.Backward line) by has refuses is =
      by_reason text (sentence_error.Backward line) by has
      (refused_so (file.Refuses text) (sentence_error.Backward line) (λ e. cc) refuses) is
  sentences_stop text sentence_error.NoMemory by has refuses is =
      subst (StopsFile sentences_format name old new) (sym is) tt

  pub text_stops : (text : List ℕ) (by : Stop Reason) →
      Reads (decoded Decode bytes_format) name old.files text → StopsText name text by →
      StopsFile sentences_format name old new by
  text_stops text by has stops = sentences_stop text stops.error by has stops.refused stops.stops

module _ (letters : Letters) (source : Source) (net : List NetGraph)
    (states : HasStatesOf letters source net) where
  pub can_search : IsUsable net → CanSearch letters source
  can_search usable = record { net = net; states = states; usable = usable }

  -- the net is refused, and so is the grammar
  pub net_stops : (word : List ℕ) (stop : Stop Reason) →
      StopsTest (refusing (RefusesNet word net)) stop →
      StopsTest (refusing (RefusesGrammar word letters source)) stop
  net_stops word (Absent name) stops = stops
  net_stops word (ReadFault name) stops = stops
  net_stops word (TooLarge name) stops = stops
  net_stops word (Refused name reason) stops =
      record { net = net; states = states; refuses = stops }
  net_stops word NoMemory stops = tt

-- grammars that say the same are found alike
module _ (letters : Letters) (old new : Grammar) (same : SayTheSame old new) where
  span_there : (s : sentence.Sentence) (from to : ℕ) → IsSpan letters new s from to →
      IsSpan letters old s from to
  span_there s from to is = record {
    some = is.some;
    derived = (
      is.derived.0,
      (same_meaning (sentence_input letters s.links) old new same 1 from to is.derived.0).1
          is.derived.1,
    );
    reached = is.reached;
    leads = is.leads;
  }

  span_back : (s : sentence.Sentence) (from to : ℕ) → IsSpan letters old s from to →
      IsSpan letters new s from to
  span_back s from to is = record {
    some = is.some;
    derived = (
      is.derived.0,
      (same_meaning (sentence_input letters s.links) old new same 1 from to is.derived.0).0
          is.derived.1,
    );
    reached = is.reached;
    leads = is.leads;
  }

  spans_alike : (sentences : List sentence.Sentence) (spans : List Span) →
      AreSpans letters new sentences spans → AreSpans letters old sentences spans
  spans_alike sentences spans are = record {
    ascend = are.ascend;
    exact = λ span. (
      λ has.
          let is = (are.exact span).0 has in
          (is.0, is.1, is.2, span_there is.0 span.from span.to is.3),
      λ is. (are.exact span).1 (is.0, is.1, is.2, span_back is.0 span.from span.to is.3),
    );
  }

-- the lines that are found by the net answer what was read
pub answers_read : (letters : Letters) (source : Source) (net : List NetGraph)
    (sentences : List sentence.Sentence) (text answer : List ℕ) → Compiles letters source net →
    file.AreSentences text sentences → IsFoundText letters (net_grammar net) text answer →
    HasSpans letters (grammar_of letters source) sentences answer
answers_read letters source net sentences text answer compiles said is =
    let same = sentences_are_unique text is.sentences sentences is.said said in
    record {
      spans = is.found.spans;
      are = spans_alike letters (grammar_of letters source) (net_grammar net) compiles.same sentences
          is.found.spans
          (subst (λ (l : List sentence.Sentence). AreSpans letters (net_grammar net) l
          is.found.spans) same is.found.are);
      is = is.found.is;
    }
