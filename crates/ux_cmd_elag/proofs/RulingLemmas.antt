-- Sentences that are ruled and written one behind the other.
use Rattle.std.proofs.Common.{arith, ◌≡◌, ℕ, zero, suc, ◌+◌, ◌<◌, List, [], ◌∷◌, ◌++◌, length, get_or, take, refl, sym, ◌∙◌, ap, subst, append_assoc}
use Rattle.std.specs.Prelude.{All}
use Rattle.std.specs.List.{AllZip}
use Rattle.std.proofs.lemmas.List.{append-nil}
use Rattle.std.proofs.lemmas.List.Elements.{All-head, All-tail, AllZip-push, length_all_zip}
use Rattle.ux_base.proofs.Lists.{take_more, take_whole}
use Rattle.ux_elag.specs.Left.{AreLeft, Keeps}
use Rattle.ux_elag.proofs.LeaveLemmas.{has_path-reads}
use Rattle.ux_reading_table.specs.Numbered.{IsNumberedBy, IsNumberedText}
use Rattle.ux_reading_table.specs.declared.numbered.NumberedSentence.{NumberedSentence}
use Rattle.ux_rules.specs.Rules.{RuleSteps}
use Rattle.ux_sentence.specs.Valid.{IsWritable}
use Rattle.ux_sentence.specs.Written.{ArePrinted, HasPath, ended, head_line}
use Rattle.ux_sentence.specs.declared.sentence.Reading.{Reading}
use Rattle.ux_sentence.specs.declared.sentence.Sentence.{Sentence}
use Rattle.ux_sentence.proofs.PrintLemmas.{ArePrinted-push}
use Rattle.ux_sentence.proofs.ValidLemmas.{read_is_valid}
use Rattle.ux_cmd_elag.specs.Ruling.{AllStand, IsRuledFile, PrintsLeft, Stands}

-- numbered sentences stand for those of the text, which can be written
each_stands : (texts : List (List ℕ)) (sentences : List Sentence)
    (numbered : List NumberedSentence) → AllZip (IsNumberedBy texts) sentences numbered →
    All IsWritable sentences → AllZip (Stands texts) numbered sentences
each_stands texts [] [] told good = tt
each_stands texts [] (y ∷ numbered) told good = absurd told
each_stands texts (x ∷ sentences) [] told good = absurd told
each_stands texts (x ∷ sentences) (y ∷ numbered) told good = (
  record { is_numbered = told.0; writable = All-head IsWritable x sentences good },
  each_stands texts sentences numbered told.1 (All-tail IsWritable x sentences good),
)

pub text_stands : (text : List ℕ) (texts : List (List ℕ)) (numbered : List NumberedSentence) →
    (read : IsNumberedText text texts numbered) → AllStand texts read.table.sentences numbered
text_stands text texts numbered read = record {
  are_texts = read.table.are_texts;
  each = each_stands texts read.table.sentences numbered read.told
      (read_is_valid text read.table.sentences read.table.said).writable;
}

-- what stands where there is no sentence
abbrev pub none_at : Sentence
none_at = record { number = 0; states = 0; links = [] }

-- each stands for the one at its place
pub stands_at : (texts : List (List ℕ)) (numbered : List NumberedSentence)
    (sentences : List Sentence) (place : ℕ) (d : NumberedSentence) (e : Sentence) →
    AllZip (Stands texts) numbered sentences → place < length numbered →
    (place < length sentences) × Stands texts (get_or numbered place d) (get_or sentences place e)
stands_at texts [] sentences place d e stand within = absurd (omega (arith, within))
stands_at texts (x ∷ numbered) [] place d e stand within = absurd stand
stands_at texts (x ∷ numbered) (y ∷ sentences) zero d e stand within = (omega arith, stand.0)
stands_at texts (x ∷ numbered) (y ∷ sentences) (suc place) d e stand within =
    let later = stands_at texts numbered sentences place d e stand.1 (omega (arith, within)) in
    (omega (arith, later.0), later.1)

module _ (rules : List RuleSteps) (count : ℕ) where
  -- what the rules leave of the sentences in front is written
  pub record AreRuledTo (front : List Sentence) (answer : List ℕ) : Type 0 where
    pub left : List Sentence
    pub each : AllZip (AreLeft rules) front left
    pub later : List ℕ
    pub printed : ArePrinted left later
    pub is : answer ≡ ended (head_line count) ++ later

  pub ruled_none : (answer : List ℕ) → answer ≡ ended (head_line count) → AreRuledTo [] answer
  ruled_none answer is = record {
    left = [];
    each = tt;
    later = [];
    printed = refl;
    is = is ∙ sym (append-nil (ended (head_line count)));
  }

  pub ruled_more : (sentences : List Sentence) (place : ℕ) (d : Sentence) (old new : List ℕ) →
      place < length sentences → AreRuledTo (take place sentences) old →
      PrintsLeft rules (get_or sentences place d) old new →
      AreRuledTo (take (place + 1) sentences) new
  ruled_more sentences place d old new within are prints =
      let sentence = get_or sentences place d in
      subst (λ (front : List Sentence). AreRuledTo front new)
      (sym (take_more sentences place d within)) (record {
        left = are.left ++ prints.left ∷ [];
        each = AllZip-push (AreLeft rules) (take place sentences) are.left sentence prints.left
            are.each prints.are_left;
        later = are.later ++ prints.more;
        printed = ArePrinted-push are.left prints.left are.later prints.more are.printed
            prints.printed;
        is = prints.is ∙ (ap (λ (l : List ℕ). l ++ prints.more) are.is
            ∙ append_assoc (ended (head_line count)) are.later prints.more);
      })

  -- behind the last sentence all are ruled
  pub ruled_all : (sentences : List Sentence) (place : ℕ) (answer : List ℕ) →
      count ≡ length sentences → length sentences < place + 1 →
      AreRuledTo (take place sentences) answer → IsRuledFile rules sentences answer
  ruled_all sentences place answer many past are =
      let each = subst (λ (front : List Sentence). AllZip (AreLeft rules) front are.left)
      (take_whole sentences place (omega (arith, past))) are.each in
      let same = length_all_zip (AreLeft rules) sentences are.left each in
      let all : count ≡ length are.left = omega (arith, many, same) in
      record {
        left = are.left;
        each = each;
        is = (are.later, are.is ∙ ap (λ n. ended (head_line n) ++ are.later) all, are.printed);
      }

-- a sentence of which something is left has a path
pub left_has_path : (IsSo : List Reading → Type 0) (old left : Sentence) → Keeps IsSo old left →
    0 < left.states → HasPath left
left_has_path IsSo old left keeps some =
    let way = keeps.on_path 0 some in
    (has_path-reads left keeps.formed).1 (way.1, (some, way.3))
