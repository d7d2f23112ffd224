-- What the line of a sentence and the head line say, part by part.
use Rattle.std.proofs.Common.{arith, ◌≡◌, ◌≢◌, ℕ, ◌<◌, ◌≤◌, ◌^◌, List, ◌∷◌, ◌++◌, sym, ◌∙◌, ap, Option, Some, None}
use Rattle.std.specs.Prelude.{codes, MatchOption}
use Rattle.std.specs.Fmt.{decimal}
use Rattle.std.specs.Str.Pattern.{FindsTextPrefix, StripsPrefix}
use Rattle.std.proofs.lemmas.Fmt.{decimal_injective}
use Rattle.std.proofs.lemmas.List.{append_cancel_left}
use denote.Ref.{Bor}
use Rattle.ux_sentence.specs.Written.{SPACE, head_line}
use Rattle.ux_sentence.specs.Files.{IsNoSentenceLine}
use Rattle.ux_sentence.specs.declared.sentence_line.Opening.{Opening}
use Rattle.ux_sentence.specs.declared.sentence_line.Opening.TheVariants.{Empty, Automaton}
use Rattle.ux_sentence.specs.Openings.{counts_text, IsCounts, OpensSentence}
use Rattle.ux_sentence.proofs.NumbersLemmas.{same_number}

-- `strip_prefix` at a text
pub strip_prefix_text : (p bs : List ℕ) (r : Option (Bor (List ℕ))) →
    MatchOption r (FindsTextPrefix p bs None) (λ x. StripsPrefix (FindsTextPrefix p) bs x.now) →
    MatchOption r ((rest : List ℕ) → bs ≢ p ++ rest) (λ x. bs ≡ p ++ x.now)
strip_prefix_text p bs None is = λ rest e. is rest e
strip_prefix_text p bs (Some x) is =
    is.1.1 ∙ ap (λ (t : List ℕ). p ++ t) (sym is.2)

-- a head line has one number
pub head_number : (line rest : List ℕ) (n count : ℕ) → line ≡ codes "#TFST " ++ rest →
    rest ≡ decimal count → n < 2 ^ 32 → count < 2 ^ 64 → line ≡ head_line n → n ≡ count
head_number line rest n count is number small few e =
    decimal_injective n count (omega arith) few
    (append_cancel_left (codes "#TFST ") (decimal n) rest (sym e ∙ is) ∙ number)

-- what stands behind the prefix of a head line
pub head_rest : (line rest : List ℕ) (n : ℕ) → line ≡ codes "#TFST " ++ rest →
    line ≡ head_line n → rest ≡ decimal n
head_rest line rest n is e =
    append_cancel_left (codes "#TFST ") rest (decimal n) (sym is ∙ e)

-- what a line says behind its number
abbrev pub IsNumberedLine : (n : ℕ) (line tail : List ℕ) → Type 0
IsNumberedLine n line tail = line ≡ codes "S " ++ (decimal n ++ SPACE ∷ tail)

-- a line with another beginning begins no sentence
pub other_beginning : (n : ℕ) (line : List ℕ) →
    ((tail : List ℕ) → IsNumberedLine n line tail → ⊥) → IsNoSentenceLine n line
other_beginning n line none = record {
  no_empty = λ e. none (codes "EMPTY") e;
  no_states = λ s l is. none (counts_text s l) is.whole;
}

-- the number and the tail of a line
pub numbered_tail : (n found : ℕ) (line rest behind tail : List ℕ) → n < 2 ^ 64 →
    found < 2 ^ 64 → line ≡ codes "S " ++ rest → rest ≡ decimal found ++ SPACE ∷ behind →
    IsNumberedLine n line tail → (n ≡ found) × (tail ≡ behind)
numbered_tail n found line rest behind tail small few is split e =
    same_number n found tail behind small few
    (append_cancel_left (codes "S ") (decimal n ++ SPACE ∷ tail) rest (sym e ∙ is) ∙ split)

-- a line whose rest begins with no number
pub no_number : (n : ℕ) (line rest : List ℕ) → n < 2 ^ 64 → line ≡ codes "S " ++ rest →
    ((m : ℕ) (behind : List ℕ) → m < 2 ^ 64 → rest ≡ decimal m ++ SPACE ∷ behind → ⊥) →
    IsNoSentenceLine n line
no_number n line rest small is none =
    other_beginning n line
    (λ tail e. none n tail small
    (append_cancel_left (codes "S ") rest (decimal n ++ SPACE ∷ tail) (sym is ∙ e)))

-- a line of another number
pub wrong_number : (n found : ℕ) (line rest behind : List ℕ) → n < 2 ^ 64 → found < 2 ^ 64 →
    line ≡ codes "S " ++ rest → rest ≡ decimal found ++ SPACE ∷ behind → found ≢ n →
    IsNoSentenceLine n line
wrong_number n found line rest behind small few is split other =
    other_beginning n line
    (λ tail e. other (sym (numbered_tail n found line rest behind tail small few is split e).0))

-- a line of this number whose tail says nothing
pub no_tail : (n found : ℕ) (line rest behind : List ℕ) → n < 2 ^ 64 → found < 2 ^ 64 →
    line ≡ codes "S " ++ rest → rest ≡ decimal found ++ SPACE ∷ behind →
    (behind ≡ codes "EMPTY" → ⊥) →
    ((states : ℕ) (links : ℕ) → states < 2 ^ 64 → links < 2 ^ 64 → 2 ≤ states →
    behind ≡ counts_text states links → ⊥) → IsNoSentenceLine n line
no_tail n found line rest behind small few is split no_empty no_counts = record {
  no_empty = λ e. no_empty
      (sym (numbered_tail n found line rest behind (codes "EMPTY") small few is split e).1);
  no_states = λ s l states. no_counts s l states.states_fit states.links_fit states.some
      (sym (numbered_tail n found line rest behind (counts_text s l) small few is split
      states.whole).1);
}

-- the line of this number and this tail
pub numbered_line : (n found : ℕ) (line rest behind : List ℕ) → line ≡ codes "S " ++ rest →
    rest ≡ decimal found ++ SPACE ∷ behind → found ≡ n → IsNumberedLine n line behind
numbered_line n found line rest behind is split same =
    is ∙ ap (λ (t : List ℕ). codes "S " ++ t) split
    ∙ ap (λ (m : ℕ). codes "S " ++ (decimal m ++ SPACE ∷ behind)) same

-- what the counts behind the number say of the line
pub opening_said : (n found : ℕ) (line rest behind : List ℕ) (given : Option Opening) →
    n < 2 ^ 64 → found < 2 ^ 64 → line ≡ codes "S " ++ rest →
    rest ≡ decimal found ++ SPACE ∷ behind → found ≡ n → (behind ≡ codes "EMPTY" → ⊥) →
    MatchOption given
    ((states : ℕ) (links : ℕ) → states < 2 ^ 64 → links < 2 ^ 64 → 2 ≤ states →
    behind ≡ counts_text states links → ⊥) (IsCounts behind) →
    MatchOption given (IsNoSentenceLine n line) (OpensSentence n line)
opening_said n found line rest behind None small few is split same other said =
    no_tail n found line rest behind small few is split other said
opening_said n found line rest behind (Some Empty) small few is split same other said =
    absurd said
opening_said n found line rest behind (Some (Automaton s l)) small few is split same other said =
    record {
      whole = numbered_line n found line rest behind is split same
          ∙ ap (λ (t : List ℕ). codes "S " ++ (decimal n ++ SPACE ∷ t)) said.0;
      some = said.1;
      states_fit = said.2;
      links_fit = said.3;
    }
