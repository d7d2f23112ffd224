-- What the line of a sentence says. Inner: the crate's own functions alone speak of it.
use Rattle.std.specs.Prelude.{◌≡◌, ℕ, ◌≤◌, ◌<◌, ◌^◌, List, ◌∷◌, ◌++◌}
use Rattle.std.specs.Fmt.{decimal}
use Rattle.ux_sentence.specs.declared.sentence_line.Opening.{Opening}
use Rattle.ux_sentence.specs.declared.sentence_line.Opening.TheVariants.{Empty, Automaton}
use Rattle.ux_sentence.specs.Files.{IsSentenceLine}
use Rattle.ux_sentence.specs.Written.{SPACE, empty_line}

-- what stands behind a sentence's number
abbrev pub counts_text : (states links : ℕ) → List ℕ
counts_text states links = decimal states ++ SPACE ∷ decimal links

-- the text says these numbers of states and links
abbrev pub IsCounts : List ℕ → Opening → Type 0
IsCounts text Empty = ⊥
IsCounts text (Automaton states links) =
    (text ≡ counts_text states links) × (2 ≤ states) × (states < 2 ^ 64) × (links < 2 ^ 64)

-- the line begins the sentence of this number
abbrev pub OpensSentence : (number : ℕ) (line : List ℕ) → Opening → Type 0
OpensSentence number line Empty = line ≡ empty_line number
OpensSentence number line (Automaton states links) = IsSentenceLine number line states links
