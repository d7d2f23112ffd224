-- How sentence automata are written as text: a head line, and for each sentence a line and one more
-- for each link. The format is this program's own. Public: the crate's public contracts speak of it.
use Rattle.std.specs.Prelude.{◌≡◌, ℕ, ◌<◌, ◌⊎◌, List, [], ◌∷◌, ◌++◌, All, codes, length}
use Rattle.std.specs.Fmt.{decimal}
use Rattle.ux_dela.specs.Printed.{printed}
use Rattle.ux_sentence.specs.declared.sentence.Reading.{Reading}
use Rattle.ux_sentence.specs.declared.sentence.Reading.TheVariants.{Word, Raw}
use Rattle.ux_sentence.specs.declared.sentence.Link.{Link}
use Rattle.ux_sentence.specs.declared.sentence.Sentence.{Sentence}
use Rattle.ux_sentence.specs.Paths.{IsPath, last_of}

abbrev pub LINE_FEED : ℕ
LINE_FEED = 10

abbrev pub SPACE : ℕ
SPACE = 32

abbrev pub OPENING_BRACE : ℕ
OPENING_BRACE = 123

abbrev pub CLOSING_BRACE : ℕ
CLOSING_BRACE = 125

-- the text of a reading: an entry stands between braces
abbrev pub reading_text : Reading → List ℕ
reading_text (Word entry) = OPENING_BRACE ∷ (printed entry ++ CLOSING_BRACE ∷ [])
reading_text (Raw text) = text

-- the first line, of so many sentences
abbrev pub head_line : ℕ → List ℕ
head_line count = codes "#TFST " ++ decimal count

-- the line of a sentence of this number, with so many states and links
abbrev pub sentence_line : (number states links : ℕ) → List ℕ
sentence_line number states links =
    codes "S " ++ (decimal number ++ SPACE ∷ (decimal states ++ SPACE ∷ decimal links))

-- the one line of a sentence without a path
abbrev pub empty_line : (number : ℕ) → List ℕ
empty_line number = codes "S " ++ (decimal number ++ SPACE ∷ codes "EMPTY")

-- the line of a link: from, to, and the text of its reading
abbrev pub link_line : (from to : ℕ) (reading : List ℕ) → List ℕ
link_line from to reading = decimal from ++ SPACE ∷ (decimal to ++ SPACE ∷ reading)

-- the line of a link of a sentence
abbrev pub line_of_link : Link → List ℕ
line_of_link link = link_line link.from link.to (reading_text link.reading)

-- a line, with the line feed that ends it
abbrev pub ended : List ℕ → List ℕ
ended line = line ++ LINE_FEED ∷ []

-- a line for each link
abbrev pub link_lines : List Link → List ℕ
link_lines [] = []
link_lines (link ∷ links) = ended (line_of_link link) ++ link_lines links

-- the links lead to greater states
abbrev pub LeadsUp : Link → Type 0
LeadsUp link = link.from < link.to

-- a path of links that lead to greater states, as all do in a well formed sentence, leads from the
-- first state to the last
abbrev pub HasPath : Sentence → Type 0
HasPath sentence = (0 < sentence.states)
    × ((path : List Link) × IsPath sentence.links 0 (last_of sentence) path × All LeadsUp path)

-- the text of a sentence: one line where it has no path
abbrev pub IsPrinted : Sentence → List ℕ → Type 0
IsPrinted sentence text =
    (HasPath sentence × (text ≡ ended (sentence_line sentence.number sentence.states
    (length sentence.links)) ++ link_lines sentence.links))
    ⊎ ((HasPath sentence → ⊥) × (text ≡ ended (empty_line sentence.number)))

-- the texts of the sentences, one behind the other
abbrev pub ArePrinted : List Sentence → List ℕ → Type 0
ArePrinted [] text = text ≡ []
ArePrinted (sentence ∷ sentences) text = (first : List ℕ) × (later : List ℕ)
    × (text ≡ first ++ later) × IsPrinted sentence first × ArePrinted sentences later

-- the file of the sentences: the head line, and each sentence
abbrev pub IsPrintedFile : List Sentence → List ℕ → Type 0
IsPrintedFile sentences text = (later : List ℕ)
    × (text ≡ ended (head_line (length sentences)) ++ later) × ArePrinted sentences later
