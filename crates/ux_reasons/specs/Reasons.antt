-- The line that tells why a file is refused. Public: the crate's public contracts speak of it.
use Rattle.std.specs.Prelude.{ℕ, List, [], ◌∷◌, ◌++◌, codes}
use Rattle.std.specs.Fmt.{decimal}
use Rattle.ux_decode.specs.declared.error.DecodeError.{DecodeError}
use Rattle.ux_decode.specs.declared.error.DecodeError.TheVariants as decode_error
use Rattle.ux_alphabet.specs.declared.error.AlphabetError.{AlphabetError}
use Rattle.ux_alphabet.specs.declared.error.AlphabetError.TheVariants as alphabet_error
use Rattle.ux_grf.specs.declared.error.GrfError.{GrfError}
use Rattle.ux_grf.specs.declared.error.GrfError.TheVariants as grf_error
use Rattle.ux_boxes.specs.declared.error.NetError.{NetError}
use Rattle.ux_boxes.specs.declared.error.NetError.TheVariants as net_error
use Rattle.ux_dela.specs.declared.error.DelaError.{DelaError}
use Rattle.ux_dela.specs.declared.error.DelaError.TheVariants as dela_error
use Rattle.ux_image_reader.specs.declared.error.ImageError.{ImageError}
use Rattle.ux_image_reader.specs.declared.error.ImageError.TheVariants as image_error
use Rattle.ux_fst2.specs.declared.error.Fst2Error.{Fst2Error}
use Rattle.ux_fst2.specs.declared.error.Fst2Error.TheVariants as fst2_error
use Rattle.ux_sentence.specs.declared.error.SentenceError.{SentenceError}
use Rattle.ux_sentence.specs.declared.error.SentenceError.TheVariants as sentence_error
use Rattle.ux_rules.specs.declared.error.RuleError.{RuleError}
use Rattle.ux_rules.specs.declared.error.RuleError.TheVariants as rule_error
use Rattle.ux_inflect.specs.declared.error.InflectError.{InflectError}
use Rattle.ux_inflect.specs.declared.error.InflectError.TheVariants as inflect_error
use Rattle.ux_flatten.specs.declared.error.FlattenError.{FlattenError}
use Rattle.ux_flatten.specs.declared.error.FlattenError.TheVariants as flatten_error
use Rattle.ux_marks.specs.declared.error.MorphError.{MorphError}
use Rattle.ux_marks.specs.declared.error.MorphError.TheVariants as morph_error
use Rattle.ux_reading_match.specs.declared.error.TfstError.{TfstError}
use Rattle.ux_reading_match.specs.declared.error.TfstError.TheVariants as tfst_error
use Rattle.ux_reasons.specs.declared.reason.Reason.{Reason}
use Rattle.ux_reasons.specs.declared.reason.Reason.TheVariants.{Decode, Alphabet, Grf, Net, Fst2, Dela, Image, Sentence, Rule, Inflect, Flatten, Morph, Tfst, TooManyGraphs}

-- texts, one after the other
abbrev pub joined : List (List ℕ) → List ℕ
joined [] = []
joined (text ∷ texts) = text ++ joined texts

-- a reason's innermost name, and then its fields
abbrev pub decode_reason : DecodeError → List (List ℕ)
decode_reason (decode_error.BadUtf8 place) = codes "BadUtf8 place=" ∷ decimal place ∷ []
decode_reason (decode_error.LoneSurrogate place) = codes "LoneSurrogate place=" ∷ decimal place ∷ []
decode_reason decode_error.OddLength = codes "OddLength" ∷ []
decode_reason decode_error.NoMemory = codes "NoMemory" ∷ []

-- the same of an alphabet
abbrev pub alphabet_reason : AlphabetError → List (List ℕ)
alphabet_reason (alphabet_error.BadLine line) = codes "BadLine line=" ∷ decimal line ∷ []
alphabet_reason (alphabet_error.EmptyRange line) = codes "EmptyRange line=" ∷ decimal line ∷ []
alphabet_reason alphabet_error.NoMemory = codes "NoMemory" ∷ []

-- a refusal at a place of what has this number
abbrev pub at_place : (what : List ℕ) (number place : ℕ) → List (List ℕ)
at_place what number place = what ∷ decimal number ∷ codes " place=" ∷ decimal place ∷ []

-- the same of a graph
abbrev pub grf_reason : GrfError → List (List ℕ)
grf_reason grf_error.NoHeader = codes "NoHeader" ∷ []
grf_reason grf_error.BadCount = codes "BadCount" ∷ []
grf_reason (grf_error.BadBoxLine node) = codes "BadBoxLine node=" ∷ decimal node ∷ []
grf_reason (grf_error.BadTarget node) = codes "BadTarget node=" ∷ decimal node ∷ []
grf_reason (grf_error.BadContent node place) = at_place (codes "BadContent node=") node place
grf_reason grf_error.NoMemory = codes "NoMemory" ∷ []

-- the same of a dictionary
abbrev pub dela_reason : DelaError → List (List ℕ)
dela_reason (dela_error.NoComma line place) = at_place (codes "NoComma line=") line place
dela_reason (dela_error.NoDot line place) = at_place (codes "NoDot line=") line place
dela_reason (dela_error.EmptyForm line place) = at_place (codes "EmptyForm line=") line place
dela_reason (dela_error.EmptyCode line place) = at_place (codes "EmptyCode line=") line place
dela_reason (dela_error.BadEscape line place) = at_place (codes "BadEscape line=") line place
dela_reason (dela_error.BadClass line place) = at_place (codes "BadClass line=") line place
dela_reason dela_error.NoMemory = codes "NoMemory" ∷ []

-- a refusal at a node of a graph
abbrev pub at_node : (what graph : List ℕ) (node : ℕ) → List (List ℕ)
at_node what graph node = what ∷ graph ∷ codes " node=" ∷ decimal node ∷ []

-- a mask text that is bad at a place, in a node of a graph
abbrev pub bad_mask : (graph : List ℕ) (node place : ℕ) → List (List ℕ)
bad_mask graph node place = codes "BadMask graph=" ∷ graph ∷ codes " node=" ∷ decimal node
    ∷ codes " place=" ∷ decimal place ∷ []

-- the same of a grammar
abbrev pub net_reason : NetError → List (List ℕ)
net_reason (net_error.MissingGraph name) = codes "MissingGraph name=" ∷ name ∷ []
net_reason (net_error.BadMask graph node place) = bad_mask graph node place
net_reason (net_error.ContextClose graph node) = at_node (codes "ContextClose graph=") graph node
net_reason (net_error.NegativeRecursion graph) = codes "NegativeRecursion graph=" ∷ graph ∷ []
net_reason (net_error.EmptyLoop graph node) = at_node (codes "EmptyLoop graph=") graph node
net_reason (net_error.LeftRecursion graph node) = at_node (codes "LeftRecursion graph=") graph node
net_reason net_error.NoMemory = codes "NoMemory" ∷ []

-- the same of a file of a compiled grammar
abbrev pub fst2_reason : Fst2Error → List (List ℕ)
fst2_reason fst2_error.BadCount = codes "BadCount" ∷ []
fst2_reason (fst2_error.BadLine line) = codes "BadLine line=" ∷ decimal line ∷ []
fst2_reason (fst2_error.BadTag number) = codes "BadTag n=" ∷ decimal number ∷ []
fst2_reason (fst2_error.BadLabel line) = codes "BadLabel line=" ∷ decimal line ∷ []
fst2_reason fst2_error.NoMemory = codes "NoMemory" ∷ []

-- the same of an image
abbrev pub image_reason : ImageError → List (List ℕ)
image_reason image_error.BadMagic = codes "BadMagic" ∷ []
image_reason image_error.Short = codes "Short" ∷ []
image_reason (image_error.BadState offset) = codes "BadState offset=" ∷ decimal offset ∷ []
image_reason (image_error.BadCode number) = codes "BadCode n=" ∷ decimal number ∷ []
image_reason image_error.Trailing = codes "Trailing" ∷ []
image_reason image_error.TooMany = codes "TooMany" ∷ []
image_reason image_error.NoMemory = codes "NoMemory" ∷ []

-- the same of sentence automata
abbrev pub sentence_reason : SentenceError → List (List ℕ)
sentence_reason (sentence_error.BadLine line) = codes "BadLine line=" ∷ decimal line ∷ []
sentence_reason (sentence_error.BadEdge line) = codes "BadEdge line=" ∷ decimal line ∷ []
sentence_reason (sentence_error.Backward line) = codes "Backward line=" ∷ decimal line ∷ []
sentence_reason sentence_error.NoMemory = codes "NoMemory" ∷ []

-- the same of a rule
abbrev pub rule_reason : RuleError → List (List ℕ)
rule_reason rule_error.NoIf = codes "NoIf" ∷ []
rule_reason (rule_error.BadMarks node) = codes "BadMarks node=" ∷ decimal node ∷ []
rule_reason (rule_error.Call node) = codes "Call node=" ∷ decimal node ∷ []
rule_reason (rule_error.BadItem node) = codes "BadItem node=" ∷ decimal node ∷ []
rule_reason rule_error.NoMemory = codes "NoMemory" ∷ []

-- the same of a stem
abbrev pub inflect_reason : InflectError → List (List ℕ)
inflect_reason (inflect_error.Cyclic graph) = codes "Cyclic graph=" ∷ graph ∷ []
inflect_reason (inflect_error.BadItem graph node) = at_node (codes "BadItem graph=") graph node
inflect_reason (inflect_error.StackEnd path) = codes "StackEnd path=" ∷ path ∷ []
inflect_reason (inflect_error.BadCodes path) = codes "BadCodes path=" ∷ path ∷ []
inflect_reason inflect_error.NoMemory = codes "NoMemory" ∷ []

-- the same of a grammar that isn't flattened
abbrev pub flatten_reason : FlattenError → List (List ℕ)
flatten_reason flatten_error.TooBig = codes "TooBig" ∷ []
flatten_reason (flatten_error.NegativeCut graph node) =
    at_node (codes "NegativeCut graph=") graph node
flatten_reason flatten_error.NoMemory = codes "NoMemory" ∷ []

-- the same of a grammar that isn't matched inside words
abbrev pub morph_reason : MorphError → List (List ℕ)
morph_reason (morph_error.BadMarks graph node) = at_node (codes "BadMarks graph=") graph node
morph_reason (morph_error.BadOutput token) = codes "BadOutput token=" ∷ token ∷ []
morph_reason morph_error.NoMemory = codes "NoMemory" ∷ []

-- the same of a grammar that isn't sought in sentence automata
abbrev pub tfst_reason : TfstError → List (List ℕ)
tfst_reason (tfst_error.BadItem graph node) = at_node (codes "BadItem graph=") graph node
tfst_reason tfst_error.NoMemory = codes "NoMemory" ∷ []

-- the same of any file
abbrev pub reason_of : Reason → List (List ℕ)
reason_of (Decode error) = decode_reason error
reason_of (Alphabet error) = alphabet_reason error
reason_of (Grf error) = grf_reason error
reason_of (Net error) = net_reason error
reason_of (Fst2 error) = fst2_reason error
reason_of (Dela error) = dela_reason error
reason_of (Image error) = image_reason error
reason_of (Sentence error) = sentence_reason error
reason_of (Rule error) = rule_reason error
reason_of (Inflect error) = inflect_reason error
reason_of (Flatten error) = flatten_reason error
reason_of (Morph error) = morph_reason error
reason_of (Tfst error) = tfst_reason error
reason_of TooManyGraphs = codes "TooManyGraphs" ∷ []

-- the line of a file that is refused, by its reason
abbrev pub refusal : (file : List ℕ) → (reason : List (List ℕ)) → List ℕ
refusal file reason =
    joined (codes "refused: " ∷ file ∷ codes ": " ∷ (reason ++ codes "\n" ∷ []))
