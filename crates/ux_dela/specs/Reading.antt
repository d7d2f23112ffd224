-- What the parts of the reader promise one another: a text as its characters, and a text that is
-- cut where a part ends. Inner: the crate's own functions alone speak of it.
use Rattle.std.specs.Prelude.{◌≡◌, ◌≢◌, ℕ, ◌==◌, ◌+◌, ◌<◌, IsUtf8, Bool, ◌||◌, true, false, List, [], ◌∷◌, ◌++◌, length, take, drop, slice_index, if◌then◌else◌, Option, None, Some}
use Rattle.std.specs.List.{list_any}
use Rattle.ux_dela.specs.Signs.{BACKSLASH, COMMA, DOT, PLUS, COLON, SPACE, HYPHEN, EQUALS, is_comma, is_dot, is_slash, is_code_sign, is_colon, is_plus, is_equals, is_brace, is_form_sign, is_printed_code_sign}
use Rattle.ux_dela.specs.Written.{Written, bare, protected, written, meant, meant_as, all_meant, IsPart, is_end, all_behind, has_bare}
use Rattle.ux_dela.specs.Codes.{AreCodes, EndsCode, IsCodeList, IsEmptyAt}
use Rattle.ux_dela.specs.Delaf.{IsSkipped, IsComment, IsCut, lemma_of, DelafSays}
use Rattle.ux_dela.specs.Delas.{IsStemCut, IsStemList, IsStemEmptyAt, IsDelasLine, DelasSays}
use Rattle.ux_dela.specs.Printed.{shielded}
use Rattle.ux_dela.specs.Sound.{HasNoFeed}
use Rattle.ux_dela.specs.declared.entry.Entry.{Entry}
use Rattle.ux_dela.specs.declared.entry.Stem.{Stem}
use Rattle.ux_dela.specs.declared.delaf.Cut.{Cut}
use Rattle.ux_dela.specs.declared.delas.StemCut.{StemCut}
use Rattle.ux_dela.specs.declared.printing.Signs.{Signs}
use Rattle.ux_dela.specs.declared.printing.Signs.TheVariants as signs
use Rattle.ux_dela.specs.declared.entry.Codes.{Codes}
use Rattle.ux_dela.specs.declared.part.Stop.{Stop}
use Rattle.ux_dela.specs.declared.part.Stop.TheVariants.{Comma, Dot, Slash, Code, Colon, Plus, Equals, Brace}
use Rattle.ux_dela.specs.declared.part.Split.{Split}
use Rattle.ux_dela.specs.declared.part.Split.TheVariants.{Ended, Last, Open}
use Rattle.ux_dela.specs.declared.plain.Mark.{Mark}
use Rattle.ux_dela.specs.declared.plain.Mark.TheVariants.{AsSpace, AsHyphen, AsItself}
use Rattle.ux_dela.specs.declared.codes.Run.{Run}
use Rattle.ux_dela.specs.declared.codes.StemCodes.{StemCodes}
use Rattle.ux_dela.specs.declared.codes.Kind.{Kind}
use Rattle.ux_dela.specs.declared.codes.Kind.TheVariants.{Sem, Infl, StemSem}
use Rattle.ux_dela.specs.declared.codes.CodeFault.{CodeFault}
use Rattle.ux_dela.specs.declared.codes.CodeFault.TheVariants.{Empty, NoRoom}

-- the characters of a text, of which the first is protected where a backslash stands before it; a
-- backslash that ends the text is bare
abbrev pub characters_from : Bool → List ℕ → List Written
characters_from true [] = bare BACKSLASH ∷ []
characters_from false [] = []
characters_from true (b ∷ text) = protected b ∷ characters_from false text
characters_from false (b ∷ text) =
    if b == BACKSLASH then characters_from true text else bare b ∷ characters_from false text

-- the characters of a text
abbrev pub characters : List ℕ → List Written
characters text = characters_from false text

-- the signs at which each part ends
abbrev pub is_stop : Stop → ℕ → Bool
is_stop Comma = is_comma
is_stop Dot = is_dot
is_stop Slash = is_slash
is_stop Code = is_code_sign
is_stop Colon = is_colon
is_stop Plus = is_plus
is_stop Equals = is_equals
is_stop Brace = is_brace

-- the text begins with the byte
abbrev pub Begins : List ℕ → ℕ → Type 0
Begins [] byte = ⊥
Begins (b ∷ text) byte = b ≡ byte

-- no part goes on there
abbrev pub IsPartEnd : (ℕ → Bool) → List ℕ → Type 0
IsPartEnd stops [] = Unit {0}
IsPartEnd stops (b ∷ []) = is_end stops b ≡ true
IsPartEnd stops (b ∷ (c ∷ rest)) = stops b ≡ true

-- the text is a part, and then a rest with which the part doesn't go on
pub record IsSplit (stops : ℕ → Bool) (text front rest : List ℕ) : Type 0 where
  pub whole : text ≡ front ++ rest
  pub part : IsPart stops (characters front)
  pub ends : IsPartEnd stops rest

-- the text's first part, by what ends it: a sign, the text's end or a backslash there
abbrev pub Splits : (ℕ → Bool) → List ℕ → Split → Type 0
Splits stops text (Ended part behind) =
    (sign : ℕ) × (stops sign ≡ true) × (text ≡ part.now ++ sign ∷ behind.now)
    × IsPart stops (characters part.now)
Splits stops text (Last part) = (text ≡ part.now) × IsPart stops (characters part.now)
Splits stops text Open =
    (front : List ℕ) × (text ≡ front ++ BACKSLASH ∷ []) × IsPart stops (characters front)

-- what a mark means
abbrev pub mark_sign : Mark → ℕ
mark_sign AsSpace = SPACE
mark_sign AsHyphen = HYPHEN
mark_sign AsItself = EQUALS

-- the sign before each code of a kind
abbrev pub sign_before : Kind → ℕ
sign_before Sem = PLUS
sign_before Infl = COLON
sign_before StemSem = PLUS

-- the signs at which the codes of a kind end
abbrev pub ends_kind : Kind → ℕ → Bool
ends_kind Sem = is_code_sign
ends_kind Infl = is_colon
ends_kind StemSem = is_plus

-- all codes of the kind that stand at the text's front, and the rest behind them
pub record IsRunOf (kind : Kind) (text : List ℕ) (items : List (List ℕ)) (rest : List ℕ) :
    Type 0 where
  pub codes : List (List Written)
  pub whole : text ≡ written (all_behind (sign_before kind) codes) ++ rest
  pub are_codes : AreCodes (ends_kind kind) codes
  pub meant : items ≡ all_meant codes
  pub ends : EndsCode (ends_kind kind) (characters rest)
  pub closed : IsPart is_slash (characters rest)
  pub all : (behind : List ℕ) → rest ≡ sign_before kind ∷ behind → ⊥

-- they were read
abbrev pub IsRun : Kind → List ℕ → Run → Type 0
IsRun kind text run = IsRunOf kind text run.codes run.rest.now

-- the rest stands behind them, whatever they are
abbrev pub IsBehindRun : Kind → (text rest : List ℕ) → Type 0
IsBehindRun kind text rest = (items : List (List ℕ)) × IsRunOf kind text items rest

-- behind a sign of the kind the text has this code, which isn't empty, and then a rest
pub record IsNextCode (kind : Kind) (text code rest : List ℕ) : Type 0 where
  pub behind : List ℕ
  pub sign : text ≡ sign_before kind ∷ behind
  pub split : IsSplit (ends_kind kind) behind code rest
  pub some : 0 < length code
  pub utf8 : IsUtf8 rest

-- codes stop so in front of the rest, or memory ran out
abbrev pub OrNoRoom : (List ℕ → Type 0) → CodeFault → Type 0
OrNoRoom stops (Empty rest) = stops rest.now
OrNoRoom stops NoRoom = Unit {0}

-- behind a sign of the kind a code is empty that should begin in front of the rest
abbrev pub StopsAtSign : Kind → (text rest : List ℕ) → Type 0
StopsAtSign kind text rest =
    (text ≡ sign_before kind ∷ rest) × ((left : List ℕ) × IsSplit (ends_kind kind) rest [] left)

-- behind some codes of the kind one is empty that should begin in front of the rest
abbrev pub StopsRun : Kind → (text rest : List ℕ) → Type 0
StopsRun kind text rest =
    (codes : List (List Written)) × AreCodes (ends_kind kind) codes
    × (text ≡ written (all_behind (sign_before kind) codes) ++ sign_before kind ∷ rest)
    × EndsCode (ends_kind kind) (characters rest)

-- the codes that the text lists
pub record IsListed (text : List ℕ) (codes : Codes) : Type 0 where
  pub gram : List Written
  pub sem : List (List Written)
  pub infl : List (List Written)
  pub list : IsCodeList (characters text) gram sem infl
  pub is_gram : codes.gram ≡ meant gram
  pub is_sem : codes.sem ≡ all_meant sem
  pub is_infl : codes.infl ≡ all_meant infl

-- the text lists codes
abbrev pub HasList : List ℕ → Type 0
HasList text = (codes : Codes) × IsListed text codes

-- a code of the text is empty that should begin in front of the rest
abbrev pub StopsList : (text rest : List ℕ) → Type 0
StopsList text rest =
    (front : List ℕ) × (text ≡ front ++ rest) × IsEmptyAt (characters text) (length front)

-- what a sign means where it is a mark
abbrev pub mark_in : (sign b : ℕ) → List ℕ
mark_in sign b = if is_equals b then sign ∷ [] else []

-- the byte in front of this text is a mark, or a backslash that protects
abbrev pub is_sign_before : ℕ → List ℕ → Bool
is_sign_before b [] = is_equals b
is_sign_before b (c ∷ text) = is_equals b || b == BACKSLASH

-- the first sign that isn't copied stands there
pub record IsSignAt (sign : ℕ) (protected : Bool) (text : List ℕ) (place : ℕ) : Type 0 where
  pub inside : place < length text
  pub is_sign : is_sign_before (slice_index text place) (drop (place + 1) text) ≡ true
  pub ascii : slice_index text place < 128
  pub cut : meant_as sign (characters_from protected text)
      ≡ take place text ++ (mark_in sign (slice_index text place)
      ++ meant_as sign (characters_from (slice_index text place == BACKSLASH)
      (drop (place + 1) text)))

-- the codes of a stem that the text lists
pub record IsStemListed (text : List ℕ) (codes : StemCodes) : Type 0 where
  pub class : List Written
  pub sem : List (List Written)
  pub list : IsStemList (characters text) class sem
  pub is_class : codes.class ≡ meant class
  pub is_sem : codes.sem ≡ all_meant sem

-- the text lists codes of a stem, of which this is the class
abbrev pub HasStemList : (text class : List ℕ) → Type 0
HasStemList text class = (codes : StemCodes) × IsStemListed text codes × (codes.class ≡ class)

-- a code of the text is empty that should begin in front of the rest
abbrev pub StopsStemList : (text rest : List ℕ) → Type 0
StopsStemList text rest =
    (front : List ℕ) × (text ≡ front ++ rest) × IsStemEmptyAt (characters text) (length front)

-- the line has this form, which isn't empty, this lemma, these codes and this comment
pub record IsCutOf (line : List ℕ) (cut : Cut) : Type 0 where
  pub is_cut : IsCut line (characters cut.form.now) (characters cut.lemma.now)
      (characters cut.codes.now) cut.comment.now
  pub some_form : characters cut.form.now ≢ []
  pub bytes :
      line ≡ cut.form.now ++ COMMA ∷ (cut.lemma.now ++ DOT ∷ (cut.codes.now ++ cut.comment.now))

-- a mark stands in the form or the lemma
abbrev pub has_mark_in : Cut → Bool
has_mark_in cut =
    has_bare is_equals (characters cut.form.now) || has_bare is_equals (characters cut.lemma.now)

-- the entry of these parts and codes, where each mark is this sign
abbrev pub entry_in : ℕ → Cut → Codes → Entry
entry_in sign cut codes = record {
  form = meant_as sign (characters cut.form.now);
  lemma = meant_as sign (lemma_of (characters cut.form.now) (characters cut.lemma.now));
  gram = codes.gram;
  sem = codes.sem;
  infl = codes.infl;
}

-- the entries of these parts and codes
abbrev pub entries_in : Cut → Codes → List Entry
entries_in cut codes =
    if has_mark_in cut then entry_in SPACE cut codes ∷ (entry_in HYPHEN cut codes ∷ [])
    else entry_in EQUALS cut codes ∷ []

-- the new entries are the old ones and those that the line says
pub record AddsSaid (line : List ℕ) (old new : List Entry) : Type 0 where
  pub said : List Entry
  pub says : DelafSays line said
  pub added : new ≡ old ++ said

-- the line says so many entries
abbrev pub SaysSoMany : List ℕ → ℕ → Type 0
SaysSoMany line count = (said : List Entry) × DelafSays line said × (count ≡ length said)

-- the line has this lemma, which isn't empty, these codes and this comment
pub record IsStemCutOf (line : List ℕ) (cut : StemCut) : Type 0 where
  pub is_cut : IsStemCut line (characters cut.lemma.now) (characters cut.codes.now) cut.comment.now
  pub some_lemma : characters cut.lemma.now ≢ []
  pub bytes : line ≡ cut.lemma.now ++ COMMA ∷ (cut.codes.now ++ cut.comment.now)

-- the line says the stem, unless it is skipped
abbrev pub SaysStem : List ℕ → Stem → Type 0
SaysStem line stem = (IsSkipped line → ⊥) → IsDelasLine line stem

-- the new stems are the old ones and those that the line says
pub record AddsStem (line : List ℕ) (old new : List Stem) : Type 0 where
  pub said : List Stem
  pub says : DelasSays line said
  pub added : new ≡ old ++ said

-- the signs that get a backslash
abbrev pub is_shielded : Signs → ℕ → Bool
is_shielded signs.Form = is_form_sign
is_shielded signs.Code = is_printed_code_sign

-- the line says so many stems
abbrev pub SaysSoManyStems : List ℕ → ℕ → Type 0
SaysSoManyStems line count = (said : List Stem) × DelasSays line said × (count ≡ length said)

-- the first sign that gets a backslash stands there
pub record IsShieldedAt (signs : Signs) (text : List ℕ) (place : ℕ) : Type 0 where
  pub inside : place < length text
  pub ascii : slice_index text place < 128
  pub cut : written (shielded (is_shielded signs) text)
      ≡ take place text ++ (BACKSLASH ∷ (slice_index text place
      ∷ written (shielded (is_shielded signs) (drop (place + 1) text))))

-- the body isn't skipped, and has neither a line feed nor a bare brace
abbrev pub MayBeTag : List ℕ → Type 0
MayBeTag body =
    (IsSkipped body → ⊥) × HasNoFeed body × (has_bare is_brace (characters body) ≡ false)

-- the entry of a body that is cut so, or none where it has a comment, a mark or an empty code
abbrev pub TagSays : Cut → Option Entry → Type 0
TagSays cut None =
    (codes : Codes) → IsListed cut.codes.now codes → cut.comment.now ≡ [] →
    has_mark_in cut ≡ false → ⊥
TagSays cut (Some entry) =
    (codes : Codes) × IsListed cut.codes.now codes × (cut.comment.now ≡ [])
    × (has_mark_in cut ≡ false) × (entry ≡ entry_in EQUALS cut codes)

-- the text has no line feed, and neither a comment nor a lone backslash ends it
abbrev pub MayBeCodes : List ℕ → Type 0
MayBeCodes text = HasNoFeed text × IsPart is_slash (characters text)

-- a byte with which a part that means what is written doesn't go on: the sign at which it ends, a
-- mark or a backslash
abbrev pub is_bare_end : (sign b : ℕ) → Bool
is_bare_end sign b = b == sign || (is_equals b || b == BACKSLASH)

-- the part means what is written
abbrev pub IsBare : (sign : ℕ) (part : List ℕ) → Type 0
IsBare sign part = list_any (is_bare_end sign) part ≡ false

-- such a part ends there, at its sign
pub record IsBareEnd (sign : ℕ) (text : List ℕ) (place : ℕ) : Type 0 where
  pub inside : place < length text
  pub is_sign : slice_index text place ≡ sign
  pub is_bare : IsBare sign (take place text)

-- the text is such a part, its sign and what stands behind it
pub record IsBarePart (sign : ℕ) (text part behind : List ℕ) : Type 0 where
  pub whole : text ≡ part ++ sign ∷ behind
  pub is_bare : IsBare sign part

-- the line has this form, which isn't empty, this lemma, these codes and this comment, and form and
-- lemma mean what is written
pub record IsBareCut (line : List ℕ) (cut : Cut) : Type 0 where
  pub counts : IsSkipped line → ⊥
  pub some_form : 0 < length cut.form.now
  pub bytes :
      line ≡ cut.form.now ++ COMMA ∷ (cut.lemma.now ++ DOT ∷ (cut.codes.now ++ cut.comment.now))
  pub form : IsBare COMMA cut.form.now
  pub lemma : IsBare DOT cut.lemma.now
  pub comment : IsComment cut.comment.now
