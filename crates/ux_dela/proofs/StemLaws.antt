-- Lines and files of lemmas say one thing only, and are refused in one way only.
use Rattle.std.proofs.Common.{arith, ◌≡◌, ◌≢◌, ℕ, ◌+◌, List, [], ◌∷◌, ◌++◌, refl, sym, ◌∙◌, ap, subst, length}
use Rattle.ux_base.specs.Lines.{lines_of}
use Rattle.ux_dela.specs.Signs.{COMMA}
use Rattle.ux_dela.specs.Written.{Written, bare, written, meant, all_meant}
use Rattle.ux_dela.specs.Delas.{IsStemCut, IsStemList, IsClass, IsDelasLine, DelasSays, skipped, stem, IsStemEmptyAt, HasEmptyStemCode, HasBadClass, HasEmptyLemma, HasStemFault, RefusesDelas}
use Rattle.ux_dela.specs.Files.{AreStems, RefusesStems}
use Rattle.ux_dela.specs.declared.entry.Stem.{Stem}
use Rattle.ux_dela.specs.declared.error.DelaError.{DelaError}
use Rattle.ux_dela.specs.declared.error.DelaError.TheVariants.{NoComma, NoDot, EmptyForm, EmptyCode, BadEscape, BadClass, NoMemory}
use Rattle.ux_base.proofs.EachLineLemmas.{said_once, refused_in_one_way}
use Rattle.ux_dela.proofs.StemExclusionLemmas.{stem_excluded}
use Rattle.ux_dela.proofs.StemUniqueLemmas.{same_stem_cut, same_stem_list, one_class, one_empty_place, listed_not_empty, cut_has_comma, cut_not_open, open_has_end}

-- the stem of these parts
stem_of_parts : (lemma class gram : List ℕ) (sem : List (List ℕ)) → Stem
stem_of_parts lemma class gram sem =
    record { lemma = lemma; class = class; gram = gram; sem = sem }

-- stems of the same parts are the same
same_parts : (one other : Stem) → one.lemma ≡ other.lemma → one.class ≡ other.class →
    one.gram ≡ other.gram → one.sem ≡ other.sem → one ≡ other
unfolding stem_of_parts
same_parts one other l c g s =
    ap (λ t. stem_of_parts t one.class one.gram one.sem) l
    ∙ ap (λ t. stem_of_parts other.lemma t one.gram one.sem) c
    ∙ ap (λ t. stem_of_parts other.lemma other.class t one.sem) g
    ∙ ap (λ t. stem_of_parts other.lemma other.class other.gram t) s

-- two parses of a line have the same stem
same_stem : (line : List ℕ) (one other : Stem) → IsDelasLine line one → IsDelasLine line other →
    one ≡ other
same_stem line one other a b =
    let cut = same_stem_cut line a.lemma a.codes b.lemma b.codes a.comment b.comment a.cut b.cut in
    let list = same_stem_list a.codes a.class b.class a.sem b.sem a.list
    (subst (λ (w : List Written). IsStemList w b.class b.sem) (sym cut.1) b.list) in
    let gram = one_class (meant a.class) one.gram other.gram a.is_class
    (subst (λ (w : List Written). IsClass (meant w) other.gram) (sym list.0) b.is_class) in
    same_parts one other (a.is_lemma ∙ ap meant cut.0 ∙ sym b.is_lemma)
    (a.is_code ∙ ap meant list.0 ∙ sym b.is_code) gram
    (a.is_sem ∙ ap all_meant list.1 ∙ sym b.is_sem)

-- a line of lemmas says one thing only
pub delas_says_once : (line : List ℕ) (one other : List Stem) → DelasSays line one →
    DelasSays line other → one ≡ other
delas_says_once line one other (skipped line' is) (skipped line2 is') = refl
delas_says_once line one other (skipped line' is) (stem line2 t b) = absurd (b.counts is)
delas_says_once line one other (stem line' s a) (skipped line2 is) = absurd (a.counts is)
delas_says_once line one other (stem line' s a) (stem line2 t b) =
    ap (λ x. x ∷ []) (same_stem line s t a b)

-- a file of lemmas has one list of stems only
pub stems_once : (text : List ℕ) (one other : List Stem) → AreStems text one →
    AreStems text other → one ≡ other
stems_once text one other a b =
    said_once DelasSays RefusesDelas delas_says_once (lines_of text) one other a b

-- an empty lemma is no lemma that is there
empty_and_some : (line : List ℕ) (lemma codes : List Written) (comment : List ℕ) →
    HasEmptyLemma line → IsStemCut line lemma codes comment → lemma ≢ [] → ⊥
empty_and_some line lemma codes comment h cut some =
    some (same_stem_cut line lemma codes [] h.codes comment h.comment cut h.cut).0

-- no line has both an empty code and a bad class
empty_and_bad : (line : List ℕ) (place other : ℕ) → HasEmptyStemCode line place →
    HasBadClass line other → ⊥
empty_and_bad line place other a b =
    let cut = same_stem_cut line a.lemma a.codes b.lemma b.codes a.comment b.comment a.cut b.cut in
    listed_not_empty a.codes b.class b.sem a.behind a.empty
    (subst (λ (w : List Written). IsStemList w b.class b.sem) (sym cut.1) b.list)

-- the first empty code of a line has one place
one_empty_code : (line : List ℕ) (place other : ℕ) → HasEmptyStemCode line place →
    HasEmptyStemCode line other → place ≡ other
one_empty_code line place other a b =
    let cut = same_stem_cut line a.lemma a.codes b.lemma b.codes a.comment b.comment a.cut b.cut in
    let behind = one_empty_place a.codes a.behind b.behind a.empty
    (subst (λ (w : List Written). IsStemEmptyAt w b.behind) (sym cut.1) b.empty) in
    a.is_place ∙ ap (λ t. length (written (t ++ bare COMMA ∷ [])) + a.behind) cut.0
    ∙ ap (λ n. length (written (b.lemma ++ bare COMMA ∷ [])) + n) behind ∙ sym b.is_place

-- the bad class of a line has one place
one_bad_class : (line : List ℕ) (place other : ℕ) → HasBadClass line place →
    HasBadClass line other → place ≡ other
one_bad_class line place other a b =
    let cut = same_stem_cut line a.lemma a.codes b.lemma b.codes a.comment b.comment a.cut b.cut in
    a.is_place ∙ ap (λ t. length (written (t ++ bare COMMA ∷ []))) cut.0 ∙ sym b.is_place

-- errors of the same kind, line and place are the same
same_error : (kind : ℕ → ℕ → DelaError) (number n m place other : ℕ) → n ≡ number → m ≡ number →
    place ≡ other → kind n place ≡ kind m other
same_error kind number n m place other a b same =
    ap (λ x. kind x place) (a ∙ sym b) ∙ ap (λ p. kind m p) same

-- a line with no comma is refused for that alone
comma_once : (line : List ℕ) (number n place : ℕ) (other : DelaError) →
    HasStemFault line number (NoComma n place) → HasStemFault line number other →
    NoComma n place ≡ other
comma_once line number n place (NoComma m q) a b =
    same_error NoComma number n m place q a.0 b.0 (a.2 ∙ sym b.2)
comma_once line number n place (NoDot m q) a b =
    absurd b
comma_once line number n place (EmptyForm m q) a b =
    absurd (cut_has_comma line [] b.1.codes b.1.comment b.1.cut a.1)
comma_once line number n place (EmptyCode m q) a b =
    absurd (cut_has_comma line b.1.lemma b.1.codes b.1.comment b.1.cut a.1)
comma_once line number n place (BadEscape m q) a b =
    absurd (open_has_end line b.1 a.1)
comma_once line number n place (BadClass m q) a b =
    absurd (cut_has_comma line b.1.lemma b.1.codes b.1.comment b.1.cut a.1)
comma_once line number n place NoMemory a b = absurd b

-- a line with an empty lemma is refused for that alone
empty_once : (line : List ℕ) (number n place : ℕ) (other : DelaError) →
    HasStemFault line number (EmptyForm n place) → HasStemFault line number other →
    EmptyForm n place ≡ other
empty_once line number n place (NoComma m q) a b =
    absurd (cut_has_comma line [] a.1.codes a.1.comment a.1.cut b.1)
empty_once line number n place (NoDot m q) a b =
    absurd b
empty_once line number n place (EmptyForm m q) a b =
    same_error EmptyForm number n m place q a.0 b.0 (a.2 ∙ sym b.2)
empty_once line number n place (EmptyCode m q) a b =
    absurd (empty_and_some line b.1.lemma b.1.codes b.1.comment a.1 b.1.cut b.1.some_lemma)
empty_once line number n place (BadEscape m q) a b =
    absurd (cut_not_open line [] a.1.codes a.1.comment b.1 a.1.cut)
empty_once line number n place (BadClass m q) a b =
    absurd (empty_and_some line b.1.lemma b.1.codes b.1.comment a.1 b.1.cut b.1.some_lemma)
empty_once line number n place NoMemory a b = absurd b

-- a line with an empty code is refused for that alone
code_once : (line : List ℕ) (number n place : ℕ) (other : DelaError) →
    HasStemFault line number (EmptyCode n place) → HasStemFault line number other →
    EmptyCode n place ≡ other
code_once line number n place (NoComma m q) a b =
    absurd (cut_has_comma line a.1.lemma a.1.codes a.1.comment a.1.cut b.1)
code_once line number n place (NoDot m q) a b =
    absurd b
code_once line number n place (EmptyForm m q) a b =
    absurd (empty_and_some line a.1.lemma a.1.codes a.1.comment b.1 a.1.cut a.1.some_lemma)
code_once line number n place (EmptyCode m q) a b =
    same_error EmptyCode number n m place q a.0 b.0 (one_empty_code line place q a.1 b.1)
code_once line number n place (BadEscape m q) a b =
    absurd (cut_not_open line a.1.lemma a.1.codes a.1.comment b.1 a.1.cut)
code_once line number n place (BadClass m q) a b =
    absurd (empty_and_bad line place q a.1 b.1)
code_once line number n place NoMemory a b = absurd b

-- a line that ends in a backslash is refused for that alone
escape_once : (line : List ℕ) (number n place : ℕ) (other : DelaError) →
    HasStemFault line number (BadEscape n place) → HasStemFault line number other →
    BadEscape n place ≡ other
escape_once line number n place (NoComma m q) a b =
    absurd (open_has_end line a.1 b.1)
escape_once line number n place (NoDot m q) a b =
    absurd b
escape_once line number n place (EmptyForm m q) a b =
    absurd (cut_not_open line [] b.1.codes b.1.comment a.1 b.1.cut)
escape_once line number n place (EmptyCode m q) a b =
    absurd (cut_not_open line b.1.lemma b.1.codes b.1.comment a.1 b.1.cut)
escape_once line number n place (BadEscape m q) a b =
    same_error BadEscape number n m place q a.0 b.0 (omega (arith, a.2, b.2))
escape_once line number n place (BadClass m q) a b =
    absurd (cut_not_open line b.1.lemma b.1.codes b.1.comment a.1 b.1.cut)
escape_once line number n place NoMemory a b = absurd b

-- a line with a bad class is refused for that alone
class_once : (line : List ℕ) (number n place : ℕ) (other : DelaError) →
    HasStemFault line number (BadClass n place) → HasStemFault line number other →
    BadClass n place ≡ other
class_once line number n place (NoComma m q) a b =
    absurd (cut_has_comma line a.1.lemma a.1.codes a.1.comment a.1.cut b.1)
class_once line number n place (NoDot m q) a b =
    absurd b
class_once line number n place (EmptyForm m q) a b =
    absurd (empty_and_some line a.1.lemma a.1.codes a.1.comment b.1 a.1.cut a.1.some_lemma)
class_once line number n place (EmptyCode m q) a b =
    absurd (empty_and_bad line q place b.1 a.1)
class_once line number n place (BadEscape m q) a b =
    absurd (cut_not_open line a.1.lemma a.1.codes a.1.comment b.1 a.1.cut)
class_once line number n place (BadClass m q) a b =
    same_error BadClass number n m place q a.0 b.0 (one_bad_class line place q a.1 b.1)
class_once line number n place NoMemory a b = absurd b

-- a line has one fault
fault_once : (line : List ℕ) (number : ℕ) (one other : DelaError) →
    HasStemFault line number one → HasStemFault line number other → one ≡ other
fault_once line number (NoComma n place) other a b = comma_once line number n place other a b
fault_once line number (NoDot n place) other a b = absurd a
fault_once line number (EmptyForm n place) other a b = empty_once line number n place other a b
fault_once line number (EmptyCode n place) other a b = code_once line number n place other a b
fault_once line number (BadEscape n place) other a b = escape_once line number n place other a b
fault_once line number (BadClass n place) other a b = class_once line number n place other a b
fault_once line number NoMemory other a b = absurd a

-- no line of lemmas is refused in two ways
pub delas_refused_once : (line : List ℕ) (number : ℕ) (one other : DelaError) →
    RefusesDelas line number one → RefusesDelas line number other → one ≡ other
delas_refused_once line number one other a b = fault_once line number one other a.fault b.fault

-- no file of lemmas is refused in two ways
pub stems_refused_once : (text : List ℕ) (one other : DelaError) → RefusesStems text one →
    RefusesStems text other → one ≡ other
stems_refused_once text one other a b =
    refused_in_one_way DelasSays RefusesDelas stem_excluded delas_refused_once (lines_of text) 1
    one other a b
