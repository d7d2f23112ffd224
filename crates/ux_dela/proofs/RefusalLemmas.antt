-- A line of forms has one fault at most, and the first empty code is at one place.
use Rattle.std.proofs.Common.{arith, ◌≡◌, ◌≢◌, ℕ, ◌+◌, List, [], ◌∷◌, ◌++◌, Bool, true, refl, sym, ◌∙◌, ap, subst, append_assoc, length}
use Rattle.std.proofs.lemmas.List.{append-nil}
use Rattle.ux_dela.specs.Signs.{COMMA, DOT, PLUS, COLON, BACKSLASH, is_comma, is_dot, is_slash, is_colon, is_code_sign}
use Rattle.ux_dela.specs.Written.{Written, bare, written, IsPart, all_behind}
use Rattle.ux_dela.specs.Codes.{AreCodes, EndsCode, IsCodeList, IsEmptyAt, no_gram, no_sem, no_infl}
use Rattle.ux_dela.specs.Delaf.{IsCut, EndsInBackslash, in_form, in_lemma, in_codes, HasNoComma, HasNoDot, HasEmptyForm, without_dot, with_dot, HasEmptyCode, HasFault}
use Rattle.ux_dela.specs.Reading.{characters}
use Rattle.ux_dela.specs.declared.error.DelaError.{DelaError}
use Rattle.ux_dela.specs.declared.error.DelaError.TheVariants.{NoComma, NoDot, EmptyForm, EmptyCode, BadEscape, BadClass, NoMemory}
use Rattle.ux_dela.proofs.CharactersLemmas.{IsPart-append, characters_part}
use Rattle.ux_dela.proofs.RunLemmas.{is_none_stop, IsClosed, closed_part, all_behind-push}
use Rattle.ux_dela.proofs.UniqueLemmas.{Stopped, IsOver, one_front, one_run, sign_stops, no_code, none_empty}
use Rattle.ux_dela.proofs.CodesLemmas.{over_list}
use Rattle.ux_dela.proofs.ExclusionLemmas.{same_behind, no_sign, after_form, cut_no_comma, cut_no_dot, one_cut, open_read, cut_open}

-- a code stops where more codes follow, or where what stands behind them stops it
stopped_behind : (sign : ℕ) (stops : ℕ → Bool) (codes : List (List Written)) (w : List Written) →
    stops sign ≡ true → Stopped stops w → Stopped stops (all_behind sign codes ++ w)
stopped_behind sign stops [] w is s = s
stopped_behind sign stops (code ∷ codes) w is s = sign_stops stops sign is

-- a code in front is no empty one
some_first : (sign : ℕ) (stops : ℕ → Bool) (code w behind : List Written)
    (codes : List (List Written)) → AreCodes stops (code ∷ codes) → EndsCode stops behind →
    bare sign ∷ behind ≡ all_behind sign (code ∷ codes) ++ w → ⊥
some_first sign stops code w behind codes are ends e =
    no_code stops code (all_behind sign codes ++ w) behind are.0 ends
    (sym (append_assoc code (all_behind sign codes) w)
    ∙ sym (same_behind sign sign behind ((code ++ all_behind sign codes) ++ w) e))

-- the codes before the first empty one are found in one way
one_run_before : (sign : ℕ) (stops : ℕ → Bool) (codes others : List (List Written))
    (v w : List Written) → stops sign ≡ true → AreCodes stops codes → AreCodes stops others →
    EndsCode stops v → EndsCode stops w →
    all_behind sign codes ++ bare sign ∷ v ≡ all_behind sign others ++ bare sign ∷ w →
    codes ≡ others
one_run_before sign stops [] [] v w is a b h k e = refl
one_run_before sign stops [] (o ∷ others) v w is a b h k e =
    absurd (some_first sign stops o (bare sign ∷ w) v others b h e)
one_run_before sign stops (c ∷ codes) [] v w is a b h k e =
    absurd (some_first sign stops c (bare sign ∷ v) w codes a k (sym e))
one_run_before sign stops (c ∷ codes) (o ∷ others) v w is a b h k e =
    let later = all_behind sign codes ++ bare sign ∷ v in
    let later' = all_behind sign others ++ bare sign ∷ w in
    let inner = same_behind sign sign ((c ++ all_behind sign codes) ++ bare sign ∷ v)
    ((o ++ all_behind sign others) ++ bare sign ∷ w) e in
    let first = one_front stops c o later later' a.0.part b.0.part
    (stopped_behind sign stops codes (bare sign ∷ v) is (sign_stops stops sign is))
    (stopped_behind sign stops others (bare sign ∷ w) is (sign_stops stops sign is))
    (sym (append_assoc c (all_behind sign codes) (bare sign ∷ v)) ∙ inner
    ∙ append_assoc o (all_behind sign others) (bare sign ∷ w)) in
    ap (λ z. z ∷ codes) first.0
    ∙ ap (λ t. o ∷ t) (one_run_before sign stops codes others v w is a.1 b.1 h k first.1)

-- the codes of a list, and what stands behind them
list_and : (front gram w : List Written) (sem infl : List (List Written)) →
    IsCodeList front gram sem infl →
    front ++ w ≡ gram ++ (all_behind PLUS sem ++ (all_behind COLON infl ++ w))
list_and front gram w sem infl is =
    ap (λ t. t ++ w) is.whole ∙ append_assoc gram (all_behind PLUS sem ++ all_behind COLON infl) w
    ∙ ap (λ t. gram ++ t) (append_assoc (all_behind PLUS sem) (all_behind COLON infl) w)

-- two lists before what stops them have one grammatical code
one_gram : (front front' gram gram' v w : List Written)
    (sem sem' infl infl' : List (List Written)) → IsCodeList front gram sem infl →
    IsCodeList front' gram' sem' infl' → Stopped is_code_sign v → Stopped is_code_sign w →
    front ++ v ≡ front' ++ w →
    (gram ≡ gram')
    × (all_behind PLUS sem ++ (all_behind COLON infl ++ v)
    ≡ all_behind PLUS sem' ++ (all_behind COLON infl' ++ w))
one_gram front front' gram gram' v w sem sem' infl infl' a b s t e =
    one_front is_code_sign gram gram' (all_behind PLUS sem ++ (all_behind COLON infl ++ v))
    (all_behind PLUS sem' ++ (all_behind COLON infl' ++ w)) a.is_gram.part b.is_gram.part
    (stopped_behind PLUS is_code_sign sem (all_behind COLON infl ++ v) refl
    (stopped_behind COLON is_code_sign infl v refl s))
    (stopped_behind PLUS is_code_sign sem' (all_behind COLON infl' ++ w) refl
    (stopped_behind COLON is_code_sign infl' w refl t))
    (sym (list_and front gram v sem infl a) ∙ e ∙ list_and front' gram' w sem' infl' b)

-- a list is what its codes are
one_text : (front front' gram gram' : List Written) (sem sem' infl infl' : List (List Written)) →
    IsCodeList front gram sem infl → IsCodeList front' gram' sem' infl' →
    gram ≡ gram' → sem ≡ sem' → infl ≡ infl' → front ≡ front'
one_text front front' gram gram' sem sem' infl infl' a b g s i =
    a.whole ∙ ap (λ t. t ++ (all_behind PLUS sem ++ all_behind COLON infl)) g
    ∙ ap (λ t. gram' ++ (all_behind PLUS t ++ all_behind COLON infl)) s
    ∙ ap (λ t. gram' ++ (all_behind PLUS sem' ++ all_behind COLON t)) i ∙ sym b.whole

-- semantic codes are over where inflection codes go on
over_before : (infl : List (List Written)) (w : List Written) →
    IsOver PLUS is_code_sign (all_behind COLON infl ++ bare COLON ∷ w)
over_before infl w =
    subst (λ (t : List Written). IsOver PLUS is_code_sign t) (all_behind-push COLON infl w)
    (over_list (infl ++ w ∷ []))

-- a list has a grammatical code in front
some_gram : (front gram behind w : List Written) (sem infl : List (List Written)) →
    IsCodeList front gram sem infl → EndsCode is_code_sign behind → behind ≡ front ++ w → ⊥
some_gram front gram behind w sem infl is ends e =
    no_code is_code_sign gram (all_behind PLUS sem ++ (all_behind COLON infl ++ w)) behind
    is.is_gram ends (sym (list_and front gram w sem infl is) ∙ sym e)

-- the list before the first empty semantic code is one
one_sem_front : (front front' gram gram' v w : List Written) (sem sem' : List (List Written)) →
    IsCodeList front gram sem [] → IsCodeList front' gram' sem' [] →
    EndsCode is_code_sign v → EndsCode is_code_sign w →
    front ++ bare PLUS ∷ v ≡ front' ++ bare PLUS ∷ w → front ≡ front'
one_sem_front front front' gram gram' v w sem sem' a b s t e =
    let first = one_gram front front' gram gram' (bare PLUS ∷ v) (bare PLUS ∷ w) sem sem' [] [] a b
    refl refl e in
    one_text front front' gram gram' sem sem' [] [] a b first.0
    (one_run_before PLUS is_code_sign sem sem' v w refl a.are_sem b.are_sem s t first.1) refl

-- the list before the first empty inflection code is one
one_infl_front : (front front' gram gram' v w : List Written)
    (sem sem' infl infl' : List (List Written)) → IsCodeList front gram sem infl →
    IsCodeList front' gram' sem' infl' → EndsCode is_colon v → EndsCode is_colon w →
    front ++ bare COLON ∷ v ≡ front' ++ bare COLON ∷ w → front ≡ front'
one_infl_front front front' gram gram' v w sem sem' infl infl' a b s t e =
    let first = one_gram front front' gram gram' (bare COLON ∷ v) (bare COLON ∷ w) sem sem' infl
    infl' a b refl refl e in
    let second = one_run PLUS is_code_sign sem sem' (all_behind COLON infl ++ bare COLON ∷ v)
    (all_behind COLON infl' ++ bare COLON ∷ w) refl a.are_sem b.are_sem (over_before infl v)
    (over_before infl' w) first.1 in
    one_text front front' gram gram' sem sem' infl infl' a b first.0 second.0
    (one_run_before COLON is_colon infl infl' v w refl a.are_infl b.are_infl s t second.1)

-- where a semantic code is empty no inflection code is the first empty one
sem_or_infl : (front front' gram gram' v w : List Written) (sem sem' infl : List (List Written)) →
    IsCodeList front gram sem [] → IsCodeList front' gram' sem' infl → EndsCode is_code_sign v →
    front ++ bare PLUS ∷ v ≡ front' ++ bare COLON ∷ w → ⊥
sem_or_infl front front' gram gram' v w sem sem' infl a b s e =
    let first = one_gram front front' gram gram' (bare PLUS ∷ v) (bare COLON ∷ w) sem sem' [] infl
    a b refl refl e in
    none_empty PLUS is_code_sign sem' sem (all_behind COLON infl ++ bare COLON ∷ w) v refl b.are_sem
    a.are_sem (over_before infl w) s (sym first.1)

-- the first empty code of a list is at one place
pub one_empty_place : (codes others : List Written) (one other : ℕ) → IsEmptyAt codes one →
    IsEmptyAt others other → codes ≡ others → one ≡ other
one_empty_place codes others one other (no_gram v s) (no_gram w t) e = refl
one_empty_place codes others one other (no_gram v s) (no_sem front gram w sem a t) e =
    absurd (some_gram front gram v (bare PLUS ∷ w) sem [] a s e)
one_empty_place codes others one other (no_gram v s) (no_infl front gram w sem infl a t) e =
    absurd (some_gram front gram v (bare COLON ∷ w) sem infl a s e)
one_empty_place codes others one other (no_sem front gram v sem a s) (no_gram w t) e =
    absurd (some_gram front gram w (bare PLUS ∷ v) sem [] a t (sym e))
one_empty_place codes others one other (no_sem front gram v sem a s)
    (no_sem front' gram' w sem' b t) e =
    ap (λ f. length (written (f ++ bare PLUS ∷ [])))
    (one_sem_front front front' gram gram' v w sem sem' a b s t e)
one_empty_place codes others one other (no_sem front gram v sem a s)
    (no_infl front' gram' w sem' infl b t) e =
    absurd (sem_or_infl front front' gram gram' v w sem sem' infl a b s e)
one_empty_place codes others one other (no_infl front gram v sem infl a s) (no_gram w t) e =
    absurd (some_gram front gram w (bare COLON ∷ v) sem infl a t (sym e))
one_empty_place codes others one other (no_infl front gram v sem infl a s)
    (no_sem front' gram' w sem' b t) e =
    absurd (sem_or_infl front' front gram' gram w v sem' sem infl b a t (sym e))
one_empty_place codes others one other (no_infl front gram v sem infl a s)
    (no_infl front' gram' w sem' infl' b t) e =
    ap (λ f. length (written (f ++ bare COLON ∷ [])))
    (one_infl_front front front' gram gram' v w sem sem' infl infl' a b s t e)

-- the characters of a line without a comma
no_comma_read : (line : List ℕ) (h : HasNoComma line) → characters line ≡ h.form
no_comma_read line h = ap characters h.whole ∙ characters_part is_comma h.form h.is_form

-- the characters of a line without a dot are closed
no_dot_closed : (form lemma : List Written) → IsPart is_comma form → IsPart is_dot lemma →
    IsClosed (form ++ bare COMMA ∷ lemma)
no_dot_closed form lemma p q =
    IsPart-append is_none_stop form (bare COMMA ∷ lemma) (closed_part is_comma form p)
    (refl, closed_part is_dot lemma q)

-- the characters of a line without a dot
no_dot_read : (line : List ℕ) (form : List Written) (h : HasNoDot line form) →
    characters line ≡ form ++ bare COMMA ∷ h.lemma
no_dot_read line form h =
    ap characters h.whole
    ∙ characters_part is_none_stop (form ++ bare COMMA ∷ h.lemma)
    (no_dot_closed form h.lemma h.is_form h.is_lemma)

-- a line with a comma isn't one without
comma_excluded : (line : List ℕ) (form w : List Written) → IsPart is_comma form →
    characters line ≡ form ++ bare COMMA ∷ w → HasNoComma line → ⊥
comma_excluded line form w p read h =
    no_sign COMMA w
    (after_form line form h.form w [] p h.is_form tt read
    (no_comma_read line h ∙ sym (append-nil h.form))).1

-- a line without a dot has a comma
no_dot_comma : (line : List ℕ) (form : List Written) → HasNoDot line form → HasNoComma line → ⊥
no_dot_comma line form h = comma_excluded line form h.lemma h.is_form (no_dot_read line form h)

-- a line without a dot has one form
no_dot_form : (line : List ℕ) (form other : List Written) → HasNoDot line form →
    HasNoDot line other → form ≡ other
no_dot_form line form other h k =
    (after_form line form other h.lemma (bare COMMA ∷ k.lemma) h.is_form k.is_form refl
    (no_dot_read line form h) (no_dot_read line other k)).0

-- a line whose characters are read up to a backslash at its end
record IsOpen (line : List ℕ) : Type 0 where
  front : List Written
  closed : IsClosed front
  read : characters line ≡ front ++ bare BACKSLASH ∷ []

-- a line that ends in a backslash is read up to it
open_front : (line : List ℕ) → EndsInBackslash line → IsOpen line
open_front line (in_form form p) =
    let closed = closed_part is_comma form p in
    record { front = form; closed = closed; read = open_read form closed }
open_front line (in_lemma form lemma p q) =
    let closed = no_dot_closed form lemma p q in
    record {
      front = form ++ bare COMMA ∷ lemma;
      closed = closed;
      read = open_read (form ++ bare COMMA ∷ lemma) closed;
    }
open_front line (in_codes form lemma codes p q r) =
    let closed : IsClosed (form ++ bare COMMA ∷ (lemma ++ bare DOT ∷ codes)) =
    IsPart-append is_none_stop form (bare COMMA ∷ (lemma ++ bare DOT ∷ codes))
    (closed_part is_comma form p) (
      refl,
      IsPart-append is_none_stop lemma (bare DOT ∷ codes) (closed_part is_dot lemma q)
          (refl, closed_part is_slash codes r),
    ) in
    record {
      front = form ++ bare COMMA ∷ (lemma ++ bare DOT ∷ codes);
      closed = closed;
      read = open_read (form ++ bare COMMA ∷ (lemma ++ bare DOT ∷ codes)) closed;
    }

-- a line that ends in a backslash isn't closed
closed_open : (line : List ℕ) (w : List Written) → IsClosed w → characters line ≡ w →
    EndsInBackslash line → ⊥
closed_open line w closed read ends =
    let o = open_front line ends in
    no_sign BACKSLASH []
    (one_front is_none_stop o.front w (bare BACKSLASH ∷ []) [] o.closed closed refl tt
    (sym o.read ∙ read ∙ sym (append-nil w))).1

-- a line without a comma doesn't end in a backslash
no_comma_open : (line : List ℕ) → HasNoComma line → EndsInBackslash line → ⊥
no_comma_open line h =
    closed_open line h.form (closed_part is_comma h.form h.is_form) (no_comma_read line h)

-- a line without a dot doesn't end in a backslash
no_dot_open : (line : List ℕ) (form : List Written) → HasNoDot line form →
    EndsInBackslash line → ⊥
no_dot_open line form h =
    closed_open line (form ++ bare COMMA ∷ h.lemma)
    (no_dot_closed form h.lemma h.is_form h.is_lemma) (no_dot_read line form h)

-- a line with an empty form has a comma
empty_form_comma : (line : List ℕ) → HasEmptyForm line → HasNoComma line → ⊥
empty_form_comma line (without_dot h) k = no_dot_comma line [] h k
empty_form_comma line (with_dot lemma codes comment is) k =
    cut_no_comma line [] lemma codes comment is k

-- a line with an empty form has no other form before a missing dot
empty_form_dot : (line : List ℕ) (form : List Written) → HasEmptyForm line → form ≢ [] →
    HasNoDot line form → ⊥
empty_form_dot line form (without_dot h) some k = some (no_dot_form line form [] k h)
empty_form_dot line form (with_dot lemma codes comment is) some k =
    cut_no_dot line [] lemma codes comment is form k

-- a line with an empty form has no other form where it is cut
empty_form_cut : (line : List ℕ) (form lemma codes : List Written) (comment : List ℕ) →
    HasEmptyForm line → form ≢ [] → IsCut line form lemma codes comment → ⊥
empty_form_cut line form lemma codes comment (without_dot h) some is =
    cut_no_dot line form lemma codes comment is [] h
empty_form_cut line form lemma codes comment (with_dot lemma' codes' comment' other) some is =
    some (one_cut line form lemma codes comment is [] lemma' codes' comment' other).0

-- a line with an empty form doesn't end in a backslash before its comment
empty_form_open : (line : List ℕ) → HasEmptyForm line → EndsInBackslash line → ⊥
empty_form_open line (without_dot h) ends = no_dot_open line [] h ends
empty_form_open line (with_dot lemma codes comment is) ends =
    cut_open line [] lemma codes comment ends is

-- the first empty code of a line is at one place
one_code_place : (line : List ℕ) (one other : ℕ) → HasEmptyCode line one →
    HasEmptyCode line other → one ≡ other
one_code_place line one other a b =
    let same = one_cut line a.form a.lemma a.codes a.comment a.cut b.form b.lemma b.codes b.comment
    b.cut in
    a.is_place
    ∙ ap (λ f. length (written (f ++ bare COMMA ∷ (a.lemma ++ bare DOT ∷ []))) + a.behind) same.0
    ∙ ap (λ l. length (written (b.form ++ bare COMMA ∷ (l ++ bare DOT ∷ []))) + a.behind) same.1
    ∙ ap (λ n. length (written (b.form ++ bare COMMA ∷ (b.lemma ++ bare DOT ∷ []))) + n)
    (one_empty_place a.codes b.codes a.behind b.behind a.empty b.empty same.2)
    ∙ sym b.is_place

module _ (line : List ℕ) (number : ℕ) where
  -- a line without a comma has no other fault
  no_comma_only : HasNoComma line → (error : DelaError) → HasFault line number error →
      error ≡ NoComma number (length line)
  no_comma_only h (NoComma n place) k =
      ap (λ m. NoComma m place) k.0 ∙ ap (λ p. NoComma number p) k.2
  no_comma_only h (NoDot n place) k = absurd (no_dot_comma line k.1.0 k.1.2 h)
  no_comma_only h (EmptyForm n place) k = absurd (empty_form_comma line k.1 h)
  no_comma_only h (EmptyCode n place) k =
      absurd (cut_no_comma line k.1.form k.1.lemma k.1.codes k.1.comment k.1.cut h)
  no_comma_only h (BadEscape n place) k = absurd (no_comma_open line h k.1)
  no_comma_only h (BadClass n place) k = absurd k
  no_comma_only h NoMemory k = absurd k

  -- a line without a dot has no other fault where a form is there
  no_dot_only : (form : List Written) → form ≢ [] → HasNoDot line form → (error : DelaError) →
      HasFault line number error → error ≡ NoDot number (length line)
  no_dot_only form some h (NoComma n place) k = absurd (no_dot_comma line form h k.1)
  no_dot_only form some h (NoDot n place) k =
      ap (λ m. NoDot m place) k.0 ∙ ap (λ p. NoDot number p) k.2
  no_dot_only form some h (EmptyForm n place) k = absurd (empty_form_dot line form k.1 some h)
  no_dot_only form some h (EmptyCode n place) k =
      absurd (cut_no_dot line k.1.form k.1.lemma k.1.codes k.1.comment k.1.cut form h)
  no_dot_only form some h (BadEscape n place) k = absurd (no_dot_open line form h k.1)
  no_dot_only form some h (BadClass n place) k = absurd k
  no_dot_only form some h NoMemory k = absurd k

  -- a line with an empty form has no other fault
  empty_form_only : HasEmptyForm line → (error : DelaError) → HasFault line number error →
      error ≡ EmptyForm number 0
  empty_form_only h (NoComma n place) k = absurd (empty_form_comma line h k.1)
  empty_form_only h (NoDot n place) k = absurd (empty_form_dot line k.1.0 h k.1.1 k.1.2)
  empty_form_only h (EmptyForm n place) k =
      ap (λ m. EmptyForm m place) k.0 ∙ ap (λ p. EmptyForm number p) k.2
  empty_form_only h (EmptyCode n place) k =
      absurd
      (empty_form_cut line k.1.form k.1.lemma k.1.codes k.1.comment h k.1.some_form k.1.cut)
  empty_form_only h (BadEscape n place) k = absurd (empty_form_open line h k.1)
  empty_form_only h (BadClass n place) k = absurd k
  empty_form_only h NoMemory k = absurd k

  -- a line with an empty code has no other fault
  empty_code_only : (at : ℕ) → HasEmptyCode line at → (error : DelaError) →
      HasFault line number error → error ≡ EmptyCode number at
  empty_code_only at h (NoComma n place) k =
      absurd (cut_no_comma line h.form h.lemma h.codes h.comment h.cut k.1)
  empty_code_only at h (NoDot n place) k =
      absurd (cut_no_dot line h.form h.lemma h.codes h.comment h.cut k.1.0 k.1.2)
  empty_code_only at h (EmptyForm n place) k =
      absurd (empty_form_cut line h.form h.lemma h.codes h.comment k.1 h.some_form h.cut)
  empty_code_only at h (EmptyCode n place) k =
      ap (λ m. EmptyCode m place) k.0
      ∙ ap (λ p. EmptyCode number p) (one_code_place line place at k.1 h)
  empty_code_only at h (BadEscape n place) k =
      absurd (cut_open line h.form h.lemma h.codes h.comment k.1 h.cut)
  empty_code_only at h (BadClass n place) k = absurd k
  empty_code_only at h NoMemory k = absurd k

  -- a line that ends in a backslash has no other fault
  open_only : (at : ℕ) → at + 1 ≡ length line → EndsInBackslash line → (error : DelaError) →
      HasFault line number error → error ≡ BadEscape number at
  open_only at is h (NoComma n place) k = absurd (no_comma_open line k.1 h)
  open_only at is h (NoDot n place) k = absurd (no_dot_open line k.1.0 k.1.2 h)
  open_only at is h (EmptyForm n place) k = absurd (empty_form_open line k.1 h)
  open_only at is h (EmptyCode n place) k =
      absurd (cut_open line k.1.form k.1.lemma k.1.codes k.1.comment h k.1.cut)
  open_only at is h (BadEscape n place) k =
      let same : place ≡ at = omega (arith, is, k.2) in
      ap (λ m. BadEscape m place) k.0 ∙ ap (λ p. BadEscape number p) same
  open_only at is h (BadClass n place) k = absurd k
  open_only at is h NoMemory k = absurd k

  -- a line has one fault at most
  pub one_fault : (one other : DelaError) → HasFault line number one →
      HasFault line number other → one ≡ other
  one_fault (NoComma n place) other h k =
      no_comma_only h.1 (NoComma n place) h ∙ sym (no_comma_only h.1 other k)
  one_fault (NoDot n place) other h k =
      no_dot_only h.1.0 h.1.1 h.1.2 (NoDot n place) h
      ∙ sym (no_dot_only h.1.0 h.1.1 h.1.2 other k)
  one_fault (EmptyForm n place) other h k =
      empty_form_only h.1 (EmptyForm n place) h ∙ sym (empty_form_only h.1 other k)
  one_fault (EmptyCode n place) other h k =
      empty_code_only place h.1 (EmptyCode n place) h ∙ sym (empty_code_only place h.1 other k)
  one_fault (BadEscape n place) other h k =
      open_only place h.2 h.1 (BadEscape n place) h ∙ sym (open_only place h.2 h.1 other k)
  one_fault (BadClass n place) other h k = absurd h
  one_fault NoMemory other h k = absurd h
