-- No line of forms has both entries and a fault, and none says two things.
use Rattle.std.proofs.Common.{arith, ◌≡◌, ℕ, List, [], ◌∷◌, ◌++◌, refl, sym, ◌∙◌, ap, subst, append_assoc, length}
use Rattle.std.proofs.lemmas.List.{append-nil}
use Rattle.ux_dela.specs.Signs.{COMMA, DOT, SLASH, BACKSLASH, is_comma, is_dot, is_slash}
use Rattle.ux_dela.specs.Written.{Written, bare, written, IsPart}
use Rattle.ux_dela.specs.Codes.{IsEmptyAt}
use Rattle.ux_dela.specs.Delaf.{IsComment, IsCut, DelafParts, IsDelafLine, EndsInBackslash, in_form, in_lemma, in_codes, HasNoComma, HasNoDot, HasEmptyForm, without_dot, with_dot, HasFault, RefusesDelaf, DelafSays, skipped, entries}
use Rattle.ux_dela.specs.Reading.{characters}
use Rattle.ux_dela.specs.declared.entry.Entry.{Entry}
use Rattle.ux_dela.specs.declared.error.DelaError.{DelaError}
use Rattle.ux_dela.specs.declared.error.DelaError.TheVariants.{NoComma, NoDot, EmptyForm, EmptyCode, BadEscape, BadClass, NoMemory}
use Rattle.ux_dela.proofs.CharactersLemmas.{IsPart-append, characters_bare, characters_part, written-characters}
use Rattle.ux_dela.proofs.RunLemmas.{is_none_stop, IsClosed, closed_part}
use Rattle.ux_dela.proofs.ListLemmas.{read_front}
use Rattle.ux_dela.proofs.UniqueLemmas.{Stopped, one_front}
use Rattle.ux_dela.proofs.CodesLemmas.{first_value, none_is_empty}

-- two signs in front are one
pub same_sign : (a b : ℕ) (v w : List Written) → bare a ∷ v ≡ bare b ∷ w → a ≡ b
same_sign a b v w e = ap first_value e

pub same_behind : (a b : ℕ) (v w : List Written) → bare a ∷ v ≡ bare b ∷ w → v ≡ w
same_behind a b v w e = cc

pub no_sign : (a : ℕ) (v : List Written) → bare a ∷ v ≡ [] → ⊥
no_sign a v e = omega (arith, ap length e)

-- a comment's characters
pub comment_read : (comment : List ℕ) → IsComment comment →
    Stopped is_slash (characters comment)
    × ((w : List Written) → characters comment ≡ bare BACKSLASH ∷ w → ⊥)
comment_read [] is = (tt, λ w e. omega (arith, ap length e))
comment_read (b ∷ comment) is =
    let read : characters (b ∷ comment) ≡ bare SLASH ∷ characters comment =
    ap (λ x. characters (x ∷ comment)) is ∙ characters_bare SLASH comment refl in (
      subst (λ (w : List Written). Stopped is_slash w) (sym read) refl,
      λ w e. (let n = same_sign SLASH BACKSLASH (characters comment) w (sym read ∙ e) in
          omega (arith, n)),
    )

-- the characters of a line that is cut
pub cut_read : (line : List ℕ) (form lemma codes : List Written) (comment : List ℕ) →
    IsCut line form lemma codes comment →
    characters line
    ≡ form ++ bare COMMA ∷ (lemma ++ bare DOT ∷ (codes ++ characters comment))
cut_read line form lemma codes comment is =
    let inner = lemma ++ bare DOT ∷ codes in
    let closed : IsClosed (form ++ bare COMMA ∷ inner) =
    IsPart-append is_none_stop form (bare COMMA ∷ inner) (closed_part is_comma form is.is_form) (
      refl,
      IsPart-append is_none_stop lemma (bare DOT ∷ codes)
          (closed_part is_dot lemma is.is_lemma) (refl, closed_part is_slash codes is.are_codes),
    ) in
    read_front line comment (form ++ bare COMMA ∷ inner) closed is.whole
    ∙ append_assoc form (bare COMMA ∷ inner) (characters comment)
    ∙ ap (λ t. form ++ bare COMMA ∷ t) (append_assoc lemma (bare DOT ∷ codes) (characters comment))

-- a form and what stands behind it
pub after_form : (line : List ℕ) (form other w r : List Written) → IsPart is_comma form →
    IsPart is_comma other → Stopped is_comma r → characters line ≡ form ++ bare COMMA ∷ w →
    characters line ≡ other ++ r → (form ≡ other) × (bare COMMA ∷ w ≡ r)
after_form line form other w r p q s e f =
    one_front is_comma form other (bare COMMA ∷ w) r p q refl s (sym e ∙ f)

-- a lemma and what stands behind it
after_lemma : (lemma other w r : List Written) → IsPart is_dot lemma → IsPart is_dot other →
    Stopped is_dot r → lemma ++ bare DOT ∷ w ≡ other ++ r →
    (lemma ≡ other) × (bare DOT ∷ w ≡ r)
after_lemma lemma other w r p q s e = one_front is_dot lemma other (bare DOT ∷ w) r p q refl s e

module _ (line : List ℕ) (form lemma codes : List Written) (comment : List ℕ)
    (is : IsCut line form lemma codes comment) where
  -- a line that is cut has a comma
  pub cut_no_comma : HasNoComma line → ⊥
  cut_no_comma h =
      let read : characters line ≡ h.form ++ [] =
      ap characters h.whole ∙ characters_part is_comma h.form h.is_form
      ∙ sym (append-nil h.form) in
      no_sign COMMA (lemma ++ bare DOT ∷ (codes ++ characters comment))
      (after_form line form h.form (lemma ++ bare DOT ∷ (codes ++ characters comment)) []
      is.is_form h.is_form tt (cut_read line form lemma codes comment is) read).1

  -- and a dot
  pub cut_no_dot : (other : List Written) → HasNoDot line other → ⊥
  cut_no_dot other h =
      let closed : IsClosed (other ++ bare COMMA ∷ h.lemma) =
      IsPart-append is_none_stop other (bare COMMA ∷ h.lemma)
      (closed_part is_comma other h.is_form) (refl, closed_part is_dot h.lemma h.is_lemma) in
      let read : characters line ≡ other ++ bare COMMA ∷ h.lemma =
      ap characters h.whole ∙ characters_part is_none_stop (other ++ bare COMMA ∷ h.lemma) closed in
      let behind = lemma ++ bare DOT ∷ (codes ++ characters comment) in
      let first = after_form line form other behind (bare COMMA ∷ h.lemma) is.is_form h.is_form refl
      (cut_read line form lemma codes comment is) read in
      let second = same_behind COMMA COMMA behind h.lemma first.1 in
      no_sign DOT (codes ++ characters comment)
      (after_lemma lemma h.lemma (codes ++ characters comment) [] is.is_lemma h.is_lemma tt
      (second ∙ sym (append-nil h.lemma))).1

  -- it is cut in one way
  pub one_cut : (form' lemma' codes' : List Written) (comment' : List ℕ) →
      IsCut line form' lemma' codes' comment' →
      (form ≡ form') × (lemma ≡ lemma') × (codes ≡ codes') × (comment ≡ comment')
  one_cut form' lemma' codes' comment' other =
      let behind = lemma ++ bare DOT ∷ (codes ++ characters comment) in
      let behind' = lemma' ++ bare DOT ∷ (codes' ++ characters comment') in
      let first = after_form line form form' behind (bare COMMA ∷ behind') is.is_form other.is_form
      refl (cut_read line form lemma codes comment is)
      (cut_read line form' lemma' codes' comment' other) in
      let second = after_lemma lemma lemma' (codes ++ characters comment)
      (bare DOT ∷ (codes' ++ characters comment')) is.is_lemma other.is_lemma refl
      (same_behind COMMA COMMA behind behind' first.1) in
      let third = one_front is_slash codes codes' (characters comment) (characters comment')
      is.are_codes other.are_codes (comment_read comment is.is_comment).0
      (comment_read comment' other.is_comment).0
      (same_behind DOT DOT (codes ++ characters comment) (codes' ++ characters comment')
      second.1) in (
        first.0,
        second.0,
        third.0,
        sym (written-characters comment) ∙ ap written third.1 ∙ written-characters comment',
      )

-- the characters of a line with a backslash behind a closed front
pub open_read : (w : List Written) → IsClosed w →
    characters (written w ++ BACKSLASH ∷ []) ≡ w ++ bare BACKSLASH ∷ []
open_read w closed = read_front (written w ++ BACKSLASH ∷ []) (BACKSLASH ∷ []) w closed refl

-- a line that is cut doesn't end in a backslash before its comment
pub cut_open : (line : List ℕ) (form lemma codes : List Written) (comment : List ℕ) →
    EndsInBackslash line → IsCut line form lemma codes comment → ⊥
cut_open line form lemma codes comment (in_form front p) is =
    let behind = lemma ++ bare DOT ∷ (codes ++ characters comment) in
    let first = after_form line form front behind (bare BACKSLASH ∷ []) is.is_form p refl
    (cut_read line form lemma codes comment is)
    (open_read front (closed_part is_comma front p)) in
    let n = same_sign COMMA BACKSLASH behind [] first.1 in omega (arith, n)
cut_open line form lemma codes comment (in_lemma front part p q) is =
    let behind = lemma ++ bare DOT ∷ (codes ++ characters comment) in
    let w = front ++ bare COMMA ∷ part in
    let closed : IsClosed w =
    IsPart-append is_none_stop front (bare COMMA ∷ part) (closed_part is_comma front p)
    (refl, closed_part is_dot part q) in
    let read = open_read w closed ∙ append_assoc front (bare COMMA ∷ part) (bare BACKSLASH ∷ []) in
    let first = after_form line form front behind (bare COMMA ∷ (part ++ bare BACKSLASH ∷ []))
    is.is_form p refl (cut_read line form lemma codes comment is) read in
    let second = after_lemma lemma part (codes ++ characters comment) (bare BACKSLASH ∷ [])
    is.is_lemma q refl
    (same_behind COMMA COMMA behind (part ++ bare BACKSLASH ∷ []) first.1) in
    let n = same_sign DOT BACKSLASH (codes ++ characters comment) [] second.1 in omega (arith, n)
cut_open line form lemma codes comment (in_codes front part last p q r) is =
    let behind = lemma ++ bare DOT ∷ (codes ++ characters comment) in
    let inner = part ++ bare DOT ∷ last in
    let w = front ++ bare COMMA ∷ inner in
    let closed : IsClosed w =
    IsPart-append is_none_stop front (bare COMMA ∷ inner) (closed_part is_comma front p) (
      refl,
      IsPart-append is_none_stop part (bare DOT ∷ last) (closed_part is_dot part q)
          (refl, closed_part is_slash last r),
    ) in
    let later = part ++ bare DOT ∷ (last ++ bare BACKSLASH ∷ []) in
    let read = open_read w closed ∙ append_assoc front (bare COMMA ∷ inner) (bare BACKSLASH ∷ [])
    ∙ ap (λ t. front ++ bare COMMA ∷ t)
    (append_assoc part (bare DOT ∷ last) (bare BACKSLASH ∷ [])) in
    let first = after_form line form front behind (bare COMMA ∷ later) is.is_form p refl
    (cut_read line form lemma codes comment is) read in
    let second = after_lemma lemma part (codes ++ characters comment)
    (bare DOT ∷ (last ++ bare BACKSLASH ∷ [])) is.is_lemma q refl
    (same_behind COMMA COMMA behind later first.1) in
    let comments = comment_read comment is.is_comment in
    let third = one_front is_slash codes last (characters comment) (bare BACKSLASH ∷ [])
    is.are_codes r comments.0 refl
    (same_behind DOT DOT (codes ++ characters comment) (last ++ bare BACKSLASH ∷ []) second.1) in
    comments.1 [] third.1

-- a form that is empty is the form
empty_form : (line : List ℕ) (p : DelafParts) → HasEmptyForm line → IsDelafLine line p → ⊥
empty_form line p (without_dot h) is =
    cut_no_dot line p.form p.lemma p.codes p.comment is.cut [] h
empty_form line p (with_dot lemma codes comment h) is =
    is.some_form (one_cut line p.form p.lemma p.codes p.comment is.cut [] lemma codes comment h).0

-- no line with parts has a fault
pub fault_excluded : (line : List ℕ) (number : ℕ) (p : DelafParts) (error : DelaError) →
    HasFault line number error → IsDelafLine line p → ⊥
fault_excluded line number p (NoComma n place) h is =
    cut_no_comma line p.form p.lemma p.codes p.comment is.cut h.1
fault_excluded line number p (NoDot n place) h is =
    cut_no_dot line p.form p.lemma p.codes p.comment is.cut h.1.0 h.1.2
fault_excluded line number p (EmptyForm n place) h is = empty_form line p h.1 is
fault_excluded line number p (EmptyCode n place) h is =
    let e = h.1 in
    let same = one_cut line p.form p.lemma p.codes p.comment is.cut e.form e.lemma e.codes e.comment
    e.cut in
    none_is_empty p.codes p.gram p.sem p.infl e.behind
    (subst (λ (w : List Written). IsEmptyAt w e.behind) (sym same.2) e.empty) is.list
fault_excluded line number p (BadEscape n place) h is =
    cut_open line p.form p.lemma p.codes p.comment h.1 is.cut
fault_excluded line number p (BadClass n place) h is = h
fault_excluded line number p NoMemory h is = h

-- no line says something and is refused
pub says_excluded : (line : List ℕ) (number : ℕ) (said : List Entry) (error : DelaError) →
    DelafSays line said → RefusesDelaf line number error → ⊥
says_excluded line number said error (skipped line' is) r = r.counts is
says_excluded line number said error (entries line' p is) r =
    fault_excluded line number p error r.fault is
