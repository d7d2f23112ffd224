-- A line of lemmas is cut in one way, and has one class and one first empty code.
use Rattle.std.proofs.Common.{arith, ◌≡◌, ℕ, List, [], ◌∷◌, ◌++◌, true, refl, sym, ◌∙◌, ap, append_assoc, length}
use Rattle.std.specs.Prelude.{nat_le}
use Rattle.std.specs.List.{list_all}
use Rattle.std.proofs.lemmas.Bool.{and_parts, leb-true}
use Rattle.std.proofs.lemmas.List.{append-nil}
use Rattle.ux_dela.specs.Signs.{COMMA, PLUS, BACKSLASH, is_comma, is_slash, is_plus, is_upper, is_digit}
use Rattle.ux_dela.specs.Written.{Written, bare, written, IsPart, all_behind}
use Rattle.ux_dela.specs.Codes.{AreCodes, EndsCode}
use Rattle.ux_dela.specs.Delaf.{HasNoComma}
use Rattle.ux_dela.specs.Delas.{IsStemCut, IsStemList, IsClass, StemEndsInBackslash, in_lemma, in_codes, IsStemEmptyAt, no_class, no_sem}
use Rattle.ux_dela.specs.Reading.{characters}
use Rattle.ux_dela.proofs.CharactersLemmas.{IsPart-append, characters_part}
use Rattle.ux_dela.proofs.RunLemmas.{is_none_stop, IsClosed, closed_part}
use Rattle.ux_dela.proofs.ListLemmas.{read_front}
use Rattle.ux_dela.proofs.UniqueLemmas.{Stopped, one_front, one_run, no_code, none_empty}
use Rattle.ux_dela.proofs.CodesLemmas.{over_none}
use Rattle.ux_dela.proofs.ExclusionLemmas.{same_sign, same_behind, no_sign, comment_read, after_form, open_read}

-- no byte is both a letter and a digit
upper_or_digit : (b : ℕ) → is_upper b ≡ true → is_digit b ≡ true → ⊥
upper_or_digit b u d =
    let small = leb-true b 57 (and_parts (nat_le 48 b) (nat_le b 57) d).1 in
    let large = leb-true 65 b (and_parts (nat_le 65 b) (nat_le b 90) u).0 in
    omega (arith, small, large)

-- digits don't begin with a letter
no_upper : (b : ℕ) (rest digits : List ℕ) → is_upper b ≡ true →
    list_all is_digit digits ≡ true → digits ≡ b ∷ rest → ⊥
no_upper b rest digits u are e =
    upper_or_digit b u
    (and_parts (is_digit b) (list_all is_digit rest) (sym (ap (list_all is_digit) e) ∙ are)).0

-- letters before digits are found in one way
one_letters : (letters others digits last : List ℕ) → list_all is_upper letters ≡ true →
    list_all is_upper others ≡ true → list_all is_digit digits ≡ true →
    list_all is_digit last ≡ true → letters ++ digits ≡ others ++ last → letters ≡ others
one_letters [] [] digits last a b d f e = refl
one_letters [] (y ∷ others) digits last a b d f e =
    absurd (no_upper y (others ++ last) digits
    (and_parts (is_upper y) (list_all is_upper others) b).0 d e)
one_letters (x ∷ letters) [] digits last a b d f e =
    absurd (no_upper x (letters ++ digits) last
    (and_parts (is_upper x) (list_all is_upper letters) a).0 f (sym e))
one_letters (x ∷ letters) (y ∷ others) digits last a b d f e =
    let head : x ≡ y = cc in
    let tail : letters ++ digits ≡ others ++ last = cc in
    let rest = one_letters letters others digits last
    (and_parts (is_upper x) (list_all is_upper letters) a).1
    (and_parts (is_upper y) (list_all is_upper others) b).1 d f tail in
    ap (λ z. z ∷ letters) head ∙ ap (λ t. y ∷ t) rest

-- a class has its letters in one way
pub one_class : (class letters other : List ℕ) → IsClass class letters → IsClass class other →
    letters ≡ other
one_class class letters other a b =
    one_letters letters other a.digits b.digits a.are_letters b.are_letters a.are_digits
    b.are_digits (sym a.whole ∙ b.whole)

-- the characters of a line that is cut
pub stem_cut_read : (line : List ℕ) (lemma codes : List Written) (comment : List ℕ) →
    IsStemCut line lemma codes comment →
    characters line ≡ lemma ++ bare COMMA ∷ (codes ++ characters comment)
stem_cut_read line lemma codes comment is =
    let closed : IsClosed (lemma ++ bare COMMA ∷ codes) =
    IsPart-append is_none_stop lemma (bare COMMA ∷ codes) (closed_part is_comma lemma is.is_lemma)
    (refl, closed_part is_slash codes is.are_codes) in
    read_front line comment (lemma ++ bare COMMA ∷ codes) closed is.whole
    ∙ append_assoc lemma (bare COMMA ∷ codes) (characters comment)

-- a line is cut into lemma and codes in one way
pub same_stem_cut : (line : List ℕ) (lemma codes lemma' codes' : List Written)
    (comment comment' : List ℕ) → IsStemCut line lemma codes comment →
    IsStemCut line lemma' codes' comment' → (lemma ≡ lemma') × (codes ≡ codes')
same_stem_cut line lemma codes lemma' codes' comment comment' is other =
    let first = after_form line lemma lemma' (codes ++ characters comment)
    (bare COMMA ∷ (codes' ++ characters comment')) is.is_lemma other.is_lemma refl
    (stem_cut_read line lemma codes comment is)
    (stem_cut_read line lemma' codes' comment' other) in
    let second = one_front is_slash codes codes' (characters comment) (characters comment')
    is.are_codes other.are_codes (comment_read comment is.is_comment).0
    (comment_read comment' other.is_comment).0
    (same_behind COMMA COMMA (codes ++ characters comment) (codes' ++ characters comment')
    first.1) in
    (first.0, second.0)

-- a class doesn't go on where semantic codes follow
pub behind_class : (sem : List (List Written)) (w : List Written) → Stopped is_plus w →
    Stopped is_plus (all_behind PLUS sem ++ w)
behind_class [] w s = s
behind_class (code ∷ sem) w s = refl

-- codes are a class and semantic codes in one way
pub same_stem_list : (codes class class' : List Written) (sem sem' : List (List Written)) →
    IsStemList codes class sem → IsStemList codes class' sem' → (class ≡ class') × (sem ≡ sem')
same_stem_list codes class class' sem sem' a b =
    let whole : class ++ (all_behind PLUS sem ++ []) ≡ class' ++ (all_behind PLUS sem' ++ []) =
    ap (λ t. class ++ t) (append-nil (all_behind PLUS sem)) ∙ sym a.whole ∙ b.whole
    ∙ ap (λ t. class' ++ t) (sym (append-nil (all_behind PLUS sem'))) in
    let first = one_front is_plus class class' (all_behind PLUS sem ++ [])
    (all_behind PLUS sem' ++ []) a.is_class.part b.is_class.part (behind_class sem [] tt)
    (behind_class sem' [] tt) whole in
    let second = one_run PLUS is_plus sem sem' [] [] refl a.are_sem b.are_sem
    (over_none PLUS is_plus) (over_none PLUS is_plus) first.1 in
    (first.0, second.0)

-- a front of codes and a `+` with no code behind it are found in one way
one_gap : (sem sem' : List (List Written)) (behind behind' : List Written) →
    AreCodes is_plus sem → AreCodes is_plus sem' → EndsCode is_plus behind →
    EndsCode is_plus behind' →
    all_behind PLUS sem ++ bare PLUS ∷ behind ≡ all_behind PLUS sem' ++ bare PLUS ∷ behind' →
    sem ≡ sem'
one_gap [] [] behind behind' a b h k e = refl
one_gap [] (o ∷ others) behind behind' a b h k e =
    let inner : behind ≡ (o ++ all_behind PLUS others) ++ bare PLUS ∷ behind' = cc in
    absurd (no_code is_plus o (all_behind PLUS others ++ bare PLUS ∷ behind') behind b.0 h
    (sym (append_assoc o (all_behind PLUS others) (bare PLUS ∷ behind')) ∙ sym inner))
one_gap (c ∷ codes) [] behind behind' a b h k e =
    let inner : (c ++ all_behind PLUS codes) ++ bare PLUS ∷ behind ≡ behind' = cc in
    absurd (no_code is_plus c (all_behind PLUS codes ++ bare PLUS ∷ behind) behind' a.0 k
    (sym (append_assoc c (all_behind PLUS codes) (bare PLUS ∷ behind)) ∙ inner))
one_gap (c ∷ codes) (o ∷ others) behind behind' a b h k e =
    let inner : (c ++ all_behind PLUS codes) ++ bare PLUS ∷ behind
    ≡ (o ++ all_behind PLUS others) ++ bare PLUS ∷ behind' = cc in
    let cut : c ++ (all_behind PLUS codes ++ bare PLUS ∷ behind)
    ≡ o ++ (all_behind PLUS others ++ bare PLUS ∷ behind') =
    sym (append_assoc c (all_behind PLUS codes) (bare PLUS ∷ behind)) ∙ inner
    ∙ append_assoc o (all_behind PLUS others) (bare PLUS ∷ behind') in
    let first = one_front is_plus c o (all_behind PLUS codes ++ bare PLUS ∷ behind)
    (all_behind PLUS others ++ bare PLUS ∷ behind') a.0.part b.0.part
    (behind_class codes (bare PLUS ∷ behind) refl) (behind_class others (bare PLUS ∷ behind') refl)
    cut in
    let rest = one_gap codes others behind behind' a.1 b.1 h k first.1 in
    ap (λ z. z ∷ codes) first.0 ∙ ap (λ t. o ∷ t) rest

-- a class, semantic codes and what stands behind them
list_front : (front class w : List Written) (sem : List (List Written)) →
    IsStemList front class sem → front ++ w ≡ class ++ (all_behind PLUS sem ++ w)
list_front front class w sem is =
    ap (λ t. t ++ w) is.whole ∙ append_assoc class (all_behind PLUS sem) w

-- the codes before an empty one are found in one way
one_gap_front : (front class front' class' behind behind' : List Written)
    (sem sem' : List (List Written)) → IsStemList front class sem →
    IsStemList front' class' sem' → EndsCode is_plus behind → EndsCode is_plus behind' →
    front ++ bare PLUS ∷ behind ≡ front' ++ bare PLUS ∷ behind' → front ≡ front'
one_gap_front front class front' class' behind behind' sem sem' a b h k e =
    let w = bare PLUS ∷ behind in
    let w' = bare PLUS ∷ behind' in
    let first = one_front is_plus class class' (all_behind PLUS sem ++ w)
    (all_behind PLUS sem' ++ w') a.is_class.part b.is_class.part (behind_class sem w refl)
    (behind_class sem' w' refl)
    (sym (list_front front class w sem a) ∙ e ∙ list_front front' class' w' sem' b) in
    let second = one_gap sem sem' behind behind' a.are_sem b.are_sem h k first.1 in
    a.whole ∙ ap (λ t. t ++ all_behind PLUS sem) first.0
    ∙ ap (λ s. class' ++ all_behind PLUS s) second ∙ sym b.whole

-- codes that begin with a class don't lack one
class_is_there : (front class w behind : List Written) (sem : List (List Written)) →
    IsStemList front class sem → EndsCode is_plus behind → front ++ w ≡ behind → ⊥
class_is_there front class w behind sem is ends e =
    no_code is_plus class (all_behind PLUS sem ++ w) behind is.is_class ends
    (sym (list_front front class w sem is) ∙ e)

-- where the class is missing, the place is the beginning
place_of_class : (codes behind : List Written) (place : ℕ) → IsStemEmptyAt codes place →
    EndsCode is_plus behind → codes ≡ behind → place ≡ 0
place_of_class codes behind place (no_class behind' ends') ends e = refl
place_of_class codes behind place (no_sem front class behind' sem is ends') ends e =
    absurd (class_is_there front class (bare PLUS ∷ behind') behind sem is ends e)

-- where a semantic code is missing, the place is behind the codes before it
place_of_sem : (codes front class behind : List Written) (sem : List (List Written)) (place : ℕ) →
    IsStemEmptyAt codes place → IsStemList front class sem → EndsCode is_plus behind →
    codes ≡ front ++ bare PLUS ∷ behind → place ≡ length (written (front ++ bare PLUS ∷ []))
place_of_sem codes front class behind sem place (no_class behind' ends') is ends e =
    absurd (class_is_there front class (bare PLUS ∷ behind) behind' sem is ends' (sym e))
place_of_sem codes front class behind sem place (no_sem front' class' behind' sem' is' ends') is
    ends e =
    ap (λ t. length (written (t ++ bare PLUS ∷ [])))
    (one_gap_front front' class' front class behind' behind sem' sem is' is ends' ends e)

-- the first empty code has one place
pub one_empty_place : (codes : List Written) (place other : ℕ) → IsStemEmptyAt codes place →
    IsStemEmptyAt codes other → place ≡ other
one_empty_place codes place other (no_class behind ends) b =
    sym (place_of_class codes behind other b ends refl)
one_empty_place codes place other (no_sem front class behind sem is ends) b =
    sym (place_of_sem codes front class behind sem other b is ends refl)

-- codes that are a class and semantic codes have no empty one
pub listed_not_empty : (codes class : List Written) (sem : List (List Written)) (place : ℕ) →
    IsStemEmptyAt codes place → IsStemList codes class sem → ⊥
listed_not_empty codes class sem place (no_class behind ends) a =
    no_code is_plus class (all_behind PLUS sem) behind a.is_class ends (sym a.whole)
listed_not_empty codes class sem place (no_sem front other behind sem' f ends) a =
    let w = bare PLUS ∷ behind in
    let whole : other ++ (all_behind PLUS sem' ++ w) ≡ class ++ (all_behind PLUS sem ++ []) =
    sym (list_front front other w sem' f) ∙ a.whole
    ∙ ap (λ t. class ++ t) (sym (append-nil (all_behind PLUS sem))) in
    let first = one_front is_plus other class (all_behind PLUS sem' ++ w)
    (all_behind PLUS sem ++ []) f.is_class.part a.is_class.part (behind_class sem' w refl)
    (behind_class sem [] tt) whole in
    none_empty PLUS is_plus sem sem' [] behind refl a.are_sem f.are_sem (over_none PLUS is_plus)
    ends (sym first.1)

-- the characters of a line without a comma
comma_read : (line : List ℕ) → (h : HasNoComma line) → characters line ≡ h.form ++ []
comma_read line h =
    ap characters h.whole ∙ characters_part is_comma h.form h.is_form ∙ sym (append-nil h.form)

-- a line that is cut has a comma
pub cut_has_comma : (line : List ℕ) (lemma codes : List Written) (comment : List ℕ) →
    IsStemCut line lemma codes comment → HasNoComma line → ⊥
cut_has_comma line lemma codes comment is h =
    let w = codes ++ characters comment in
    no_sign COMMA w
    (after_form line lemma h.form w [] is.is_lemma h.is_form tt
    (stem_cut_read line lemma codes comment is) (comma_read line h)).1

-- the characters of codes that end in a backslash
open_codes_read : (front last : List Written) → IsPart is_comma front → IsPart is_slash last →
    characters (written (front ++ bare COMMA ∷ last) ++ BACKSLASH ∷ [])
    ≡ front ++ bare COMMA ∷ (last ++ bare BACKSLASH ∷ [])
open_codes_read front last p r =
    let closed : IsClosed (front ++ bare COMMA ∷ last) =
    IsPart-append is_none_stop front (bare COMMA ∷ last) (closed_part is_comma front p)
    (refl, closed_part is_slash last r) in
    open_read (front ++ bare COMMA ∷ last) closed
    ∙ append_assoc front (bare COMMA ∷ last) (bare BACKSLASH ∷ [])

-- a line that is cut doesn't end in a backslash before its comment
pub cut_not_open : (line : List ℕ) (lemma codes : List Written) (comment : List ℕ) →
    StemEndsInBackslash line → IsStemCut line lemma codes comment → ⊥
cut_not_open line lemma codes comment (in_lemma front p) is =
    let w = codes ++ characters comment in
    let first = after_form line lemma front w (bare BACKSLASH ∷ []) is.is_lemma p refl
    (stem_cut_read line lemma codes comment is)
    (open_read front (closed_part is_comma front p)) in
    let n = same_sign COMMA BACKSLASH w [] first.1 in omega (arith, n)
cut_not_open line lemma codes comment (in_codes front last p r) is =
    let w = codes ++ characters comment in
    let first = after_form line lemma front w (bare COMMA ∷ (last ++ bare BACKSLASH ∷ []))
    is.is_lemma p refl (stem_cut_read line lemma codes comment is)
    (open_codes_read front last p r) in
    let comments = comment_read comment is.is_comment in
    let second = one_front is_slash codes last (characters comment) (bare BACKSLASH ∷ [])
    is.are_codes r comments.0 refl
    (same_behind COMMA COMMA w (last ++ bare BACKSLASH ∷ []) first.1) in
    comments.1 [] second.1

-- a line that ends in a backslash isn't a lemma without a comma
pub open_has_end : (line : List ℕ) → StemEndsInBackslash line → HasNoComma line → ⊥
open_has_end line (in_lemma front p) h =
    no_sign BACKSLASH []
    (one_front is_comma front h.form (bare BACKSLASH ∷ []) [] p h.is_form refl tt
    (sym (open_read front (closed_part is_comma front p)) ∙ comma_read line h)).1
open_has_end line (in_codes front last p r) h =
    let w = last ++ bare BACKSLASH ∷ [] in
    no_sign COMMA w
    (after_form line front h.form w [] p h.is_form tt (open_codes_read front last p r)
    (comma_read line h)).1
