-- What is printed for a mask that is read of some text is a text of this mask.
use Rattle.std.proofs.Common.{arith, ◌≡◌, ◌≢◌, ◌⊎◌, ℕ, List, [], ◌∷◌, ◌++◌, Bool, true, false, inl, inr, length, refl, sym, ◌∙◌, ap, subst, Some, None}
use Rattle.std.specs.Prelude.{◌==◌, ◌||◌, Contains, codes}
use Rattle.std.specs.List.{flat_map, list_any}
use Rattle.std.specs.Str.{bytes_eq}
use Rattle.std.proofs.lemmas.Bool.{both_ways, or_left, or_right}
use Rattle.std.proofs.lemmas.List.Elements.{All-cons, All-contains, All-nil}
use Rattle.std.proofs.lemmas.List.Folds.{list_any-append}
use Rattle.ux_dela.specs.Written.{Written, written, meant, all_meant, all_behind}
use Rattle.ux_dela.proofs.CharactersLemmas.{written-append}
use Rattle.ux_masks.specs.Signs.{COMMA, DOT, PLUS, TILDE, COLON, EXCLAMATION}
use Rattle.ux_masks.specs.Texts.{Target, a_code, a_lemma, a_lemma_with, a_form, a_form_with, Asked, needed, forbidden, asked_text, Body, IsBody, body_text, lemma_or, needed_in, forbidden_in, parts_of, Names, word, mot, lower, min, upper, maj, first, pre, dic, sdic, not_word, not_mot, not_lower, not_min, not_upper, not_maj, not_first, not_pre, not_dic, not_sdic, cdic, tdic, nb, token, refused_texts, IsNamed, IsLexicalText, plain, negated, IsMaskText, named, lexical}
use Rattle.ux_masks.specs.declared.lexical.Parts.{Parts}
use Rattle.ux_masks.specs.declared.mask.Mask.{Mask}
use Rattle.ux_masks.specs.declared.mask.Mask.TheVariants.{Lexical, NotLexical}
use Rattle.ux_fst2.specs.Masks.{lemma_text, lexical_text, mask_text, name_text, target_text}
use Rattle.ux_fst2.proofs.SpelledMasks.{parts_same, spelled}
use Rattle.ux_fst2.proofs.SpelledBodies.{body_is}
use Rattle.ux_fst2.proofs.WrittenMasks.{body_written, colon_text, plus_text, rest_written, tilde_text}

-- a sign that no name with a meaning of its own has
abbrev pub is_part_sign : ℕ → Bool
is_part_sign b = b == DOT || b == PLUS || b == TILDE || b == COLON

abbrev pub has_sign : List ℕ → Bool
has_sign text = list_any is_part_sign text

-- a name has no such sign, and isn't the empty word
pub record IsBareText (text : List ℕ) : Type 0 where
  pub no_sign : has_sign text ≡ false
  pub other : bytes_eq text (codes "E") ≡ false
  pub some : length text ≢ 0

pub name_bare : (text : List ℕ) (mask : Mask) → Names text mask → IsBareText text
name_bare text mask word = record { no_sign = refl; other = refl; some = λ e. omega (arith, e) }
name_bare text mask mot = record { no_sign = refl; other = refl; some = λ e. omega (arith, e) }
name_bare text mask lower = record { no_sign = refl; other = refl; some = λ e. omega (arith, e) }
name_bare text mask min = record { no_sign = refl; other = refl; some = λ e. omega (arith, e) }
name_bare text mask upper = record { no_sign = refl; other = refl; some = λ e. omega (arith, e) }
name_bare text mask maj = record { no_sign = refl; other = refl; some = λ e. omega (arith, e) }
name_bare text mask first = record { no_sign = refl; other = refl; some = λ e. omega (arith, e) }
name_bare text mask pre = record { no_sign = refl; other = refl; some = λ e. omega (arith, e) }
name_bare text mask dic = record { no_sign = refl; other = refl; some = λ e. omega (arith, e) }
name_bare text mask sdic = record { no_sign = refl; other = refl; some = λ e. omega (arith, e) }
name_bare text mask not_word = record { no_sign = refl; other = refl; some = λ e. omega (arith, e) }
name_bare text mask not_mot = record { no_sign = refl; other = refl; some = λ e. omega (arith, e) }
name_bare text mask not_lower = record { no_sign = refl; other = refl; some = λ e. omega (arith, e) }
name_bare text mask not_min = record { no_sign = refl; other = refl; some = λ e. omega (arith, e) }
name_bare text mask not_upper = record { no_sign = refl; other = refl; some = λ e. omega (arith, e) }
name_bare text mask not_maj = record { no_sign = refl; other = refl; some = λ e. omega (arith, e) }
name_bare text mask not_first = record { no_sign = refl; other = refl; some = λ e. omega (arith, e) }
name_bare text mask not_pre = record { no_sign = refl; other = refl; some = λ e. omega (arith, e) }
name_bare text mask not_dic = record { no_sign = refl; other = refl; some = λ e. omega (arith, e) }
name_bare text mask not_sdic = record { no_sign = refl; other = refl; some = λ e. omega (arith, e) }
name_bare text mask cdic = record { no_sign = refl; other = refl; some = λ e. omega (arith, e) }
name_bare text mask tdic = record { no_sign = refl; other = refl; some = λ e. omega (arith, e) }
name_bare text mask nb = record { no_sign = refl; other = refl; some = λ e. omega (arith, e) }
name_bare text mask token = record { no_sign = refl; other = refl; some = λ e. omega (arith, e) }

abbrev HasNoSign : List ℕ → Type 0
HasNoSign text = has_sign text ≡ false

refused_bare : (text : List ℕ) → Contains refused_texts text → HasNoSign text
refused_bare text among =
    All-contains HasNoSign refused_texts text
    (All-cons HasNoSign (codes "E") (codes "!E" ∷ codes "!CDIC" ∷ codes "!TDIC" ∷ codes "!NB" ∷ codes "!TOKEN" ∷ []) refl
    (All-cons HasNoSign (codes "!E") (codes "!CDIC" ∷ codes "!TDIC" ∷ codes "!NB" ∷ codes "!TOKEN" ∷ []) refl
    (All-cons HasNoSign (codes "!CDIC") (codes "!TDIC" ∷ codes "!NB" ∷ codes "!TOKEN" ∷ []) refl
    (All-cons HasNoSign (codes "!TDIC") (codes "!NB" ∷ codes "!TOKEN" ∷ []) refl
    (All-cons HasNoSign (codes "!NB") (codes "!TOKEN" ∷ []) refl
    (All-cons HasNoSign (codes "!TOKEN") [] refl
    (All-nil HasNoSign))))))) among

-- a text with such a sign is neither a name nor refused whole
sign_free : (text : List ℕ) → has_sign text ≡ true →
    (IsNamed text → ⊥) × (Contains refused_texts text → ⊥)
sign_free text has = (
  λ is. both_ways (has_sign text) (name_bare text is.0 is.1).no_sign has,
  λ among. both_ways (has_sign text) (refused_bare text among) has,
)

has_behind : (front rest : List ℕ) → has_sign rest ≡ true → has_sign (front ++ rest) ≡ true
has_behind front rest has =
    list_any-append is_part_sign front rest ∙ or_right (has_sign front) (has_sign rest) has

has_front : (front rest : List ℕ) → has_sign front ≡ true → has_sign (front ++ rest) ≡ true
has_front front rest has =
    list_any-append is_part_sign front rest ∙ or_left (has_sign front) (has_sign rest) has

no_asked : (asked : List Asked) → flat_map needed_in asked ≡ [] → flat_map forbidden_in asked ≡ [] →
    asked ≡ []
no_asked [] none nothing = refl
no_asked (needed name ∷ asked) none nothing = cc
no_asked (forbidden name ∷ asked) none nothing = cc

no_names : (names : List (List Written)) → all_meant names ≡ [] → names ≡ []
no_names [] none = refl
no_names (name ∷ names) none = cc

code_rest : (needs forbids names : List (List ℕ)) →
    (has_sign ((plus_text needs ++ tilde_text forbids) ++ colon_text names) ≡ true)
    ⊎ ((needs ≡ []) × (forbids ≡ []) × (names ≡ []))
code_rest [] [] [] = inr (refl, refl, refl)
code_rest [] [] (name ∷ names) = inl refl
code_rest [] (code ∷ forbids) names = inl refl
code_rest (code ∷ needs) forbids names = inl refl

dot_has : (front end rest : List ℕ) → has_sign ((front ++ DOT ∷ end) ++ rest) ≡ true
dot_has front end rest =
    has_front (front ++ DOT ∷ end) rest (has_behind front (DOT ∷ end) refl)

lemma_has : (lemma rest : List ℕ) → has_sign (target_text None (Some lemma) ++ rest) ≡ true
lemma_has lemma rest = dot_has (name_text lemma) [] rest

form_has : (form lemma rest : List ℕ) →
    has_sign (target_text (Some form) (Some lemma) ++ rest) ≡ true
form_has form lemma rest =
    has_front (target_text (Some form) (Some lemma)) rest
    (has_behind (name_text form) (COMMA ∷ (lemma_text form lemma ++ DOT ∷ []))
    (has_behind (lemma_text form lemma) (DOT ∷ []) refl))

-- what is printed has such a sign, or is the text of a code alone
stands : (target : Target) (asked : List Asked) (names : List (List Written)) →
    let body : Body = record { target = target; asked = asked; alternatives = names } in
    IsBody body → (has_sign (lexical_text (parts_of body)) ≡ true)
    ⊎ (lexical_text (parts_of body) ≡ written (body_text body))
stands (a_code name) asked names is =
    let body : Body = record { target = a_code name; asked = asked; alternatives = names } in
    let needs = flat_map needed_in asked in
    let forbids = flat_map forbidden_in asked in
    let infl = all_meant names in
    let rest = (plus_text needs ++ tilde_text forbids) ++ colon_text infl in
    let text : lexical_text (parts_of body) ≡ written name ++ rest =
    sym (body_written body is)
    ∙ written-append name (flat_map asked_text (spelled body).asked
    ++ all_behind COLON (spelled body).alternatives)
    ∙ ap (λ (t : List ℕ). written name ++ t) (rest_written (parts_of body)) in
    elim (code_rest needs forbids infl) [
      | inl has ↦ inl (ap has_sign text ∙ has_behind (written name) rest has)
      | inr none ↦ inr (text ∙ alone name asked names none.0 none.1 none.2)
    ]
  where
    alone : (name : List Written) (asked : List Asked) (names : List (List Written)) →
        flat_map needed_in asked ≡ [] → flat_map forbidden_in asked ≡ [] → all_meant names ≡ [] →
        written name ++ ((plus_text (flat_map needed_in asked)
        ++ tilde_text (flat_map forbidden_in asked)) ++ colon_text (all_meant names))
        ≡ written (name ++ (flat_map asked_text asked ++ all_behind COLON names))
    alone name asked names none never nothing =
        let one : asked ≡ [] = no_asked asked none never in
        let two : names ≡ [] = no_names names nothing in
        ap (λ (a : List Asked). written name ++ ((plus_text (flat_map needed_in a)
        ++ tilde_text (flat_map forbidden_in a)) ++ colon_text (all_meant names))) one
        ∙ ap (λ (n : List (List Written)). written name ++ colon_text (all_meant n)) two
        ∙ sym (written-append name [])
        ∙ ap (λ (n : List (List Written)). written (name ++ all_behind COLON n)) (sym two)
        ∙ ap (λ (a : List Asked). written (name ++ (flat_map asked_text a ++ all_behind COLON names)))
        (sym one)
stands (a_lemma name) asked names is = inl (lemma_has (meant name) _)
stands (a_lemma_with lemma code) asked names is = inl (lemma_has (meant lemma) _)
stands (a_form form lemma) asked names is = inl (form_has (meant form) (lemma_or form lemma) _)
stands (a_form_with form lemma code) asked names is =
    inl (form_has (meant form) (lemma_or form lemma) _)

-- so it is neither a name nor refused whole, since the text that was read isn't
still_free : (front text : List ℕ) (body : Body) → IsBody body →
    text ≡ front ++ written (body_text body) → (IsNamed text → ⊥) → (Contains refused_texts text → ⊥) →
    (IsNamed (front ++ lexical_text (parts_of body)) → ⊥)
    × (Contains refused_texts (front ++ lexical_text (parts_of body)) → ⊥)
still_free front text body is e not_named not_refused =
    elim (stands body.target body.asked body.alternatives is) [
      | inl has ↦ sign_free (front ++ lexical_text (parts_of body))
          (has_behind front (lexical_text (parts_of body)) has)
      | inr same ↦ (let back : front ++ lexical_text (parts_of body) ≡ text =
          ap (λ (t : List ℕ). front ++ t) same ∙ sym e in (
            λ is_named. not_named (subst IsNamed back is_named),
            λ among. not_refused (subst (Contains refused_texts) back among),
          ))
    ]

lexical_back : (text : List ℕ) (mask : Mask) → (IsNamed text → ⊥) →
    (Contains refused_texts text → ⊥) → IsLexicalText text mask → IsMaskText (mask_text mask) mask
lexical_back text mask not_named not_refused (plain body is e) =
    let free = still_free [] text body is e not_named not_refused in
    lexical free.0 free.1
    (subst (λ (p : Parts). IsLexicalText (lexical_text (parts_of body)) (Lexical p)) (parts_same body)
    (plain (spelled body) (body_is body is) (sym (body_written body is))))
lexical_back text mask not_named not_refused (negated body is e) =
    let free = still_free (EXCLAMATION ∷ []) text body is e not_named not_refused in
    lexical free.0 free.1
    (subst (λ (p : Parts).
    IsLexicalText (EXCLAMATION ∷ lexical_text (parts_of body)) (NotLexical p)) (parts_same body)
    (negated (spelled body) (body_is body is)
    (ap (λ (t : List ℕ). EXCLAMATION ∷ t) (sym (body_written body is)))))

named_back : (text : List ℕ) (mask : Mask) → Names text mask → IsMaskText (mask_text mask) mask
named_back text mask word = named word
named_back text mask mot = named word
named_back text mask lower = named lower
named_back text mask min = named lower
named_back text mask upper = named upper
named_back text mask maj = named upper
named_back text mask first = named first
named_back text mask pre = named first
named_back text mask dic = named dic
named_back text mask sdic = named sdic
named_back text mask not_word = named not_word
named_back text mask not_mot = named not_word
named_back text mask not_lower = named not_lower
named_back text mask not_min = named not_lower
named_back text mask not_upper = named not_upper
named_back text mask not_maj = named not_upper
named_back text mask not_first = named not_first
named_back text mask not_pre = named not_first
named_back text mask not_dic = named not_dic
named_back text mask not_sdic = named not_sdic
named_back text mask cdic = named cdic
named_back text mask tdic = named tdic
named_back text mask nb = named nb
named_back text mask token = named token

-- what is printed for a mask is one of its texts
pub mask_back : (text : List ℕ) (mask : Mask) → IsMaskText text mask →
    IsMaskText (mask_text mask) mask
mask_back text mask (named is) = named_back text mask is
mask_back text mask (lexical not_named not_refused is) =
    lexical_back text mask not_named not_refused is
