-- The text of a mask between `<` and `>`: it isn't empty, nor that of the empty word, and the first
-- free `>` stands behind it.
use Rattle.std.proofs.Common.{arith, ◌≡◌, ◌≢◌, ℕ, suc, List, [], ◌∷◌, ◌++◌, Bool, false, length, refl, sym, ◌∙◌, ap, subst, Option, Some, None}
use Rattle.std.specs.Prelude.{◌==◌, All, Contains, codes}
use Rattle.std.specs.List.{flat_map}
use Rattle.std.specs.Option.{option_map}
use Rattle.std.specs.Str.{bytes_eq}
use lib.Pointwise.{bytes_decides}
use Rattle.std.proofs.lemmas.Bool.{false_from_ne_true, or_from, or_parts}
use Rattle.std.proofs.lemmas.List.Elements.{All-head, All-tail}
use Rattle.ux_dela.specs.Signs.{BACKSLASH}
use Rattle.ux_dela.specs.Written.{Written, bare, protected, written, all_behind, IsPart, is_end}
use Rattle.ux_dela.proofs.CharactersLemmas.{IsPart-append, IsPart-weaker}
use Rattle.ux_grf.specs.Protection.{first_free}
use Rattle.ux_grf.specs.declared.protection.Stop.TheVariants.{Greater}
use Rattle.ux_masks.specs.Signs.{COMMA, DOT, COLON, EXCLAMATION, is_sign}
use Rattle.ux_masks.specs.Texts as masks
use Rattle.ux_masks.specs.Texts.{IsName, IsCodeName, IsCodeCharacter, IsNameIfAny, IsTarget, Target, a_code, a_lemma, a_lemma_with, a_form, a_form_with, Asked, needed, forbidden, asked_text, Body, IsBody, body_text, if_any, name_of, codes_if_any, code_in, form_in, lemma_in, lemma_or, needed_in, forbidden_in, parts_of, Names, word, mot, lower, min, upper, maj, first, pre, dic, sdic, not_word, not_mot, not_lower, not_min, not_upper, not_maj, not_first, not_pre, not_dic, not_sdic, cdic, tdic, nb, token, refused_texts, IsNamed, IsLexicalText, plain, negated, IsMaskText, named, lexical}
use Rattle.ux_masks.specs.declared.mask.Mask.{Mask}
use Rattle.ux_fst2.specs.Masks.{mask_text}
use Rattle.ux_fst2.proofs.ScanLemmas.{free_after, free_plain, free_slash}
use Rattle.ux_fst2.proofs.SpelledMasks.{spelled}
use Rattle.ux_fst2.proofs.SpelledBodies.{IsAsked, body_is}
use Rattle.ux_fst2.proofs.WrittenMasks.{body_written}
use Rattle.ux_fst2.proofs.MaskLaws.{name_bare}

-- it isn't that of the empty word
pub no_empty_word : (text : List ℕ) (mask : Mask) → IsMaskText text mask →
    bytes_eq text (codes "E") ≡ false
no_empty_word text mask (named is) = (name_bare text mask is).other
no_empty_word text mask (lexical not_named not_refused is) =
    let first : Contains refused_texts (codes "E") = (0, omega arith, refl) in
    false_from_ne_true (bytes_eq text (codes "E"))
    (λ same. not_refused
    (subst (Contains refused_texts) (sym ((bytes_decides text (codes "E")).0 same)) first))

written_some : (part : List Written) → part ≢ [] → length (written part) ≢ 0
written_some [] some none = some refl
written_some (bare b ∷ part) some none = omega (arith, none)
written_some (protected b ∷ part) some none = omega (arith, none)

front_some : (name rest : List Written) → name ≢ [] → name ++ rest ≢ []
front_some [] rest some none = some refl
front_some (x ∷ name) rest some none = cc

joined_some : (name more rest : List Written) → name ≢ [] → (name ++ more) ++ rest ≢ []
joined_some name more rest some =
    front_some (name ++ more) rest (front_some name more some)

body_some : (target : Target) (rest : List Written) → IsTarget target →
    masks.target_text target ++ rest ≢ []
body_some (a_code name) rest is = front_some name rest is.0.some
body_some (a_lemma name) rest is = front_some name rest is.0.some
body_some (a_lemma_with lemma code) rest is = joined_some lemma _ rest is.0.some
body_some (a_form form lemma) rest is = joined_some form _ rest is.0.some
body_some (a_form_with form lemma code) rest is = joined_some form _ rest is.0.some

lexical_some : (text : List ℕ) (mask : Mask) → IsLexicalText text mask → length text ≢ 0
lexical_some text mask (plain body is e) none =
    written_some (body_text body) (body_some body.target _ is.target)
    (ap (λ (t : List ℕ). length t) (sym e) ∙ none)
lexical_some text mask (negated body is e) none =
    let more : suc (length (written (body_text body))) ≡ 0 =
    ap (λ (t : List ℕ). length t) (sym e) ∙ none in
    omega (arith, more)

-- nor empty
pub mask_some : (text : List ℕ) (mask : Mask) → IsMaskText text mask → length text ≢ 0
mask_some text mask (named is) = (name_bare text mask is).some
mask_some text mask (lexical not_named not_refused is) = lexical_some text mask is

-- the sign behind a mask
abbrev is_greater : ℕ → Bool
is_greater b = b == 62

sign_greater : (b : ℕ) → is_end is_sign b ≡ false → is_end is_greater b ≡ false
sign_greater b other =
    let both = or_parts (b == BACKSLASH) (is_sign b) other in
    or_from (b == BACKSLASH) (b == 62) both.0 (or_parts _ (b == 62) both.1).1

name_part : (name : List Written) → IsName name → IsPart is_greater name
name_part name is = IsPart-weaker is_sign is_greater sign_greater name is.part

any_part : (name : Option (List Written)) → IsNameIfAny name → IsPart is_greater (if_any name)
any_part None is = tt
any_part (Some name) is = name_part name is

target_part : (target : Target) → IsTarget target → IsPart is_greater (masks.target_text target)
target_part (a_code name) is = name_part name is.0
target_part (a_lemma name) is = name_part name is.0
target_part (a_lemma_with lemma code) is =
    IsPart-append is_greater lemma (bare DOT ∷ if_any code) (name_part lemma is.0)
    (refl, any_part code is.1)
target_part (a_form form lemma) is =
    IsPart-append is_greater form (bare COMMA ∷ if_any lemma) (name_part form is.0)
    (refl, any_part lemma is.1)
target_part (a_form_with form lemma code) is =
    IsPart-append is_greater form (bare COMMA ∷ (if_any lemma ++ bare DOT ∷ if_any code))
    (name_part form is.0) (
      refl,
      IsPart-append is_greater (if_any lemma) (bare DOT ∷ if_any code) (any_part lemma is.1)
          (refl, any_part code is.2),
    )

asked_part : (asked : List Asked) → All IsAsked asked →
    IsPart is_greater (flat_map asked_text asked)
asked_part [] are = tt
asked_part (needed name ∷ asked) are = (
  refl,
  IsPart-append is_greater name (flat_map asked_text asked)
      (name_part name (All-head IsAsked (needed name) asked are))
      (asked_part asked (All-tail IsAsked (needed name) asked are)),
)
asked_part (forbidden name ∷ asked) are = (
  refl,
  IsPart-append is_greater name (flat_map asked_text asked)
      (name_part name (All-head IsAsked (forbidden name) asked are))
      (asked_part asked (All-tail IsAsked (forbidden name) asked are)),
)

names_part : (names : List (List Written)) → All IsName names →
    IsPart is_greater (all_behind COLON names)
names_part [] are = tt
names_part (name ∷ names) are = (
  refl,
  IsPart-append is_greater name (all_behind COLON names)
      (name_part name (All-head IsName name names are))
      (names_part names (All-tail IsName name names are)),
)

body_part : (body : Body) → IsBody body → IsPart is_greater (body_text body)
body_part body is =
    let asked = flat_map asked_text body.asked in
    let names = all_behind COLON body.alternatives in
    IsPart-append is_greater (masks.target_text body.target) (asked ++ names)
    (target_part body.target is.target)
    (IsPart-append is_greater asked names (asked_part body.asked is.asked)
    (names_part body.alternatives is.alternatives))

-- the first free `>` is the one behind it
free_part : (part : List Written) (after : List ℕ) → IsPart is_greater part →
    first_free Greater false (written part ++ 62 ∷ after) ≡ Some (length (written part))
free_part [] after is = refl
free_part (bare b ∷ part) after is =
    let both = or_parts (b == BACKSLASH) (b == 62) is.0 in
    free_plain Greater b (written part ++ 62 ∷ after) both.1 both.0
    ∙ ap (option_map suc) (free_part part after is.1)
free_part (protected b ∷ part) after is =
    free_slash Greater (b ∷ (written part ++ 62 ∷ after))
    ∙ ap (option_map suc) (free_after Greater b (written part ++ 62 ∷ after))
    ∙ ap (λ (o : Option ℕ). option_map suc (option_map suc o)) (free_part part after is)

module _ (after : List ℕ) where
  abbrev IsFreeIn : List ℕ → Type 0
  IsFreeIn text = first_free Greater false (text ++ 62 ∷ after) ≡ Some (length text)

  named_free : (text : List ℕ) (mask : Mask) → Names text mask → IsFreeIn (mask_text mask)
  named_free text mask word = refl
  named_free text mask mot = refl
  named_free text mask lower = refl
  named_free text mask min = refl
  named_free text mask upper = refl
  named_free text mask maj = refl
  named_free text mask first = refl
  named_free text mask pre = refl
  named_free text mask dic = refl
  named_free text mask sdic = refl
  named_free text mask not_word = refl
  named_free text mask not_mot = refl
  named_free text mask not_lower = refl
  named_free text mask not_min = refl
  named_free text mask not_upper = refl
  named_free text mask not_maj = refl
  named_free text mask not_first = refl
  named_free text mask not_pre = refl
  named_free text mask not_dic = refl
  named_free text mask not_sdic = refl
  named_free text mask cdic = refl
  named_free text mask tdic = refl
  named_free text mask nb = refl
  named_free text mask token = refl

  lexical_free : (text : List ℕ) (mask : Mask) → IsLexicalText text mask → IsFreeIn (mask_text mask)
  lexical_free text mask (plain body is e) =
      subst IsFreeIn (body_written body is)
      (free_part (body_text (spelled body)) after (body_part (spelled body) (body_is body is)))
  lexical_free text mask (negated body is e) =
      subst (λ (t : List ℕ). IsFreeIn (EXCLAMATION ∷ t)) (body_written body is)
      (free_part (bare EXCLAMATION ∷ body_text (spelled body)) after
      (refl, body_part (spelled body) (body_is body is)))

  pub mask_free : (text : List ℕ) (mask : Mask) → IsMaskText text mask → IsFreeIn (mask_text mask)
  mask_free text mask (named is) = named_free text mask is
  mask_free text mask (lexical not_named not_refused is) = lexical_free text mask is
