-- What is printed for a lexical mask is what its body is written by.
use Rattle.std.proofs.Common.{◌≡◌, ℕ, List, [], ◌∷◌, ◌++◌, Bool, true, false, refl, sym, ◌∙◌, ap, append_assoc, Some, None}
use Rattle.std.specs.Prelude.{All, if◌then◌else◌}
use Rattle.std.specs.List.{flat_map}
use Rattle.std.specs.Str.{bytes_eq}
use Rattle.std.proofs.lemmas.Bool.{cond_both, eqb-true}
use Rattle.std.proofs.lemmas.List.Concat.{flat_map-append}
use Rattle.std.proofs.lemmas.List.Elements.{All-head, All-tail}
use Rattle.ux_dela.specs.Signs.{EQUALS, is_equals}
use Rattle.ux_dela.specs.Written.{Written, bare, protected, written, byte_as, meant, all_behind}
use Rattle.ux_dela.specs.Printed.{all_shielded}
use Rattle.ux_dela.proofs.CharactersLemmas.{written-append}
use Rattle.ux_masks.specs.Signs.{COMMA, DOT, PLUS, TILDE, COLON}
use Rattle.ux_masks.specs.Texts as masks
use Rattle.ux_masks.specs.Texts.{IsName, IsCodeName, IsCodeCharacter, IsNameIfAny, IsTarget, Target, a_code, a_lemma, a_lemma_with, a_form, a_form_with, Asked, needed, forbidden, asked_text, Body, IsBody, body_text, if_any, name_of, codes_if_any, code_in, form_in, lemma_in, lemma_or, needed_in, forbidden_in, parts_of, Names, word, mot, lower, min, upper, maj, first, pre, dic, sdic, not_word, not_mot, not_lower, not_min, not_upper, not_maj, not_first, not_pre, not_dic, not_sdic, cdic, tdic, nb, token, refused_texts, IsNamed, IsLexicalText, plain, negated, IsMaskText, named, lexical}
use Rattle.ux_masks.specs.declared.lexical.Parts.{Parts}
use Rattle.ux_fst2.specs.Masks.{behind_sign, codes_text, is_code_alone, is_name_sign, lemma_text, lexical_text, name_text, target_text}
use Rattle.ux_fst2.proofs.SpelledMasks.{all_forbidden, all_needed, first_code, form_target, later_codes, lemma_target, spelled, spelled_lemma, spelled_name, spelled_target}

needs_written : (needs : List (List ℕ)) →
    written (flat_map asked_text (all_needed needs)) ≡ flat_map (behind_sign PLUS) needs
needs_written [] = refl
needs_written (code ∷ needs) =
    ap (λ (t : List ℕ). PLUS ∷ t)
    (written-append (spelled_name code) (flat_map asked_text (all_needed needs))
    ∙ ap (λ (t : List ℕ). name_text code ++ t) (needs_written needs))

forbids_written : (forbids : List (List ℕ)) →
    written (flat_map asked_text (all_forbidden forbids)) ≡ flat_map (behind_sign TILDE) forbids
forbids_written [] = refl
forbids_written (code ∷ forbids) =
    ap (λ (t : List ℕ). TILDE ∷ t)
    (written-append (spelled_name code) (flat_map asked_text (all_forbidden forbids))
    ∙ ap (λ (t : List ℕ). name_text code ++ t) (forbids_written forbids))

names_written : (names : List (List ℕ)) →
    written (all_behind COLON (all_shielded is_name_sign names))
    ≡ flat_map (behind_sign COLON) names
names_written [] = refl
names_written (name ∷ names) =
    ap (λ (t : List ℕ). COLON ∷ t)
    (written-append (spelled_name name) (all_behind COLON (all_shielded is_name_sign names))
    ∙ ap (λ (t : List ℕ). name_text name ++ t) (names_written names))

abbrev pub plus_text : List (List ℕ) → List ℕ
plus_text needs = flat_map (behind_sign PLUS) needs

abbrev pub tilde_text : List (List ℕ) → List ℕ
tilde_text forbids = flat_map (behind_sign TILDE) forbids

abbrev pub colon_text : List (List ℕ) → List ℕ
colon_text names = flat_map (behind_sign COLON) names

-- what stands behind the target
abbrev rest_text : Parts → List ℕ
rest_text parts =
    (plus_text (later_codes parts.need) ++ tilde_text parts.forbid) ++ colon_text parts.infl

pub rest_written : (parts : Parts) →
    written (flat_map asked_text (all_needed (later_codes parts.need) ++ all_forbidden parts.forbid)
    ++ all_behind COLON (all_shielded is_name_sign parts.infl)) ≡ rest_text parts
rest_written parts =
    let needs = all_needed (later_codes parts.need) in
    let forbids = all_forbidden parts.forbid in
    let names = all_behind COLON (all_shielded is_name_sign parts.infl) in
    written-append (flat_map asked_text (needs ++ forbids)) names
    ∙ ap (λ (t : List ℕ). t ++ written names)
    (ap written (flat_map-append asked_text needs forbids)
    ∙ written-append (flat_map asked_text needs) (flat_map asked_text forbids)
    ∙ ap (λ (t : List ℕ). t ++ written (flat_map asked_text forbids))
    (needs_written (later_codes parts.need))
    ∙ ap (λ (t : List ℕ). plus_text (later_codes parts.need) ++ t) (forbids_written parts.forbid))
    ∙ ap (λ (t : List ℕ).
    (plus_text (later_codes parts.need) ++ tilde_text parts.forbid) ++ t) (names_written parts.infl)

-- a bare `=` means itself
byte_same : (b : ℕ) → byte_as EQUALS b ≡ b
byte_same b =
    cond_both (is_equals b) EQUALS b (λ x. x ≡ b) (λ e. sym (eqb-true b EQUALS e)) (λ e. refl)

-- a code means the text that it is written by
bare_means : (name : List Written) → All IsCodeCharacter name → written name ≡ meant name
bare_means [] are = refl
bare_means (protected b ∷ name) are =
    absurd (All-head IsCodeCharacter (protected b) name are)
bare_means (bare b ∷ name) are =
    ap (λ (t : List ℕ). b ∷ t) (bare_means name (All-tail IsCodeCharacter (bare b) name are))
    ∙ ap (λ (c : ℕ). c ∷ meant name) (sym (byte_same b))

code_means : (name : List Written) → IsCodeName name → written name ≡ meant name
code_means [] is = absurd is
code_means (protected b ∷ name) is = absurd is
code_means (bare b ∷ name) is =
    ap (λ (t : List ℕ). b ∷ t) (bare_means name is.1)
    ∙ ap (λ (c : ℕ). c ∷ meant name) (sym (byte_same b))

-- the first code, and the others
codes_split : (need : List (List ℕ)) →
    codes_text false need ≡ written (if_any (first_code need)) ++ plus_text (later_codes need)
codes_split [] = refl
codes_split (code ∷ later) = refl

lemma_written : (form lemma : List ℕ) →
    written (if_any (spelled_lemma form lemma)) ≡ lemma_text form lemma
lemma_written form lemma = by (bytes_eq lemma form)
  where
    by : (t : Bool) → written (if_any (if t then None else Some (spelled_name lemma)))
        ≡ (if t then [] else name_text lemma)
    by true = refl
    by false = refl

-- four parts behind a target and its dot, one by one
regroup : (target code needs forbids names : List ℕ) →
    (target ++ DOT ∷ code) ++ ((needs ++ forbids) ++ names)
    ≡ (target ++ DOT ∷ []) ++ ((code ++ needs) ++ (forbids ++ names))
regroup target code needs forbids names =
    append_assoc target (DOT ∷ code) ((needs ++ forbids) ++ names)
    ∙ ap (λ (t : List ℕ). target ++ DOT ∷ (code ++ t)) (append_assoc needs forbids names)
    ∙ ap (λ (t : List ℕ). target ++ DOT ∷ t) (sym (append_assoc code needs (forbids ++ names)))
    ∙ sym (append_assoc target (DOT ∷ []) ((code ++ needs) ++ (forbids ++ names)))

module _ (need forbid infl : List (List ℕ)) where
  abbrev Tail : List ℕ
  Tail = (plus_text (later_codes need) ++ tilde_text forbid) ++ colon_text infl

  abbrev Code : List ℕ
  Code = written (if_any (first_code need))

  -- a target that isn't a code alone, and all behind it
  behind_dot : (target : List ℕ) →
      (target ++ DOT ∷ Code) ++ Tail
      ≡ (target ++ DOT ∷ []) ++ (codes_text false need ++ (tilde_text forbid ++ colon_text infl))
  behind_dot target =
      regroup target Code (plus_text (later_codes need)) (tilde_text forbid) (colon_text infl)
      ∙ ap (λ (t : List ℕ). (target ++ DOT ∷ []) ++ (t ++ (tilde_text forbid ++ colon_text infl)))
      (sym (codes_split need))

  lemma_whole : (lemma : List ℕ) →
      written (masks.target_text (lemma_target lemma need)) ++ Tail
      ≡ target_text None (Some lemma)
      ++ (codes_text false need ++ (tilde_text forbid ++ colon_text infl))
  lemma_whole lemma =
      ap (λ (t : List ℕ). t ++ Tail)
      (written-append (spelled_name lemma) (bare DOT ∷ if_any (first_code need)))
      ∙ behind_dot (name_text lemma)

  form_whole : (form lemma : List ℕ) →
      written (masks.target_text (form_target form lemma need)) ++ Tail
      ≡ target_text (Some form) (Some lemma)
      ++ (codes_text false need ++ (tilde_text forbid ++ colon_text infl))
  form_whole form lemma =
      let l = if_any (spelled_lemma form lemma) in
      let front = name_text form ++ COMMA ∷ lemma_text form lemma in
      let end = codes_text false need ++ (tilde_text forbid ++ colon_text infl) in
      let front_written : written (masks.target_text (form_target form lemma need))
      ≡ front ++ DOT ∷ Code =
      written-append (spelled_name form) (bare COMMA ∷ (l ++ bare DOT ∷ if_any (first_code need)))
      ∙ ap (λ (t : List ℕ). name_text form ++ COMMA ∷ t)
      (written-append l (bare DOT ∷ if_any (first_code need))
      ∙ ap (λ (t : List ℕ). t ++ DOT ∷ Code) (lemma_written form lemma))
      ∙ sym (append_assoc (name_text form) (COMMA ∷ lemma_text form lemma) (DOT ∷ Code)) in
      ap (λ (t : List ℕ). t ++ Tail) front_written ∙ behind_dot front
      ∙ ap (λ (t : List ℕ). t ++ end)
      (append_assoc (name_text form) (COMMA ∷ lemma_text form lemma) (DOT ∷ []))

target_whole : (target : Target) (asked forbid infl : List (List ℕ)) → IsTarget target →
    written (masks.target_text (spelled_target target (code_in target ++ asked)))
    ++ ((plus_text (later_codes (code_in target ++ asked)) ++ tilde_text forbid) ++ colon_text infl)
    ≡ target_text (form_in target) (lemma_in target)
    ++ (codes_text (is_code_alone (form_in target) (lemma_in target)) (code_in target ++ asked)
    ++ (tilde_text forbid ++ colon_text infl))
target_whole (a_code name) asked forbid infl is =
    ap (λ (t : List ℕ). written name ++ t)
    (append_assoc (plus_text asked) (tilde_text forbid) (colon_text infl))
    ∙ sym (append_assoc (written name) (plus_text asked) (tilde_text forbid ++ colon_text infl))
    ∙ ap (λ (t : List ℕ). (t ++ plus_text asked) ++ (tilde_text forbid ++ colon_text infl))
    (code_means name is.1)
target_whole (a_lemma name) asked forbid infl is = lemma_whole asked forbid infl (meant name)
target_whole (a_lemma_with lemma code) asked forbid infl is =
    lemma_whole (codes_if_any code ++ asked) forbid infl (meant lemma)
target_whole (a_form form lemma) asked forbid infl is =
    form_whole asked forbid infl (meant form) (lemma_or form lemma)
target_whole (a_form_with form lemma code) asked forbid infl is =
    form_whole (codes_if_any code ++ asked) forbid infl (meant form) (lemma_or form lemma)

pub body_written : (body : Body) → IsBody body →
    written (body_text (spelled body)) ≡ lexical_text (parts_of body)
body_written body is =
    let p = parts_of body in
    let more = spelled body in
    written-append (masks.target_text more.target)
    (flat_map asked_text more.asked ++ all_behind COLON more.alternatives)
    ∙ ap (λ (t : List ℕ). written (masks.target_text more.target) ++ t) (rest_written p)
    ∙ target_whole body.target (flat_map needed_in body.asked) p.forbid p.infl is.target
