-- The characters of a tag's body go from the form's begin to a body's end.
use Rattle.std.proofs.Common.{arith, ◌≡◌, ◌≢◌, ℕ, List, [], ◌∷◌, ◌++◌, Bool, true, false, refl, sym, ◌∙◌, ap, subst, length, append_assoc, append-nil}
use Rattle.std.specs.Prelude.{◌==◌, ◌||◌, if◌then◌else◌}
use Rattle.std.proofs.lemmas.Bool.{or_parts, or_from, cond-true, cond-false, eqb-true, false_from_ne_true}
use Rattle.ux_dela.specs.Signs.{BACKSLASH, COMMA, DOT, PLUS, COLON, SLASH, SPACE, HYPHEN, EQUALS, is_comma, is_dot, is_slash, is_equals, is_plus, is_colon, is_code_sign}
use Rattle.ux_dela.specs.Written.{Written, bare, protected, written, IsPart, is_end, has_bare, all_behind}
use Rattle.ux_dela.specs.Codes.{IsCode, AreCodes, IsCodeList}
use Rattle.ux_dela.specs.Delaf.{DelafParts, IsSkipped, entries_of, entry_as, has_mark}
use Rattle.ux_dela.specs.Tag.{IsTagBody}
use Rattle.ux_dela.specs.Reading.{characters}
use Rattle.ux_dela.specs.declared.entry.Entry.{Entry}
use Rattle.ux_dela.proofs.CharactersLemmas.{IsPart-front, IsPart-rest}
use Rattle.ux_dela.proofs.ExclusionLemmas.{cut_read}
use Rattle.ux_tokens.specs.Tails.{Part, no_part, before_form, form, lemma, before_code, code, before_feature, feature, is_tail}

no_sign : (stops : ℕ → Bool) (b : ℕ) → is_end stops b ≡ false → stops b ≡ false
no_sign stops b p = (or_parts (b == BACKSLASH) (stops b) p).1

form_through : (v w : List Written) → IsPart is_comma v → has_bare is_equals v ≡ false →
    is_tail form (v ++ w) ≡ is_tail form w
form_through [] w p m = refl
form_through (protected b ∷ v) w p m = form_through v w p m
form_through (bare b ∷ v) w p m =
    let parts = or_parts (is_equals b) (has_bare is_equals v) m in
    ap (λ (s : Part). is_tail s (v ++ w))
    (cond-false (is_comma b) lemma (if is_equals b then no_part else form) (no_sign is_comma b p.0)
    ∙ cond-false (is_equals b) no_part form parts.0)
    ∙ form_through v w p.1 parts.1

form_begins : (v w : List Written) → v ≢ [] → IsPart is_comma v → has_bare is_equals v ≡ false →
    ((b : ℕ) (u : List Written) → v ≡ bare b ∷ u → is_slash b ≡ false) →
    is_tail before_form (v ++ w) ≡ is_tail form w
form_begins [] w some p m first = absurd (some refl)
form_begins (protected b ∷ v) w some p m first = form_through v w p m
form_begins (bare b ∷ v) w some p m first =
    let parts = or_parts (is_equals b) (has_bare is_equals v) m in
    ap (λ (s : Part). is_tail s (v ++ w))
    (cond-false (is_comma b || (is_equals b || is_slash b)) no_part form
    (or_from (is_comma b) (is_equals b || is_slash b) (no_sign is_comma b p.0)
    (or_from (is_equals b) (is_slash b) parts.0 (first b v refl))))
    ∙ form_through v w p.1 parts.1

lemma_through : (v w : List Written) → IsPart is_dot v → has_bare is_equals v ≡ false →
    is_tail lemma (v ++ w) ≡ is_tail lemma w
lemma_through [] w p m = refl
lemma_through (protected b ∷ v) w p m = lemma_through v w p m
lemma_through (bare b ∷ v) w p m =
    let parts = or_parts (is_equals b) (has_bare is_equals v) m in
    ap (λ (s : Part). is_tail s (v ++ w))
    (cond-false (is_dot b) before_code (if is_equals b then no_part else lemma)
    (no_sign is_dot b p.0)
    ∙ cond-false (is_equals b) no_part lemma parts.0)
    ∙ lemma_through v w p.1 parts.1

code_through : (v w : List Written) → IsPart is_code_sign v → IsPart is_slash v →
    is_tail code (v ++ w) ≡ is_tail code w
code_through [] w p q = refl
code_through (protected b ∷ v) w p q = code_through v w p q
code_through (bare b ∷ v) w p q =
    let parts = or_parts (is_plus b) (is_colon b) (no_sign is_code_sign b p.0) in
    ap (λ (s : Part). is_tail s (v ++ w))
    (cond-false (is_plus b) before_code
    (if is_colon b then before_feature else (if is_slash b then no_part else code)) parts.0
    ∙ cond-false (is_colon b) before_feature (if is_slash b then no_part else code) parts.1
    ∙ cond-false (is_slash b) no_part code (no_sign is_slash b q.0))
    ∙ code_through v w p.1 q.1

code_begins : (v w : List Written) → IsCode is_code_sign v → IsPart is_slash v →
    is_tail before_code (v ++ w) ≡ is_tail code w
code_begins [] w p q = absurd (p.some refl)
code_begins (protected b ∷ v) w p q = code_through v w p.part q
code_begins (bare b ∷ v) w p q =
    let parts = or_parts (is_plus b) (is_colon b) (no_sign is_code_sign b p.part.0) in
    ap (λ (s : Part). is_tail s (v ++ w))
    (cond-false (is_plus b || (is_colon b || is_slash b)) no_part code
    (or_from (is_plus b) (is_colon b || is_slash b) parts.0
    (or_from (is_colon b) (is_slash b) parts.1 (no_sign is_slash b q.0))))
    ∙ code_through v w p.part.1 q.1

feature_through : (v w : List Written) → IsPart is_colon v → IsPart is_slash v →
    is_tail feature (v ++ w) ≡ is_tail feature w
feature_through [] w p q = refl
feature_through (protected b ∷ v) w p q = feature_through v w p q
feature_through (bare b ∷ v) w p q =
    ap (λ (s : Part). is_tail s (v ++ w))
    (cond-false (is_colon b) before_feature (if is_slash b then no_part else feature)
    (no_sign is_colon b p.0)
    ∙ cond-false (is_slash b) no_part feature (no_sign is_slash b q.0))
    ∙ feature_through v w p.1 q.1

feature_begins : (v w : List Written) → IsCode is_colon v → IsPart is_slash v →
    is_tail before_feature (v ++ w) ≡ is_tail feature w
feature_begins [] w p q = absurd (p.some refl)
feature_begins (protected b ∷ v) w p q = feature_through v w p.part q
feature_begins (bare b ∷ v) w p q =
    ap (λ (s : Part). is_tail s (v ++ w))
    (cond-false (is_colon b || is_slash b) no_part feature
    (or_from (is_colon b) (is_slash b) (no_sign is_colon b p.part.0) (no_sign is_slash b q.0)))
    ∙ feature_through v w p.part.1 q.1

sem_through : (sem : List (List Written)) (w : List Written) → AreCodes is_code_sign sem →
    IsPart is_slash (all_behind PLUS sem) → is_tail code (all_behind PLUS sem ++ w) ≡ is_tail code w
sem_through [] w are q = refl
sem_through (c ∷ sem) w are q =
    ap (is_tail before_code) (append_assoc c (all_behind PLUS sem) w)
    ∙ code_begins c (all_behind PLUS sem ++ w) are.0 (IsPart-front is_slash c (all_behind PLUS sem) q.1)
    ∙ sem_through sem w are.1 (IsPart-rest is_slash c (all_behind PLUS sem) q.1)

infl_through : (infl : List (List Written)) → AreCodes is_colon infl →
    IsPart is_slash (all_behind COLON infl) → is_tail feature (all_behind COLON infl) ≡ true
infl_through [] are q = refl
infl_through (c ∷ infl) are q =
    feature_begins c (all_behind COLON infl) are.0
    (IsPart-front is_slash c (all_behind COLON infl) q.1)
    ∙ infl_through infl are.1 (IsPart-rest is_slash c (all_behind COLON infl) q.1)

infl_begins : (infl : List (List Written)) → AreCodes is_colon infl →
    IsPart is_slash (all_behind COLON infl) → is_tail code (all_behind COLON infl) ≡ true
infl_begins [] are q = refl
infl_begins (c ∷ infl) are q =
    feature_begins c (all_behind COLON infl) are.0
    (IsPart-front is_slash c (all_behind COLON infl) q.1)
    ∙ infl_through infl are.1 (IsPart-rest is_slash c (all_behind COLON infl) q.1)

codes_end : (codes gram : List Written) (sem infl : List (List Written)) →
    IsCodeList codes gram sem infl → IsPart is_slash codes → is_tail before_code codes ≡ true
codes_end codes gram sem infl list q =
    let behind_gram = all_behind PLUS sem ++ all_behind COLON infl in
    let all : IsPart is_slash (gram ++ behind_gram) =
    subst (λ (w : List Written). IsPart is_slash w) list.whole q in
    let rest = IsPart-rest is_slash gram behind_gram all in
    ap (is_tail before_code) list.whole
    ∙ code_begins gram behind_gram list.is_gram (IsPart-front is_slash gram behind_gram all)
    ∙ sem_through sem (all_behind COLON infl) list.are_sem
    (IsPart-front is_slash (all_behind PLUS sem) (all_behind COLON infl) rest)
    ∙ infl_begins infl list.are_infl
    (IsPart-rest is_slash (all_behind PLUS sem) (all_behind COLON infl) rest)

-- one entry comes of parts without a mark
one_entry : (p : DelafParts) (entry : Entry) → entries_of p ≡ entry ∷ [] → has_mark p ≡ false
one_entry p entry e =
    false_from_ne_true (has_mark p)
    (λ mark.
    (let two : entries_of p ≡ entry_as SPACE p ∷ (entry_as HYPHEN p ∷ []) =
    cond-true (has_mark p) (entry_as SPACE p ∷ (entry_as HYPHEN p ∷ [])) (entry_as EQUALS p ∷ [])
    mark in
    omega (arith, ap length (sym two ∙ e))))

-- a form that counts doesn't begin with a slash
not_slash : (body comment : List ℕ) (f : List Written) (rest : List Written) →
    (IsSkipped body → ⊥) → body ≡ written (f ++ rest) ++ comment →
    (b : ℕ) (u : List Written) → f ≡ bare b ∷ u → is_slash b ≡ false
not_slash body comment f rest counts whole b u is =
    false_from_ne_true (is_slash b)
    (λ slash.
    (let first : body ≡ b ∷ (written (u ++ rest) ++ comment) =
    whole ∙ ap (λ v. written (v ++ rest) ++ comment) is in
    counts (subst IsSkipped (sym first) (eqb-true b SLASH slash))))

-- the characters of a tag's body go from the form's begin to the end
pub body_tail : (body : List ℕ) (entry : Entry) → IsTagBody body entry →
    is_tail before_form (characters body) ≡ true
body_tail body entry is =
    let p = is.parts in
    let cut = is.line.cut in
    let coded = p.lemma ++ bare DOT ∷ p.codes in
    let marks = or_parts (has_bare is_equals p.form) (has_bare is_equals p.lemma)
    (one_entry p entry is.alone) in
    let behind_dot : p.codes ++ characters p.comment ≡ p.codes =
    ap (λ (t : List ℕ). p.codes ++ characters t) is.no_comment ∙ append-nil p.codes in
    let read : characters body ≡ p.form ++ bare COMMA ∷ coded =
    cut_read body p.form p.lemma p.codes p.comment cut
    ∙ ap (λ t. p.form ++ bare COMMA ∷ (p.lemma ++ bare DOT ∷ t)) behind_dot in
    ap (is_tail before_form) read
    ∙ form_begins p.form (bare COMMA ∷ coded) is.line.some_form cut.is_form marks.0
    (not_slash body p.comment p.form (bare COMMA ∷ coded) is.line.counts cut.whole)
    ∙ lemma_through p.lemma (bare DOT ∷ p.codes) cut.is_lemma marks.1
    ∙ codes_end p.codes p.gram p.sem p.infl is.line.list cut.are_codes
