-- Tags.
use Rattle.std.proofs.Common.{◌≡◌, ℕ, List, ◌∷◌, true, false, refl, sym, ◌∙◌, ap, subst}
use Rattle.std.specs.Prelude.{◌==◌, ◌||◌, if◌then◌else◌}
use Rattle.std.proofs.lemmas.Bool.{or_from, cond-false}
use Rattle.ux_dela.specs.Signs.{BACKSLASH, is_comma, is_dot, is_slash, is_equals, is_plus, is_colon}
use Rattle.ux_dela.specs.Written.{Written, bare, protected}
use Rattle.ux_dela.specs.Reading.{characters, characters_from}
use Rattle.ux_dela.proofs.CharactersLemmas.{characters_bare}
use Rattle.ux_tokens.specs.declared.tails.Tails.{Tails}
use Rattle.ux_tokens.specs.Tails.{Part, no_part, before_form, form, lemma, before_code, code, before_feature, feature, inside, behind, is_tail, AreTails}

-- the byte is no sign of a body
pub record IsOwn (b : ℕ) : Type 0 where
  pub comma : is_comma b ≡ false
  pub dot : is_dot b ≡ false
  pub equals : is_equals b ≡ false
  pub plus : is_plus b ≡ false
  pub colon : is_colon b ≡ false
  pub slash : is_slash b ≡ false

behind_own : (part : Part) (b : ℕ) → IsOwn b → behind part b ≡ inside part
behind_own no_part b own = refl
behind_own before_form b own =
    cond-false (is_comma b || (is_equals b || is_slash b)) no_part form
    (or_from (is_comma b) (is_equals b || is_slash b) own.comma
    (or_from (is_equals b) (is_slash b) own.equals own.slash))
behind_own form b own =
    cond-false (is_comma b) lemma (if is_equals b then no_part else form) own.comma
    ∙ cond-false (is_equals b) no_part form own.equals
behind_own lemma b own =
    cond-false (is_dot b) before_code (if is_equals b then no_part else lemma) own.dot
    ∙ cond-false (is_equals b) no_part lemma own.equals
behind_own before_code b own =
    cond-false (is_plus b || (is_colon b || is_slash b)) no_part code
    (or_from (is_plus b) (is_colon b || is_slash b) own.plus
    (or_from (is_colon b) (is_slash b) own.colon own.slash))
behind_own code b own =
    cond-false (is_plus b) before_code
    (if is_colon b then before_feature else (if is_slash b then no_part else code)) own.plus
    ∙ cond-false (is_colon b) before_feature (if is_slash b then no_part else code) own.colon
    ∙ cond-false (is_slash b) no_part code own.slash
behind_own before_feature b own =
    cond-false (is_colon b || is_slash b) no_part feature
    (or_from (is_colon b) (is_slash b) own.colon own.slash)
behind_own feature b own =
    cond-false (is_colon b) before_feature (if is_slash b then no_part else feature) own.colon
    ∙ cond-false (is_slash b) no_part feature own.slash

-- a bare byte that is no sign is as a protected one
pub own_tails : (tails : Tails) (b : ℕ) (w : List Written) → IsOwn b →
    AreTails tails (protected b ∷ w) → AreTails tails (bare b ∷ w)
own_tails tails b w own h =
    let go : (part : Part) → is_tail (inside part) w ≡ is_tail (behind part b) w =
    λ part. ap (λ (p : Part). is_tail p w) (sym (behind_own part b own)) in
    record {
      is_before_form = h.is_before_form ∙ go before_form;
      is_form = h.is_form ∙ go form;
      is_lemma = h.is_lemma ∙ go lemma;
      is_before_code = h.is_before_code ∙ go before_code;
      is_code = h.is_code ∙ go code;
      is_before_feature = h.is_before_feature ∙ go before_feature;
      is_feature = h.is_feature ∙ go feature;
    }

-- what stands after a backslash is protected
pub behind_backslash : (tails : Tails) (b : ℕ) (text : List ℕ) → b ≡ BACKSLASH →
    AreTails tails (characters_from true text) → AreTails tails (characters (b ∷ text))
behind_backslash tails b text is are =
    subst (λ (x : ℕ). AreTails tails (characters (x ∷ text))) (sym is) are

-- and another byte is bare
pub behind_byte : (tails : Tails) (b : ℕ) (text : List ℕ) → (b == BACKSLASH) ≡ false →
    AreTails tails (bare b ∷ characters text) → AreTails tails (characters (b ∷ text))
behind_byte tails b text other are =
    subst (λ (w : List Written). AreTails tails w) (sym (characters_bare b text other)) are
