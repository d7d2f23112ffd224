-- A text is a tag's body exactly where its characters go from the form's begin to a body's end.
use Rattle.std.proofs.Common.{◌≡◌, ◌≢◌, ℕ, List, [], ◌∷◌, ◌++◌, Bool, true, false, refl, sym, ◌∙◌, ap, subst, append_assoc, append-nil}
use Rattle.std.specs.Prelude.{◌==◌, ◌||◌, if◌then◌else◌}
use Rattle.std.proofs.lemmas.Bool.{or_parts, or_from, cond-false, cond_both, eqb-true, false≢true}
use Rattle.ux_dela.specs.Signs.{BACKSLASH, COMMA, DOT, PLUS, COLON, SPACE, HYPHEN, EQUALS, is_brace, is_comma, is_dot, is_slash, is_equals, is_plus, is_colon, is_code_sign}
use Rattle.ux_dela.specs.Written.{Written, bare, protected, written, IsPart, is_end, has_bare, all_behind}
use Rattle.ux_dela.specs.Codes.{AreCodes}
use Rattle.ux_dela.specs.Delaf.{DelafParts, IsSkipped, entry_as, has_mark}
use Rattle.ux_dela.specs.Sound.{HasNoFeed}
use Rattle.ux_dela.specs.Tag.{IsTagBody}
use Rattle.ux_dela.specs.Reading.{characters}
use Rattle.ux_dela.specs.declared.entry.Entry.{Entry}
use Rattle.ux_dela.proofs.CharactersLemmas.{written-characters}
use Rattle.ux_tokens.specs.Tails.{Part, no_part, before_form, form, lemma, before_code, code, before_feature, feature, is_tail}

-- nothing goes on from no part
pub nowhere : (w : List Written) → is_tail no_part w ≡ true → ⊥
nowhere [] e = false≢true e
nowhere (bare b ∷ w) e = nowhere w e
nowhere (protected b ∷ w) e = nowhere w e

pub not_on : (w : List Written) → false ≡ is_tail no_part w
not_on [] = refl
not_on (bare b ∷ w) = not_on w
not_on (protected b ∷ w) = not_on w

-- the rest of an inflection code, and those after it
record IsFeature (w : List Written) : Type 0 where
  pub own : List Written
  pub infl : List (List Written)
  pub whole : w ≡ own ++ all_behind COLON infl
  pub is_own : IsPart is_colon own
  pub are_infl : AreCodes is_colon infl

-- the rest of a code, and the codes after it
record IsCodes (w : List Written) : Type 0 where
  pub own : List Written
  pub sem : List (List Written)
  pub infl : List (List Written)
  pub whole : w ≡ own ++ (all_behind PLUS sem ++ all_behind COLON infl)
  pub is_own : IsPart is_code_sign own
  pub are_sem : AreCodes is_code_sign sem
  pub are_infl : AreCodes is_colon infl

-- the rest of a lemma, and the codes
record IsLemma (w : List Written) : Type 0 where
  pub own : List Written
  pub coded : List Written
  pub codes : IsCodes coded
  pub some : codes.own ≢ []
  pub whole : w ≡ own ++ bare DOT ∷ coded
  pub is_own : IsPart is_dot own
  pub no_mark : has_bare is_equals own ≡ false
  pub no_slash : IsPart is_slash coded

-- the rest of a form, and the lemma with the codes
record IsForm (w : List Written) : Type 0 where
  pub own : List Written
  pub rest : List Written
  pub lemma_rest : IsLemma rest
  pub whole : w ≡ own ++ bare COMMA ∷ rest
  pub is_own : IsPart is_comma own
  pub no_mark : has_bare is_equals own ≡ false

-- what goes on from a part
abbrev Rest : Part → List Written → Type 0
Rest no_part w = ⊥
Rest before_form w = (f : IsForm w) × (f.own ≢ [])
Rest form w = IsForm w
Rest lemma w = IsLemma w
Rest before_code w = (c : IsCodes w) × (c.own ≢ [])
Rest code w = IsCodes w
Rest before_feature w = (c : IsFeature w) × (c.own ≢ [])
Rest feature w = IsFeature w

feature_more : (x : Written) (w : List Written) → IsPart is_colon (x ∷ []) → IsFeature w →
    (c : IsFeature (x ∷ w)) × (c.own ≢ [])
feature_more (bare b) w p r = (
  record {
    own = bare b ∷ r.own;
    infl = r.infl;
    whole = ap (λ t. bare b ∷ t) r.whole;
    is_own = (p.0, r.is_own);
    are_infl = r.are_infl;
  },
  λ none. cc,
)
feature_more (protected b) w p r = (
  record {
    own = protected b ∷ r.own;
    infl = r.infl;
    whole = ap (λ t. protected b ∷ t) r.whole;
    is_own = r.is_own;
    are_infl = r.are_infl;
  },
  λ none. cc,
)

codes_more : (x : Written) (w : List Written) → IsPart is_code_sign (x ∷ []) → IsCodes w →
    (c : IsCodes (x ∷ w)) × (c.own ≢ [])
codes_more (bare b) w p r = (
  record {
    own = bare b ∷ r.own;
    sem = r.sem;
    infl = r.infl;
    whole = ap (λ t. bare b ∷ t) r.whole;
    is_own = (p.0, r.is_own);
    are_sem = r.are_sem;
    are_infl = r.are_infl;
  },
  λ none. cc,
)
codes_more (protected b) w p r = (
  record {
    own = protected b ∷ r.own;
    sem = r.sem;
    infl = r.infl;
    whole = ap (λ t. protected b ∷ t) r.whole;
    is_own = r.is_own;
    are_sem = r.are_sem;
    are_infl = r.are_infl;
  },
  λ none. cc,
)

lemma_more : (x : Written) (w : List Written) → IsPart is_dot (x ∷ []) →
    has_bare is_equals (x ∷ []) ≡ false → IsLemma w → IsLemma (x ∷ w)
lemma_more (bare b) w p m r = record {
  own = bare b ∷ r.own;
  coded = r.coded;
  codes = r.codes;
  some = r.some;
  whole = ap (λ t. bare b ∷ t) r.whole;
  is_own = (p.0, r.is_own);
  no_mark = or_from (is_equals b) (has_bare is_equals r.own)
      (or_parts (is_equals b) false m).0 r.no_mark;
  no_slash = r.no_slash;
}
lemma_more (protected b) w p m r = record {
  own = protected b ∷ r.own;
  coded = r.coded;
  codes = r.codes;
  some = r.some;
  whole = ap (λ t. protected b ∷ t) r.whole;
  is_own = r.is_own;
  no_mark = r.no_mark;
  no_slash = r.no_slash;
}

form_more : (x : Written) (w : List Written) → IsPart is_comma (x ∷ []) →
    has_bare is_equals (x ∷ []) ≡ false → IsForm w → (f : IsForm (x ∷ w)) × (f.own ≢ [])
form_more (bare b) w p m r = (
  record {
    own = bare b ∷ r.own;
    rest = r.rest;
    lemma_rest = r.lemma_rest;
    whole = ap (λ t. bare b ∷ t) r.whole;
    is_own = (p.0, r.is_own);
    no_mark = or_from (is_equals b) (has_bare is_equals r.own)
        (or_parts (is_equals b) false m).0 r.no_mark;
  },
  λ none. cc,
)
form_more (protected b) w p m r = (
  record {
    own = protected b ∷ r.own;
    rest = r.rest;
    lemma_rest = r.lemma_rest;
    whole = ap (λ t. protected b ∷ t) r.whole;
    is_own = r.is_own;
    no_mark = r.no_mark;
  },
  λ none. cc,
)

-- a sign is that sign's byte
is_sign : (b c : ℕ) (w : List Written) → (b == c) ≡ true → bare b ∷ w ≡ bare c ∷ w
is_sign b c w e = ap (λ x. bare x ∷ w) (eqb-true b c e)

infl_more : (b : ℕ) (w : List Written) → is_colon b ≡ true →
    ((c : IsFeature w) × (c.own ≢ [])) → IsFeature (bare b ∷ w)
infl_more b w colon (r, some) = record {
  own = [];
  infl = r.own ∷ r.infl;
  whole = is_sign b COLON w colon ∙ ap (λ t. bare COLON ∷ t) r.whole;
  is_own = tt;
  are_infl = (record { some = some; part = r.is_own }, r.are_infl);
}

codes_infl : (b : ℕ) (w : List Written) → is_colon b ≡ true →
    ((c : IsFeature w) × (c.own ≢ [])) → IsCodes (bare b ∷ w)
codes_infl b w colon (r, some) = record {
  own = [];
  sem = [];
  infl = r.own ∷ r.infl;
  whole = is_sign b COLON w colon ∙ ap (λ t. bare COLON ∷ t) r.whole;
  is_own = tt;
  are_sem = tt;
  are_infl = (record { some = some; part = r.is_own }, r.are_infl);
}

codes_sem : (b : ℕ) (w : List Written) → is_plus b ≡ true →
    ((c : IsCodes w) × (c.own ≢ [])) → IsCodes (bare b ∷ w)
codes_sem b w plus (r, some) = record {
  own = [];
  sem = r.own ∷ r.sem;
  infl = r.infl;
  whole = is_sign b PLUS w plus ∙ ap (λ t. bare PLUS ∷ t) (r.whole
      ∙ sym (append_assoc r.own (all_behind PLUS r.sem) (all_behind COLON r.infl)));
  is_own = tt;
  are_sem = (record { some = some; part = r.is_own }, r.are_sem);
  are_infl = r.are_infl;
}

lemma_codes : (b : ℕ) (w : List Written) → is_dot b ≡ true → IsPart is_slash w →
    ((c : IsCodes w) × (c.own ≢ [])) → IsLemma (bare b ∷ w)
lemma_codes b w dot no_slash (r, some) = record {
  own = [];
  coded = w;
  codes = r;
  some = some;
  whole = is_sign b DOT w dot;
  is_own = tt;
  no_mark = refl;
  no_slash = no_slash;
}

form_lemma : (b : ℕ) (w : List Written) → is_comma b ≡ true → IsLemma w → IsForm (bare b ∷ w)
form_lemma b w comma r = record {
  own = [];
  rest = w;
  lemma_rest = r;
  whole = is_sign b COMMA w comma;
  is_own = tt;
  no_mark = refl;
}

-- the parts of the codes
abbrev IsCoding : Part → Type 0
IsCoding no_part = ⊥
IsCoding before_form = ⊥
IsCoding form = ⊥
IsCoding lemma = ⊥
IsCoding before_code = Unit {0}
IsCoding code = Unit {0}
IsCoding before_feature = Unit {0}
IsCoding feature = Unit {0}

-- a character that is no backslash and no such sign is one of the part
own_sign : (stops : ℕ → Bool) (b : ℕ) → is_end is_brace b ≡ false → stops b ≡ false →
    is_end stops b ≡ false
own_sign stops b p other =
    or_from (b == BACKSLASH) (stops b) (or_parts (b == BACKSLASH) (is_brace b) p).0 other

no_slash_in : (part : Part) (w : List Written) → IsCoding part → IsPart is_brace w →
    is_tail part w ≡ true → IsPart is_slash w
no_slash_in part [] coding p e = tt
no_slash_in no_part (x ∷ w) coding p e = absurd coding
no_slash_in before_form (x ∷ w) coding p e = absurd coding
no_slash_in form (x ∷ w) coding p e = absurd coding
no_slash_in lemma (x ∷ w) coding p e = absurd coding
no_slash_in before_code (protected b ∷ w) coding p e = no_slash_in code w tt p e
no_slash_in code (protected b ∷ w) coding p e = no_slash_in code w tt p e
no_slash_in before_feature (protected b ∷ w) coding p e = no_slash_in feature w tt p e
no_slash_in feature (protected b ∷ w) coding p e = no_slash_in feature w tt p e
no_slash_in before_code (bare b ∷ w) coding p e =
    cond_both (is_plus b || (is_colon b || is_slash b)) no_part code
    (λ s. is_tail s w ≡ true → IsPart is_slash (bare b ∷ w))
    (λ sign t. absurd (nowhere w t))
    (λ other t. (
      own_sign is_slash b p.0
          (or_parts (is_colon b) (is_slash b) (or_parts (is_plus b) (is_colon b || is_slash b) other).1).1,
      no_slash_in code w tt p.1 t,
    )) e
no_slash_in code (bare b ∷ w) coding p e =
    cond_both (is_plus b) before_code
    (if is_colon b then before_feature else (if is_slash b then no_part else code))
    (λ s. is_tail s w ≡ true → IsPart is_slash (bare b ∷ w))
    (λ plus t. (
      subst (λ x. is_end is_slash x ≡ false) (sym (eqb-true b PLUS plus)) refl,
      no_slash_in before_code w tt p.1 t,
    ))
    (λ no_plus.
    cond_both (is_colon b) before_feature (if is_slash b then no_part else code)
    (λ s. is_tail s w ≡ true → IsPart is_slash (bare b ∷ w))
    (λ colon t. (
      subst (λ x. is_end is_slash x ≡ false) (sym (eqb-true b COLON colon)) refl,
      no_slash_in before_feature w tt p.1 t,
    ))
    (λ no_colon.
    cond_both (is_slash b) no_part code
    (λ s. is_tail s w ≡ true → IsPart is_slash (bare b ∷ w))
    (λ slash t. absurd (nowhere w t))
    (λ other t. (own_sign is_slash b p.0 other, no_slash_in code w tt p.1 t)))) e
no_slash_in before_feature (bare b ∷ w) coding p e =
    cond_both (is_colon b || is_slash b) no_part feature
    (λ s. is_tail s w ≡ true → IsPart is_slash (bare b ∷ w))
    (λ sign t. absurd (nowhere w t))
    (λ other t. (
      own_sign is_slash b p.0 (or_parts (is_colon b) (is_slash b) other).1,
      no_slash_in feature w tt p.1 t,
    )) e
no_slash_in feature (bare b ∷ w) coding p e =
    cond_both (is_colon b) before_feature (if is_slash b then no_part else feature)
    (λ s. is_tail s w ≡ true → IsPart is_slash (bare b ∷ w))
    (λ colon t. (
      subst (λ x. is_end is_slash x ≡ false) (sym (eqb-true b COLON colon)) refl,
      no_slash_in before_feature w tt p.1 t,
    ))
    (λ no_colon.
    cond_both (is_slash b) no_part feature
    (λ s. is_tail s w ≡ true → IsPart is_slash (bare b ∷ w))
    (λ slash t. absurd (nowhere w t))
    (λ other t. (own_sign is_slash b p.0 other, no_slash_in feature w tt p.1 t))) e

-- what goes on from a part is the rest of one
tail_rest : (part : Part) (w : List Written) → IsPart is_brace w → is_tail part w ≡ true →
    Rest part w
tail_rest no_part w p e = nowhere w e
tail_rest before_form [] p e = absurd (false≢true e)
tail_rest form [] p e = absurd (false≢true e)
tail_rest lemma [] p e = absurd (false≢true e)
tail_rest before_code [] p e = absurd (false≢true e)
tail_rest before_feature [] p e = absurd (false≢true e)
tail_rest code [] p e =
    record { own = []; sem = []; infl = []; whole = refl; is_own = tt; are_sem = tt; are_infl = tt }
tail_rest feature [] p e =
    record { own = []; infl = []; whole = refl; is_own = tt; are_infl = tt }
tail_rest before_form (protected b ∷ w) p e = form_more (protected b) w tt refl (tail_rest form w p e)
tail_rest form (protected b ∷ w) p e = (form_more (protected b) w tt refl (tail_rest form w p e)).0
tail_rest lemma (protected b ∷ w) p e = lemma_more (protected b) w tt refl (tail_rest lemma w p e)
tail_rest before_code (protected b ∷ w) p e = codes_more (protected b) w tt (tail_rest code w p e)
tail_rest code (protected b ∷ w) p e = (codes_more (protected b) w tt (tail_rest code w p e)).0
tail_rest before_feature (protected b ∷ w) p e =
    feature_more (protected b) w tt (tail_rest feature w p e)
tail_rest feature (protected b ∷ w) p e =
    (feature_more (protected b) w tt (tail_rest feature w p e)).0
tail_rest before_form (bare b ∷ w) p e =
    cond_both (is_comma b || (is_equals b || is_slash b)) no_part form
    (λ s. is_tail s w ≡ true → Rest before_form (bare b ∷ w))
    (λ sign t. absurd (nowhere w t))
    (λ other t.
    (let parts = or_parts (is_comma b) (is_equals b || is_slash b) other in
    form_more (bare b) w (own_sign is_comma b p.0 parts.0, tt)
    (or_from (is_equals b) false (or_parts (is_equals b) (is_slash b) parts.1).0 refl)
    (tail_rest form w p.1 t))) e
tail_rest form (bare b ∷ w) p e =
    cond_both (is_comma b) lemma (if is_equals b then no_part else form)
    (λ s. is_tail s w ≡ true → IsForm (bare b ∷ w))
    (λ comma t. form_lemma b w comma (tail_rest lemma w p.1 t))
    (λ no_comma.
    cond_both (is_equals b) no_part form (λ s. is_tail s w ≡ true → IsForm (bare b ∷ w))
    (λ equals t. absurd (nowhere w t))
    (λ other t.
    (form_more (bare b) w (own_sign is_comma b p.0 no_comma, tt)
    (or_from (is_equals b) false other refl) (tail_rest form w p.1 t)).0)) e
tail_rest lemma (bare b ∷ w) p e =
    cond_both (is_dot b) before_code (if is_equals b then no_part else lemma)
    (λ s. is_tail s w ≡ true → IsLemma (bare b ∷ w))
    (λ dot t. lemma_codes b w dot (no_slash_in before_code w tt p.1 t) (tail_rest before_code w p.1 t))
    (λ no_dot.
    cond_both (is_equals b) no_part lemma (λ s. is_tail s w ≡ true → IsLemma (bare b ∷ w))
    (λ equals t. absurd (nowhere w t))
    (λ other t.
    lemma_more (bare b) w (own_sign is_dot b p.0 no_dot, tt)
    (or_from (is_equals b) false other refl) (tail_rest lemma w p.1 t))) e
tail_rest before_code (bare b ∷ w) p e =
    cond_both (is_plus b || (is_colon b || is_slash b)) no_part code
    (λ s. is_tail s w ≡ true → Rest before_code (bare b ∷ w))
    (λ sign t. absurd (nowhere w t))
    (λ other t.
    (let parts = or_parts (is_plus b) (is_colon b || is_slash b) other in
    codes_more (bare b) w (
      own_sign is_code_sign b p.0
          (or_from (is_plus b) (is_colon b) parts.0 (or_parts (is_colon b) (is_slash b) parts.1).0),
      tt,
    )
    (tail_rest code w p.1 t))) e
tail_rest code (bare b ∷ w) p e =
    cond_both (is_plus b) before_code
    (if is_colon b then before_feature else (if is_slash b then no_part else code))
    (λ s. is_tail s w ≡ true → IsCodes (bare b ∷ w))
    (λ plus t. codes_sem b w plus (tail_rest before_code w p.1 t))
    (λ no_plus.
    cond_both (is_colon b) before_feature (if is_slash b then no_part else code)
    (λ s. is_tail s w ≡ true → IsCodes (bare b ∷ w))
    (λ colon t. codes_infl b w colon (tail_rest before_feature w p.1 t))
    (λ no_colon.
    cond_both (is_slash b) no_part code (λ s. is_tail s w ≡ true → IsCodes (bare b ∷ w))
    (λ slash t. absurd (nowhere w t))
    (λ other t.
    (codes_more (bare b) w
    (own_sign is_code_sign b p.0 (or_from (is_plus b) (is_colon b) no_plus no_colon), tt)
    (tail_rest code w p.1 t)).0))) e
tail_rest before_feature (bare b ∷ w) p e =
    cond_both (is_colon b || is_slash b) no_part feature
    (λ s. is_tail s w ≡ true → Rest before_feature (bare b ∷ w))
    (λ sign t. absurd (nowhere w t))
    (λ other t.
    feature_more (bare b) w
    (own_sign is_colon b p.0 (or_parts (is_colon b) (is_slash b) other).0, tt)
    (tail_rest feature w p.1 t)) e
tail_rest feature (bare b ∷ w) p e =
    cond_both (is_colon b) before_feature (if is_slash b then no_part else feature)
    (λ s. is_tail s w ≡ true → IsFeature (bare b ∷ w))
    (λ colon t. infl_more b w colon (tail_rest before_feature w p.1 t))
    (λ no_colon.
    cond_both (is_slash b) no_part feature (λ s. is_tail s w ≡ true → IsFeature (bare b ∷ w))
    (λ slash t. absurd (nowhere w t))
    (λ other t.
    (feature_more (bare b) w (own_sign is_colon b p.0 no_colon, tt)
    (tail_rest feature w p.1 t)).0)) e

-- a body's end isn't reached from a text that is skipped
not_skipped : (body : List ℕ) → is_tail before_form (characters body) ≡ true → IsSkipped body → ⊥
not_skipped [] e skipped = false≢true e
not_skipped (b ∷ body) e skipped =
    nowhere (characters body)
    (subst (λ (x : ℕ). is_tail before_form (characters (x ∷ body)) ≡ true) skipped e)

-- what goes from the form's begin to a body's end is a body
pub tail_body : (body : List ℕ) → IsPart is_brace (characters body) → HasNoFeed body →
    is_tail before_form (characters body) ≡ true → (entry : Entry) × IsTagBody body entry
tail_body body no_brace no_feed e =
    let rest = tail_rest before_form (characters body) no_brace e in
    let f = rest.0 in
    let l = f.lemma_rest in
    let c = l.codes in
    let p : DelafParts = record {
      form = f.own;
      lemma = l.own;
      gram = c.own;
      sem = c.sem;
      infl = c.infl;
      codes = l.coded;
      comment = [];
    } in
    let read : characters body ≡ f.own ++ bare COMMA ∷ (l.own ++ bare DOT ∷ l.coded) =
    f.whole ∙ ap (λ t. f.own ++ bare COMMA ∷ t) l.whole in
    let no_mark : has_mark p ≡ false =
    or_from (has_bare is_equals f.own) (has_bare is_equals l.own) f.no_mark l.no_mark in (
      entry_as EQUALS p,
      record {
        parts = p;
        line = record {
          counts = not_skipped body e;
          cut = record {
            whole = sym (written-characters body) ∙ ap written read
                ∙ sym (append-nil (written (f.own ++ bare COMMA ∷ (l.own ++ bare DOT ∷ l.coded))));
            is_form = f.is_own;
            is_lemma = l.is_own;
            are_codes = l.no_slash;
            is_comment = tt;
          };
          some_form = rest.1;
          list = record {
            whole = c.whole;
            is_gram = record { some = l.some; part = c.is_own };
            are_sem = c.are_sem;
            are_infl = c.are_infl;
          };
        };
        alone = cond-false (has_mark p) (entry_as SPACE p ∷ (entry_as HYPHEN p ∷ []))
            (entry_as EQUALS p ∷ []) no_mark;
        no_comment = refl;
        characters = characters body;
        whole = sym (written-characters body);
        no_brace = no_brace;
        no_feed = no_feed;
      },
    )
