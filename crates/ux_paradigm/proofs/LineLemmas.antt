-- The line of an entry whose form begins with a front: first what the front is printed as, then what is
-- kept of the ending.
use Rattle.std.proofs.Common.{◌≡◌, ◌⊎◌, ℕ, List, [], ◌∷◌, ◌++◌, Bool, true, false, append_assoc, refl, sym, ◌∙◌, ap, subst, inl, inr, map, cond, eq-eqb, bytes_eq, ◌==◌, if◌then◌else◌, codes}
use Rattle.std.specs.Prelude.{◌&&◌}
use Rattle.std.specs.List.{flat_map}
use Rattle.std.specs.Ordering.{nat_cmp, is_gt}
use Rattle.std.specs.Cmp.Lexicographic.{slice_cmp}
use Rattle.std.proofs.lemmas.Bool.{or_parts}
use Rattle.ux_dela.proofs.CharactersLemmas.{written-append}
use Rattle.ux_dela.specs.Printed.{all_shielded, printed, printed_list, shield, shielded, shielded_lemma}
use Rattle.ux_dela.specs.Signs.{COLON, COMMA, DOT, PLUS, SLASH, is_form_sign, is_printed_code_sign}
use Rattle.ux_dela.specs.Written.{Written, all_behind, protected, written}
use Rattle.ux_dela.specs.declared.entry.Entry.{Entry}
use Rattle.ux_dela.specs.declared.entry.Stem.{Stem}
use Rattle.ux_inflect.proofs.OrderLemmas.{cmp_behind}
use Rattle.ux_inflect.specs.Inflected.{IsNotAfter}
use Rattle.ux_paradigm.proofs.OrderLemmas.{AreDecided, decided, shown}
use Rattle.ux_paradigm.specs.Behind.{behind, of_stem}
use Rattle.ux_paradigm.specs.Kept.{form_text, is_any_slashed, is_slashed, line_by, lines_by, middle_for, tail_of}
use Rattle.ux_paradigm.specs.Lines.{line_of}

-- the backslashes of a text are those of its parts
shielded-append : (signs : ℕ → Bool) (a b : List ℕ) →
    shielded signs (a ++ b) ≡ shielded signs a ++ shielded signs b
shielded-append signs [] b = refl
shielded-append signs (n ∷ a) b =
    ap (λ (w : List Written). shield (signs n) n ∷ w) (shielded-append signs a b)

-- a form that no `/` begins has no other backslashes than any text
pub unslashed : (form : List ℕ) → is_slashed form ≡ false → form_text form ≡ shown form
unslashed [] bare = refl
unslashed (b ∷ form) bare =
    ap (λ (t : Bool). written ((if t then protected b else shield (is_form_sign b) b)
    ∷ shielded is_form_sign form)) bare

-- and can be printed behind a front
pub form_behind : (front form : List ℕ) → is_slashed form ≡ false →
    form_text (front ++ form) ≡ form_text front ++ shown form
form_behind [] form bare = unslashed form bare
form_behind (b ∷ front) form bare =
    let first : Written = if b == SLASH then protected b else shield (is_form_sign b) b in
    ap (λ (w : List Written). written (first ∷ w)) (shielded-append is_form_sign front form)
    ∙ written-append (first ∷ shielded is_form_sign front) (shielded is_form_sign form)

-- the inflection codes are printed behind the others
pub codes_apart : (gram : List ℕ) (sem infl : List (List ℕ)) →
    printed_list gram sem infl ≡ printed_list gram sem [] ++ printed_list [] [] infl
codes_apart gram sem infl =
    let g = shielded is_printed_code_sign gram in
    let s = all_behind PLUS (all_shielded is_printed_code_sign sem) in
    let i = all_behind COLON (all_shielded is_printed_code_sign infl) in
    let whole : (g ++ (s ++ [])) ++ i ≡ g ++ (s ++ i) =
    append_assoc g (s ++ []) i ∙ ap (λ (w : List Written). g ++ w) (append_assoc s [] i) in
    ap written (sym whole) ∙ written-append (g ++ (s ++ [])) i

-- whether a form is the lemma is seen by their ends
eq_behind : (front a b : List ℕ) → bytes_eq (front ++ a) (front ++ b) ≡ bytes_eq a b
eq_behind [] a b = refl
eq_behind (c ∷ front) a b =
    ap (λ (t : Bool). t && bytes_eq (front ++ a) (front ++ b)) (eq-eqb c c refl)
    ∙ eq_behind front a b

lemma_apart : (form lemma : List ℕ) (is : Bool) → bytes_eq lemma form ≡ is →
    shielded_lemma form lemma ≡ cond is (shielded_lemma [] []) (shielded_lemma [] lemma)
lemma_apart form lemma true same =
    ap (λ (t : Bool). if t then [] else shielded is_form_sign lemma) same
lemma_apart form [] false other =
    ap (λ (t : Bool). if t then [] else shielded is_form_sign []) other
lemma_apart form (b ∷ lemma) false other =
    ap (λ (t : Bool). if t then [] else shielded is_form_sign (b ∷ lemma)) other

-- what stands between the form and its own codes
middle_chosen : (stem : Stem) (is : Bool) →
    COMMA ∷ (written (cond is (shielded_lemma [] []) (shielded_lemma [] stem.lemma))
    ++ (DOT ∷ printed_list stem.gram stem.sem [])) ≡ middle_for stem is
middle_chosen stem true = refl
middle_chosen stem false = refl

regroup : (a b c d e : List ℕ) → ((a ++ b) ++ (c ++ d)) ++ e ≡ a ++ (b ++ (c ++ (d ++ e)))
regroup a b c d e = simp append_assoc

module _ (front ending : List ℕ) (stem : Stem) (ends : stem.lemma ≡ front ++ ending) where
  behind_comma : (form : List ℕ) (infl : List (List ℕ)) →
      COMMA ∷ (written (shielded_lemma (front ++ form) stem.lemma)
      ++ (DOT ∷ printed_list stem.gram stem.sem infl))
      ≡ middle_for stem (bytes_eq ending form) ++ printed_list [] [] infl
  behind_comma form infl =
      let own = printed_list [] [] infl in
      let others = printed_list stem.gram stem.sem [] in
      let is : bytes_eq stem.lemma (front ++ form) ≡ bytes_eq ending form =
      ap (λ (l : List ℕ). bytes_eq l (front ++ form)) ends ∙ eq_behind front ending form in
      let shown_lemma = shielded_lemma (front ++ form) stem.lemma in
      let chosen = cond (bytes_eq ending form) (shielded_lemma [] [])
      (shielded_lemma [] stem.lemma) in
      let same : shown_lemma ≡ chosen =
      lemma_apart (front ++ form) stem.lemma (bytes_eq ending form) is in
      ap (λ (c : List ℕ). COMMA ∷ (written shown_lemma ++ (DOT ∷ c)))
      (codes_apart stem.gram stem.sem infl)
      ∙ (ap (λ (w : List Written). COMMA ∷ (written w ++ (DOT ∷ (others ++ own)))) same
      ∙ (ap (λ (l : List ℕ). COMMA ∷ l) (sym (append_assoc (written chosen) (DOT ∷ others) own))
      ∙ ap (λ (l : List ℕ). l ++ own) (middle_chosen stem (bytes_eq ending form))))

  -- the line of an entry by what is kept of the ending's
  line_apart : (entry : Entry) → is_slashed entry.form ≡ false →
      line_of (behind front stem entry) ≡ line_by front stem (tail_of ending entry)
  line_apart entry bare =
      let own = printed_list [] [] entry.infl in
      let middle = middle_for stem (bytes_eq ending entry.form) in
      let form : form_text (front ++ entry.form) ≡ form_text front ++ form_text entry.form =
      form_behind front entry.form bare
      ∙ ap (λ (l : List ℕ). form_text front ++ l) (sym (unslashed entry.form bare)) in
      let rest = COMMA ∷ (written (shielded_lemma (front ++ entry.form) stem.lemma)
      ++ (DOT ∷ printed_list stem.gram stem.sem entry.infl)) in
      ap (λ (l : List ℕ). (l ++ rest) ++ codes "\n") form
      ∙ (ap (λ (l : List ℕ). ((form_text front ++ form_text entry.form) ++ l) ++ codes "\n")
      (behind_comma entry.form entry.infl)
      ∙ regroup (form_text front) (form_text entry.form) middle own (codes "\n"))

  -- the lines of all entries
  pub lines_apart : (entries : List Entry) → is_any_slashed entries ≡ false →
      flat_map line_of (map (behind front stem) entries)
      ≡ lines_by front stem (map (tail_of ending) entries)
  lines_apart [] bare = refl
  lines_apart (entry ∷ entries) bare =
      let parts = or_parts (is_slashed entry.form) (is_any_slashed entries) bare in
      ap (λ (l : List ℕ). l ++ flat_map line_of (map (behind front stem) entries))
      (line_apart entry parts.0)
      ∙ ap (λ (l : List ℕ). line_by front stem (tail_of ending entry) ++ l)
      (lines_apart entries parts.1)

assoc_codes : (a w c p : List ℕ) →
    a ++ (COMMA ∷ (w ++ (DOT ∷ (c ++ p)))) ≡ (a ++ (COMMA ∷ (w ++ (DOT ∷ c)))) ++ p
assoc_codes a w c p =
    sym (append_assoc a (COMMA ∷ (w ++ (DOT ∷ c))) p
    ∙ ap (λ (l : List ℕ). a ++ (COMMA ∷ l)) (append_assoc w (DOT ∷ c) p))

-- the line of a form up to its own codes
abbrev first_of : Stem → (form : List ℕ) → List ℕ
first_of stem form = form_text form ++ (COMMA ∷ (written (shielded_lemma form stem.lemma)
    ++ (DOT ∷ printed_list stem.gram stem.sem [])))

printed_apart : (stem : Stem) (form : List ℕ) (infl : List (List ℕ)) →
    printed (of_stem stem form infl) ≡ first_of stem form ++ printed_list [] [] infl
printed_apart stem form infl =
    let lemma = written (shielded_lemma form stem.lemma) in
    ap (λ (c : List ℕ). form_text form ++ (COMMA ∷ (lemma ++ (DOT ∷ c))))
    (codes_apart stem.gram stem.sem infl)
    ∙ assoc_codes (form_text form) lemma (printed_list stem.gram stem.sem [])
    (printed_list [] [] infl)

-- of two lines with one form, their own codes decide
codes_decide : (stem : Stem) (form : List ℕ) (i j : List (List ℕ)) →
    slice_cmp nat_cmp (printed (of_stem stem form i)) (printed (of_stem stem form j))
    ≡ slice_cmp nat_cmp (printed_list [] [] i) (printed_list [] [] j)
codes_decide stem form i j =
    ap (λ (l : List ℕ). slice_cmp nat_cmp l (printed (of_stem stem form j)))
    (printed_apart stem form i)
    ∙ (ap (λ (l : List ℕ). slice_cmp nat_cmp (first_of stem form ++ printed_list [] [] i) l)
    (printed_apart stem form j)
    ∙ cmp_behind (first_of stem form) (printed_list [] [] i) (printed_list [] [] j))

-- the lines of two entries of a stem are in the order of those of its ending
module _ (front : List ℕ) (stem short : Stem) (f g : List ℕ) (i j : List (List ℕ))
    (f_bare : is_slashed f ≡ false) (g_bare : is_slashed g ≡ false) where
  -- what stands behind the comma
  abbrev rest_of : Stem → (form : List ℕ) → List (List ℕ) → List ℕ
  rest_of other form infl = written (shielded_lemma form other.lemma)
      ++ (DOT ∷ printed_list other.gram other.sem infl)

  long : (form : List ℕ) (infl : List (List ℕ)) → is_slashed form ≡ false →
      printed (of_stem stem (front ++ form) infl)
      ≡ form_text front ++ (shown form ++ COMMA ∷ rest_of stem (front ++ form) infl)
  long form infl bare =
      ap (λ (l : List ℕ). l ++ (COMMA ∷ rest_of stem (front ++ form) infl))
      (form_behind front form bare)
      ∙ append_assoc (form_text front) (shown form) (COMMA ∷ rest_of stem (front ++ form) infl)

  brief : (form : List ℕ) (infl : List (List ℕ)) → is_slashed form ≡ false →
      printed (of_stem short form infl) ≡ shown form ++ COMMA ∷ rest_of short form infl
  brief form infl bare =
      ap (λ (l : List ℕ). l ++ (COMMA ∷ rest_of short form infl)) (unslashed form bare)

  apart_alike : AreDecided (shown f) (shown g) →
      slice_cmp nat_cmp (printed (of_stem stem (front ++ f) i)) (printed (of_stem stem (front ++ g) j))
      ≡ slice_cmp nat_cmp (printed (of_stem short f i)) (printed (of_stem short g j))
  apart_alike decides =
      let a = shown f ++ COMMA ∷ rest_of stem (front ++ f) i in
      let b = shown g ++ COMMA ∷ rest_of stem (front ++ g) j in
      let c = shown f ++ COMMA ∷ rest_of short f i in
      ap (λ (l : List ℕ). slice_cmp nat_cmp l (printed (of_stem stem (front ++ g) j)))
      (long f i f_bare)
      ∙ (ap (λ (l : List ℕ). slice_cmp nat_cmp (form_text front ++ a) l) (long g j g_bare)
      ∙ (cmp_behind (form_text front) a b
      ∙ (decides (rest_of stem (front ++ f) i) (rest_of stem (front ++ g) j)
      (rest_of short f i) (rest_of short g j)
      ∙ (ap (λ (l : List ℕ). slice_cmp nat_cmp c l) (sym (brief g j g_bare))
      ∙ ap (λ (l : List ℕ). slice_cmp nat_cmp l (printed (of_stem short g j)))
      (sym (brief f i f_bare))))))

  pub order_behind : IsNotAfter (printed (of_stem short f i)) (printed (of_stem short g j)) →
      IsNotAfter (printed (of_stem stem (front ++ f) i)) (printed (of_stem stem (front ++ g) j))
  order_behind before = by (decided f g)
    where
      by : (f ≡ g) ⊎ AreDecided (shown f) (shown g) →
          IsNotAfter (printed (of_stem stem (front ++ f) i)) (printed (of_stem stem (front ++ g) j))
      by (inl same) =
          let here : IsNotAfter (printed (of_stem short f i)) (printed (of_stem short f j)) =
          subst (λ (l : List ℕ). IsNotAfter (printed (of_stem short f i)) (printed (of_stem short l j)))
          (sym same) before in
          let own : IsNotAfter (printed_list [] [] i) (printed_list [] [] j) =
          ap is_gt (sym (codes_decide short f i j)) ∙ here in
          subst (λ (l : List ℕ). IsNotAfter (printed (of_stem stem (front ++ f) i))
          (printed (of_stem stem (front ++ l) j))) same
          (ap is_gt (codes_decide stem (front ++ f) i j) ∙ own)
      by (inr decides) = ap is_gt (apart_alike decides) ∙ before
