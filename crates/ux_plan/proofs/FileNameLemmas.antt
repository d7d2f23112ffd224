-- The folder of a word, as its bytes are read one after another.
use Rattle.std.proofs.Common.{arith, ◌≡◌, ℕ, zero, suc, ◌+◌, ◌-◌, ◌<◌, ◌≤◌, ◌⊎◌, inl, inr, subst, Bool, true, false, ◌||◌, List, [], ◌∷◌, ◌++◌, cond, eqb, eqb→eq, take, get_or, length, refl, sym, ◌∙◌, ap}
use Rattle.std.specs.List.{list_any}
use Rattle.std.specs.Str.{IsCharBoundary, IsUtf8}
use Rattle.std.proofs.lemmas.Str.{IsCharBoundary-after_ascii, IsCharBoundary-start}
use Rattle.std.proofs.lemmas.List.{take_more}
use Rattle.ux_plan.specs.FileNames.{SLASH, folder_of}

-- whether a slash stands in the word
abbrev has_slash : List ℕ → Bool
has_slash word = list_any (λ c. eqb c SLASH) word

or_false : (a : Bool) → (a || false) ≡ a
or_false true = refl
or_false false = refl

or_true : (a : Bool) → (a || true) ≡ true
or_true true = refl
or_true false = refl

slash_push : (word : List ℕ) (b : ℕ) → has_slash (word ++ b ∷ []) ≡ (has_slash word || eqb b SLASH)
slash_push [] b = or_false (eqb b SLASH)
slash_push (x ∷ word) b =
    ap (λ (a : Bool). eqb x SLASH || a) (slash_push word b)
    ∙ assoc (eqb x SLASH) (has_slash word) (eqb b SLASH)
  where
    assoc : (a b c : Bool) → (a || (b || c)) ≡ ((a || b) || c)
    assoc true b c = refl
    assoc false b c = refl

-- a slash ends the folder after it
pub folder_slash : (word : List ℕ) (b : ℕ) → eqb b SLASH ≡ true →
    folder_of (word ++ b ∷ []) ≡ word ++ b ∷ []
folder_slash [] b is = ap (λ (t : Bool). cond (t || false) (b ∷ []) []) is
folder_slash (x ∷ word) b is =
    let any : has_slash (x ∷ word ++ b ∷ []) ≡ true =
    slash_push (x ∷ word) b ∙ (ap (λ (t : Bool). has_slash (x ∷ word) || t) is
    ∙ or_true (has_slash (x ∷ word))) in
    ap (λ (t : Bool). cond t (x ∷ folder_of (word ++ b ∷ [])) []) any
    ∙ ap (λ (l : List ℕ). x ∷ l) (folder_slash word b is)

-- another byte leaves it
pub folder_stays : (word : List ℕ) (b : ℕ) → eqb b SLASH ≡ false →
    folder_of (word ++ b ∷ []) ≡ folder_of word
folder_stays [] b is = ap (λ (t : Bool). cond (t || false) (b ∷ []) []) is
folder_stays (x ∷ word) b is =
    let any : has_slash (x ∷ word ++ b ∷ []) ≡ has_slash (x ∷ word) =
    slash_push (x ∷ word) b ∙ (ap (λ (t : Bool). has_slash (x ∷ word) || t) is
    ∙ or_false (has_slash (x ∷ word))) in
    ap (λ (t : Bool). cond t (x ∷ folder_of (word ++ b ∷ [])) []) any
    ∙ ap (λ (l : List ℕ). cond (has_slash (x ∷ word)) (x ∷ l) []) (folder_stays word b is)

-- the bytes up to a place, and the byte there
next : (word : List ℕ) (i b : ℕ) → i < length word → b ≡ get_or word i b →
    take (i + 1) word ≡ take i word ++ b ∷ []
next word i b low is = take_more word i b low ∙ ap (λ (x : ℕ). take i word ++ x ∷ []) (sym is)

-- the end is that of the folder of the bytes so far
pub record IsFolderEnd (word : List ℕ) (place end : ℕ) : Type 0 where
  pub folder : take end word ≡ folder_of (take place word)
  pub within : end ≤ place
  pub slash : (end ≡ 0) ⊎ (get_or word (end - 1) 0 ≡ SLASH)

-- and so it is after one byte more
pub folder_step : (word items : List ℕ) (place end new : ℕ) → items ≡ word → place < length items →
    IsFolderEnd word place end →
    new ≡ cond (eqb (get_or items place 0) SLASH) (place + 1) end →
    IsFolderEnd word (place + 1) new
folder_step word items place end new same low before is =
    subst (IsFolderEnd word (place + 1)) (sym told) (by (eqb (get_or word place 0) SLASH) refl)
  where
    told : new ≡ cond (eqb (get_or word place 0) SLASH) (place + 1) end
    told = is ∙ ap (λ (l : List ℕ). cond (eqb (get_or l place 0) SLASH) (place + 1) end) same

    inside : place < length word
    inside = subst (λ (l : List ℕ). place < length l) same low

    here : get_or word place 0 ≡ get_or word place (get_or word place 0)
    here = get_or_same word place inside
      where
        get_or_same : (xs : List ℕ) (i : ℕ) → i < length xs →
            get_or xs i 0 ≡ get_or xs i (get_or xs i 0)
        get_or_same [] i lt = absurd (omega (arith, lt))
        get_or_same (x ∷ xs) zero lt = refl
        get_or_same (x ∷ xs) (suc i) lt = get_or_any xs i 0 (get_or (x ∷ xs) (suc i) 0)
            (omega (arith, lt))
          where
            get_or_any : (xs : List ℕ) (i d e : ℕ) → i < length xs → get_or xs i d ≡ get_or xs i e
            get_or_any [] i d e lt = absurd (omega (arith, lt))
            get_or_any (x ∷ xs) zero d e lt = refl
            get_or_any (x ∷ xs) (suc i) d e lt = get_or_any xs i d e (omega (arith, lt))

    by : (b : Bool) → eqb (get_or word place 0) SLASH ≡ b →
        IsFolderEnd word (place + 1) (cond b (place + 1) end)
    by true slash = record {
      folder =
          next word place (get_or word place 0) inside here
          ∙ (sym (folder_slash (take place word) (get_or word place 0) slash)
          ∙ ap folder_of (sym (next word place (get_or word place 0) inside here)));
      within = omega arith;
      slash =
          let back : (place + 1) - 1 ≡ place = omega arith in
          inr (ap (λ n. get_or word n 0) back ∙ eqb→eq (get_or word place 0) SLASH (rw slash tt));
    }
    by false other = record {
      folder =
          before.folder
          ∙ (sym (folder_stays (take place word) (get_or word place 0) other)
          ∙ ap folder_of (sym (next word place (get_or word place 0) inside here)));
      within = let w = before.within in omega (arith, w);
      slash = before.slash;
    }

-- the folder ends between characters
pub folder_boundary : (word : List ℕ) (end : ℕ) → IsUtf8 word → end ≤ length word →
    (end ≡ 0) ⊎ (get_or word (end - 1) 0 ≡ SLASH) → IsCharBoundary word end
folder_boundary word zero utf8 within slash = IsCharBoundary-start word utf8
folder_boundary word (suc k) utf8 within (inl none) = absurd (omega (arith, none))
folder_boundary word (suc k) utf8 within (inr slash) =
    let same : suc k - 1 ≡ k = omega arith in
    let here : get_or word k 0 ≡ SLASH = ap (λ n. get_or word n 0) (sym same) ∙ slash in
    let one : k + 1 ≡ suc k = omega arith in
    subst (IsCharBoundary word) one
    (IsCharBoundary-after_ascii word k utf8 (omega (arith, within)) (omega (arith, here)))
