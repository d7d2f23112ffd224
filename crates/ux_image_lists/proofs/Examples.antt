-- The definitions on small bytes.
use Rattle.std.proofs.Common.{arith, ℕ, List, [], ◌∷◌, ◌++◌, ap, inl, inr, refl}
use Rattle.std.specs.Prelude.{sum_by}
use Rattle.std.proofs.lemmas.Str.{IsUtf8-nil}
use Rattle.ux_base.proofs.FirstsLemmas.{Contains-cases, Contains-none}
use Rattle.ux_dela.specs.declared.entry.Codes.{Codes}
use Rattle.ux_image.specs.declared.code.Pair.{Pair}
use Rattle.ux_image.specs.declared.code.Code.{Code}
use Rattle.ux_image.specs.declared.code.CodeList.{CodeList}
use Rattle.ux_image_reader.specs.declared.error.ImageError.TheVariants.{BadCode, Short}
use Rattle.ux_image_reader.specs.declared.front.Version.TheVariants.{One, Two}
use Rattle.ux_image_lists.specs.Fields.{number, closed}
use Rattle.ux_image_lists.specs.Lists.{code, lists, pair, ArePrinted, IsNew}
use Rattle.ux_image_lists.specs.declared.codes.Rules.{Rules}
use lib.Utf8.{encode}

-- four bytes are a number, and what stands behind it is left
three : number.Begins (3 ∷ 0 ∷ 0 ∷ 0 ∷ 7 ∷ []) 3 (7 ∷ [])
three = (omega arith, refl)

too_short : number.Refuses (3 ∷ 0 ∷ 0 ∷ []) Short
too_short = (refl, omega arith)

-- what version 1 asks where the shortest form has so many characters
abbrev rules : ℕ → Rules
rules shortest = record { version = One; shortest = shortest }

-- a character taken off, and nothing added
abbrev one_off : List ℕ
one_off = 1 ∷ 0 ∷ 0 ∷ 0 ∷ 0 ∷ 0 ∷ 0 ∷ 0 ∷ []

-- it may be taken off `cats`
cats : (pair (rules 4) 0).Begins one_off (record { taken = 1; added = [] }) []
cats = (
  1,
  0 ∷ 0 ∷ 0 ∷ 0 ∷ [],
  ((omega arith, refl), λ one. omega arith),
  (
    0,
    [],
    ((omega arith, refl), λ one same. omega (arith, same)),
    ([], [], ((refl, refl), (IsUtf8-nil, refl)), (refl, refl)),
  ),
)

-- and not off `a`, of which nothing would be left
nothing_left : (pair (rules 1) 7).Refuses one_off (BadCode 7)
nothing_left = inr (
  1,
  0 ∷ 0 ∷ 0 ∷ 0 ∷ [],
  ((omega arith, refl), λ one. omega arith),
  inl (inr (
    0,
    [],
    (omega arith, refl),
    (λ may. let some = may refl refl in omega (arith, some)),
    refl,
  )),
)

-- The lists of the image of `cat,.N:s` and `cats,cat.N:p`. A printed code of `N` and one inflection
-- code, its length first
abbrev printed : ℕ → List ℕ
printed sign = 78 ∷ 58 ∷ sign ∷ []

abbrev told : ℕ → List ℕ
told sign = 3 ∷ 0 ∷ 0 ∷ 0 ∷ printed sign

abbrev of_sign : ℕ → Codes
of_sign sign = record { gram = 78 ∷ []; sem = []; infl = (sign ∷ []) ∷ [] }

plural_printed : ArePrinted (printed 112)
plural_printed = (
  of_sign 112,
  record {
    printed = refl;
    sound = record {
      sound_gram = record { some = λ none. cc; no_feed = refl };
      sound_sem = tt;
      sound_infl = (record { some = λ none. cc; no_feed = refl }, tt);
    };
  },
)

singular_printed : ArePrinted (printed 115)
singular_printed = (
  of_sign 115,
  record {
    printed = refl;
    sound = record {
      sound_gram = record { some = λ none. cc; no_feed = refl };
      sound_sem = tt;
      sound_infl = (record { some = λ none. cc; no_feed = refl }, tt);
    };
  },
)

-- one pair, of which so many characters are taken off, and the codes
abbrev code_of : (taken sign : ℕ) → Code
code_of taken sign = record {
  pairs = record { taken = taken; added = [] } ∷ [];
  codes = printed sign;
}

abbrev list_of : (taken sign : ℕ) → CodeList
list_of taken sign = record { codes = code_of taken sign ∷ [] }

-- a code of version 2: one pair, a character taken off, nothing added, and `N:p`
plural_two : (code (record { version = Two; shortest = 4 }) 0).Begins
    (1 ∷ 0 ∷ 0 ∷ 0 ∷ 1 ∷ 0 ∷ 0 ∷ 0 ∷ 0 ∷ 0 ∷ 0 ∷ 0 ∷ told 112) (code_of 1 112) []
unfolding encode
plural_two = (
  record { taken = 1; added = [] } ∷ [],
  told 112,
  (
    1,
    1 ∷ 0 ∷ 0 ∷ 0 ∷ 0 ∷ 0 ∷ 0 ∷ 0 ∷ told 112,
    ((omega arith, refl), omega arith),
    (
      refl,
      (
        told 112,
        (
          1,
          0 ∷ 0 ∷ 0 ∷ 0 ∷ told 112,
          ((omega arith, refl), λ one. cc),
          (
            0,
            told 112,
            ((omega arith, refl), λ one. cc),
            ([], told 112, ((refl, refl), (IsUtf8-nil, refl)), (refl, refl)),
          ),
        ),
        refl,
      ),
    ),
  ),
  (
    printed 112,
    [],
    (
      (3, printed 112, (omega arith, refl), ((refl, refl), ((printed 112, (refl, refl)), refl))),
      plural_printed,
    ),
    (refl, refl),
  ),
)

-- a list of version 1: one code, of one pair
abbrev list_bytes_of : (taken sign : ℕ) → List ℕ → List ℕ
list_bytes_of taken sign rest =
    1 ∷ 0 ∷ 0 ∷ 0 ∷ taken ∷ 0 ∷ 0 ∷ 0 ∷ 0 ∷ 0 ∷ 0 ∷ 0 ∷ (told sign ++ rest)

-- the two lists of version 1, and nothing behind them; `cats` and `cat` are the shortest forms
both : (closed (lists One (4 ∷ 3 ∷ []))).Begins (list_bytes_of 1 112 (list_bytes_of 0 115 []))
    (list_of 1 112 ∷ list_of 0 115 ∷ []) []
unfolding encode
both = (
  (
    refl,
    (
      list_bytes_of 0 115 [],
      (
        (
          1,
          1 ∷ 0 ∷ 0 ∷ 0 ∷ 0 ∷ 0 ∷ 0 ∷ 0 ∷ (told 112 ++ list_bytes_of 0 115 []),
          ((omega arith, refl), omega arith),
          (
            code_of 1 112 ∷ [],
            list_bytes_of 0 115 [],
            (
              refl,
              (
                list_bytes_of 0 115 [],
                (
                  (
                    record { taken = 1; added = [] } ∷ [],
                    told 112 ++ list_bytes_of 0 115 [],
                    (
                      record { taken = 1; added = [] },
                      told 112 ++ list_bytes_of 0 115 [],
                      (
                        1,
                        0 ∷ 0 ∷ 0 ∷ 0 ∷ (told 112 ++ list_bytes_of 0 115 []),
                        ((omega arith, refl), λ one. omega arith),
                        (
                          0,
                          told 112 ++ list_bytes_of 0 115 [],
                          ((omega arith, refl), λ one same. omega (arith, same)),
                          (
                            [],
                            told 112 ++ list_bytes_of 0 115 [],
                            ((refl, refl), (IsUtf8-nil, refl)),
                            (refl, refl),
                          ),
                        ),
                      ),
                      (refl, refl),
                    ),
                    (
                      printed 112,
                      list_bytes_of 0 115 [],
                      (
                        (
                          3,
                          printed 112 ++ list_bytes_of 0 115 [],
                          (omega arith, refl),
                          ((refl, refl), ((printed 112, (refl, refl)), refl)),
                        ),
                        plural_printed,
                      ),
                      (refl, refl),
                    ),
                  ),
                  λ has. Contains-none (code_of 1 112) has,
                ),
                refl,
              ),
            ),
            (refl, refl),
          ),
        ),
        λ has. Contains-none (list_of 1 112) has,
      ),
      (
        [],
        (
          (
            1,
            0 ∷ 0 ∷ 0 ∷ 0 ∷ 0 ∷ 0 ∷ 0 ∷ 0 ∷ told 115,
            ((omega arith, refl), omega arith),
            (
              code_of 0 115 ∷ [],
              [],
              (
                refl,
                (
                  [],
                  (
                    (
                      record { taken = 0; added = [] } ∷ [],
                      told 115,
                      (
                        record { taken = 0; added = [] },
                        told 115,
                        (
                          0,
                          0 ∷ 0 ∷ 0 ∷ 0 ∷ told 115,
                          ((omega arith, refl), λ one. omega arith),
                          (
                            0,
                            told 115,
                            ((omega arith, refl), λ one same. omega (arith, same)),
                            ([], told 115, ((refl, refl), (IsUtf8-nil, refl)), (refl, refl)),
                          ),
                        ),
                        (refl, refl),
                      ),
                      (
                        printed 115,
                        [],
                        (
                          (
                            3,
                            printed 115,
                            (omega arith, refl),
                            ((refl, refl), ((printed 115, (refl, refl)), refl)),
                          ),
                          singular_printed,
                        ),
                        (refl, refl),
                      ),
                    ),
                    λ has. Contains-none (code_of 0 115) has,
                  ),
                  refl,
                ),
              ),
              (refl, refl),
            ),
          ),
          λ has. apart has,
        ),
        refl,
      ),
    ),
  ),
  refl,
)
  where
    apart : IsNew (list_of 1 112 ∷ []) (list_of 0 115)
    apart has = elim (Contains-cases (list_of 1 112) (list_of 0 115) [] has) [
      | inl same ↦ let e = ap (λ (l : CodeList).
          sum_by (λ (c : Code). sum_by (λ (p : Pair). p.taken) c.pairs) l.codes) same in
          omega (arith, e)
      | inr none ↦ Contains-none (list_of 0 115) none
    ]
