-- The bytes of lists of codes read back, where the lists and the codes of each differ.
use Rattle.std.proofs.Common.{arith, ◌≡◌, ◌≢◌, ℕ, ◌+◌, ◌^◌, ◌<◌, List, [], ◌∷◌, ◌++◌, refl, sym, ◌∙◌, subst, length, length-append, get_or}
use Rattle.std.specs.Prelude.{All, AllPairs, flat_map}
use Rattle.std.proofs.lemmas.List.{append_assoc, append-nil, get_or_append_left}
use Rattle.std.proofs.lemmas.List.Elements.{All-head, All-tail}
use Rattle.ux_image.specs.Layout.{code_bytes, list_bytes, number_bytes, pair_bytes, text_bytes, PairFits}
use Rattle.ux_image.specs.declared.code.Code.{Code}
use Rattle.ux_image.specs.declared.code.CodeList.{CodeList}
use Rattle.ux_image.specs.declared.code.Pair.{Pair}
use Rattle.ux_image_reader.specs.declared.front.Version.TheVariants.{One, Two}
use Rattle.ux_image_lists.specs.Fields.{closed, BeginAll, Field}
use Rattle.ux_image_lists.specs.Lists.{code, codes_in, list, lists, next_code, next_list, pair, pairs_by, rules_at, ArePrinted, IsNew, IsText}
use Rattle.ux_image_lists.specs.declared.codes.Rules.{Rules}

-- none of the values is one before it
abbrev AreNew : {V : Type 0} → (before values : List V) → Type 0
AreNew before [] = Unit {0}
AreNew before (v ∷ values) = IsNew before v × AreNew (before ++ v ∷ []) values

-- so it is where they differ
are_new : {V : Type 0} (before values : List V) → AllPairs (λ x y. x ≢ y) (before ++ values) →
    AreNew before values
are_new before [] apart = tt
are_new {V} before (v ∷ values) apart = (
  λ has.
      let long = length-append before (v ∷ values) in
      let here = get_or_append_left before (v ∷ values) v has.0 has.1 in
      let there : get_or (before ++ v ∷ values) (length before) v ≡ v =
      at_length before v values in
      let less = has.1 in
      apart has.0 (length before) v less (omega (arith, long)) (here ∙ has.2 ∙ sym there),
  are_new (before ++ v ∷ []) values
      (subst (λ (l : List V). AllPairs (λ x y. x ≢ y) l) (sym (append_assoc before (v ∷ []) values))
      apart),
)
  where
    at_length : (front : List V) (x : V) (rest : List V) →
        get_or (front ++ x ∷ rest) (length front) x ≡ x
    at_length [] x rest = refl
    at_length (y ∷ front) x rest = at_length front x rest

-- values follow one another as each begins
begin_all : {V : Type 0} (P : V → Type 0) (item : V → List ℕ) (field : List V → Field V) →
    ((before : List V) (v : V) (rest : List ℕ) → P v → IsNew before v →
    (field before).Begins (item v ++ rest) v rest) → (before values : List V) (rest : List ℕ) →
    All P values → AreNew before values →
    BeginAll field before (flat_map item values ++ rest) values rest
begin_all {V} P item field each before [] rest all new = refl
begin_all {V} P item field each before (v ∷ values) rest all new =
    let more = flat_map item values ++ rest in (
      more,
      subst (λ (b : List ℕ). (field before).Begins b v more)
          (sym (append_assoc (item v) (flat_map item values) rest))
          (each before v more (All-head P v values all) new.0),
      begin_all P item field each (before ++ v ∷ []) values rest (All-tail P v values all) new.1,
    )

-- the same where no value is compared
begin_each : {V : Type 0} (P : V → Type 0) (item : V → List ℕ) (field : Field V) →
    ((v : V) (rest : List ℕ) → P v → field.Begins (item v ++ rest) v rest) →
    (before values : List V) (rest : List ℕ) → All P values →
    BeginAll (λ before. field) before (flat_map item values ++ rest) values rest
begin_each {V} P item field each before [] rest all = refl
begin_each {V} P item field each before (v ∷ values) rest all =
    let more = flat_map item values ++ rest in (
      more,
      subst (λ (b : List ℕ). field.Begins b v more)
          (sym (append_assoc (item v) (flat_map item values) rest))
          (each v more (All-head P v values all)),
      begin_each P item field each (before ++ v ∷ []) values rest (All-tail P v values all),
    )

-- what is read of pairs, codes and lists
pub record IsPair (pair : Pair) : Type 0 where
  pub fits : PairFits pair
  pub text : IsText pair.added

pub record IsCode (code : Code) : Type 0 where
  pub few : length code.pairs < 2 ^ 32
  pub some : 0 < length code.pairs
  pub pairs : All IsPair code.pairs
  pub short : length code.codes < 2 ^ 32
  pub text : IsText code.codes
  pub printed : ArePrinted code.codes

pub record IsList (list : CodeList) : Type 0 where
  pub few : length list.codes < 2 ^ 32
  pub some : 0 < length list.codes
  pub codes : All IsCode list.codes
  pub apart : AllPairs (λ x y. x ≢ y) list.codes

module _ (rules : Rules) (two : rules.version ≡ Two) where
  not_one : {P : Type 0} → rules.version ≡ One → P
  not_one one = absurd (other (sym one ∙ two))
    where
      other : One ≡ Two → ⊥
      other e = cc

  pair_begins : (n : ℕ) (p : Pair) (rest : List ℕ) → IsPair p →
      (pair rules n).Begins (pair_bytes p ++ rest) p rest
  pair_begins n p rest is =
      let added = text_bytes p.added ++ rest in (
        p.taken,
        added,
        (
          (is.fits.0, append_assoc (number_bytes p.taken) (text_bytes p.added) rest),
          λ one. not_one one,
        ),
        (
          length p.added,
          p.added ++ rest,
          (
            (is.fits.1, append_assoc (number_bytes (length p.added)) p.added rest),
            λ one same. not_one one,
          ),
          (p.added, rest, ((refl, refl), is.text), (refl, refl)),
        ),
      )

  pairs_begin : (n : ℕ) (ps : List Pair) (rest : List ℕ) → length ps < 2 ^ 32 → 0 < length ps →
      All IsPair ps →
      (pairs_by Two rules n).Begins
      ((number_bytes (length ps) ++ flat_map pair_bytes ps) ++ rest) ps rest
  pairs_begin n ps rest few some all = (
    length ps,
    flat_map pair_bytes ps ++ rest,
    ((few, append_assoc (number_bytes (length ps)) (flat_map pair_bytes ps) rest), some),
    (
      refl,
      begin_each IsPair pair_bytes (pair rules n) (λ p more is. pair_begins n p more is) [] ps
          rest all,
    ),
  )

  code_begins : (n : ℕ) (c : Code) (rest : List ℕ) → IsCode c →
      (code rules n).Begins (code_bytes c ++ rest) c rest
  code_begins n c rest is =
      let pairs = number_bytes (length c.pairs) ++ flat_map pair_bytes c.pairs in
      let printed = text_bytes c.codes ++ rest in (
        c.pairs,
        printed,
        subst (λ v. (pairs_by v rules n).Begins (code_bytes c ++ rest) c.pairs printed) (sym two)
            (subst (λ (b : List ℕ). (pairs_by Two rules n).Begins b c.pairs printed)
            (sym (append_assoc pairs (text_bytes c.codes) rest))
            (pairs_begin n c.pairs printed is.few is.some is.pairs)),
        (
          c.codes,
          rest,
          (
            (
              length c.codes,
              c.codes ++ rest,
              (is.short, append_assoc (number_bytes (length c.codes)) c.codes rest),
              ((refl, refl), is.text),
            ),
            is.printed,
          ),
          (refl, refl),
        ),
      )

  list_begins : (first : ℕ) (l : CodeList) (rest : List ℕ) → IsList l →
      (list rules first).Begins (list_bytes l ++ rest) l rest
  list_begins first l rest is = (
    length l.codes,
    flat_map code_bytes l.codes ++ rest,
    (
      (is.few, append_assoc (number_bytes (length l.codes)) (flat_map code_bytes l.codes) rest),
      is.some,
    ),
    (
      l.codes,
      rest,
      (
        refl,
        begin_all IsCode code_bytes (next_code rules first)
            (λ before c more good new. (code_begins (first + length before) c more good, new)) []
            l.codes rest is.codes (are_new [] l.codes is.apart),
      ),
      (refl, refl),
    ),
  )

-- so do the lists
pub lists_begin : (shortest : List ℕ) (all : List CodeList) → length all ≡ length shortest →
    All IsList all → AllPairs (λ x y. x ≢ y) all →
    (closed (lists Two shortest)).Begins (flat_map list_bytes all) all []
lists_begin shortest all many good apart = (
  (
    many,
    subst (λ (b : List ℕ). BeginAll (next_list Two shortest) [] b all [])
        (append-nil (flat_map list_bytes all))
        (begin_all IsList list_bytes (next_list Two shortest)
        (λ before l more is new.
        (list_begins (rules_at Two shortest (length before)) refl (codes_in before) l more is, new))
        [] all [] good (are_new [] all apart)),
  ),
  refl,
)
