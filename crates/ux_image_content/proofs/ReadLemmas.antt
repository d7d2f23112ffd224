-- What a layout's lists have: each printed codes text is such, the texts that are added are texts
-- without a line feed, and all these stand in the file.
use Rattle.std.proofs.Common.{arith, ℕ, ◌+◌, ◌≤◌, List, [], ◌∷◌, ◌++◌, sym, ◌∙◌, ap, subst, length, length-append}
use Rattle.std.specs.Prelude.{All, sum_by}
use Rattle.std.proofs.lemmas.List.Elements.{All-nil, All-cons}
use Rattle.std.proofs.lemmas.List.Sums.{sum_by-cons}
use Rattle.ux_image.specs.Layout.{number_bytes}
use Rattle.ux_image.specs.declared.code.Pair.{Pair}
use Rattle.ux_image.specs.declared.code.Code.{Code}
use Rattle.ux_image.specs.declared.code.CodeList.{CodeList}
use Rattle.ux_image_reader.specs.declared.front.Version.{Version}
use Rattle.ux_image_reader.specs.declared.front.Version.TheVariants.{One, Two}
use Rattle.ux_image_lists.specs.Fields.{number, BeginAll, Field}
use Rattle.ux_image_lists.specs.Lists.{code, codes_in, list, next_code, next_list, pair, pairs_by, rules_at, text_of, IsText}
use Rattle.ux_image_lists.specs.declared.codes.Rules.{Rules}
use Rattle.ux_image_content.specs.Walking.{added_by, IsGood}

-- how many bytes the codes of a list add together
abbrev pub added_in : CodeList → ℕ
added_in list = sum_by (λ (code : Code). added_by code.pairs) list.codes

-- the value is good, and has so many bytes in front of the rest
record Takes {V : Type 0} (P : V → Type 0) (size : V → ℕ) (bytes : List ℕ) (v : V)
    (rest : List ℕ) : Type 0 where
  is : P v
  room : size v + length rest ≤ length bytes

-- so are all that follow one another
all_take : {V : Type 0} (P : V → Type 0) (size : V → ℕ) (field : List V → Field V) →
    ((before : List V) (bytes : List ℕ) (v : V) (rest : List ℕ) →
    (field before).Begins bytes v rest → Takes P size bytes v rest) →
    (before : List V) (bytes : List ℕ) (values : List V) (rest : List ℕ) →
    BeginAll field before bytes values rest →
    All P values × (sum_by size values + length rest ≤ length bytes)
all_take {V} P size field each before bytes [] rest h =
    (All-nil P, let same = ap (length {A = ℕ}) h in omega (arith, same))
all_take {V} P size field each before bytes (v ∷ values) rest h =
    let here = each before bytes v h.0 h.1 in
    let more = all_take P size field each (before ++ v ∷ []) h.0 values rest h.2 in
    let sum = sum_by-cons size v values in
    let first = here.room in
    let others = more.1 in
    (All-cons P v values here.is more.0, omega (arith, first, others, sum))

-- a number
behind_number : (bytes : List ℕ) (n : ℕ) (rest : List ℕ) → number.Begins bytes n rest →
    length rest ≤ length bytes
behind_number bytes n rest h =
    let whole = ap (length {A = ℕ}) h.1 in
    let parts = length-append (number_bytes n) rest in
    omega (arith, whole, parts)

-- a text
text_takes : (many n : ℕ) (bytes words rest : List ℕ) → (text_of many n).Begins bytes words rest →
    length words + length rest ≤ length bytes
text_takes many n bytes words rest h =
    let whole = ap (length {A = ℕ}) h.0.1 in
    let parts = length-append words rest in
    omega (arith, whole, parts)

abbrev adds : Pair → ℕ
adds pair = length pair.added

abbrev AddsText : Pair → Type 0
AddsText pair = IsText pair.added

module _ (rules : Rules) where
  -- a pair
  pair_takes : (n : ℕ) (bytes : List ℕ) (p : Pair) (rest : List ℕ) →
      (pair rules n).Begins bytes p rest → Takes AddsText adds bytes p rest
  pair_takes n bytes p rest h =
      let taken = behind_number bytes h.0 h.1 h.2.0 in
      let k = h.3 in
      let many = behind_number h.1 k.0 k.1 k.2.0 in
      let m = k.3 in
      let added = text_takes k.0 n k.1 m.0 m.1 m.2 in
      let same = ap adds m.3.0 in
      let end = ap (length {A = ℕ}) m.3.1 in
      record {
        is = subst AddsText (sym m.3.0) m.2.1;
        room = omega (arith, taken, many, added, same, end);
      }

  -- the pairs of a code
  pairs_take : (version : Version) (n : ℕ) (bytes : List ℕ) (all : List Pair) (rest : List ℕ) →
      (pairs_by version rules n).Begins bytes all rest → Takes (All AddsText) added_by bytes all rest
  pairs_take One n bytes all rest h =
      let one = pair_takes n bytes h.0 h.1 h.2 in
      let room = one.room in
      let sum = ap added_by h.3.0 ∙ sum_by-cons adds h.0 [] in
      let end = ap (length {A = ℕ}) h.3.1 in
      record {
        is = subst (All AddsText) (sym h.3.0)
            (All-cons AddsText h.0 [] one.is (All-nil AddsText));
        room = omega (arith, room, sum, end);
      }
  pairs_take Two n bytes all rest h =
      let many = behind_number bytes h.0 h.1 h.2.0 in
      let each = all_take AddsText adds (λ before. pair rules n)
      (λ before b p r k. pair_takes n b p r k) [] h.1 all rest h.3.1 in
      let room = each.1 in
      record { is = each.0; room = omega (arith, many, room) }

  -- a code
  code_takes : (n : ℕ) (bytes : List ℕ) (c : Code) (rest : List ℕ) →
      (code rules n).Begins bytes c rest →
      Takes IsGood (λ (c : Code). added_by c.pairs) bytes c rest
  code_takes n bytes c rest h =
      let pairs = pairs_take rules.version n bytes h.0 h.1 h.2 in
      let k = h.3 in
      let t = k.2.0 in
      let many = behind_number h.1 t.0 t.1 t.2 in
      let printed = text_takes t.0 n t.1 k.0 k.1 t.3 in
      let room = pairs.room in
      let same = ap (λ (d : Code). added_by d.pairs) k.3.0 in
      let end = ap (length {A = ℕ}) k.3.1 in
      record {
        is = subst IsGood (sym k.3.0) (record { printed = k.2.1; texts = pairs.is });
        room = omega (arith, room, many, printed, same, end);
      }

  -- a list
  list_takes : (first : ℕ) (bytes : List ℕ) (l : CodeList) (rest : List ℕ) →
      (list rules first).Begins bytes l rest →
      Takes (λ (l : CodeList). All IsGood l.codes) added_in bytes l rest
  list_takes first bytes l rest h =
      let many = behind_number bytes h.0 h.1 h.2.0 in
      let k = h.3 in
      let each = all_take IsGood (λ (c : Code). added_by c.pairs) (next_code rules first)
      (λ before b c r m. code_takes (first + length before) b c r m.0) [] h.1 k.0 k.1 k.2.1 in
      let room = each.1 in
      let same = ap added_in k.3.0 in
      let end = ap (length {A = ℕ}) k.3.1 in
      record {
        is = subst (λ (l : CodeList). All IsGood l.codes) (sym k.3.0) each.0;
        room = omega (arith, many, room, same, end);
      }

-- the lists
pub lists_take : (version : Version) (shortest bytes : List ℕ) (all : List CodeList)
    (rest : List ℕ) → BeginAll (next_list version shortest) [] bytes all rest →
    All (λ (l : CodeList). All IsGood l.codes) all × (sum_by added_in all + length rest ≤ length bytes)
lists_take version shortest bytes all rest h =
    all_take (λ (l : CodeList). All IsGood l.codes) added_in (next_list version shortest)
    (λ before b l r k.
    list_takes (rules_at version shortest (length before)) (codes_in before) b l r k.0) [] bytes all
    rest h
