-- The sum of the forms that begin in a state, by those of the states to which its edges lead.
use Rattle.std.proofs.Common.{◌≡◌, ℕ, Bool, ◌+◌, ◌<◌, ◌≤◌, ◌^◌, min, List, [], ◌∷◌, ◌++◌, length, map, take, take_all, get_or, refl, sym, ◌∙◌, ap, subst, arith}
use Rattle.std.specs.Prelude.{Contains, IsTrue, Some, slice_get, sum_by}
use Rattle.std.proofs.lemmas.List.{append-nil, append_assoc, take_more}
use Rattle.std.proofs.lemmas.List.Concat.{flat_map-append}
use Rattle.std.proofs.lemmas.List.Elements.{All-append, All-cons, All-map, All-nil}
use Rattle.std.proofs.lemmas.List.Sums.{sum_by-append, sum_by-cons}
use Rattle.std.proofs.lemmas.Option.{slice_get-get_or, slice_get_read}
use Rattle.ux_dawg.specs.Building.{bare}
use Rattle.ux_dawg.specs.Listed.{behind, ending}
use Rattle.ux_dawg.specs.Paths.{AreStates}
use Rattle.ux_dawg.specs.declared.state.Edge.{Edge}
use Rattle.ux_dawg.specs.declared.state.Form.{Form}
use Rattle.ux_dawg.specs.declared.state.State.{State}
use Rattle.ux_image_lists.specs.Sizes.{MOST}
use Rattle.ux_image_look_ups.specs.Ways.{branches, forms_at}
use Rattle.ux_image_look_ups.proofs.WayLemmas.{from_here}
use Rattle.ux_image_lexicon.specs.Counting.{IsApart}
use Rattle.ux_image_lexicon.specs.Summing.{codes_of, codes_told, AreFormsApart, AreSumsTo, IsSumOf}
use Rattle.ux_image_lexicon.specs.Told.{read_in, CodedForms}
use Rattle.ux_image_lexicon.specs.declared.codes.ReadCode.{ReadCode}
use Rattle.ux_image_lexicon.specs.declared.codes.ReadList.{ReadList}
use Rattle.ux_image_lexicon.specs.declared.sums.Sum.{Sum}

module _ (lists : List ReadList) where
  -- other letters in front change no list
  pub codes-fronted : (front : Form → Form) → ((form : Form) → (front form).code ≡ form.code) →
      (forms : List Form) → codes_told lists (map front forms) ≡ codes_told lists forms
  codes-fronted front same [] = refl
  codes-fronted front same (f ∷ forms) =
      let one = sum_by-cons (codes_of lists) (front f) (map front forms) in
      let other = sum_by-cons (codes_of lists) f forms in
      let here = ap (λ n. length (read_in (slice_get lists n))) (same f) in
      let rest = codes-fronted front same forms in
      omega (arith, one, other, here, rest)

  pub apart-fronted : (front : Form → Form) → ((form : Form) → (front form).code ≡ form.code) →
      (forms : List Form) → AreFormsApart lists forms → AreFormsApart lists (map front forms)
  apart-fronted front same forms apart =
      All-map (λ (f : Form). IsApart (read_in (slice_get lists f.code))) front forms
      (λ k d less.
      subst (λ n. IsApart (read_in (slice_get lists n))) (sym (same (get_or forms k d)))
      (apart k d less))

  sum-behind : (a : ℕ) (forms : List Form) (sum : Sum) → IsSumOf lists forms sum →
      IsSumOf lists (map (behind a) forms) sum
  sum-behind a forms sum is = record {
    codes = is.codes ∙ ap (λ n. min n MOST) (sym (codes-fronted (behind a) (λ f. refl) forms));
    apart = λ apart. apart-fronted (behind a) (λ f. refl) forms (is.apart apart);
  }

  -- the sum of the form that ends with this list
  pub sum_ending : (n : ℕ) (codes : List ReadCode) (flag : Bool) →
      codes ≡ read_in (slice_get lists n) → length codes < 2 ^ 64 →
      (IsTrue flag → IsApart (read_in (slice_get lists n))) →
      IsSumOf lists (ending (Some n)) (record { codes = length codes; apart = flag })
  sum_ending n codes flag are few apart =
      let form : Form = record { letters = []; code = n } in
      let same = ap (length {A = ReadCode}) are in
      let one = sum_by-cons (codes_of lists) form [] in
      let none : sum_by (codes_of lists) [] ≡ 0 = refl in
      record {
        codes = omega (arith, same, few, one, none);
        apart = λ known.
            All-cons (λ (f : Form). IsApart (read_in (slice_get lists f.code))) form []
            (apart known) (All-nil (λ (f : Form). IsApart (read_in (slice_get lists f.code))));
      }

  -- the sum of some forms and of more
  sum-append : (forms more : List Form) (sum others both : Sum) → IsSumOf lists forms sum →
      IsSumOf lists more others → both.codes ≡ min (sum.codes + others.codes) MOST →
      (IsTrue both.apart → IsTrue sum.apart × IsTrue others.apart) →
      IsSumOf lists (forms ++ more) both
  sum-append forms more sum others both is there codes apart = record {
    codes =
        let parts = sum_by-append (codes_of lists) forms more in
        let here = is.codes in
        let rest = there.codes in
        omega (arith, parts, here, rest, codes);
    apart = λ known.
        All-append (λ (f : Form). IsApart (read_in (slice_get lists f.code))) forms more
        (is.apart (apart known).0) (there.apart (apart known).1);
  }

module _ (coded : CodedForms) where
  abbrev states : List State
  states = coded.states

  abbrev lists : List ReadList
  lists = coded.lists

  abbrev at : ℕ → State
  at n = get_or states n bare

  -- the forms that end in the state or go on by one of these edges
  abbrev pub forms_by : ℕ → List Edge → List Form
  forms_by n edges = ending (at n).code ++ branches states edges

  forms_by-more : (n : ℕ) (edges : List Edge) (i : ℕ) (edge : Edge) → i < length edges →
      edge ≡ get_or edges i edge → forms_by n (take (i + 1) edges)
      ≡ forms_by n (take i edges) ++ map (behind edge.letter) (forms_at states edge.target)
  forms_by-more n edges i edge less is =
      let f : Edge → List Form = λ e. map (behind e.letter) (forms_at states e.target) in
      let own = ending (at n).code in
      ap (forms_by n) (take_more edges i edge less
      ∙ ap (λ (e : Edge). take i edges ++ e ∷ []) (sym is))
      ∙ ap (λ (l : List Form). own ++ l) (flat_map-append f (take i edges) (edge ∷ [])
      ∙ ap (λ (l : List Form). branches states (take i edges) ++ l) (append-nil (f edge)))
      ∙ sym (append_assoc own (branches states (take i edges)) (f edge))

  -- before any edge
  pub sum_start : (n : ℕ) (edges : List Edge) (sum : Sum) → IsSumOf lists (ending (at n).code) sum →
      IsSumOf lists (forms_by n (take 0 edges)) sum
  sum_start n edges sum is =
      subst (λ (l : List Form). IsSumOf lists l sum) (sym (append-nil (ending (at n).code))) is

  -- and behind all
  pub sum_end : AreStates states → (n : ℕ) → n < length states → (edges : List Edge) →
      edges ≡ (at n).edges → (i : ℕ) → length edges ≤ i → (sum : Sum) →
      IsSumOf lists (forms_by n (take i edges)) sum → IsSumOf lists (forms_at states n) sum
  sum_end fit n inside edges same i past sum is =
      subst (λ (l : List Form). IsSumOf lists l sum)
      (ap (forms_by n) (take_all i edges past ∙ same) ∙ sym (from_here states fit n inside)) is

  module _ (n : ℕ) (sums : List Sum) (are : AreSumsTo coded n sums) where
    -- edges lead to states that have their sums
    pub targets_below : AreStates states → n < length states → (edges : List Edge) →
        edges ≡ (at n).edges → (i : ℕ) (edge : Edge) → i < length edges →
        edge ≡ get_or edges i edge → edge.target < length sums
    targets_below fit inside edges same i edge less is =
        let has = subst (λ (l : List Edge). Contains l edge) same (i, less, sym is) in
        let low = (fit n (at n) (slice_get-get_or states n bare inside)).within edge has in
        let long = are.long in
        omega (arith, low, long)

    -- with one edge more
    pub sum_step : (edges : List Edge) (i : ℕ) (edge : Edge) → i < length edges →
        edge ≡ get_or edges i edge → (sum there both : Sum) → edge.target < length sums →
        there ≡ get_or sums edge.target there → IsSumOf lists (forms_by n (take i edges)) sum →
        both.codes ≡ min (sum.codes + there.codes) MOST →
        (IsTrue both.apart → IsTrue sum.apart × IsTrue there.apart) →
        IsSumOf lists (forms_by n (take (i + 1) edges)) both
    sum_step edges i edge less is sum there both below at_target so_far codes apart =
        let behind_it = are.each edge.target there
        (slice_get_read sums (length sums) edge.target there refl below at_target) in
        let target_forms = forms_at states edge.target in
        subst (λ (l : List Form). IsSumOf lists l both) (sym (forms_by-more n edges i edge less is))
        (sum-append lists (forms_by n (take i edges)) (map (behind edge.letter) target_forms) sum
        there both so_far (sum-behind lists edge.letter target_forms there behind_it) codes apart)
