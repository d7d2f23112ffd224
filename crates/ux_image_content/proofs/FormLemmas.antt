-- The forms of an accepted automaton: they have letters, none of which is a line feed, and fewer
-- letters than there are states.
use Rattle.std.proofs.Common.{arith, ◌≡◌, ℕ, zero, suc, ◌+◌, ◌-◌, ◌*◌, ◌<◌, ◌≤◌, List, [], ◌∷◌, ◌++◌, Bool, true, false, refl, sym, ◌∙◌, ap, subst, length, length-append, map, take, get_or}
use Rattle.std.specs.Prelude.{All, Contains, Option, None, Some, flat_map, slice_get, encode_utf8}
use Rattle.std.specs.Str.{IsUtf8, NonePass, encode_utf8_all}
use Rattle.std.proofs.lemmas.Bool.{false≢true}
use Rattle.std.proofs.lemmas.Bool.Decides.{Decides-eqb}
use Rattle.std.proofs.lemmas.List.{append-nil, get_or-map, get_or_default, length-map}
use Rattle.std.proofs.lemmas.List.Elements.{All-append, All-cons, All-head, All-map, All-nil, All-tail, All-weaker}
use Rattle.std.proofs.lemmas.List.Folds.{list_any_none}
use Rattle.std.proofs.lemmas.Option.{slice_get-get_or}
use Rattle.std.proofs.lemmas.Str.{IsUtf8-append, IsUtf8-encode, IsUtf8-nil, NoCharPasses-byte, len_utf8_bounds, length-encode, length-le-encodes}
use Rattle.ux_dawg.specs.Building.{bare}
use Rattle.ux_dawg.specs.Listed.{behind, ending, forms_from}
use Rattle.ux_dawg.specs.Paths.{AreStates}
use Rattle.ux_dawg.specs.declared.state.Edge.{Edge}
use Rattle.ux_dawg.specs.declared.state.Form.{Form}
use Rattle.ux_dawg.specs.declared.state.State.{State}
use Rattle.ux_dawg.proofs.PathLemmas.{behind as later, in_front}
use Rattle.ux_dela.specs.Signs.{LINE_FEED}
use Rattle.ux_dela.specs.Sound.{is_feed, HasNoFeed, IsSoundText}
use Rattle.ux_image_reader.specs.Fronts.{AreAccepted}
use Rattle.ux_image_reader.specs.Layout.{final_number}
use Rattle.ux_image_reader.specs.Tests.{limits_behind, AllPass, IsLetter, Pass}
use Rattle.ux_image_reader.proofs.EdgesLemmas.{edges_back}
use Rattle.ux_image_reader.proofs.FrontLemmas.{states_fit}
use Rattle.ux_image_lists.specs.Sizes.{forms_of}

-- the letters of states that pass
passed_letters : (count lists : ℕ) (states : List State) → AllPass count lists states → (i : ℕ)
    (s : State) → slice_get states i ≡ Some s → All (λ (e : Edge). IsLetter e.letter) s.edges
passed_letters count lists states all i s at =
    let pass = edges_back (length (take i states)) s.edges []
    (subst (λ (l : List ℕ). Pass (limits_behind count lists (take i states))
    (final_number s.code ∷ (length s.edges ∷ l))) (sym (append-nil _)) (all i s at)).2 in
    λ k d less.
    let long = length-map s.edges (λ (e : Edge). e.letter) in
    subst IsLetter (get_or-map (λ (e : Edge). e.letter) s.edges k d 0 less)
    (pass.each k 0 (omega (arith, long, less)))

-- letters that edges may have, at most n of them
record MayLead (n : ℕ) (form : Form) : Type 0 where
  each : All IsLetter form.letters
  few : length form.letters ≤ n

ending_leads : (n : ℕ) (code : Option ℕ) → All (MayLead n) (ending code)
ending_leads n None = All-nil (MayLead n)
ending_leads n (Some c) =
    All-cons (MayLead n) _ [] (record { each = All-nil IsLetter; few = omega arith })
    (All-nil (MayLead n))

-- with a letter in front it has one more
leads_behind : (n m a : ℕ) (form : Form) → IsLetter a → n < m → MayLead n form →
    MayLead m (behind a form)
leads_behind n m a form letter less may = record {
  each = All-cons IsLetter a form.letters letter may.each;
  few = let few = may.few in omega (arith, few, less);
}

module _ (states : List State) (fit : AreStates states)
    (letters : (i : ℕ) (s : State) → slice_get states i ≡ Some s →
    All (λ (e : Edge). IsLetter e.letter) s.edges) where
  abbrev at : ℕ → State
  at t = get_or states t bare

  abbrev forms_behind : ℕ → Edge → List Form
  forms_behind n e = map (behind e.letter) (forms_from n states (at e.target))

  edges_lead : (n i : ℕ) → ((t : ℕ) → t < i → All (MayLead t) (forms_from n states (at t))) →
      (edges : List Edge) → ((e : Edge) → Contains edges e → e.target < i) →
      All (λ (e : Edge). IsLetter e.letter) edges →
      All (MayLead i) (flat_map (forms_behind n) edges)
  edges_lead n i each [] within may = All-nil (MayLead i)
  edges_lead n i each (e ∷ edges) within may =
      let low = within e (in_front e edges) in
      let IsEdge : Edge → Type 0 = λ e. IsLetter e.letter in
      let letter = All-head IsEdge e edges may in
      let there = forms_from n states (at e.target) in
      All-append (MayLead i) (forms_behind n e) (flat_map (forms_behind n) edges)
      (All-map (MayLead i) (behind e.letter) there
      (All-weaker (MayLead e.target) (λ f. MayLead i (behind e.letter f))
      (λ f may. leads_behind e.target i e.letter f letter low may) there (each e.target low)))
      (edges_lead n i each edges (λ d has. within d (later e edges d has))
      (All-tail IsEdge e edges may))

  forms_lead : (n i : ℕ) → i < length states → All (MayLead i) (forms_from n states (at i))
  forms_lead zero i inside = ending_leads i (at i).code
  forms_lead (suc n) i inside =
      let stands = slice_get-get_or states i bare inside in
      All-append (MayLead i) (ending (at i).code) (flat_map (forms_behind n) (at i).edges)
      (ending_leads i (at i).code)
      (edges_lead n i (λ t less. forms_lead n t (omega (arith, less, inside))) (at i).edges
      (fit i (at i) stands).within (letters i (at i) stands))

-- where the root isn't final, each form has a letter
edges_some : (f : Edge → List Form) (edges : List Edge) →
    All (λ (g : Form). 0 < length g.letters)
    (flat_map (λ (e : Edge). map (behind e.letter) (f e)) edges)
edges_some f [] = All-nil (λ (g : Form). 0 < length g.letters)
edges_some f (e ∷ edges) =
    let IsSome : Form → Type 0 = λ g. 0 < length g.letters in
    All-append IsSome (map (behind e.letter) (f e))
    (flat_map (λ (e : Edge). map (behind e.letter) (f e)) edges)
    (All-map IsSome (behind e.letter) (f e) (λ k d less. omega arith)) (edges_some f edges)

forms_some : (n : ℕ) (states : List State) (s : State) → s.code ≡ None →
    All (λ (g : Form). 0 < length g.letters) (forms_from n states s)
forms_some n states s none = by n
  where
    nothing : ending s.code ≡ []
    nothing = ap ending none

    by : (n : ℕ) → All (λ (g : Form). 0 < length g.letters) (forms_from n states s)
    by zero =
        subst (λ (l : List Form). All (λ (g : Form). 0 < length g.letters) l) (sym nothing)
        (All-nil (λ (g : Form). 0 < length g.letters))
    by (suc n) =
        let on = flat_map (λ (e : Edge). map (behind e.letter)
        (forms_from n states (get_or states e.target bare))) s.edges in
        subst (λ (l : List Form). All (λ (g : Form). 0 < length g.letters) (l ++ on)) (sym nothing)
        (edges_some (λ e. forms_from n states (get_or states e.target bare)) s.edges)

-- a form as it may stand in an entry, of a shorter word than there are states
pub record IsWord (states : List State) (form : Form) : Type 0 where
  pub utf8 : IsUtf8 (encode_utf8_all form.letters)
  pub sound : IsSoundText (encode_utf8_all form.letters)
  pub short : length (encode_utf8_all form.letters) + 4 ≤ 4 * length states

encodes_short : (letters : List ℕ) → length (encode_utf8_all letters) ≤ 4 * length letters
encodes_short [] = omega arith
encodes_short (c ∷ letters) =
    let more = encodes_short letters in
    let parts = length-append (encode_utf8 c) (encode_utf8_all letters) in
    let one = length-encode c in
    let four = (len_utf8_bounds c).1 in
    omega (arith, more, parts, one, four)

encodes_utf8 : (letters : List ℕ) → All IsLetter letters → IsUtf8 (encode_utf8_all letters)
encodes_utf8 [] all = IsUtf8-nil
encodes_utf8 (c ∷ letters) all =
    IsUtf8-append (encode_utf8 c) (encode_utf8_all letters)
    (IsUtf8-encode c (All-head IsLetter c letters all).0)
    (encodes_utf8 letters (All-tail IsLetter c letters all))

-- no letter is a line feed, and so no byte is one
not_feed : (c : ℕ) → (c ≡ LINE_FEED → ⊥) → is_feed c ≡ false
not_feed c other = by (is_feed c) refl
  where
    by : (t : Bool) → is_feed c ≡ t → is_feed c ≡ false
    by true e = absurd (other ((Decides-eqb c LINE_FEED).0 e))
    by false e = e

encodes_no_feed : (letters : List ℕ) → All IsLetter letters → HasNoFeed (encode_utf8_all letters)
encodes_no_feed letters all =
    let bytes = encode_utf8_all letters in
    list_any_none is_feed bytes (λ k d less.
    not_feed (get_or bytes k d) (λ is. at k d less is))
  where
    none_pass : (letters : List ℕ) → All IsLetter letters → NonePass is_feed letters
    none_pass [] all = tt
    none_pass (c ∷ letters) all = (
      not_feed c (All-head IsLetter c letters all).1,
      none_pass letters (All-tail IsLetter c letters all),
    )

    at : (k d : ℕ) → k < length (encode_utf8_all letters) →
        get_or (encode_utf8_all letters) k d ≡ LINE_FEED → ⊥
    at k d less is =
        let bytes = encode_utf8_all letters in
        let first : get_or bytes k 0 ≡ LINE_FEED = get_or_default bytes k 0 d less ∙ is in
        let fails = NoCharPasses-byte is_feed bytes k (letters, refl, none_pass letters all) less
        (omega (arith, first)) in
        let other : is_feed LINE_FEED ≡ false = sym (ap is_feed first) ∙ fails in
        false≢true (sym other)

pub forms_words : (lists : ℕ) (states : List State) → AreAccepted lists states →
    All (IsWord states) (forms_of states)
forms_words lists states accepted =
    let root = length states - 1 in
    let some = accepted.some in
    let inside : root < length states = omega (arith, some) in
    let s = get_or states root bare in
    let all = forms_lead states (states_fit (length states) lists states accepted.passed)
    (passed_letters (length states) lists states accepted.passed) (length states) root inside in
    let none = forms_some (length states) states s (root_bare s.code refl) in
    λ k d less. word (get_or (forms_of states) k d) (all k d less) (none k d less)
  where
    root_bare : (code : Option ℕ) →
        (get_or states (length states - 1) bare).code ≡ code →
        (get_or states (length states - 1) bare).code ≡ None
    root_bare None is = is
    root_bare (Some list) is =
        let some = accepted.some in
        absurd (accepted.root (length states - 1) (record {
          root = omega (arith, some);
          state = get_or states (length states - 1) bare;
          stands = slice_get-get_or states (length states - 1) bare (omega (arith, some));
          list = list;
          final = is;
        }))

    word : (form : Form) → MayLead (length states - 1) form → 0 < length form.letters →
        IsWord states form
    word form may more =
        let few = may.few in
        let some = accepted.some in
        let short = encodes_short form.letters in
        let long = length-le-encodes form.letters in
        record {
          utf8 = encodes_utf8 form.letters may.each;
          sound = record {
            some = λ e. let none = ap (length {A = ℕ}) e in omega (arith, none, long, more);
            no_feed = encodes_no_feed form.letters may.each;
          };
          short = omega (arith, few, some, short);
        }
