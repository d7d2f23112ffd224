-- An output behind a token as a dictionary line.
use Rattle.std.proofs.Common.{arith, ◌≡◌, ◌∙◌, ◌⊎◌, inl, inr, ℕ, ◌+◌, ◌-◌, ◌<◌, ◌≤◌, List, [], ◌∷◌, ◌++◌, Bool, true, ap, append_assoc, bytes_eq, codes, get_or, if◌then◌else◌, length, length-append, refl, subst, sym, take}
use Rattle.std.specs.Prelude.{◌↔◌, Contains, MatchOption, None, Option, Some}
use Rattle.std.specs.String.Boundary.{IsSplitPoint}
use Rattle.std.proofs.lemmas.List.{get_or-append-add, take-append-le}
use Rattle.std.proofs.lemmas.List.Elements.{Contains-get_or}
use Rattle.std.proofs.lemmas.Slice.Eq.{bytes_eq-Decides}
use Rattle.ux_base.proofs.Lists.{take_whole}
use Rattle.ux_dela.specs.Delaf.{DelafSays, RefusesDelaf}
use Rattle.ux_dela.specs.Printed.{printed, shielded}
use Rattle.ux_dela.specs.Signs.{COMMA, DOT, is_form_sign}
use Rattle.ux_dela.specs.Written.{written}
use Rattle.ux_dela.specs.declared.entry.Entry.{Entry}
use Rattle.ux_dela.specs.declared.error.DelaError.{DelaError}
use Rattle.ux_dela.proofs.UniqueLaws.{says_once}
use Rattle.ux_marks.specs.declared.error.MorphError.{MorphError}
use Rattle.ux_marks.specs.declared.error.MorphError.TheVariants.{BadOutput, NoMemory}
use Rattle.ux_walk.specs.Noting.{Includes}
use Rattle.ux_walk.proofs.Collecting.{includes_pushed, none_in, seen_before, seen_itself, seen_next, seen_all}
use Rattle.ux_morpho.specs.Analyses.{IsLineOf, SaysOne, line_of, printed_form}
use Rattle.ux_morpho.specs.Putting.{AreLinesOf, HasBadAmong, bare, front_of}

-- the line of a form that is its own lemma, without codes
pub bare_line : (form : List ℕ) → printed (bare form) ≡ front_of form ++ DOT ∷ []
bare_line form =
    let same : bytes_eq form form ≡ true = (bytes_eq-Decides form form).1 refl in
    ap (λ (t : Bool). printed_form form ++ (COMMA ∷ (written (if t then [] else shielded is_form_sign form)
    ++ (DOT ∷ [])))) same
    ∙ sym (append_assoc (printed_form form) (COMMA ∷ []) (DOT ∷ []))

module _ (text line : List ℕ) (is : line ≡ text ++ DOT ∷ []) where
  long : length line ≡ length text + 1
  long = ap length is ∙ length-append text (DOT ∷ [])

  pub cut_line : take (length line - 1) line ≡ text
  cut_line =
      let l = long in
      let at : length line - 1 ≡ length text = omega (arith, l) in
      let low : length text ≤ length text = omega arith in
      ap (λ n. take n line) at
      ∙ (ap (take (length text)) is
      ∙ (take-append-le (length text) text (DOT ∷ []) low ∙ take_whole text (length text) low))

  -- a text may be cut before a dot
  pub may_be_cut : IsSplitPoint line (length line - 1)
  may_be_cut =
      let l = long in
      let at : length line - 1 ≡ length text + 0 = omega (arith, l) in
      let dot : get_or line (length line - 1) 0 ≡ 46 =
      ap (λ b. get_or b (length line - 1) 0) is
      ∙ (ap (λ n. get_or (text ++ DOT ∷ []) n 0) at ∙ get_or-append-add text (DOT ∷ []) 0 0) in
      (omega arith, λ some below high. absurd (omega (arith, dot, high)))

-- the line of an output is the front and the output
pub front_line : (token output : List ℕ) → front_of token ++ output ≡ line_of token output
front_line token output = append_assoc (printed_form token) (COMMA ∷ []) output

-- a line whose entries are known says one where they are one
pub only_said : (line : List ℕ) (entries : List Entry) (found : Option (List ℕ)) →
    DelafSays line entries →
    MatchOption found ((entry : Entry) → entries ≡ entry ∷ [] → ⊥)
    (λ same. (entry : Entry) × (entries ≡ entry ∷ []) × (same ≡ printed entry)) →
    MatchOption found ((entry : Entry) → DelafSays line (entry ∷ []) → ⊥)
    (λ same. (entry : Entry) × DelafSays line (entry ∷ []) × (same ≡ printed entry))
only_said line entries None says none =
    λ entry one. none entry (says_once line entries (entry ∷ []) says one)
only_said line entries (Some same) says some =
    (some.0, subst (DelafSays line) some.1 says, some.2)

-- the line of the entry that an output says was added
pub line_added : (token output line : List ℕ) (entry : Entry) (old new : List (List ℕ)) →
    SaysOne token output entry → line ≡ printed entry → Includes (λ other. other ≡ line) old new →
    Includes (IsLineOf token output) old new
line_added token output line entry old new says is more = record {
  kept = more.kept;
  only = λ other here. elim (more.only other here) [
    | inl before ↦ inl before
    | inr same ↦ inr (entry, says, same ∙ is)
  ];
  has = λ other of.
      let entries = says_once (line_of token output) (of.0 ∷ []) (entry ∷ []) of.1 says in
      more.has other (of.2 ∙ (ap printed (first_same of.0 entry entries) ∙ sym is));
}
  where
    first_same : (a b : Entry) → (a ∷ []) ≡ (b ∷ []) → a ≡ b
    first_same a b e = cc

module _ (token : List ℕ) where
  -- of no output there is no line
  pub lines_none : AreLinesOf token [] []
  lines_none = record {
    exactly = λ line. (λ here. absurd (none_in line here), λ of. absurd (none_in of.0 of.1));
    each = λ output here. absurd (none_in output here);
  }

  -- of one more
  pub lines_more : (outputs : List (List ℕ)) (i : ℕ) (output : List ℕ) (old new : List (List ℕ)) →
      i < length outputs → output ≡ get_or outputs i output →
      AreLinesOf token (take i outputs) old → Includes (IsLineOf token output) old new →
      (entry : Entry) × SaysOne token output entry → AreLinesOf token (take (i + 1) outputs) new
  lines_more outputs i output old new inside is known more says = record {
    exactly = λ line. (
      λ here. elim (more.only line here) [
        | inl before ↦
            let of = (known.exactly line).0 before in
            (of.0, seen_before outputs i output of.0 inside is of.1, of.2)
        | inr of ↦ (output, seen_itself outputs i output inside is, of)
      ],
      λ of. elim (seen_next outputs i output of.0 inside is of.1) [
        | inl before ↦ more.kept line ((known.exactly line).1 (of.0, before, of.2))
        | inr same ↦ more.has line (subst (λ (o : List ℕ). IsLineOf token o line) (sym same) of.2)
      ],
    );
    each = λ other here. elim (seen_next outputs i output other inside is here) [
      | inl before ↦ known.each other before
      | inr same ↦ subst (λ (o : List ℕ). (entry : Entry) × SaysOne token o entry) same says
    ];
  }

  -- of all
  pub lines_all : (outputs : List (List ℕ)) (i : ℕ) (lines : List (List ℕ)) → length outputs ≤ i →
      AreLinesOf token (take i outputs) lines → AreLinesOf token outputs lines
  lines_all outputs i lines past known =
      subst (λ (l : List (List ℕ)). AreLinesOf token l lines) (seen_all outputs i past) known

  -- in another order
  pub lines_same : (outputs old new : List (List ℕ)) →
      ((line : List ℕ) → Contains new line ↔ Contains old line) → AreLinesOf token outputs old →
      AreLinesOf token outputs new
  lines_same outputs old new same known = record {
    exactly = λ line. (
      λ here. (known.exactly line).0 ((same line).0 here),
      λ of. (same line).1 ((known.exactly line).1 of),
    );
    each = known.each;
  }

-- an output behind the front of a line
module _ (token front output : List ℕ) (is : front ≡ front_of token) (entry : Entry) where
  pub said_here : DelafSays (front ++ output) (entry ∷ []) → SaysOne token output entry
  said_here says =
      subst (λ (l : List ℕ). DelafSays l (entry ∷ [])) (front_line token output)
      (subst (λ (f : List ℕ). DelafSays (f ++ output) (entry ∷ [])) is says)

  pub said_back : SaysOne token output entry → DelafSays (front ++ output) (entry ∷ [])
  said_back says =
      subst (λ (f : List ℕ). DelafSays (f ++ output) (entry ∷ [])) (sym is)
      (subst (λ (l : List ℕ). DelafSays l (entry ∷ [])) (sym (front_line token output)) says)

-- one more line was pushed
pub line_pushed : (old new : List (List ℕ)) (line : List ℕ) → new ≡ old ++ line ∷ [] →
    Includes (λ other. other ≡ line) old new
line_pushed old new line is =
    subst (Includes (λ other. other ≡ line) old) (sym is) (includes_pushed old line)

-- an output that says no single entry stands among all
pub bad_among : (token : List ℕ) (outputs : List (List ℕ)) (i : ℕ) (output lent : List ℕ)
    (error : MorphError) → i < length outputs → output ≡ get_or outputs i output → lent ≡ output →
    (error ≡ NoMemory) ⊎ ((error ≡ BadOutput token)
    × ((entry : Entry) → SaysOne token lent entry → ⊥)) →
    (error ≡ NoMemory) ⊎ ((error ≡ BadOutput token) × HasBadAmong token outputs)
bad_among token outputs i output lent error inside is same (inl memory) = inl memory
bad_among token outputs i output lent error inside is same (inr bad) = inr (
  bad.0,
  (
    output,
    subst (Contains outputs) (sym is) (Contains-get_or outputs i output inside),
    λ entry says. bad.1 entry (subst (λ (o : List ℕ). SaysOne token o entry) (sym same) says),
  ),
)
