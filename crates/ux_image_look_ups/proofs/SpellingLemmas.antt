-- Forms by links: those of a state, by the links of its edges and those of their targets.
use Rattle.std.proofs.Common.{◌≡◌, ◌≢◌, ◌↔◌, ℕ, zero, suc, ◌+◌, ◌-◌, ◌<◌, ◌≤◌, List, [], ◌∷◌, ◌++◌, length, map, take, drop, get_or, refl, sym, ◌∙◌, ap, subst, inl, inr, arith, length-append}
use Rattle.std.specs.Prelude.{Contains, Option, None, Some, Vec, slice_get}
use Rattle.std.specs.BTreeMap.{BTreeMap}
use Rattle.std.proofs.lemmas.List.Elements.{Contains-append_cases, Contains-append_left, Contains-append_right}
use Rattle.ux_base.proofs.Lists.{drop_whole}
use Rattle.ux_base.proofs.OrderedLists.{slice_get-append_left, Contains-cons_cases, Contains-nil}
use Rattle.std.proofs.lemmas.List.{append-nil, append_assoc, drop_more, get_or_append_left, get_or_past, map-append, take_all, take_more}
use Rattle.std.proofs.lemmas.List.Concat.{flat_map-append}
use Rattle.std.proofs.lemmas.Bool.{cases_lt}
use Rattle.std.proofs.lemmas.Option.{slice_get-get_or, slice_get_within}
use Rattle.ux_alphabet.specs.Letters.{Letters, Fits}
use Rattle.ux_dawg.specs.Building.{bare}
use Rattle.ux_dawg.specs.Forms.{form_of}
use Rattle.ux_dawg.specs.Listed.{behind, ending}
use Rattle.ux_dawg.specs.Paths.{edge as edge_to, AreStates, MakeAutomaton}
use Rattle.ux_dawg.specs.declared.state.Edge.{Edge}
use Rattle.ux_dawg.specs.declared.state.Form.{Form}
use Rattle.ux_dawg.specs.declared.state.State.{State}
use Rattle.ux_dict.specs.Forms.{IsChosen, none}
use Rattle.ux_dict.proofs.ChosenLemmas.{chosen-append}
use Rattle.ux_image_look_ups.specs.Spelling.{at_end, form_at, link_at, link_form, links_in_row, links_of, links_to, row_links, table, AreLevels, PutsLinks, Spells, Tells, AreLevelsTo, TellsEnds, TellsRow}
use Rattle.ux_image_look_ups.specs.Steps.{GoesFrom, GoesTo}
use Rattle.ux_image_look_ups.specs.Ways.{branches, forms_at, FitsText}
use Rattle.ux_image_look_ups.specs.declared.spelling.Link.{Link}
use Rattle.ux_image_look_ups.specs.declared.spelling.Link.TheVariants.{End, Letter}
use Rattle.ux_image_look_ups.specs.declared.steps.Taken.{Taken}
use Rattle.ux_image_look_ups.proofs.FoundLemmas.{branch_fails, branch_fits, found_end, found_on}

-- TABLES

pub table-map : {X Y : Type 0} (f : X → Y) (at : ℕ → X) (n : ℕ) →
    map f (table at n) ≡ table (λ k. f (at k)) n
table-map f at zero = refl
table-map {Y} f at (suc n) =
    map-append f (table at n) (at n ∷ [])
    ∙ ap (λ (l : List Y). l ++ f (at n) ∷ []) (table-map f at n)

pub table-same : {X : Type 0} (f g : ℕ → X) (n : ℕ) → ((k : ℕ) → k < n → f k ≡ g k) →
    table f n ≡ table g n
table-same f g zero same = refl
table-same {X} f g (suc n) same =
    ap (λ (l : List X). l ++ f n ∷ []) (table-same f g n (λ k less. same k (omega (arith, less))))
    ∙ ap (λ (x : X). table g n ++ x ∷ []) (same n (omega arith))

-- a list is the table of its members
table-list : {X : Type 0} (xs : List X) (d : X) (n : ℕ) → n ≤ length xs →
    table (λ k. get_or xs k d) n ≡ take n xs
table-list xs d zero within = refl
table-list {X} xs d (suc n) within =
    ap (λ (l : List X). l ++ get_or xs n d ∷ []) (table-list xs d n (omega (arith, within)))
    ∙ sym (take_more xs n d (omega (arith, within)))
    ∙ ap (λ k. take k xs) (let next : n + 1 ≡ suc n = omega arith in next)

table-whole : {X Y : Type 0} (f : X → Y) (xs : List X) (d : X) →
    table (λ k. f (get_or xs k d)) (length xs) ≡ map f xs
table-whole {X} {Y} f xs d =
    sym (table-map f (λ k. get_or xs k d) (length xs))
    ∙ ap (map f) (table-list xs d (length xs) (omega arith)
    ∙ take_all (length xs) xs (omega arith))

-- LINKS OF EDGES

module _ {Z : Type 0} (taken : Taken) (row : BTreeMap ℕ (Vec Link Z)) where
  -- with no edge
  pub spells-start : (links : List Link) → links ≡ [] → Spells taken row [] links
  spells-start links same states rest deep told =
      subst (λ (l : List Link). IsChosen (FitsText taken.alphabet.now (taken.c ∷ rest)) []
      (map (link_form deep) l)) (sym same) none

  -- and with one more
  pub spells-more : (edges : List Edge) (i : ℕ) (edge : Edge) (old new : List Link) →
      i < length edges → edge ≡ get_or edges i edge → Spells taken row (take i edges) old →
      PutsLinks taken row edge old new → Spells taken row (take (i + 1) edges) new
  spells-more edges i edge old new less is so_far puts states rest deep told =
      let P = FitsText taken.alphabet.now (taken.c ∷ rest) in
      let front = take_more edges i edge less ∙ ap (λ (e : Edge). take i edges ++ e ∷ []) (sym is) in
      let told_each = subst (λ (l : List Edge). (e : Edge) → Contains l e →
      Fits taken.alphabet.now e.letter taken.c →
      IsChosen (FitsText taken.alphabet.now rest) (forms_at states e.target)
      (table (deep e.target) (length (links_of row e.target)))) front told in
      let before = so_far states rest deep (λ e has. told_each e
      (Contains-append_left (take i edges) (edge ∷ []) e has)) in
      let here = told_each edge
      (Contains-append_right (take i edges) (edge ∷ []) edge (0, omega arith, refl)) in
      subst (λ (l : List Edge). IsChosen P (branches states l) (map (link_form deep) new)) (sym front)
      (subst (λ (l : List Form). IsChosen P l (map (link_form deep) new))
      (sym (flat_map-append (λ (e : Edge). map (behind e.letter) (forms_at states e.target))
      (take i edges) (edge ∷ [])))
      (elim puts [
        | inl (fits, pushed) ↦
            let many = length (links_of row edge.target) in
            let told_here = table (deep edge.target) many in
            let same : map (link_form deep) (table (links_to edge.letter edge.target) many)
            ≡ map (behind edge.letter) told_here =
            table-map (link_form deep) (links_to edge.letter edge.target) many
            ∙ sym (table-map (behind edge.letter) (deep edge.target) many) in
            subst (IsChosen P (branches states (take i edges) ++ branches states (edge ∷ [])))
            (sym (ap (map (link_form deep)) pushed
            ∙ map-append (link_form deep) old (table (links_to edge.letter edge.target) many)
            ∙ ap (λ (l : List Form). map (link_form deep) old ++ l) same))
            (chosen-append P before (branch_fits states taken.alphabet.now edge taken.c rest told_here
            fits (here fits)))
        | inr (fails, kept) ↦
            subst (IsChosen P (branches states (take i edges) ++ branches states (edge ∷ [])))
            (append-nil (map (link_form deep) old) ∙ ap (map (link_form deep)) (sym kept))
            (chosen-append P before (branch_fails states taken.alphabet.now edge taken.c rest fails))
      ]))

-- ROWS

module _ {Z : Type 0} where
  -- the form by a link is that of the rows below alone
  pub form_at-push : (n : ℕ) (rows : List (BTreeMap ℕ (Vec Link Z))) (row : BTreeMap ℕ (Vec Link Z)) → n ≤ length rows → (s k : ℕ) →
      form_at n (rows ++ row ∷ []) s k ≡ form_at n rows s k
  form_at-push zero rows row within s k = refl
  form_at-push (suc n) rows row within s k =
      ap (λ (l : List Link). link_form (form_at n (rows ++ row ∷ [])) (link_at l k))
      (ap (λ (o : Option (BTreeMap ℕ (Vec Link Z))). links_in_row o s)
      (slice_get-append_left rows (row ∷ []) n (omega (arith, within))))
      ∙ link_same (form_at n (rows ++ row ∷ [])) (form_at n rows)
      (form_at-push n rows row (omega (arith, within))) (link_at (row_links rows n s) k)
    where
      link_same : (f g : (state place : ℕ) → Form) → ((s k : ℕ) → f s k ≡ g s k) → (l : Link) →
          link_form f l ≡ link_form g l
      link_same f g same (End code) = refl
      link_same f g same (Letter letter state place) =
          ap (behind letter) (same state place)

  slice_get-append_seam : (rows : List (BTreeMap ℕ (Vec Link Z))) (row : BTreeMap ℕ (Vec Link Z)) →
      slice_get (rows ++ row ∷ []) (length rows) ≡ Some row
  slice_get-append_seam [] row = refl
  slice_get-append_seam (r ∷ rows) row = slice_get-append_seam rows row

  last_links : (rows : List (BTreeMap ℕ (Vec Link Z))) (row : BTreeMap ℕ (Vec Link Z)) (s : ℕ) →
      row_links (rows ++ row ∷ []) (length rows) s ≡ links_of row s
  last_links rows row s =
      ap (λ (o : Option (BTreeMap ℕ (Vec Link Z))). links_in_row o s) (slice_get-append_seam rows row)

  module _ (states : List State) (alphabet : Letters) (text : List ℕ) (levels : List (List ℕ)) where
    -- the last level
    pub tells-start : AreStates states → AreLevels states alphabet text levels →
        (rows : List (BTreeMap ℕ (Vec Link Z))) (row : BTreeMap ℕ (Vec Link Z)) (left : ℕ) → left ≡ length text → rows ≡ row ∷ [] →
        TellsEnds states (get_or levels left []) row → Tells states alphabet text levels left rows
    tells-start fit are rows row left whole same ends = record {
      many = let long = ap (length {A = BTreeMap ℕ (Vec Link Z)}) same in omega (arith, long, whole);
      told = λ s has.
          subst (λ (l : List (BTreeMap ℕ (Vec Link Z))). IsChosen (FitsText alphabet (drop left text)) (forms_at states s)
          (table (form_at (length l) l s) (length (row_links l (length l - 1) s)))) (sym same)
          (subst (λ (l : List ℕ). IsChosen (FitsText alphabet l) (forms_at states s)
          (table (form_at 1 (row ∷ []) s) (length (links_of row s))))
          (sym (drop_whole text left (omega (arith, whole))))
          (subst (IsChosen (FitsText alphabet []) (forms_at states s))
          (sym (by s (get_or states s bare).code (ends s has)))
          (found_end states alphabet fit s (are.within left s has))));
    }
      where
        by : (s : ℕ) (code : Option ℕ) → links_of row s ≡ at_end code →
            table (form_at 1 (row ∷ []) s) (length (links_of row s)) ≡ ending code
        by s code is =
            table-whole (link_form (form_at 0 (row ∷ []))) (links_of row s) (End 0)
            ∙ ap (map (link_form (form_at 0 (row ∷ [])))) is
            ∙ ended code
          where
            ended : (o : Option ℕ) →
                map (link_form (form_at 0 (row ∷ []))) (at_end o) ≡ ending o
            ended None = refl
            ended (Some c) = refl

    -- one level before
    pub tells-more : AreStates states → AreLevels states alphabet text levels →
        (taken : Taken) (rows new : List (BTreeMap ℕ (Vec Link Z)))
        (next row : BTreeMap ℕ (Vec Link Z)) (left : ℕ) → 0 < left →
        left ≤ length text → taken.alphabet.now ≡ alphabet → taken.c ≡ get_or text (left - 1) 0 →
        next ≡ get_or rows (length rows - 1) next → new ≡ rows ++ row ∷ [] →
        Tells states alphabet text levels left rows →
        TellsRow states taken next (get_or levels (left - 1) []) row →
        Tells states alphabet text levels (left - 1) new
    tells-more fit are taken rows new next row left some within by_letters is last same so_far tells =
        record {
          many =
              let long = ap (length {A = BTreeMap ℕ (Vec Link Z)}) same in
              let parts = length-append rows (row ∷ []) in
              let many = so_far.many in
              omega (arith, long, parts, many, some);
          told = λ s has.
              subst (λ (l : List (BTreeMap ℕ (Vec Link Z))). IsChosen (FitsText alphabet (drop (left - 1) text))
              (forms_at states s) (table (form_at (length l) l s)
              (length (row_links l (length l - 1) s)))) (sym same)
              (subst (λ n. IsChosen (FitsText alphabet (drop (left - 1) text)) (forms_at states s)
              (table (form_at n (rows ++ row ∷ []) s) (length (row_links (rows ++ row ∷ []) (n - 1) s))))
              (let parts = length-append rows (row ∷ []) in
              let long : suc (length rows) ≡ length (rows ++ row ∷ []) = omega (arith, parts) in long)
              (here s has));
        }
      where
        deep : (state place : ℕ) → Form
        deep = form_at (length rows) rows

        many_rows : 0 < length rows
        many_rows = let many = so_far.many in omega (arith, many, within)

        next_is : (t : ℕ) → links_of next t ≡ row_links rows (length rows - 1) t
        next_is t =
            sym (ap (λ (o : Option (BTreeMap ℕ (Vec Link Z))). links_in_row o t)
            (slice_get-get_or rows (length rows - 1) next (omega (arith, many_rows))
            ∙ ap Some (sym last)))

        rest_is : drop (left - 1) text ≡ taken.c ∷ drop left text
        rest_is =
            drop_more text (left - 1) 0 (omega (arith, some, within))
            ∙ ap (λ k. get_or text (left - 1) 0 ∷ drop k text)
            (let up : (left - 1) + 1 ≡ left = omega (arith, some) in up)
            ∙ ap (λ c. c ∷ drop left text) (sym is)

        told : (s : ℕ) → Contains (get_or levels (left - 1) []) s → (e : Edge) →
            Contains (get_or states s bare).edges e → Fits taken.alphabet.now e.letter taken.c →
            IsChosen (FitsText taken.alphabet.now (drop left text)) (forms_at states e.target)
            (table (deep e.target) (length (links_of next e.target)))
        told s has e edge fits =
            let stands = slice_get-get_or states s bare (are.within (left - 1) s has) in
            let goes : GoesTo states alphabet (get_or text (left - 1) 0) s e.target = (
              e.letter,
              (get_or states s bare, stands, edge),
              subst (λ c. Fits alphabet e.letter c) is
                  (subst (λ (a : Letters). Fits a e.letter taken.c) by_letters fits),
            ) in
            let there = subst (λ k. Contains (get_or levels k []) e.target)
            (let up : (left - 1) + 1 ≡ left = omega (arith, some) in up)
            (are.goes (left - 1) (omega (arith, some, within)) s e.target has goes) in
            subst (λ (a : Letters). IsChosen (FitsText a (drop left text)) (forms_at states e.target)
            (table (deep e.target) (length (links_of next e.target)))) (sym by_letters)
            (subst (λ (l : List Link). IsChosen (FitsText alphabet (drop left text))
            (forms_at states e.target) (table (deep e.target) (length l))) (sym (next_is e.target))
            (so_far.told e.target there))

        here : (s : ℕ) → Contains (get_or levels (left - 1) []) s →
            IsChosen (FitsText alphabet (drop (left - 1) text)) (forms_at states s)
            (table (form_at (suc (length rows)) (rows ++ row ∷ []) s)
            (length (row_links (rows ++ row ∷ []) (suc (length rows) - 1) s)))
        here s has =
            let links = links_of row s in
            let own = last_links rows row s in
            let chosen = tells s has states (drop left text) deep (told s has) in
            let whole = found_on states taken.alphabet.now fit s taken.c (drop left text)
            (map (link_form deep) links) (are.within (left - 1) s has) chosen in
            subst (λ (l : List Form). IsChosen (FitsText alphabet (drop (left - 1) text))
            (forms_at states s) l)
            (sym (ap (λ n. table (form_at (suc (length rows)) (rows ++ row ∷ []) s)
            (length (row_links (rows ++ row ∷ []) n s)))
            (let down : suc (length rows) - 1 ≡ length rows = omega arith in down)
            ∙ ap (λ (l : List Link). table (form_at (suc (length rows)) (rows ++ row ∷ []) s)
            (length l)) own
            ∙ table-same (form_at (suc (length rows)) (rows ++ row ∷ []) s)
            (λ k. link_form deep (link_at links k)) (length links) (λ k less.
            ap (λ (l : List Link). link_form (form_at (length rows) (rows ++ row ∷ [])) (link_at l k)) own
            ∙ form_same (link_at links k))
            ∙ table-whole (link_form deep) links (End 0)))
            (subst (λ (l : List ℕ). IsChosen (FitsText alphabet l) (forms_at states s)
            (map (link_form deep) links)) (sym rest_is)
            (subst (λ (a : Letters). IsChosen (FitsText a (taken.c ∷ drop left text))
            (forms_at states s) (map (link_form deep) links)) by_letters whole))
          where
            form_same : (l : Link) → link_form (form_at (length rows) (rows ++ row ∷ [])) l
                ≡ link_form deep l
            form_same (End code) = refl
            form_same (Letter letter state place) =
                ap (behind letter) (form_at-push (length rows) rows row (omega arith) state place)

-- LEVELS

module _ (states : List State) (alphabet : Letters) (text : List ℕ) (levels : List (List ℕ)) where
  pub levels-start : MakeAutomaton states → levels ≡ ((length states - 1) ∷ []) ∷ [] →
      AreLevelsTo 0 states alphabet text levels
  levels-start automaton same =
      subst (AreLevelsTo 0 states alphabet text) (sym same) (record {
        many = refl;
        first = (0, omega arith, refl);
        within = λ i s has. inside i s has;
        goes = λ i less source target. absurd (omega (arith, less));
      })
    where
      inside : (i s : ℕ) → Contains (get_or (((length states - 1) ∷ []) ∷ []) i []) s →
          s < length states
      inside zero s has = elim (Contains-cons_cases (length states - 1) s [] has) [
        | inl is ↦ let some = automaton.some in omega (arith, some, is)
        | inr later ↦ absurd (Contains-nil s later)
      ]
      inside (suc i) s has = absurd (Contains-nil s has)

  pub levels-more : AreStates states → (new : List (List ℕ)) (next : List ℕ) (n : ℕ) →
      AreLevelsTo n states alphabet text levels → new ≡ levels ++ next ∷ [] →
      ((t : ℕ) → Contains next t ↔ GoesFrom states alphabet (get_or text n 0) (get_or levels n []) t) →
      AreLevelsTo (n + 1) states alphabet text new
  levels-more fit new next n are same goes =
      subst (AreLevelsTo (n + 1) states alphabet text) (sym same) (record {
        many =
            let many = are.many in
            let parts = length-append levels (next ∷ []) in
            omega (arith, many, parts);
        first = subst (λ (l : List ℕ). Contains l (length states - 1))
            (sym (old 0 (let many = are.many in omega (arith, many)))) are.first;
        within = λ i s has. elim (cases_lt i (length levels)) [
          | inl less ↦ are.within i s (subst (λ (l : List ℕ). Contains l s) (old i less) has)
          | inr not_less ↦ elim (cases_lt (length levels) i) [
            | inl more ↦ absurd (Contains-nil s (subst (λ (l : List ℕ). Contains l s)
                (get_or_past (levels ++ next ∷ []) i []
                (let parts = length-append levels (next ∷ []) in omega (arith, parts, more))) has))
            | inr not_more ↦
                let here : i ≡ length levels = omega (arith, not_less, not_more) in
                stepped s ((goes s).0 (subst (λ (l : List ℕ). Contains l s)
                (ap (λ k. get_or (levels ++ next ∷ []) k []) here
                ∙ seam levels next) has))
          ]
        ];
        goes = λ i less source target has step. elim (cases_lt i n) [
          | inl before ↦
              subst (λ (l : List ℕ). Contains l target)
              (sym (old (i + 1) (let many = are.many in omega (arith, many, before))))
              (are.goes i before source target (subst (λ (l : List ℕ). Contains l source)
              (old i (let many = are.many in omega (arith, many, before))) has) step)
          | inr not_before ↦
              let here : i ≡ n = omega (arith, less, not_before) in
              let many = are.many in
              let there : i + 1 ≡ length levels = omega (arith, many, here) in
              subst (λ (l : List ℕ). Contains l target)
              (sym (ap (λ k. get_or (levels ++ next ∷ []) k []) there
              ∙ seam levels next))
              ((goes target).1 (
                source,
                subst (λ (l : List ℕ). Contains l source)
                    (old i (omega (arith, many, here)) ∙ ap (λ k. get_or levels k []) here) has,
                subst (λ k. GoesTo states alphabet (get_or text k 0) source target) here step,
              ))
        ];
      })
    where
      old : (i : ℕ) → i < length levels →
          get_or (levels ++ next ∷ []) i [] ≡ get_or levels i []
      old i less = get_or_append_left levels (next ∷ []) [] i less

      seam : (ls : List (List ℕ)) (l : List ℕ) →
          get_or (ls ++ l ∷ []) (length ls) [] ≡ l
      seam [] l = refl
      seam (k ∷ ls) l = seam ls l

      stepped : (s : ℕ) →
          GoesFrom states alphabet (get_or text n 0) (get_or levels n []) s → s < length states
      stepped s (source, has, (a, (x, stands, edge), fits)) =
          let low = (fit source x stands).within (edge_to a s) edge in
          let less = slice_get_within states source x stands in
          omega (arith, low, less)

-- ONE STATE AFTER ANOTHER

-- what holds of the links of each state so far, and of one more
pub states-more : {Z : Type 0} (P : ℕ → List Link → Type 0) (so_far : List ℕ) (state : ℕ)
    (old new : BTreeMap ℕ (Vec Link Z)) →
    ((s : ℕ) → Contains so_far s → P s (links_of old s)) → P state (links_of new state) →
    ((other : ℕ) → other ≢ state → links_of new other ≡ links_of old other) →
    (s : ℕ) → Contains (so_far ++ state ∷ []) s → P s (links_of new s)
states-more P so_far state old new before here others s has = elim (cases_lt s state) [
  | inl below ↦ apart (λ is. absurd (omega (arith, below, is)))
  | inr not_below ↦ elim (cases_lt state s) [
    | inl above ↦ apart (λ is. absurd (omega (arith, above, is)))
    | inr not_above ↦
        let same : state ≡ s = omega (arith, not_below, not_above) in
        subst (λ k. P k (links_of new k)) same here
  ]
]
  where
    apart : s ≢ state → P s (links_of new s)
    apart other = elim (Contains-append_cases so_far (state ∷ []) s has) [
      | inl earlier ↦ subst (P s) (sym (others s other)) (before s earlier)
      | inr last ↦ elim (Contains-cons_cases state s [] last) [
        | inl same ↦ absurd (other (sym same))
        | inr later ↦ absurd (Contains-nil s later)
      ]
    ]

-- READING

-- the form has these letters, and then those of the link here; where nothing is left, this code
abbrev pub rest_at : {Z : Type 0} → List (BTreeMap ℕ (Vec Link Z)) → (state place : ℕ) →
    (letters : List ℕ) → (code left state place : ℕ) → Type 0
rest_at rows first start letters code zero state place =
    form_at (length rows) rows first start ≡ form_of letters code
rest_at rows first start letters code (suc left) state place =
    (code ≡ 0) × (form_at (length rows) rows first start
    ≡ form_of (letters ++ (form_at (suc left) rows state place).letters)
    (form_at (suc left) rows state place).code)

module _ {Z : Type 0} (rows : List (BTreeMap ℕ (Vec Link Z))) (first start : ℕ) where
  abbrev whole : Form
  whole = form_at (length rows) rows first start

  -- at first nothing was read
  pub read-start : (left : ℕ) → left ≡ length rows → (letters : List ℕ) → letters ≡ [] →
      rest_at rows first start letters 0 left first start
  read-start zero is letters empty =
      ap (λ n. form_at n rows first start) (sym is)
      ∙ (λ k. form_of ((sym empty) k) 0)
  read-start (suc left) is letters empty = (
    refl,
    ap (λ n. form_at n rows first start) (sym is)
        ∙ (λ k. form_of ((sym empty) k ++ (form_at (suc left) rows first start).letters)
        (form_at (suc left) rows first start).code),
  )

  links_here : (n state : ℕ) (row : BTreeMap ℕ (Vec Link Z)) → n < length rows →
      row ≡ get_or rows n row → row_links rows n state ≡ links_of row state
  links_here n state row less is =
      ap (λ (o : Option (BTreeMap ℕ (Vec Link Z))). links_in_row o state)
      (slice_get-get_or rows n row less ∙ ap Some (sym is))

  -- the link is an end
  read_end : (left code state place : ℕ) (letters : List ℕ) →
      rest_at rows first start letters 0 (suc left) state place →
      link_at (row_links rows left state) place ≡ End code →
      rest_at rows first start letters code 0 state place
  read_end left code state place letters (_, is) link =
      is ∙ (λ k. form_of (letters ++ (link_form (form_at left rows) (link k)).letters)
      (link_form (form_at left rows) (link k)).code)
      ∙ (λ k. form_of (append-nil letters k) code)

  -- the link is a letter
  read_letter : (left letter state place target below : ℕ) (letters next : List ℕ) →
      rest_at rows first start letters 0 (suc left) state place →
      link_at (row_links rows left state) place ≡ Letter letter target below →
      next ≡ letters ++ letter ∷ [] →
      rest_at rows first start next 0 left target below
  read_letter left letter state place target below letters next (_, is) link pushed =
      by left (form_at left rows target below) refl refl
    where
      form_is : (deeper : Form) → deeper ≡ form_at left rows target below →
          whole ≡ form_of (next ++ deeper.letters) deeper.code
      form_is deeper same =
          is ∙ (λ k. form_of (letters ++ (link_form (form_at left rows) (link k)).letters)
          (link_form (form_at left rows) (link k)).code)
          ∙ (λ k. form_of (letters ++ letter ∷ ((sym same) k).letters) ((sym same) k).code)
          ∙ (λ k. form_of ((sym (append_assoc letters (letter ∷ []) deeper.letters)) k) deeper.code)
          ∙ (λ k. form_of ((sym pushed) k ++ deeper.letters) deeper.code)

      by : (n : ℕ) (deeper : Form) → left ≡ n → deeper ≡ form_at left rows target below →
          rest_at rows first start next 0 n target below
      by zero deeper nought same =
          form_is (form_of [] 0) (ap (λ n. form_at n rows target below) (sym nought))
          ∙ (λ k. form_of (append-nil next k) 0)
      by (suc n) deeper some same = (
        refl,
        form_is (form_at (suc n) rows target below)
            (ap (λ m. form_at m rows target below) (sym some)),
      )

  -- so it is with what is left
  pub read-end : (left code end state place : ℕ) (letters : List ℕ) (row : BTreeMap ℕ (Vec Link Z)) →
      0 < left → left ≤ length rows → rest_at rows first start letters code left state place →
      row ≡ get_or rows (left - 1) row → link_at (links_of row state) place ≡ End end →
      rest_at rows first start letters end 0 state place
  read-end zero code end state place letters row some within is here link =
      absurd (omega (arith, some))
  read-end (suc left) code end state place letters row some within is here link =
      read_end left end state place letters (refl, is.1)
      (ap (λ (l : List Link). link_at l place) (links_here left state row (omega (arith, within))
      (here ∙ ap (λ k. get_or rows k row)
      (let down : suc left - 1 ≡ left = omega arith in down))) ∙ link)

  pub read-letter : (left code letter state place target below : ℕ) (letters next : List ℕ)
      (row : BTreeMap ℕ (Vec Link Z)) → 0 < left → left ≤ length rows →
      rest_at rows first start letters code left state place → row ≡ get_or rows (left - 1) row →
      link_at (links_of row state) place ≡ Letter letter target below →
      next ≡ letters ++ letter ∷ [] → rest_at rows first start next code (left - 1) target below
  read-letter zero code letter state place target below letters next row some within is here link
      pushed = absurd (omega (arith, some))
  read-letter (suc left) code letter state place target below letters next row some within is here
      link pushed =
      let down : suc left - 1 ≡ left = omega arith in
      subst (λ k. rest_at rows first start next k (suc left - 1) target below) (sym is.0)
      (subst (λ k. rest_at rows first start next 0 k target below) (sym down)
      (read_letter left letter state place target below letters next (refl, is.1)
      (ap (λ (l : List Link). link_at l place) (links_here left state row (omega (arith, within))
      (here ∙ ap (λ k. get_or rows k row) down)) ∙ link) pushed))
