-- A box is bad exactly where it is reached in a phase in which it is bad.
use Rattle.std.proofs.Common.{arith, ◌≡◌, ◌≢◌, ℕ, zero, suc, ◌+◌, ◌*◌, ◌<◌, ◌⊎◌, inl, inr, List, [], ◌∷◌, ◌++◌, Bool, true, false, refl, sym, subst, length, Some, None}
use Rattle.std.specs.Prelude.{Contains, Option, ◌↔◌, ◌||◌, ◌&&◌}
use Rattle.std.specs.List.{list_any}
use Rattle.std.proofs.lemmas.List.Elements.{Contains-append_left, Contains-append_right, Contains-append_cases}
use Rattle.ux_base.proofs.Lists.{nothing_in, first_or_later, contains_first, contains_later}
use Rattle.ux_digraph.specs.Rules.{is_marked_at}
use Rattle.ux_grf.specs.Content.{is_read}
use Rattle.ux_grf.specs.declared.graph.Graph.{Graph}
use Rattle.ux_grf.specs.declared.item.Item.{Item}
use Rattle.ux_grf.specs.declared.item.Item.TheVariants as item
use Rattle.ux_grf.specs.WellFormed.{IsWellFormed, box_of_graph}
use Rattle.ux_rules.specs.declared.draft.Draft.{Draft}
use Rattle.ux_rules.specs.declared.step.Sign.{Sign}
use Rattle.ux_rules.specs.declared.step.Sign.TheVariants.{Read}
use Rattle.ux_rules.specs.declared.test.Test.{Test}
use Rattle.ux_rules.specs.Drafts.{IsDraft, AreGood, AreBoxesDone}
use Rattle.ux_rules.specs.Finding.{is_some_item, is_bad_by, IsBadIn, IsBadByPhases}
use Rattle.ux_rules.specs.Marks.{marks, IsBadBehind, HasBadSign, IsBadBox}
use Rattle.ux_rules.specs.Phases.{phase_of, bad_at, is_bad_item_at, FindsPhases}
use Rattle.ux_rules.specs.Words.{IsSaid, AreSaid, IsSpelled, IsSpelledBy, Leads, start, lines_of, mark_of}
use Rattle.ux_rules.proofs.BadLemmas.{bad_same, short_same, false_true}
use Rattle.ux_rules.proofs.BoxLemmas.{empty_word}
use Rattle.ux_rules.proofs.PhaseLemmas.{marks_are, phase_below}
use Rattle.ux_rules.proofs.SpotLemmas.{run_leads}
use Rattle.ux_rules.proofs.WordLemmas.{leads_run}

read_in : (test : Test) (front : List Sign) (sign : Sign) → front ≡ Read test ∷ [] →
    Contains front sign → Read test ≡ sign
read_in test front sign e here = elim (first_or_later (Read test) [] sign
    (subst (λ (l : List Sign). Contains l sign) e here)) [
      | inl is ↦ is
      | inr later ↦ absurd (nothing_in later)
    ]

-- what an item with a sign is
item_some : (it : Item) (front : List Sign) (sign : Sign) → IsSaid it front → Contains front sign →
    (test : Test) × (Read test ≡ sign) × (is_some_item it ≡ true)
item_some item.Empty front sign e here =
    absurd (nothing_in (subst (λ (l : List Sign). Contains l sign) e here))
item_some (item.Literal text) front sign (t, is, e) here = (t, read_in t front sign e here, refl)
item_some (item.Quoted text) front sign (t, is, e) here = (t, read_in t front sign e here, refl)
item_some (item.Mask text) front sign (t, is, e) here = (t, read_in t front sign e here, refl)
item_some (item.Brace text) front sign (t, is, e) here = absurd is
item_some item.NoSpace front sign (t, is, e) here = absurd is
item_some (item.Call text) front sign (t, is, e) here = absurd is
item_some (item.Begin text) front sign (t, is, e) here = absurd is
item_some (item.End text) front sign (t, is, e) here = absurd is
item_some item.Positive front sign (t, is, e) here = absurd is
item_some item.Negative front sign (t, is, e) here = absurd is
item_some item.ContextEnd front sign (t, is, e) here = absurd is
item_some item.Cut front sign (t, is, e) here = absurd is

has_read : (test : Test) (front : List Sign) → front ≡ Read test ∷ [] →
    (t : Test) × Contains front (Read t)
has_read test front e = (
  test,
  subst (λ (l : List Sign). Contains l (Read test)) (sym e)
      (contains_first (Read test) []),
)

-- an item that isn't empty has a sign
item_has : (it : Item) (front : List Sign) → IsSaid it front → is_some_item it ≡ true →
    (test : Test) × Contains front (Read test)
item_has item.Empty front e some = false_true some
item_has (item.Literal text) front (t, is, e) some = has_read t front e
item_has (item.Quoted text) front (t, is, e) some = has_read t front e
item_has (item.Mask text) front (t, is, e) some = has_read t front e
item_has (item.Brace text) front (t, is, e) some = absurd is
item_has item.NoSpace front (t, is, e) some = absurd is
item_has (item.Call text) front (t, is, e) some = absurd is
item_has (item.Begin text) front (t, is, e) some = absurd is
item_has (item.End text) front (t, is, e) some = absurd is
item_has item.Positive front (t, is, e) some = absurd is
item_has item.Negative front (t, is, e) some = absurd is
item_has item.ContextEnd front (t, is, e) some = absurd is
item_has item.Cut front (t, is, e) some = absurd is

or_right : (a b : Bool) → b ≡ true → (a || b) ≡ true
or_right true b e = refl
or_right false b e = e

or_left : (a b : Bool) → a ≡ true → (a || b) ≡ true
or_left true b e = refl
or_left false b e = false_true e

or_cases : (a b : Bool) → (a || b) ≡ true → (a ≡ true) ⊎ (b ≡ true)
or_cases true b e = inl refl
or_cases false b e = inr e

and_parts : (a b : Bool) → (a && b) ≡ true → (a ≡ true) × (b ≡ true)
and_parts true b e = (refl, e)
and_parts false b e = false_true e

and_both : (a b : Bool) → a ≡ true → b ≡ true → (a && b) ≡ true
and_both true b e f = f
and_both false b e f = false_true e

-- what a line with a sign is
line_some : (line : List Item) (signs : List Sign) (sign : Sign) → AreSaid line signs →
    Contains signs sign → (test : Test) × (Read test ≡ sign) × (list_any is_some_item line ≡ true)
line_some [] signs sign e here =
    absurd (nothing_in (subst (λ (l : List Sign). Contains l sign) e here))
line_some (it ∷ line) signs sign (front, back, first, rest, e) here =
    elim (Contains-append_cases front back sign
    (subst (λ (l : List Sign). Contains l sign) e here)) [
      | inl a ↦ let r = item_some it front sign first a in
          (r.0, r.1, or_left (is_some_item it) (list_any is_some_item line) r.2)
      | inr b ↦ let r = line_some line back sign rest b in
          (r.0, r.1, or_right (is_some_item it) (list_any is_some_item line) r.2)
    ]

-- the signs of a good line
pub record IsGoodLine (line : List Item) : Type 0 where
  pub signs : List Sign
  pub said : AreSaid line signs
  pub has : list_any is_some_item line ≡ true → (test : Test) × Contains signs (Read test)

good_line : (line : List Item) → AreGood line → IsGoodLine line
good_line [] good = record { signs = []; said = refl; has = λ e. false_true e }
good_line (it ∷ line) good =
    let g = good it (contains_first it line) in
    let r = good_line line (λ x here. good x (contains_later it line x here)) in
    record {
      signs = g.0 ++ r.signs;
      said = (g.0, r.signs, g.1, r.said, refl);
      has = λ e. elim (or_cases (is_some_item it) (list_any is_some_item line) e) [
        | inl a ↦ let h = item_has it g.0 g.1 a in
            (h.0, Contains-append_left g.0 r.signs (Read h.0) h.1)
        | inr b ↦ let h = r.has b in
            (h.0, Contains-append_right g.0 r.signs (Read h.0) h.1)
      ];
    }

-- a bad line has a bad sign
line_bad : (graph : Graph) (node : ℕ) (line : List Item) (met : List Sign) (mark : Option Sign) →
    node ≢ 1 → Contains (lines_of graph node) line → mark_of line ≡ mark →
    (mark_of line ≡ None → AreGood line) → ((sign : Sign) →
    IsBadBehind met sign ↔ (bad_at (phase_of met) sign ≡ true)) →
    is_bad_by mark line (phase_of met) ≡ true → HasBadSign graph node met
line_bad graph node line met None inner here is good same bad =
    let g = good_line line (good is) in
    let parts = and_parts (list_any is_some_item line) (is_bad_item_at (phase_of met)) bad in
    let h = g.has parts.0 in (
      g.signs,
      record {
        before_end = inner;
        line = line;
        of_box = here;
        spelled = subst (λ (m : Option Sign). IsSpelledBy m line g.signs) (sym is) g.said;
      },
      (Read h.0, h.1, (same (Read h.0)).1 parts.1),
    )
line_bad graph node line met (Some mark) inner here is good same bad = (
  mark ∷ [],
  record {
    before_end = inner;
    line = line;
    of_box = here;
    spelled = subst (λ (m : Option Sign). IsSpelledBy m line (mark ∷ [])) (sym is) refl;
  },
  (mark, contains_first mark [], (same mark).1 bad),
)

-- a line with a bad sign is bad
bad_line : (line : List Item) (signs met : List Sign) (sign : Sign) (mark : Option Sign) →
    mark_of line ≡ mark → IsSpelledBy mark line signs → Contains signs sign →
    (bad_at (phase_of met) sign ≡ true) → is_bad_by mark line (phase_of met) ≡ true
bad_line line signs met sign None is says here bad =
    let r = line_some line signs sign says here in
    and_both (list_any is_some_item line) (is_bad_item_at (phase_of met)) r.2
    (subst (λ (s : Sign). bad_at (phase_of met) s ≡ true) (sym r.1) bad)
bad_line line signs met sign (Some mark) is says here bad =
    elim (first_or_later mark [] sign (subst (λ (l : List Sign). Contains l sign) says here)) [
      | inl e ↦ subst (λ (s : Sign). bad_at (phase_of met) s ≡ true) (sym e) bad
      | inr later ↦ absurd (nothing_in later)
    ]

no_read : (b : Bool) → is_read 0 b ≡ false
no_read true = refl
no_read false = refl

-- the start has no lines of its own
start_bare : (graph : Graph) → IsWellFormed graph → (box_of_graph graph 0).lines ≡ []
start_bare graph formed =
    let two = formed.two in
    ((formed.boxes 0 (omega (arith, two))).bare (no_read (box_of_graph graph 0).reached)).0

any_line : (graph : Graph) → IsWellFormed graph → (node : ℕ) (line : List Item) →
    Contains (box_of_graph graph node).lines line → Contains (lines_of graph node) line
any_line graph formed zero line here = absurd (nothing_in
    (subst (λ (ls : List (List Item)). Contains ls line) (start_bare graph formed) here))
any_line graph formed (suc node) line here = here

line_any : (graph : Graph) (node : ℕ) (line : List Item) (signs : List Sign) (sign : Sign) →
    Contains (lines_of graph node) line → IsSpelled line signs → Contains signs sign →
    Contains (box_of_graph graph node).lines line
line_any graph zero line signs sign here says within_signs =
    elim (first_or_later (item.Empty ∷ []) [] line here) [
      | inl e ↦ absurd (nothing_in (subst (λ (l : List Sign). Contains l sign)
          (empty_word signs (subst (λ (l : List Item). IsSpelled l signs) (sym e) says))
          within_signs))
      | inr later ↦ absurd (nothing_in later)
    ]
line_any graph (suc node) line signs sign here says within_signs = here

module _ (graph : Graph) (formed : IsWellFormed graph) (draft : Draft) (drawn : IsDraft graph draft)
    (done : AreBoxesDone graph (length graph.boxes) draft) (found : List Bool)
    (finds : FindsPhases draft.steps.items found) where
  -- a phase that is found is that of a word
  pub phase_word : (node phase : ℕ) → node < length graph.boxes → phase < 9 →
      is_marked_at found (node * 9 + phase) ≡ true →
      (word : List Sign) × Leads graph node word × (phase_of (marks word) ≡ phase)
  phase_word node phase inside below marked =
      let h = (finds node phase below).0 marked in
      let two = formed.two in (
        h.0,
        run_leads graph draft.places draft.steps.items drawn.0 drawn.1 node
            (omega (arith, two)) inside h.0 h.1 start,
        h.2,
      )

  pub word_phase : (node : ℕ) (word : List Sign) → Leads graph node word →
      is_marked_at found (node * 9 + phase_of (marks word)) ≡ true
  word_phase node word leads =
      (finds node (phase_of (marks word)) (phase_below (marks word))).1
      (word, leads_run graph formed draft done leads, refl)

  -- a box that is found is bad
  pub found_bad : (node : ℕ) → node < length graph.boxes → IsBadByPhases graph found node →
      IsBadBox graph node
  found_bad node inside (phase, below, marked, bad) =
      let w = phase_word node phase inside below marked in
      let met = marks w.0 in
      let are = marks_are w.0 in
      let here : IsBadIn graph node (phase_of met) =
      subst (λ (p : ℕ). IsBadIn graph node p) (sym w.2) bad in
      record {
        before = w.0;
        leads = w.1;
        bad = elim here [
          | inl short ↦ inl (short.0, (short_same met are).1 short.1)
          | inr lines ↦
              let any = lines.1 in
              let line = any.1 in
              let of_box = any_line graph formed node line (any.0, any.2, any.3) in
              inr (line_bad graph node line met (mark_of line) lines.0 of_box refl
              (done.good node inside line of_box) (bad_same met are) any.4)
        ];
      }

  -- a bad box is found
  pub bad_found : (node : ℕ) → IsBadBox graph node → IsBadByPhases graph found node
  bad_found node h =
      let met = marks h.before in
      let are = marks_are h.before in (
        phase_of met,
        phase_below met,
        word_phase node h.before h.leads,
        elim h.bad [
          | inl short ↦ inl (short.0, (short_same met are).0 short.1)
          | inr signs ↦
              let through = signs.1 in
              let within_signs = signs.2.1 in
              let of_box = line_any graph node through.line signs.0 signs.2.0 through.of_box
              through.spelled within_signs in
              inr (
                through.before_end,
                (
                  of_box.0,
                  through.line,
                  of_box.1,
                  of_box.2,
                  bad_line through.line signs.0 met signs.2.0 (mark_of through.line) refl
                      through.spelled within_signs ((bad_same met are signs.2.0).0 signs.2.2),
                ),
              )
        ],
      )
