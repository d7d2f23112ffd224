-- The steps along a line are made item by item.
use Rattle.std.proofs.Common.{arith, ◌≡◌, ℕ, suc, ◌+◌, ◌<◌, ◌≤◌, inl, inr, List, [], ◌∷◌, ◌++◌, sym, ap, ◌∙◌, append-nil, subst, length, take, drop, get_or, Some, None, add-one, drop-cons}
use Rattle.std.specs.Prelude.{Contains, Option}
use Rattle.std.proofs.lemmas.List.Elements.{Contains-append_left, Contains-push, Contains-push_cases}
use Rattle.ux_base.proofs.Lists.{take_more, take_whole, drop_whole, nothing_in}
use Rattle.ux_grf.specs.declared.graph.Graph.{Graph}
use Rattle.ux_grf.specs.declared.item.Item.{Item}
use Rattle.ux_rules.specs.declared.draft.Draft.{Draft}
use Rattle.ux_rules.specs.declared.step.Sign.{Sign}
use Rattle.ux_rules.specs.declared.step.Sign.TheVariants.{Free}
use Rattle.ux_rules.specs.declared.step.Step.{Step}
use Rattle.ux_rules.specs.Drafts.{said_by, step_at, IsOnlySign, Spot, before, within, IsLineOf, Fits, enters, reads, leaves, passes, IsDrawn, IsDraft, IsDraftAt, Keeps, AreGood, IsLineDone}
use Rattle.ux_rules.specs.Runs.{Run}
use Rattle.ux_rules.specs.Words.{IsSaid, AreSaid, IsSpelled, IsSpelledBy, mark_of}
use Rattle.ux_rules.proofs.DraftLemmas.{with_spot, spot_here, drawn_link, drawn_lead}
use Rattle.ux_rules.proofs.RunLemmas.{run_append, run_kept, run_one}
use Rattle.ux_rules.proofs.SaidLemmas.{said_less}

-- one step was added, and no place
pub record IsLinked (old : Draft) (from to : ℕ) (sign : Sign) (new : Draft) : Type 0 where
  pub places : new.places ≡ old.places
  pub steps : new.steps.items ≡ old.steps.items ++ step_at from to sign ∷ []

-- a place was added, and a step that leads to it
pub record IsLed (old : Draft) (from : ℕ) (sign : Sign) (new : Draft) : Type 0 where
  pub places : new.places ≡ old.places + 1
  pub steps : new.steps.items ≡ old.steps.items ++ step_at from old.places sign ∷ []

kept_push : (old new : Draft) (s : Step) → new.steps.items ≡ old.steps.items ++ s ∷ [] →
    Keeps old new
kept_push old new s is x here =
    subst (λ (l : List Step). Contains l x) (sym is)
    (Contains-append_left old.steps.items (s ∷ []) x here)

new_run : (old new : Draft) (a b : ℕ) (sign : Sign) →
    new.steps.items ≡ old.steps.items ++ step_at a b sign ∷ [] →
    Run new.steps.items a b (said_by sign)
new_run old new a b sign is =
    run_one new.steps.items (step_at a b sign)
    (subst (λ (l : List Step). Contains l (step_at a b sign)) (sym is)
    (Contains-push old.steps.items (step_at a b sign)))

-- a step between places that are there
pub linked_draft : (graph : Graph) (old new : Draft) (spot : ℕ → Spot) →
    IsDrawn graph old.places old.steps.items spot → (a b : ℕ) (sign : Sign) →
    a < old.places → b < old.places → Fits graph (spot a) sign (spot b) →
    IsLinked old a b sign new → IsDraft graph new
linked_draft graph old new spot drawn a b sign is_a is_b fits linked = (
  spot,
  subst (λ (p : ℕ). IsDrawn graph p new.steps.items spot) (sym linked.places)
      (subst (λ (l : List Step). IsDrawn graph old.places l spot) (sym linked.steps)
      (drawn_link graph old.places old.steps.items spot drawn a b sign is_a is_b fits)),
)

pub linked_kept : (old new : Draft) (a b : ℕ) (sign : Sign) → IsLinked old a b sign new →
    Keeps old new
linked_kept old new a b sign linked = kept_push old new (step_at a b sign) linked.steps

pub linked_run : (old new : Draft) (a b : ℕ) (sign : Sign) → IsLinked old a b sign new →
    Run new.steps.items a b (said_by sign)
linked_run old new a b sign linked = new_run old new a b sign linked.steps

-- a place that a step leads to
led_draft : (graph : Graph) (old new : Draft) (spot : ℕ → Spot) →
    IsDrawn graph old.places old.steps.items spot → (a : ℕ) (sign : Sign) (at : Spot) →
    a < old.places → Fits graph (spot a) sign at → IsLed old a sign new →
    IsDraftAt graph new old.places at
led_draft graph old new spot drawn a sign at is_a fits led = record {
  spot = with_spot spot old.places at;
  drawn = subst (λ (p : ℕ). IsDrawn graph p new.steps.items (with_spot spot old.places at))
      (sym led.places)
      (subst (λ (l : List Step).
      IsDrawn graph (old.places + 1) l (with_spot spot old.places at)) (sym led.steps)
      (drawn_lead graph old.places old.steps.items spot drawn a sign at is_a fits));
  inside = let places = led.places in omega (arith, places);
  here = spot_here spot old.places at;
}

-- the steps lead along the first items of the line
pub record IsAtItem (graph : Graph) (node : ℕ) (line : List Item) (old now : Draft)
    (place i : ℕ) : Type 0 where
  pub at : IsDraftAt graph now place (within node (drop i line))
  pub kept : Keeps old now
  pub run : (signs : List Sign) → AreSaid (take i line) signs → Run now.steps.items node place signs
  pub good : AreGood (take i line)

pub items_begin : (graph : Graph) (node : ℕ) (line : List Item) (old new : Draft) (place : ℕ) →
    node < length graph.boxes → IsLineOf graph node line → mark_of line ≡ None →
    IsDraft graph old → IsLed old node Free new → place ≡ old.places →
    IsAtItem graph node line old new place 0
items_begin graph node line old new place inside is_line no_mark (spot, drawn) led is =
    subst (λ (p : ℕ). IsAtItem graph node line old new p 0) (sym is) (record {
      at = led_draft graph old new spot drawn node Free (within node line)
          (let room = drawn.room in omega (arith, room, inside))
          (subst (λ (s : Spot). Fits graph s Free (within node line))
          (sym (drawn.first node inside)) (enters is_line no_mark)) led;
      kept = kept_push old new (step_at node old.places Free) led.steps;
      run = λ signs said. subst (λ (w : List Sign). Run new.steps.items node old.places w)
          (sym said) (new_run old new node old.places Free led.steps);
      good = λ it here. absurd (nothing_in here);
    })

pub items_next : (graph : Graph) (node : ℕ) (line : List Item) (old now new : Draft)
    (place later i : ℕ) (it : Item) (sign : Sign) → i < length line → it ≡ get_or line i it →
    IsOnlySign it sign → IsAtItem graph node line old now place i → IsLed now place sign new →
    later ≡ now.places → IsAtItem graph node line old new later (i + 1)
items_next graph node line old now new place later i it sign within_line is_it only h led is =
    let rest : drop i line ≡ it ∷ drop (i + 1) line =
    drop-cons line i it within_line
    ∙ (ap (λ (x : Item). x ∷ drop (suc i) line) (sym is_it)
    ∙ ap (λ (k : ℕ). it ∷ drop k line) (sym (add-one i))) in
    let front : take (i + 1) line ≡ take i line ++ it ∷ [] =
    take_more line i it within_line ∙ ap (λ (x : Item). take i line ++ x ∷ []) (sym is_it) in
    let spot = h.at.spot in
    let kept_now : Keeps now new = kept_push now new (step_at place now.places sign) led.steps in
    subst (λ (p : ℕ). IsAtItem graph node line old new p (i + 1)) (sym is) (record {
      at = led_draft graph now new spot h.at.drawn place sign (within node (drop (i + 1) line))
          h.at.inside
          (subst (λ (s : Spot). Fits graph s sign (within node (drop (i + 1) line)))
          (sym (h.at.here ∙ ap (λ (r : List Item). within node r) rest))
          (reads it sign only.0)) led;
      kept = λ s here. kept_now s (h.kept s here);
      run = λ signs said.
          let parts = said_less (take i line) it signs
          (subst (λ (r : List Item). AreSaid r signs) front said) in
          subst (λ (w : List Sign). Run new.steps.items node now.places w) (sym parts.4)
          (run_append (run_kept kept_now (h.run parts.0 parts.2))
          (subst (λ (w : List Sign). Run new.steps.items place now.places w)
          (sym (only.1 parts.1 parts.3)) (new_run now new place now.places sign led.steps)));
      good = λ x here. elim (Contains-push_cases (take i line) it x
          (subst (λ (r : List Item). Contains r x) front here)) [
            | inl a ↦ h.good x a
            | inr e ↦ (said_by sign, subst (λ (y : Item). IsSaid y (said_by sign)) e only.0)
          ];
    })

pub items_end : (graph : Graph) (node : ℕ) (line : List Item) (old now new : Draft)
    (place i : ℕ) → node < length graph.boxes → length line ≤ i → mark_of line ≡ None →
    IsAtItem graph node line old now place i →
    IsLinked now place (length graph.boxes + node) Free new →
    IsDraft graph new × IsLineDone graph node line old new
items_end graph node line old now new place i inside past no_mark h linked =
    let spot = h.at.spot in
    let drawn = h.at.drawn in
    let all : take i line ≡ line = take_whole line i past in
    let none : drop i line ≡ [] = drop_whole line i past in
    let to_end = length graph.boxes + node in
    let kept_now : Keeps now new = linked_kept now new place to_end Free linked in (
      linked_draft graph now new spot drawn place to_end Free h.at.inside
          (let room = drawn.room in omega (arith, room, inside))
          (subst (λ (s : Spot). Fits graph s Free (spot to_end))
          (sym (h.at.here ∙ ap (λ (r : List Item). within node r) none))
          (subst (λ (s : Spot). Fits graph (within node []) Free s) (sym (drawn.second node inside))
          leaves))
          linked,
      record {
        kept = λ s here. kept_now s (h.kept s here);
        crosses = λ signs says.
            let said : AreSaid line signs =
            subst (λ (m : Option Sign). IsSpelledBy m line signs) no_mark says in
            subst (λ (w : List Sign). Run new.steps.items node to_end w) (append-nil signs)
            (run_append (run_kept kept_now (h.run signs
            (subst (λ (r : List Item). AreSaid r signs) (sym all) said)))
            (linked_run now new place to_end Free linked));
        good = λ is. subst AreGood all h.good;
      },
    )

-- an item that says nothing is bad
pub item_in : (line : List Item) (i : ℕ) (it : Item) → i < length line → it ≡ get_or line i it →
    Contains line it
item_in line i it within_line is = (i, within_line, sym is)

-- a mark leads from before the box to behind it
pub mark_line : (graph : Graph) (node : ℕ) (line : List Item) (old new : Draft) (mark : Sign) →
    node < length graph.boxes → IsLineOf graph node line → mark_of line ≡ Some mark →
    said_by mark ≡ mark ∷ [] → IsDraft graph old →
    IsLinked old node (length graph.boxes + node) mark new →
    IsDraft graph new × IsLineDone graph node line old new
mark_line graph node line old new mark inside is_line is_mark one (spot, drawn) linked =
    let to_end = length graph.boxes + node in
    let spelled : IsSpelled line (said_by mark) =
    subst (λ (m : Option Sign). IsSpelledBy m line (said_by mark)) (sym is_mark) one in (
      linked_draft graph old new spot drawn node to_end mark
          (let room = drawn.room in omega (arith, room, inside))
          (let room = drawn.room in omega (arith, room, inside))
          (subst (λ (s : Spot). Fits graph s mark (spot to_end)) (sym (drawn.first node inside))
          (subst (λ (s : Spot). Fits graph (before node) mark s) (sym (drawn.second node inside))
          (passes mark (record {
            before_end = is_line.inner;
            line = line;
            of_box = is_line.of_box;
            spelled = spelled;
          })))) linked,
      record {
        kept = linked_kept old new node to_end mark linked;
        crosses = λ signs says.
            let is : signs ≡ mark ∷ [] =
            subst (λ (m : Option Sign). IsSpelledBy m line signs) is_mark says in
            subst (λ (w : List Sign). Run new.steps.items node to_end w) (one ∙ sym is)
            (linked_run old new node to_end mark linked);
        good = λ none. absurd (let f : None ≡ Some mark = sym none ∙ is_mark in cc);
      },
    )
