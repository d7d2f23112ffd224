-- What rules leave of a sentence, from what is kept of its numbers.
use Rattle.std.proofs.Common.{arith, ◌≡◌, ℕ, ◌+◌, ◌-◌, ◌<◌, ◌↔◌, List, [], ◌∷◌, ◌++◌, inl, inr, refl, sym, ◌∙◌, ap, subst, length}
use Rattle.std.specs.Prelude.{All, Contains, None, Option, Some, map}
use Rattle.std.proofs.lemmas.List.Elements.{All-cons, All-contains}
use Rattle.ux_base.proofs.Lists.{nothing_in}
use Rattle.ux_base.proofs.JoinedLists.{contained_mapped, contains_mapped}
use Rattle.ux_sentence.specs.declared.sentence.Reading.{Reading}
use Rattle.ux_sentence.specs.declared.sentence.Reading.TheVariants.{Raw}
use Rattle.ux_sentence.specs.declared.sentence.Link.{Link}
use Rattle.ux_sentence.specs.declared.sentence.Sentence.{Sentence}
use Rattle.ux_sentence.specs.Paths.{IsPath, IsReadAs, IsWellFormed, LeadsOn, last_of}
use Rattle.ux_sentence.specs.Valid.{HasSpellable}
use Rattle.ux_sentence.specs.Written.{HasPath, LeadsUp}
use Rattle.ux_rules.specs.declared.step.Sign.TheVariants.{If, Then}
use Rattle.ux_rules.specs.declared.step.Step.{Step}
use Rattle.ux_rules.specs.Rules.{RuleSteps, SatisfiesRule}
use Rattle.ux_rules.specs.Runs.{IsPair, Satisfies}
use Rattle.ux_monitor.specs.Monitors.{tests_of}
use Rattle.ux_monitor.specs.declared.rule.Sign as numbered_sign
use Rattle.ux_monitor.specs.declared.rule.Sign.TheVariants as sign
use Rattle.ux_monitor.specs.declared.rule.Step as numbered_step
use Rattle.ux_monitor.specs.Rules as monitored
use Rattle.ux_subsets.specs.declared.automaton.Automaton.{Automaton}
use Rattle.ux_subsets.specs.declared.automaton.Link as placed
use Rattle.ux_reading_table.specs.declared.numbered.NumberedLink.{NumberedLink}
use Rattle.ux_reading_table.specs.declared.numbered.NumberedSentence.{NumberedSentence}
use Rattle.ux_elag.specs.declared.prepared_rule.PreparedRule.{PreparedRule}
use Rattle.ux_elag.specs.Left.{Keeps, SatisfiesEach, readings_of}
use Rattle.ux_elag.specs.Numbers as numbered_words
use Rattle.ux_elag.specs.Numbers.{AreBelow, AreReadings, IsEmpty, IsFormed, IsKept, IsOrdered, IsOrderedBy, IsPlaced, HaveTexts, link_of, reading_at, sentence_of, told}
use Rattle.ux_elag.specs.Prepared.{HasText, IsPreparedFor, SatisfiesAll, SatisfiesOne}
use Rattle.ux_elag.specs.Ready.{AreKinds, IsMonitorOf, IsTable, numbered_steps}
use Rattle.ux_elag.proofs.KindsLemmas.{kinds-table}
use Rattle.ux_elag.proofs.Named.{IsNamed, named, named-told, placed-named}
use Rattle.ux_elag.proofs.NamedPaths.{AreSmall}
use Rattle.ux_elag.proofs.NumberedLemmas.{same_sentence}
use Rattle.ux_elag.proofs.Leaving.{all-of, known-left, left-none, left-some}
use Rattle.ux_elag.proofs.Satisfying.{satisfies-numbered}
use Rattle.ux_elag.proofs.TextsLemmas.{AreReadingsOf, reading-text, readings-count}

-- the monitor tells of numbers what the rule tells of readings
pub monitor-tells : (steps : List Step) (monitor : monitored.Rule) (readings : List Reading)
    (table : List (List ℕ)) → IsMonitorOf steps monitor → IsTable steps readings table →
    (word : List ℕ) → AreSmall (length readings) word →
    monitored.SatisfiesBy monitor table word
    ↔ Satisfies (IsPair steps If) (IsPair steps Then) (map (reading_at readings) word)
monitor-tells steps monitor readings table is rows word small =
    subst (λ (ss : List numbered_step.Step). monitored.Satisfies ss monitor.ends
    (monitored.PassesAt table) word
    ↔ Satisfies (IsPair steps If) (IsPair steps Then) (map (reading_at readings) word))
    (sym is.steps_are)
    (subst (λ (es : List ℕ). monitored.Satisfies (numbered_steps 0 steps) es
    (monitored.PassesAt table) word
    ↔ Satisfies (IsPair steps If) (IsPair steps Then) (map (reading_at readings) word))
    (sym is.ends_are)
    (satisfies-numbered steps readings table rows word small))

-- the same of a rule that is prepared
prepared-tells : (texts : List (List ℕ)) (readings : List Reading) → AreReadingsOf texts readings →
    (rule : PreparedRule) → IsPreparedFor texts (length texts) rule → (word : List ℕ) →
    AreSmall (length readings) word →
    SatisfiesOne rule word ↔ SatisfiesRule rule.rule (map (reading_at readings) word)
prepared-tells texts readings are rule is word small =
    let table = tests_of rule.monitor.kinds rule.kinds.items in
    monitor-tells rule.rule.steps rule.monitor.rule readings table is.monitor
    (kinds-table rule.rule.steps (HasText texts) readings rule.monitor.kinds rule.kinds.items
    (subst (λ (n : ℕ). AreKinds rule.rule.steps (HasText texts) n rule.monitor.kinds
    rule.kinds.items)
    (sym (readings-count texts readings are)) is.kinds)
    (reading-text texts readings are)) word small

-- and of all rules
pub all-tell : (texts : List (List ℕ)) (readings : List Reading) → AreReadingsOf texts readings →
    (rules : List PreparedRule) → All (IsPreparedFor texts (length texts)) rules → (word : List ℕ) →
    AreSmall (length readings) word → SatisfiesAll rules word
    ↔ SatisfiesEach (map (λ (rule : PreparedRule). rule.rule) rules)
    (map (reading_at readings) word)
all-tell texts readings are rules each word small =
    let one : (rule : PreparedRule) → Contains rules rule →
    SatisfiesOne rule word ↔ SatisfiesRule rule.rule (map (reading_at readings) word) =
    λ rule has. prepared-tells texts readings are rule
    (All-contains (IsPreparedFor texts (length texts)) rules rule each has) word small in (
      λ so rule has.
          let found = contained_mapped (λ (r : PreparedRule). r.rule) rules rule has in
          subst (λ (r : RuleSteps). SatisfiesRule r (map (reading_at readings) word)) found.2
          ((one found.0 found.1).0 (so found.0 found.1)),
      λ so rule has. (one rule has).1
          (so rule.rule (contains_mapped (λ (r : PreparedRule). r.rule) rules rule has)),
    )

-- a rule without steps has no pair
no_run : (a b : ℕ) (word : List numbered_sign.Sign) → monitored.Run [] a b word → word ≡ []
no_run a b word monitored.Run.stop = refl
no_run a b word (monitored.Run.free s has is rest) = absurd (nothing_in has)
no_run a b word (monitored.Run.along s has other rest) = absurd (nothing_in has)

pub no-rule : (monitor : monitored.Rule) (table : List (List ℕ)) → monitor.steps ≡ [] →
    (word : List ℕ) → monitored.SatisfiesBy monitor table word
no-rule monitor table none word before after e found =
    let run = subst (λ (ss : List numbered_step.Step). monitored.Run ss 0 found.pair.0
    ((sign.If ∷ map sign.Read found.left) ++ (sign.If ∷ (map sign.Read found.right ++ sign.If ∷
    []))))
    none found.pair.2 in
    let empty = no_run 0 found.pair.0
    ((sign.If ∷ map sign.Read found.left) ++ (sign.If ∷ (map sign.Read found.right ++ sign.If ∷
    [])))
    run in
    absurd (cc)

-- readings that are known can be spelled
pub named-spellable : (readings : List Reading) (links : List NumberedLink) → AreReadings readings →
    AreBelow (length readings) links → All HasSpellable (map (link_of readings) links)
named-spellable readings links are below = all-of HasSpellable (map (link_of readings) links)
    (λ link has.
    let found = contained_mapped (link_of readings) links link has in
    let inside = All-contains (λ (l : NumberedLink). l.reading < length readings) links found.0
    below found.1 in
    subst HasSpellable found.2 (are.spellable found.0.reading (Raw []) inside))

-- a sentence of what is kept, by any readings
ordered-named : (texts : List (List ℕ)) (readings : List Reading) (number : ℕ)
    (automaton : Automaton) (new : NumberedSentence) →
    (is : IsOrderedBy texts number automaton new) →
    sentence_of readings new ≡ record {
      number = number;
      states = automaton.last + 1;
      links = map (named (λ state. state) readings) is.sorted;
    }
ordered-named texts readings number automaton new is = same_sentence (sentence_of readings new) (record {
  number = number;
  states = automaton.last + 1;
  links = map (named (λ state. state) readings) is.sorted;
}) is.number_is is.states_are
    (ap (map (link_of readings)) is.links_are ∙ named-told readings is.sorted)

empty-named : (readings : List Reading) (number : ℕ) (new : NumberedSentence) → IsEmpty number new →
    sentence_of readings new ≡ record { number = number; states = 0; links = [] }
empty-named readings number new is = same_sentence (sentence_of readings new)
    (record { number = number; states = 0; links = [] }) is.number_is is.no_states
    (ap (map (link_of readings)) is.no_links)

module _ (old : Sentence) (IsSo : List Reading → Type 0)
    (states : List ℕ) (readings : List Reading) (links : List placed.Link)
    (some : 0 < old.states) (are : IsNamed old states readings links)
    (IsGood : List ℕ → Type 0)
    (good : (word : List ℕ) → AreSmall (length readings) word →
    IsGood word ↔ IsSo (map (reading_at readings) word))
    (texts : List (List ℕ)) (have : HaveTexts texts readings) where
  -- the readings of what is kept are known
  kept-below : (kept : Option Automaton) (new : NumberedSentence) →
      IsKept IsGood (length states - 1) links kept → IsOrdered texts old.number kept new →
      AreBelow (length readings) new.links.items
  kept-below None new is ordered =
      subst (AreBelow (length readings)) (sym ordered.no_links) (λ k d lt. absurd (omega arith))
  kept-below (Some automaton) new is ordered =
      subst (AreBelow (length readings)) (sym ordered.links_are)
      (all-of (λ (l : NumberedLink). l.reading < length readings) (map told ordered.sorted)
      (λ link has.
      let found = contained_mapped told ordered.sorted link has in
      subst (λ (l : NumberedLink). l.reading < length readings) found.2
      (known-left old IsSo old.number states readings links some are IsGood good refl
      automaton.last automaton.links.items is.left found.0 ((ordered.same found.0).0 found.1))))

  -- what is kept, with its names, is what is left
  kept-named : (kept : Option Automaton) (new : NumberedSentence) →
      IsKept IsGood (length states - 1) links kept → IsOrdered texts old.number kept new →
      Keeps IsSo old (sentence_of readings new)
  kept-named None new is ordered =
      subst (Keeps IsSo old) (sym (empty-named readings old.number new ordered))
      (left-none old IsSo old.number states readings links some are IsGood good refl is.nothing)
  kept-named (Some automaton) new is ordered =
      subst (Keeps IsSo old) (sym (ordered-named texts readings old.number automaton new ordered))
      (left-some old IsSo old.number states readings links some are IsGood good refl
      automaton.last automaton.links.items is.left texts have ordered.sorted ordered.rising
      ordered.same)

both_empty : (path other : List Link) → IsPath [] 0 0 path → IsPath [] 0 0 other → path ≡ other
both_empty [] [] p q = refl
both_empty [] (link ∷ other) p q = absurd (nothing_in q.0)
both_empty (link ∷ path) other p q = absurd (nothing_in p.0)

-- a sentence without states stays as it is
pub empty-kept : (IsSo : List Reading → Type 0) (old : Sentence) → old.states ≡ 0 →
    Keeps IsSo old (record { number = old.number; states = 0; links = [] })
empty-kept IsSo old none = record {
  number = refl;
  exact = λ list. (λ h. absurd (omega (arith, h.0)), λ h. absurd (omega (arith, h.0.0, none)));
  once = λ path other p q e. both_empty path other p q;
  on_path = λ state lt. absurd (omega arith);
  apart = λ state other lt lo alike. absurd (omega arith);
  apart_before = λ state other lt lo alike. absurd (omega arith);
  formed = inl (refl, refl);
  ordered = λ i j d lt lj. absurd (omega arith);
  none = λ no. refl;
}

pub empty-left : (IsSo : List Reading → Type 0) (readings : List Reading)
    (old new : NumberedSentence) →
    old.states ≡ 0 → IsEmpty old.number new →
    Keeps IsSo (sentence_of readings old) (sentence_of readings new)
empty-left IsSo readings old new none is =
    subst (Keeps IsSo (sentence_of readings old)) (sym (empty-named readings old.number new is))
    (empty-kept IsSo (sentence_of readings old) none)

pub empty-below : (bound number : ℕ) (new : NumberedSentence) → IsEmpty number new →
    AreBelow bound new.links.items
empty-below bound number new is =
    subst (AreBelow bound) (sym is.no_links) (λ k d lt. absurd (omega arith))

-- one application, of its parts
module _ (numbered new : NumberedSentence) (source : Automaton) (kept : Option Automaton)
    (texts : List (List ℕ)) (readings : List Reading) (some : 0 < numbered.states)
    (is : IsPlaced numbered source) (are_readings : AreReadings readings)
    (have : HaveTexts texts readings) (below : AreBelow (length readings) numbered.links.items)
    (IsSo : List Reading → Type 0) (IsGood : List ℕ → Type 0)
    (good : (word : List ℕ) → AreSmall (length readings) word →
    IsGood word ↔ IsSo (map (reading_at readings) word))
    (are : IsKept IsGood source.last source.links.items kept)
    (ordered : IsOrdered texts numbered.number kept new) where
  counted : IsKept IsGood (length is.states - 1) source.links.items kept
  counted =
      let count = is.count in
      let last : source.last ≡ length is.states - 1 = omega (arith, count) in
      subst (λ (n : ℕ). IsKept IsGood n source.links.items kept) last are

  pub left-below : AreBelow (length readings) new.links.items
  left-below = kept-below (sentence_of readings numbered) IsSo is.states readings source.links.items
      some (placed-named numbered source readings is are_readings below) IsGood good texts have kept
      new counted ordered

  pub left-keeps : Keeps IsSo (sentence_of readings numbered) (sentence_of readings new)
  left-keeps = kept-named (sentence_of readings numbered) IsSo is.states readings source.links.items
      some (placed-named numbered source readings is are_readings below) IsGood good texts have kept
      new counted ordered

unmapped : (readings : List Reading) (links : List NumberedLink) →
    map (link_of readings) links ≡ [] →
    links ≡ []
unmapped readings [] e = refl
unmapped readings (link ∷ links) e = cc

-- a numbered sentence leads on as the one for which it stands does
pub formed-named : (readings : List Reading) (numbered : NumberedSentence) →
    IsWellFormed (sentence_of readings numbered) → IsFormed numbered
formed-named readings numbered formed = elim formed [
  | inl none ↦ inl (none.0, unmapped readings numbered.links.items none.1)
  | inr both ↦ inr (
    both.0,
    all-of (numbered_words.LeadsOn numbered.states) numbered.links.items (λ link has.
        All-contains (LeadsOn numbered.states) (map (link_of readings) numbered.links.items)
        (link_of readings link) both.1
        (contains_mapped (link_of readings) numbered.links.items link has)),
  )
]

-- a path of a well formed sentence is one of links that lead up
path-up : (states : ℕ) (links path : List Link) (a b : ℕ) → All (LeadsOn states) links →
    IsPath links a b path → All LeadsUp path
path-up states links [] a b leads p = λ k d lt. absurd (omega arith)
path-up states links (link ∷ path) a b leads p =
    All-cons LeadsUp link path (All-contains (LeadsOn states) links link leads p.0).0
    (path-up states links path link.to b leads p.2)

-- a path there is a reading list that is read
pub has_path-reads : (sentence : Sentence) → IsWellFormed sentence →
    HasPath sentence ↔ ((readings : List Reading) × IsReadAs sentence readings)
has_path-reads sentence formed = (
  λ h. (readings_of h.1.0, (h.0, (h.1.0, h.1.1, refl))),
  λ h. elim formed [
    | inl none ↦ absurd (omega (arith, none.0, h.1.0))
    | inr both ↦ (
      h.1.0,
      (
        h.1.1.0,
        h.1.1.1,
        path-up sentence.states sentence.links h.1.1.0 0 (last_of sentence) both.1 h.1.1.1,
      ),
    )
  ],
)
