-- Rules that are prepared reading by reading, and what they leave of a numbered sentence.
use Rattle.std.proofs.Common.{arith, ◌≡◌, ℕ, suc, ◌+◌, ◌<◌, ◌≤◌, ◌^◌, List, [], ◌∷◌, ◌++◌, inl, inr, refl, sym, ◌∙◌, ap, subst, length, get_or, set, take, drop}
use Rattle.std.specs.Prelude.{All, Option, map}
use Rattle.std.specs.List.{AllZip}
use Rattle.std.proofs.lemmas.List.{get_or-set_same, get_or-set_other, map-append, take_more}
use Rattle.std.proofs.lemmas.List.Elements.{All-cons, All-head, All-nil, All-tail}
use Rattle.std.proofs.lemmas.Option.{same_Some}
use Rattle.std.proofs.Math.Seq.{take-append_seam}
use Rattle.ux_base.proofs.Lists.{less_or, same_or}
use Rattle.ux_sentence.specs.declared.sentence.Reading.{Reading}
use Rattle.ux_sentence.specs.declared.sentence.Link.{Link}
use Rattle.ux_sentence.specs.declared.sentence.Sentence.{Sentence}
use Rattle.ux_sentence.specs.Paths.{IsWellFormed}
use Rattle.ux_sentence.specs.Paths as words
use Rattle.ux_sentence.specs.Valid.{HasSpellable}
use Rattle.ux_sentence.specs.Written.{reading_text}
use Rattle.ux_sentence.proofs.ReadingLemmas.{spelled_once}
use Rattle.ux_reading_table.specs.Numbered.{IsNumberedBy, IsTold}
use Rattle.ux_reading_table.specs.declared.numbered.NumberedLink.{NumberedLink}
use Rattle.ux_reading_table.specs.declared.numbered.NumberedSentence.{NumberedSentence}
use Rattle.ux_subsets.specs.declared.automaton.Automaton.{Automaton}
use Rattle.ux_monitor.specs.Monitors.{Monitored}
use Rattle.ux_monitor.specs.Parts.{RulePart}
use Rattle.ux_rules.specs.declared.step.Step.{Step}
use Rattle.ux_rules.specs.Rules.{RuleSteps}
use Rattle.ux_elag.specs.declared.prepared_rule.PreparedRule.{PreparedRule}
use Rattle.ux_elag.specs.Left.{AreLeft, SatisfiesEach}
use Rattle.ux_elag.specs.Numbers.{IsEmpty, IsFormed, IsKept, IsOrdered, IsPlaced, LeadsOn, sentence_of}
use Rattle.ux_elag.specs.Prepared.{ArePrepared, HasText, IsFresh, IsPreparedFor, LeavesNumbered, Notes, Prepared, SatisfiesAll, part_of, parts_in}
use Rattle.ux_elag.specs.Ready.{AreKinds, IsMonitorOf}
use Rattle.ux_elag.proofs.KindsLemmas.{kinds-more, kinds-none}
use Rattle.ux_elag.proofs.LeaveLemmas.{all-tell, empty-kept, left-below, left-keeps, named-spellable}
use Rattle.ux_elag.proofs.TextsLemmas.{AreReadingsOf, have-texts, readings_of, sentence-is, sentence-told}

abbrev pub rules_of : List PreparedRule → List RuleSteps
rules_of rules = map (λ (rule : PreparedRule). rule.rule) rules

-- one more rule is to be prepared
pub fresh-more : (rules : List RuleSteps) (fresh : List PreparedRule) (rule : RuleSteps)
    (one : PreparedRule) → AllZip IsFresh rules fresh → IsFresh rule one →
    AllZip IsFresh (rules ++ rule ∷ []) (fresh ++ one ∷ [])
fresh-more [] [] rule one are is = (is, tt)
fresh-more [] (other ∷ fresh) rule one are is = absurd are
fresh-more (first ∷ rules) [] rule one are is = absurd are
fresh-more (first ∷ rules) (other ∷ fresh) rule one are is =
    (are.0, fresh-more rules fresh rule one are.1 is)

-- rules without kinds are prepared for no readings
pub fresh-prepared : (texts : List (List ℕ)) (rules : List RuleSteps) (fresh : List PreparedRule) →
    AllZip IsFresh rules fresh → (rules_of fresh ≡ rules) × All (IsPreparedFor texts 0) fresh
fresh-prepared texts [] [] are = (refl, All-nil (IsPreparedFor texts 0))
fresh-prepared texts [] (one ∷ fresh) are = absurd are
fresh-prepared texts (rule ∷ rules) [] are = absurd are
fresh-prepared texts (rule ∷ rules) (one ∷ fresh) are =
    let later = fresh-prepared texts rules fresh are.1 in
    let first = are.0 in (
      (ap (λ (r : RuleSteps). r ∷ rules_of fresh) first.same
          ∙ ap (λ (rs : List RuleSteps). rule ∷ rs) later.0),
      All-cons (IsPreparedFor texts 0) one fresh (record {
        monitor = first.monitor;
        kinds = subst (AreKinds one.rule.steps (HasText texts) 0 one.monitor.kinds) (sym first.none)
            (kinds-none one.rule.steps (HasText texts) one.monitor.kinds);
      }) later.1,
    )

-- a text is that of one reading
one-reading : (texts : List (List ℕ)) (number : ℕ) (reading other : Reading) →
    HasText texts number reading → HasText texts number other → other ≡ reading
one-reading texts number reading other is also =
    spelled_once other reading also.spellable is.spellable
    (same_Some (reading_text other) (reading_text reading) (sym also.text ∙ is.text))

-- one more reading is noted
one-noted : (texts : List (List ℕ)) (count : ℕ) (reading : Reading) → HasText texts count reading →
    (old new : PreparedRule) → Notes reading old new → IsPreparedFor texts count old →
    IsPreparedFor texts (count + 1) new
one-noted texts count reading has old new notes is =
    let steps : old.rule.steps ≡ new.rule.steps =
    sym (ap (λ (r : RuleSteps). r.steps) notes.rule) in
    record {
      monitor = subst (λ (ss : List Step). IsMonitorOf ss new.monitor.rule) steps
          (subst (IsMonitorOf old.rule.steps) (sym notes.watched) is.monitor);
      kinds = kinds-more new.rule.steps (HasText texts) count old.monitor.kinds new.monitor.kinds
          old.kinds.items new.kinds.items notes.number reading
          (subst (λ (ss : List Step). AreKinds ss (HasText texts) count old.monitor.kinds
          old.kinds.items) steps is.kinds) notes.more notes.grown notes.kind
          (λ other said. one-reading texts count reading other has said);
    }

pub noted-prepared : (texts : List (List ℕ)) (count : ℕ) (reading : Reading) →
    HasText texts count reading → (old new : List PreparedRule) → AllZip (Notes reading) old new →
    All (IsPreparedFor texts count) old →
    (rules_of new ≡ rules_of old) × All (IsPreparedFor texts (count + 1)) new
noted-prepared texts count reading has [] [] are each = (
  refl,
  All-nil
      (IsPreparedFor texts (count + 1)),
)
noted-prepared texts count reading has [] (one ∷ new) are each = absurd are
noted-prepared texts count reading has (was ∷ old) [] are each = absurd are
noted-prepared texts count reading has (was ∷ old) (one ∷ new) are each =
    let first = are.0 in
    let later = noted-prepared texts count reading has old new are.1
    (All-tail (IsPreparedFor texts count) was old each) in (
      (ap (λ (r : RuleSteps). r ∷ rules_of new) first.rule
          ∙ ap (λ (rs : List RuleSteps). was.rule ∷ rs) later.0),
      All-cons (IsPreparedFor texts (count + 1)) one new
          (one-noted texts count reading has was one first
          (All-head (IsPreparedFor texts count) was old each)) later.1,
    )

-- the steps of a prepared rule have numbers
pub prepared-few : (texts : List (List ℕ)) (count : ℕ) (rules : List PreparedRule) →
    All (IsPreparedFor texts count) rules →
    All (λ (rule : PreparedRule). length rule.rule.steps < 2 ^ 32) rules
prepared-few texts count rules each k d lt = (each k d lt).monitor.fit

-- the parts of the rules' product have a kind for each reading
pub parts-long : (texts : List (List ℕ)) (count : ℕ) (rules : List PreparedRule) →
    All (IsPreparedFor texts count) rules →
    All (λ (part : RulePart). count ≤ length part.of) (parts_in rules)
parts-long texts count [] each = All-nil (λ (part : RulePart). count ≤ length part.of)
parts-long texts count (rule ∷ rules) each =
    let counted = (All-head (IsPreparedFor texts count) rule rules each).kinds.counted in
    All-cons (λ (part : RulePart). count ≤ length part.of) (part_of rule) (parts_in rules)
    (omega (arith, counted))
    (parts-long texts count rules (All-tail (IsPreparedFor texts count) rule rules each))

-- one more rule is a part
pub parts-more : (rules : List PreparedRule) (i : ℕ) (rule : PreparedRule) (part : RulePart)
    (parts more : List RulePart) → i < length rules → rule ≡ get_or rules i rule →
    part.over ≡ rule.monitor → part.of ≡ rule.kinds.items → more ≡ parts ++ part ∷ [] →
    parts ≡ parts_in (take i rules) → more ≡ parts_in (take (i + 1) rules)
parts-more rules i rule part parts more lt is over of pushed so_far =
    let by_over : Monitored → RulePart = λ m. record { over = m; of = part.of } in
    let by_of : List ℕ → RulePart = λ ks. record { over = rule.monitor; of = ks } in
    let same : part ≡ part_of rule = ap by_over over ∙ ap by_of of in
    let front : take (i + 1) rules ≡ take i rules ++ rule ∷ [] =
    take_more rules i rule lt ∙ ap (λ (r : PreparedRule). take i rules ++ r ∷ []) (sym is) in
    pushed
    ∙ (ap (λ (ps : List RulePart). ps ++ part ∷ []) so_far
    ∙ (ap (λ (p : RulePart). parts_in (take i rules) ++ p ∷ []) same
    ∙ (sym (map-append part_of (take i rules) (rule ∷ []))
    ∙ ap (λ (rs : List PreparedRule). parts_in rs) (sym front))))

-- what a slice of all items was, is what the list is then
pub written-back : {A : Type 0} (items new : List A) (len : ℕ) → len ≡ length items →
    length new ≡ length items → take len (new ++ drop (length new) items) ≡ new
written-back items new len is same =
    let e : length new ≡ len = same ∙ sym is in
    subst (λ (n : ℕ). take n (new ++ drop (length new) items) ≡ new) e
    (take-append_seam new (drop (length new) items))

-- the first rules have become what they are to be, and the others are as they were
pub record AreNotedTo (IsNoted : PreparedRule → PreparedRule → Type 0)
    (old now : List PreparedRule) (i : ℕ) : Type 0 where
  pub noted : (k : ℕ) (d : PreparedRule) → k < i → k < length old →
      IsNoted (get_or old k d) (get_or now k d)
  pub behind : (k : ℕ) (d : PreparedRule) → i ≤ k → get_or now k d ≡ get_or old k d

module _ (IsNoted : PreparedRule → PreparedRule → Type 0) where
  pub noted-none : (old : List PreparedRule) → AreNotedTo IsNoted old old 0
  noted-none old = record {
    noted = λ k d lt inside. absurd (omega arith);
    behind = λ k d past. refl;
  }

  -- one more rule has
  pub noted-more : (old now : List PreparedRule) (i : ℕ) (rule : PreparedRule) →
      i < length now → AreNotedTo IsNoted old now i →
      ((d : PreparedRule) → IsNoted (get_or now i d) rule) →
      AreNotedTo IsNoted old (set now i rule) (i + 1)
  noted-more old now i rule inside are notes = record {
    noted = λ k d lt within. elim (same_or k i) [
      | inl e ↦
          let here : get_or (set now i rule) k d ≡ rule =
          ap (λ (n : ℕ). get_or (set now i rule) n d) e ∙ get_or-set_same now i rule d inside in
          let was : get_or now i d ≡ get_or old k d =
          are.behind i d (omega arith) ∙ ap (λ (n : ℕ). get_or old n d) (sym e) in
          subst (λ (r : PreparedRule). IsNoted (get_or old k d) r) (sym here)
          (subst (λ (r : PreparedRule). IsNoted r rule) was (notes d))
      | inr other ↦
          let less : k < i = elim (less_or k i) [
            | inl below ↦ below
            | inr past ↦ absurd (other (omega arith))
          ] in
          subst (λ (r : PreparedRule). IsNoted (get_or old k d) r)
          (sym (get_or-set_other now i k rule d other)) (are.noted k d less within)
    ];
    behind = λ k d past.
        let other : k ≡ i → ⊥ = λ e. omega (arith, e, past) in
        get_or-set_other now i k rule d other ∙ are.behind k d (omega arith);
  }

  -- what holds at each place holds all along
  zip-from : (xs ys : List PreparedRule) → length xs ≡ length ys →
      ((k : ℕ) (d : PreparedRule) → k < length xs → IsNoted (get_or xs k d) (get_or ys k d)) →
      AllZip IsNoted xs ys
  zip-from [] [] e each = tt
  zip-from [] (y ∷ ys) e each = absurd (omega (arith, e))
  zip-from (x ∷ xs) [] e each = absurd (omega (arith, e))
  zip-from (x ∷ xs) (y ∷ ys) e each = (
    each 0 x (omega arith),
    zip-from xs ys (omega (arith, e)) (λ k d lt. each (suc k) d (omega (arith, lt))),
  )

  pub noted-all : (old now : List PreparedRule) (i : ℕ) → length old ≡ length now →
      length now ≤ i → AreNotedTo IsNoted old now i → AllZip IsNoted old now
  noted-all old now i same end are = zip-from old now same
      (λ k d lt. are.noted k d (omega (arith, lt, same, end)) lt)

-- a numbered sentence leads on as the one for which it stands does
told-leads : (texts : List (List ℕ)) (states : ℕ) (numbered : List NumberedLink)
    (links : List Link) →
    AllZip (IsTold texts) numbered links → All (words.LeadsOn states) links →
    All (LeadsOn states) numbered
told-leads texts states [] [] told leads = All-nil (LeadsOn states)
told-leads texts states [] (link ∷ links) told leads = absurd told
told-leads texts states (one ∷ numbered) [] told leads = absurd told
told-leads texts states (one ∷ numbered) (link ∷ links) told leads =
    let here = told.0 in
    let on = All-head (words.LeadsOn states) link links leads in
    let from = here.from in
    let to = here.to in
    All-cons (LeadsOn states) one numbered
    (omega (arith, on.0, from, to), omega (arith, on.1, to))
    (told-leads texts states numbered links told.1 (All-tail (words.LeadsOn states) link links
    leads))

no-links : (texts : List (List ℕ)) (numbered : List NumberedLink) →
    AllZip (IsTold texts) numbered [] →
    numbered ≡ []
no-links texts [] told = refl
no-links texts (one ∷ numbered) told = absurd told

pub formed-of : (texts : List (List ℕ)) (old : Sentence) (numbered : NumberedSentence) →
    IsNumberedBy texts old numbered → IsWellFormed old → IsFormed numbered
formed-of texts old numbered is formed = elim formed [
  | inl none ↦ inl (
    (is.states ∙ none.0),
    no-links texts numbered.links.items
        (subst (AllZip (IsTold texts) numbered.links.items) none.1 is.links),
  )
  | inr both ↦
      let states = is.states in inr (
        omega (arith, both.0, states),
        subst (λ (n : ℕ). All (LeadsOn n) numbered.links.items) (sym states)
            (told-leads texts old.states numbered.links.items old.links is.links both.1),
      )
]

-- what is kept of a numbered sentence stands for what the rules leave
pub prepared-leaves : (texts : List (List ℕ)) (rules : List PreparedRule) →
    ArePrepared texts rules →
    (numbered new : NumberedSentence) (source : Automaton) (kept : Option Automaton) →
    0 < numbered.states → IsPlaced numbered source →
    IsKept (SatisfiesAll rules) source.last source.links.items kept →
    IsOrdered texts numbered.number kept new → (old : Sentence) → IsNumberedBy texts old numbered →
    All HasSpellable old.links →
    LeavesNumbered (record { rules = rules_of rules; texts = texts }) old new
prepared-leaves texts rules are numbered new source kept some placed is ordered old stands
    spellable =
    let readings = (readings_of texts are.are_texts).0 in
    let of_texts : AreReadingsOf texts readings = (readings_of texts are.are_texts).1 in
    let here = sentence-is texts readings of_texts old numbered stands spellable in
    let tells = all-tell texts readings of_texts rules are.each in
    let have = have-texts texts readings of_texts in
    let below = left-below numbered new source kept texts readings some placed
    of_texts.are_readings have here.0
    (SatisfiesEach (rules_of rules)) (SatisfiesAll rules) tells is ordered in
    record {
      left = sentence_of readings new;
      is_numbered = sentence-told texts readings of_texts new below;
      are_left = subst (λ (s : Sentence). AreLeft (rules_of rules) s (sentence_of readings new))
          (sym here.1) (left-keeps numbered new source kept texts readings some placed
          of_texts.are_readings have here.0
          (SatisfiesEach (rules_of rules)) (SatisfiesAll rules) tells is ordered);
      spellable = named-spellable readings new.links.items of_texts.are_readings below;
    }

-- a sentence without states stays as it is
pub empty-leaves : (prepared : Prepared) (old : Sentence) (numbered new : NumberedSentence) →
    numbered.states ≡ 0 → IsNumberedBy prepared.texts old numbered → IsEmpty numbered.number new →
    LeavesNumbered prepared old new
empty-leaves prepared old numbered new none is empty =
    let left : Sentence = record { number = old.number; states = 0; links = [] } in
    record {
      left = left;
      is_numbered = record {
        number = empty.number_is ∙ is.number;
        states = empty.no_states;
        links = subst (λ (ls : List NumberedLink). AllZip (IsTold prepared.texts) ls [])
            (sym empty.no_links)
            tt;
      };
      are_left = empty-kept (SatisfiesEach prepared.rules) old (sym is.states ∙ none);
      spellable = All-nil HasSpellable;
    }
