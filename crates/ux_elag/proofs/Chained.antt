-- What is kept of what is kept.
use Rattle.std.proofs.Common.{◌≡◌, ℕ, ◌+◌, ◌<◌, ◌↔◌, List, [], ◌∷◌, ◌++◌, inl, inr, sym, ◌∙◌, ap, subst, length, get_or, take}
use Rattle.std.specs.Prelude.{Err, IfNone, IfOk, IfSome, MatchOption, None, Ok, Option, Result, Some}
use Rattle.std.proofs.lemmas.List.{take_more}
use Rattle.std.proofs.lemmas.List.Elements.{Contains-append_left, Contains-push, Contains-push_cases}
use Rattle.ux_base.proofs.Lists.{nothing_in, first_or_later, contains_first}
use Rattle.ux_base.proofs.JoinedLists.{contained_mapped, contains_mapped}
use Rattle.ux_subsets.specs.declared.automaton.Automaton.{Automaton}
use Rattle.ux_subsets.specs.declared.automaton.Link as placed
use Rattle.ux_subsets.specs.Paths as numbers
use Rattle.ux_subsets.proofs.KeptLemmas.{left_normal}
use Rattle.ux_elag.specs.declared.prepared_rule.PreparedRule.{PreparedRule}
use Rattle.ux_elag.specs.Numbers.{IsKept}
use Rattle.ux_monitor.specs.Parts.{RulePart, SatisfiesPart, SatisfiesParts}
use Rattle.ux_elag.specs.Prepared.{SatisfiesAll, SatisfiesOne, part_of, parts_in}

-- what is left, and that nothing is, of one answer
pub kept-of : {E : Type 0} (IsSo : List ℕ → Type 0) (last : ℕ) (links : List placed.Link)
    (answer : Result (Option Automaton) E) → IfOk answer (λ kept. IfSome kept
    (λ left. numbers.IsLeft IsSo last links left.last left.links.items)) →
    IfOk answer (λ kept. IfNone kept ((word : List ℕ) → numbers.Spells links 0 last word →
    IsSo word → ⊥)) → IfOk answer (IsKept IsSo last links)
kept-of IsSo last links (Ok kept) left nothing = record { left = left; nothing = nothing }
kept-of IsSo last links (Err error) left nothing = tt

-- what is left for one reason is left for another, where both hold of the same lists
pub left-same : (IsSo IsAlso : List ℕ → Type 0) (last end : ℕ) (links left : List placed.Link) →
    ((word : List ℕ) → IsSo word ↔ IsAlso word) → numbers.IsLeft IsSo last links end left →
    numbers.IsLeft IsAlso last links end left
left-same IsSo IsAlso last end links left same is = record {
  some = is.some;
  exact = λ word. (
    λ h. let e = (is.exact word).0 h in (e.0, (same word).0 e.1),
    λ h. (is.exact word).1 (h.0, (same word).1 h.1),
  );
  once = is.once;
  apart = is.apart;
  apart_before = is.apart_before;
  on_path = is.on_path;
  ascending = is.ascending;
}

-- what is left of what is left
pub left-then : (IsSo IsAlso : List ℕ → Type 0) (last middle end : ℕ)
    (links between left : List placed.Link) → numbers.IsLeft IsSo last links middle between →
    numbers.IsLeft IsAlso middle between end left →
    numbers.IsLeft (λ word. IsSo word × IsAlso word) last links end left
left-then IsSo IsAlso last middle end links between left first second = record {
  some = second.some;
  exact = λ word. (
    λ h. let later = (second.exact word).0 h in
        let earlier = (first.exact word).0 later.0 in (earlier.0, (earlier.1, later.1)),
    λ h. (second.exact word).1 ((first.exact word).1 (h.0, h.1.0), h.1.1),
  );
  once = second.once;
  apart = second.apart;
  apart_before = second.apart_before;
  on_path = second.on_path;
  ascending = second.ascending;
}

-- what is kept for one reason is kept for another, where both hold of the same lists
pub kept-same : (IsSo IsAlso : List ℕ → Type 0) (last : ℕ) (links : List placed.Link)
    (kept : Option Automaton) → ((word : List ℕ) → IsSo word ↔ IsAlso word) →
    IsKept IsSo last links kept → IsKept IsAlso last links kept
kept-same IsSo IsAlso last links None same is = record {
  left = tt;
  nothing = λ word spells so. is.nothing word spells ((same word).1 so);
}
kept-same IsSo IsAlso last links (Some left) same is = record {
  left = left-same IsSo IsAlso last left.last links left.links.items same is.left;
  nothing = tt;
}

-- what is kept of what is kept
pub kept-then : (IsSo IsAlso : List ℕ → Type 0) (last : ℕ) (links : List placed.Link)
    (kept now : Option Automaton) → IsKept IsSo last links kept →
    MatchOption kept (now ≡ None) (λ source. IsKept IsAlso source.last source.links.items now) →
    IsKept (λ word. IsSo word × IsAlso word) last links now
kept-then IsSo IsAlso last links None now is none =
    subst (IsKept (λ word. IsSo word × IsAlso word) last links) (sym none) (record {
      left = tt;
      nothing = λ word spells so. is.nothing word spells so.0;
    })
kept-then IsSo IsAlso last links (Some source) None is later = record {
  left = tt;
  nothing = λ word spells so. later.nothing word ((is.left.exact word).1 (spells, so.0)) so.1;
}
kept-then IsSo IsAlso last links (Some source) (Some left) is later = record {
  left = left-then IsSo IsAlso last source.last left.last links source.links.items left.links.items
      is.left later.left;
  nothing = tt;
}

-- what is kept can be looked at again
pub kept-normal : (IsSo : List ℕ → Type 0) (last : ℕ) (links : List placed.Link)
    (kept : Option Automaton) → IsKept IsSo last links kept →
    IfSome kept (λ source. numbers.IsNormal source.last source.links.items)
kept-normal IsSo last links None is = tt
kept-normal IsSo last links (Some source) is =
    left_normal last links source.last source.links.items is.left

-- the first rule, and one more
pub first-kept : (rules : List PreparedRule) (rule : PreparedRule) (last : ℕ)
    (links : List placed.Link) (kept : Option Automaton) → 0 < length rules →
    rule ≡ get_or rules 0 rule → IsKept (SatisfiesOne rule) last links kept →
    IsKept (SatisfiesAll (take 1 rules)) last links kept
first-kept rules rule last links kept lt is are =
    let front : take 1 rules ≡ get_or rules 0 rule ∷ [] = take_more rules 0 rule lt in
    subst (λ (rs : List PreparedRule). IsKept (SatisfiesAll rs) last links kept)
    (ap (λ (r : PreparedRule). r ∷ []) is ∙ sym front)
    (kept-same (SatisfiesOne rule) (SatisfiesAll (rule ∷ [])) last links kept (λ word. (
      λ so other has. elim (first_or_later rule [] other has) [
        | inl e ↦ subst (λ (r : PreparedRule). SatisfiesOne r word) e so
        | inr never ↦ absurd (nothing_in never)
      ],
      λ each. each rule (contains_first rule []),
    )) are)

pub next-kept : (rules : List PreparedRule) (rule : PreparedRule) (i last : ℕ)
    (links : List placed.Link) (kept now : Option Automaton) → i < length rules →
    rule ≡ get_or rules i rule → IsKept (SatisfiesAll (take i rules)) last links kept →
    MatchOption kept (now ≡ None)
    (λ source. IsKept (SatisfiesOne rule) source.last source.links.items now) →
    IsKept (SatisfiesAll (take (i + 1) rules)) last links now
next-kept rules rule i last links kept now lt is so_far here =
    let front : take (i + 1) rules ≡ take i rules ++ rule ∷ [] =
    take_more rules i rule lt ∙ ap (λ (r : PreparedRule). take i rules ++ r ∷ []) (sym is) in
    subst (λ (rs : List PreparedRule). IsKept (SatisfiesAll rs) last links now) (sym front)
    (kept-same (λ word. SatisfiesAll (take i rules) word × SatisfiesOne rule word)
    (SatisfiesAll (take i rules ++ rule ∷ [])) last links now (λ word. (
      λ both other has. elim (Contains-push_cases (take i rules) rule other has) [
        | inl earlier ↦ both.0 other earlier
        | inr e ↦ subst (λ (r : PreparedRule). SatisfiesOne r word) e both.1
      ],
      λ each. (
        λ other has. each other (Contains-append_left (take i rules) (rule ∷ []) other has),
        each rule (Contains-push (take i rules) rule),
      ),
    ))
    (kept-then (SatisfiesAll (take i rules)) (SatisfiesOne rule) last links kept now so_far here))

-- the rules side by side are satisfied where each of them is
pub satisfies-parts : (rules : List PreparedRule) (word : List ℕ) →
    SatisfiesParts (parts_in rules) word ↔ SatisfiesAll rules word
satisfies-parts rules word = (
  λ each rule has. each (part_of rule) (contains_mapped part_of rules rule has),
  λ all part has.
      let found = contained_mapped part_of rules part has in
      subst (λ (p : RulePart). SatisfiesPart p word) found.2 (all found.0 found.1),
)

-- what is kept at once
kept-at-once-of : (rules : List PreparedRule) (last : ℕ) (links : List placed.Link)
    (answer : Option (Option Automaton)) → IfSome answer (λ kept. IfSome kept
    (λ left. numbers.IsLeft (SatisfiesParts (parts_in rules)) last links left.last
    left.links.items)) → IfSome answer (λ kept. IfNone kept ((word : List ℕ) →
    numbers.Spells links 0 last word → SatisfiesParts (parts_in rules) word → ⊥)) →
    IfSome answer (IsKept (SatisfiesAll rules) last links)
kept-at-once-of rules last links None left nothing = tt
kept-at-once-of rules last links (Some kept) left nothing =
    kept-same (SatisfiesParts (parts_in rules)) (SatisfiesAll rules) last links kept
    (satisfies-parts rules) (record { left = left; nothing = nothing })

pub kept-at-once : (rules : List PreparedRule) (parts : List RulePart) (last : ℕ)
    (links lent : List placed.Link) (answer : Option (Option Automaton)) →
    parts ≡ parts_in rules → lent ≡ links → IfSome answer (λ kept. IfSome kept
    (λ left. numbers.IsLeft (SatisfiesParts parts) last lent left.last left.links.items)) →
    IfSome answer (λ kept. IfNone kept ((word : List ℕ) → numbers.Spells lent 0 last word →
    SatisfiesParts parts word → ⊥)) → IfSome answer (IsKept (SatisfiesAll rules) last links)
kept-at-once rules parts last links lent answer are is left nothing =
    subst (λ (ls : List placed.Link). IfSome answer (IsKept (SatisfiesAll rules) last ls)) is
    (kept-at-once-of rules last lent answer
    (subst (λ (ps : List RulePart). IfSome answer (λ kept. IfSome kept
    (λ left. numbers.IsLeft (SatisfiesParts ps) last lent left.last left.links.items))) are left)
    (subst (λ (ps : List RulePart). IfSome answer (λ kept. IfNone kept ((word : List ℕ) →
    numbers.Spells lent 0 last word → SatisfiesParts ps word → ⊥))) are nothing))
