use Rattle.std.proofs.Common.{List, ℕ, [], ◌∷◌, ◌≡◌, inl, inr, refl, subst}
use Rattle.std.proofs.lemmas.Result.{IfOk-weaker}
use Rattle.ux_alphabet.specs.Letters.{Letters}
use Rattle.ux_dela.specs.declared.entry.Entry.{Entry}
use Rattle.ux_apply.specs.declared.priority.Priority.{Priority}
use Rattle.ux_apply.specs.declared.priority.Priority.TheVariants.{High, Low, Normal}
use Rattle.ux_apply.specs.Applying.{AreFound, AreOfFirst}
use Rattle.ux_apply.proofs.FoundLemmas.{no-entries, some-entries}
use Rattle.ux_apply.proofs.applying.applying_there.Goals as goal

-- where none are found
found-none : (alphabet : Letters) (dics : List (Priority × List Entry)) (text : List ℕ)
    (priority : Priority) (entries : List Entry) → entries ≡ [] →
    AreFound alphabet dics text priority entries → AreFound alphabet dics text priority []
found-none alphabet dics text priority entries none found =
    subst (λ (l : List Entry). AreFound alphabet dics text priority l) none found

-- what is found at the last priority
of-last : (alphabet : Letters) (dics : List (Priority × List Entry)) (text : List ℕ)
    (priority : Priority) (entries : List Entry) → AreFound alphabet dics text priority entries →
    AreOfFirst alphabet dics text (priority ∷ []) entries
of-last alphabet dics text priority [] found = inr (found, refl)
of-last alphabet dics text priority (entry ∷ entries) found = inl (found, λ none. cc)

pub returns-then-not-is_empty-clause-applies : goal.returns-then-not-is_empty-clause-applies
returns-then-not-is_empty-clause-applies c = λ dics led. inl (
  c.in_ok-high.ensures.found dics led,
  some-entries c.in_ok-high.high.items c.in_ok-high.high.len c.in_ok-high.high.ok.0
      c.if-not-is_empty.ensures,
)

pub returns-then-not-is_empty-2-clause-applies : goal.returns-then-not-is_empty-2-clause-applies
returns-then-not-is_empty-2-clause-applies c = λ dics led. inr (
  found-none c.args.alphabet.now dics c.args.text.now High c.in_ok-high.high.items
      (no-entries c.in_ok-high.high.items c.in_ok-high.high.len c.in_ok-high.high.ok.0
      c.if-not-is_empty.ensures) (c.in_ok-high.ensures.found dics led),
  inl (
    c.in_ok-normal.ensures.found dics led,
    some-entries c.in_ok-normal.normal.items c.in_ok-normal.normal.len
        c.in_ok-normal.normal.ok.0 c.if-not-is_empty-2.ensures,
  ),
)

pub returns-clause-applies : goal.returns-clause-applies
returns-clause-applies c =
    IfOk-weaker c.found-3.result _ _
    (λ entries is dics led. inr (
      found-none c.args.alphabet.now dics c.args.text.now High c.in_ok-high.high.items
          (no-entries c.in_ok-high.high.items c.in_ok-high.high.len c.in_ok-high.high.ok.0
          c.if-not-is_empty.ensures) (c.in_ok-high.ensures.found dics led),
      inr (
        found-none c.args.alphabet.now dics c.args.text.now Normal c.in_ok-normal.normal.items
            (no-entries c.in_ok-normal.normal.items c.in_ok-normal.normal.len
            c.in_ok-normal.normal.ok.0 c.if-not-is_empty-2.ensures)
            (c.in_ok-normal.ensures.found dics led),
        of-last c.args.alphabet.now dics c.args.text.now Low entries.items (is dics led),
      ),
    )) c.found-3.ensures.found
