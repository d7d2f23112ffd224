-- Entries in order of form, run by run of one form. Inner: the crate's own functions alone speak of
-- it.
use Rattle.std.specs.Prelude.{◌≡◌, ◌≢◌, List, [], ◌∷◌, ◌++◌, AllPairs, Some, slice_get}
use Rattle.indexmap.specs.IndexSet.{insert_all}
use Rattle.ux_dela.specs.declared.entry.Entry.{Entry}
use Rattle.ux_dict.specs.Content.{IsBelow}
use Rattle.ux_dict.specs.Equal.{entry_eq}

-- each form is below all later ones
abbrev pub AreRising : List Entry → Type 0
AreRising entries = AllPairs (λ entry other. IsBelow entry.form other.form) entries

-- no two entries are equal
abbrev pub AllDiffer : List Entry → Type 0
AllDiffer entries = AllPairs (λ entry other. entry ≢ other) entries

-- the run has an entry, and this one has another form
abbrev pub HasOtherForm : (run : List Entry) → Entry → Type 0
HasOtherForm run entry =
    (first : Entry) × (slice_get run 0 ≡ Some first) × (first.form ≢ entry.form)

-- the entry stands last in the run of its form, and a run of another form was put behind the others
pub record GoesOn (entry : Entry) (run once run' once' : List Entry) : Type 0 where
  pub same : (HasOtherForm run entry → ⊥) → (run' ≡ run ++ entry ∷ []) × (once' ≡ once)
  pub other : HasOtherForm run entry →
      (run' ≡ entry ∷ []) × (once' ≡ once ++ insert_all entry_eq [] run)
