-- A lemma that ends as another one does, and the entries that it has by that one's. Public: the crate's
-- public laws speak of it.
use Rattle.std.specs.Prelude.{◌≡◌, ℕ, List, ◌++◌, IsUtf8}
use Rattle.ux_dela.specs.declared.entry.Entry.{Entry}
use Rattle.ux_dela.specs.declared.entry.Stem.{Stem}

-- the lemma of the one stem is that of the other behind a front
pub record EndsAs (front : List ℕ) (stem short : Stem) : Type 0 where
  pub text : IsUtf8 front
  pub lemma : stem.lemma ≡ front ++ short.lemma

-- the entry of a stem with this form and these codes
abbrev pub of_stem : Stem → (form : List ℕ) → (infl : List (List ℕ)) → Entry
of_stem stem form infl = record {
  form = form;
  lemma = stem.lemma;
  gram = stem.gram;
  sem = stem.sem;
  infl = infl;
}

-- the entry of a stem, by an entry of a lemma that it ends in
abbrev pub behind : (front : List ℕ) → Stem → Entry → Entry
behind front stem entry = of_stem stem (front ++ entry.form) entry.infl
