-- No line of lemmas has both a stem and a fault.
use Rattle.std.proofs.Common.{ℕ, List, [], sym, subst}
use Rattle.ux_dela.specs.Written.{Written, meant}
use Rattle.ux_dela.specs.Delas.{IsStemList, IsClass, IsDelasLine, DelasSays, skipped, stem, IsStemEmptyAt, HasStemFault, RefusesDelas}
use Rattle.ux_dela.specs.declared.entry.Stem.{Stem}
use Rattle.ux_dela.specs.declared.error.DelaError.{DelaError}
use Rattle.ux_dela.specs.declared.error.DelaError.TheVariants.{NoComma, NoDot, EmptyForm, EmptyCode, BadEscape, BadClass, NoMemory}
use Rattle.ux_dela.proofs.StemUniqueLemmas.{same_stem_cut, same_stem_list, listed_not_empty, cut_has_comma, cut_not_open}

-- no line with a stem has a fault
stem_fault_excluded : (line : List ℕ) (number : ℕ) (s : Stem) (error : DelaError) →
    HasStemFault line number error → IsDelasLine line s → ⊥
stem_fault_excluded line number s (NoComma n place) h is =
    cut_has_comma line is.lemma is.codes is.comment is.cut h.1
stem_fault_excluded line number s (NoDot n place) h is = h
stem_fault_excluded line number s (EmptyForm n place) h is =
    is.some_lemma
    (same_stem_cut line is.lemma is.codes [] h.1.codes is.comment h.1.comment is.cut h.1.cut).0
stem_fault_excluded line number s (EmptyCode n place) h is =
    let e = h.1 in
    let same = same_stem_cut line is.lemma is.codes e.lemma e.codes is.comment e.comment is.cut
    e.cut in
    listed_not_empty is.codes is.class is.sem e.behind
    (subst (λ (w : List Written). IsStemEmptyAt w e.behind) (sym same.1) e.empty) is.list
stem_fault_excluded line number s (BadEscape n place) h is =
    cut_not_open line is.lemma is.codes is.comment h.1 is.cut
stem_fault_excluded line number s (BadClass n place) h is =
    let e = h.1 in
    let same = same_stem_cut line is.lemma is.codes e.lemma e.codes is.comment e.comment is.cut
    e.cut in
    let class = same_stem_list is.codes is.class e.class is.sem e.sem is.list
    (subst (λ (w : List Written). IsStemList w e.class e.sem) (sym same.1) e.list) in
    e.no_class s.gram (subst (λ (w : List Written). IsClass (meant w) s.gram) class.0 is.is_class)
stem_fault_excluded line number s NoMemory h is = h

-- no line says something and is refused
pub stem_excluded : (line : List ℕ) (number : ℕ) (said : List Stem) (error : DelaError) →
    DelasSays line said → RefusesDelas line number error → ⊥
stem_excluded line number said error (skipped line' is) r = r.counts is
stem_excluded line number said error (stem line' s is) r =
    stem_fault_excluded line number s error r.fault is
