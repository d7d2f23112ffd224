-- A file of forms says one list of entries.
use Rattle.std.proofs.Common.{◌≡◌, ℕ, List, [], refl, sym, ◌∙◌, ap, subst}
use Rattle.ux_base.specs.Lines.{lines_of}
use Rattle.ux_dela.specs.Written.{Written}
use Rattle.ux_dela.specs.Codes.{IsCodeList}
use Rattle.ux_dela.specs.Delaf.{DelafParts, IsDelafLine, DelafSays, skipped, entries, entries_of, RefusesDelaf}
use Rattle.ux_dela.specs.Files.{AreEntries}
use Rattle.ux_dela.specs.declared.entry.Entry.{Entry}
use Rattle.ux_dela.proofs.CodesLemmas.{one_list}
use Rattle.ux_dela.proofs.ExclusionLemmas.{one_cut}
use Rattle.ux_base.proofs.EachLineLemmas.{said_once}

-- the entries of these parts, whatever the codes' text and the comment are
entries_in_parts : (form lemma gram : List Written) (sem infl : List (List Written)) → List Entry
entries_in_parts form lemma gram sem infl =
    entries_of (record {
      form = form;
      lemma = lemma;
      gram = gram;
      sem = sem;
      infl = infl;
      codes = [];
      comment = [];
    })

-- two parses of a line have the same entries
same_entries : (line : List ℕ) (p q : DelafParts) → IsDelafLine line p → IsDelafLine line q →
    entries_of p ≡ entries_of q
unfolding entries_in_parts
same_entries line p q a b =
    let cut = one_cut line p.form p.lemma p.codes p.comment a.cut q.form q.lemma q.codes q.comment
    b.cut in
    let list = one_list p.codes p.gram q.gram p.sem p.infl q.sem q.infl a.list
    (subst (λ (w : List Written). IsCodeList w q.gram q.sem q.infl) (sym cut.2) b.list) in
    ap (λ f. entries_in_parts f p.lemma p.gram p.sem p.infl) cut.0
    ∙ ap (λ l. entries_in_parts q.form l p.gram p.sem p.infl) cut.1
    ∙ ap (λ g. entries_in_parts q.form q.lemma g p.sem p.infl) list.0
    ∙ ap (λ s. entries_in_parts q.form q.lemma q.gram s p.infl) list.1
    ∙ ap (λ i. entries_in_parts q.form q.lemma q.gram q.sem i) list.2

-- a line of forms says one list of entries
pub says_once : (line : List ℕ) (said other : List Entry) → DelafSays line said →
    DelafSays line other → said ≡ other
says_once line said other (skipped line' is) (skipped line2 is') = refl
says_once line said other (skipped line' is) (entries line2 q b) = absurd (b.counts is)
says_once line said other (entries line' p a) (skipped line2 is) = absurd (a.counts is)
says_once line said other (entries line' p a) (entries line2 q b) = same_entries line p q a b

-- a file of forms says one list of entries
pub entries_are_unique : (text : List ℕ) (said other : List Entry) → AreEntries text said →
    AreEntries text other → said ≡ other
entries_are_unique text said other a b =
    said_once DelafSays RefusesDelaf says_once (lines_of text) said other a b
