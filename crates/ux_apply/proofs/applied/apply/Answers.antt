use Rattle.std.proofs.Common.{List, ◌↔◌, length, subst, sym}
use Rattle.std.specs.Prelude.{Contains, Vec}
use Rattle.ux_dela.specs.declared.entry.Entry.{Entry}
use Rattle.ux_lexical_tables.specs.Belonging.{Belongs}
use Rattle.ux_lexical_tables.specs.Kept.{tables_of}
use Rattle.ux_lexical_tables.specs.Tables.{Tables}
use Rattle.ux_apply.specs.Applied.{AreApplied}
use Rattle.ux_apply.specs.Applying.{contents}
use Rattle.ux_apply.specs.Kept.{IsWordNumber}
use Rattle.ux_apply.specs.Unknown.{IsWithoutRow}
use Rattle.ux_apply.proofs.BelongingLemmas.{applied_belongs}
use Rattle.ux_apply.proofs.KeptLemmas.{kept_well}
use Rattle.ux_apply.proofs.RowLemmas.{rows-whole}
use Rattle.ux_apply.proofs.UnknownLemmas.{simple-whole, unknown-whole}
use Rattle.ux_apply.proofs.ZipLemmas.{zip-length}
use Rattle.ux_apply.proofs.applied.apply.Goals as goal

pub returns : goal.returns
returns g c =
    let lines = c.args.alphabet.now in
    let dics = contents g.L.Lexicon.content c.args.dics.now in
    let tokens = c.args.text.now in
    let words = c.in_ok-words.words in
    let entries = c.in_ok-asked.asked.entries.items in
    let tags = c.in_ok-tags.tags in
    let rows = c.in_ok-compounds.compounds in
    let unknown = c.in_ok-unknown.unknown.items in
    let exact = c.in_ok-unknown.ensures.exact in
    let tables : Tables = tables_of words entries tags rows unknown in
    let are : AreApplied lines dics tokens tables = record {
      simple = simple-whole tokens entries tags words c.in_ok-words.ensures lines dics
          c.in_ok-asked.ensures.applying c.in_ok-tags.ensures;
      compounds = rows-whole lines dics tokens rows (length words)
          (sym (zip-length (IsWordNumber tokens) tokens words c.in_ok-words.ensures))
          c.in_ok-compounds.ensures.rows;
      unknown = unknown-whole tokens entries tags words c.in_ok-words.ensures unknown
          c.in_ok-unknown.ensures.ascending
          (λ n. subst (λ (rs : List (Vec Entry _)). Contains unknown n ↔ IsWithoutRow words rs n)
          c.deref-3.ensures.value (exact n));
    } in
    let belongs = applied_belongs lines dics tokens tables are
    (kept_well tokens entries tags words c.in_ok-words.ensures lines c.in_ok-tags.ensures
    c.in_ok-asked.ensures.sound rows unknown c.in_ok-compounds.ensures.sound) in record {
      applied = subst (AreApplied lines dics tokens) (sym c.from_parts.ensures) are;
      belongs = subst (Belongs lines tokens) (sym c.from_parts.ensures) belongs;
    }
