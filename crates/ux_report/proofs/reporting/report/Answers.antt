use Rattle.std.proofs.Common.{◌∙◌, [], List, ℕ, length, subst, sym}
use Rattle.std.specs.Prelude.{Option}
use Rattle.ux_report.specs.Lines.{FromSome, HasMore, IsCompoundBefore, IsSimpleAt, IsText, LieWithin}
use Rattle.ux_report.specs.Report.{IsCompoundLine, IsSimpleLine, IsUnknownLine, report_of}
use Rattle.ux_report.proofs.ReportLemmas.{compound-exact, lines-are, places-in_table, places-within, simple-exact, unknown-exact}
use Rattle.ux_report.proofs.reporting.report.Goals as goal

pub simple_lines-requires : goal.simple_lines-requires
simple_lines-requires c =
    subst (λ (l : List (Option ℕ)). LieWithin l (length c.args.applied.now.simple))
    (sym c.deref.ensures.value)
    (places-in_table c.args.text.now c.args.applied.now c.in_ok-places.places.items
    c.in_ok-places.ensures c.requires.0 c.requires.1 c.requires.2)

pub unknown_lines-requires : goal.unknown_lines-requires
unknown_lines-requires c =
    subst (λ (l : List (Option ℕ)). LieWithin l (length c.args.text.now))
    (sym c.deref-2.ensures.value)
    (places-within c.args.text.now c.args.applied.now c.in_ok-places.places.items
    c.in_ok-places.ensures)

pub returns : goal.returns
returns c =
    let tokens = c.args.text.now in
    let tables = c.args.applied.now in
    let places = c.in_ok-places.places.items in
    let words = c.in_ok-places.ensures in
    let applied = c.requires in
    let simple_set = c.in_ok-simple_lines.field-0.keys in
    let unknown_set = c.in_ok-unknown_lines.field-0.keys in
    let simple = c.in_ok-simple.simple.items in
    let compound = c.in_ok-compound.compound.items in
    let unknown = c.in_ok-unknown.unknown.items in record {
      simple = simple;
      compound = compound;
      unknown = unknown;
      simple_lines = lines-are (FromSome places (IsSimpleAt tables)) (IsSimpleLine tokens tables)
          simple_set simple
          (subst (λ (l : List (Option ℕ)). HasMore [] (FromSome l (IsSimpleAt tables)) simple_set)
          c.deref.ensures.value c.in_ok-simple_lines.ensures)
          c.in_ok-simple.ensures.in_order c.in_ok-simple.ensures.same
          (simple-exact tokens tables places words applied.0 applied.1 applied.2);
      compound_lines = lines-are (IsCompoundBefore tables c.len.result)
          (IsCompoundLine tokens tables) _ compound c.in_ok-compound_lines.ensures
          c.in_ok-compound.ensures.in_order c.in_ok-compound.ensures.same
          (compound-exact tokens tables places words applied.0 applied.1 applied.2 c.len.result
          c.len.ensures.len);
      unknown_lines = lines-are (FromSome tables.unknown (IsText tokens places))
          (IsUnknownLine tokens tables) unknown_set unknown
          (subst
          (λ (l : List (Option ℕ)). HasMore [] (FromSome tables.unknown (IsText tokens l)) unknown_set)
          c.deref-2.ensures.value c.in_ok-unknown_lines.ensures)
          c.in_ok-unknown.ensures.in_order c.in_ok-unknown.ensures.same
          (unknown-exact tokens tables places words applied.0 applied.1 applied.2);
      report_is = c.in_ok-print_report.ensures
          ∙ (λ i. report_of (c.deref-3.ensures.value i) (c.deref-4.ensures.value i)
          (c.deref-5.ensures.value i));
    }
