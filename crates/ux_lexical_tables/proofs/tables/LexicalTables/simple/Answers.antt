use Rattle.std.proofs.Common.{◌≡◌, ◌<◌, ◌∙◌, List, ℕ, length, ap, arith, subst, sym}
use Rattle.std.specs.Prelude.{IsSomeAnd, Option, Some, None, Vec, slice_get}
use Rattle.ux_dela.specs.declared.entry.Entry.{Entry}
use Rattle.ux_lexical_tables.specs.Tables.{Tables}
use Rattle.ux_lexical_tables.specs.Kept.{items_in, row_by, simple_at}
use Rattle.ux_lexical_tables.proofs.TableLemmas.{length-table, table-some}
use Rattle.ux_lexical_tables.proofs.tables.LexicalTables.simple.Goals as goal

pub at-requires : goal.at-requires
at-requires c =
    let a = c.self.inside in
    let end = length a.words in
    let table = length-table (simple_at a.words a.entries.items a.tags) end in
    let view = ap (λ (t : Tables). length t.simple) c.self.view_is in
    omega (arith, c.requires, view, table)

pub returns-in-Some : goal.returns-in-Some
returns-in-Some c =
    let a = c.self.inside in
    let i = c.args.i in
    let end = length a.words in
    let at = simple_at a.words a.entries.items a.tags in
    let table = length-table at end in
    let view = ap (λ (t : Tables). length t.simple) c.self.view_is in
    let below : i < end = omega (arith, c.requires, view, table) in
    let word : slice_get a.words i ≡ Some (Some c.in-Some.number) =
    c.at.ensures ∙ ap (λ (w : Option ℕ). Some w) c.in-Some.is in
    subst
    (λ (t : Tables). IsSomeAnd (slice_get t.simple i) (λ row. c.row_of_number.result.now ≡ row))
    c.self.view_is
    (table-some at end i c.row_of_number.result.now below
    (c.row_of_number.ensures
    ∙ (ap (λ (es : List (Vec Entry _)). items_in (slice_get es c.in-Some.number)) c.deref.ensures.value
    ∙ sym (ap (row_by a.entries.items a.tags i) word))))

pub returns-in-None : goal.returns-in-None
returns-in-None c =
    let a = c.self.inside in
    let i = c.args.i in
    let end = length a.words in
    let at = simple_at a.words a.entries.items a.tags in
    let table = length-table at end in
    let view = ap (λ (t : Tables). length t.simple) c.self.view_is in
    let below : i < end = omega (arith, c.requires, view, table) in
    let word : slice_get a.words i ≡ Some None =
    c.at.ensures ∙ ap (λ (w : Option ℕ). Some w) c.in-None.is in
    subst
    (λ (t : Tables). IsSomeAnd (slice_get t.simple i) (λ row. c.own_at.result.now ≡ row))
    c.self.view_is
    (table-some at end i c.own_at.result.now below
    (c.own_at.ensures ∙ sym (ap (row_by a.entries.items a.tags i) word)))
