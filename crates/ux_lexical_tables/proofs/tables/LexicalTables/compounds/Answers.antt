use Rattle.std.proofs.Common.{◌≡◌, ◌<◌, ◌∙◌, length, ap, arith, subst, []}
use Rattle.std.specs.Prelude.{IsSomeAnd, slice_get}
use Rattle.ux_lexical_tables.specs.Tables.{Tables}
use Rattle.ux_lexical_tables.specs.Kept.{items_in, row_of}
use Rattle.ux_lexical_tables.proofs.TableLemmas.{length-table, table-some}
use Rattle.ux_lexical_tables.proofs.tables.LexicalTables.compounds.Goals as goal

pub returns-in-Some : goal.returns-in-Some
returns-in-Some c =
    let a = c.self.inside in
    let end = length a.words in
    let table = length-table (row_of a.compounds) end in
    let view = ap (λ (t : Tables). length t.compounds) c.self.view_is in
    let below : c.args.i < end = omega (arith, c.requires, view, table) in
    subst
    (λ (t : Tables). IsSomeAnd (slice_get t.compounds c.args.i)
    (λ row. c.as_slice.result.now ≡ row)) c.self.view_is
    (table-some (row_of a.compounds) end c.args.i c.as_slice.result.now below
    (c.as_slice.ensures.value ∙ ap items_in c.in-Some.ensures.value))

pub returns-in-None : goal.returns-in-None
returns-in-None c =
    let a = c.self.inside in
    let end = length a.words in
    let table = length-table (row_of a.compounds) end in
    let view = ap (λ (t : Tables). length t.compounds) c.self.view_is in
    let below : c.args.i < end = omega (arith, c.requires, view, table) in
    subst
    (λ (t : Tables). IsSomeAnd (slice_get t.compounds c.args.i) (λ row. [] ≡ row)) c.self.view_is
    (table-some (row_of a.compounds) end c.args.i [] below (ap items_in c.in-None.ensures.value))
