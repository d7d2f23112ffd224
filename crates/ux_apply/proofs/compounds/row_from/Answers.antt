use Rattle.std.proofs.Common.{List, ℕ, arith, subst, sym, [], ◌+◌}
use Rattle.ux_dela.specs.declared.entry.Entry.{Entry}
use Rattle.ux_lexical_tables.specs.Spans.{MayBound}
use Rattle.ux_apply.specs.Applying.{contents}
use Rattle.ux_apply.specs.Applied.{IsCompoundRow}
use Rattle.ux_apply.proofs.OwnLemmas.{own-row, start-other}
use Rattle.ux_apply.proofs.SpanLemmas.{has_kind, none-unbounded, row-whole}
use Rattle.ux_apply.proofs.StartLemmas.{none-over}
use Rattle.ux_apply.proofs.compounds.row_from.Goals as goal

pub returns-in-Some-clause-row : goal.returns-in-Some-clause-row
returns-in-Some-clause-row g c =
    own-row c.args.alphabet.now (contents g.L.Lexicon.content c.args.dics.now) c.args.text.now
    c.args.first c.in-Some.entry.now c.requires.within c.in-Some.ensures.entry c.own_row.result
    c.own_row.ensures.letters c.own_row.ensures.others

pub returns-then-not-may_bound-clause-row : goal.returns-then-not-may_bound-clause-row
returns-then-not-may_bound-clause-row g c =
    let lines = c.args.alphabet.now in
    let dics = contents g.L.Lexicon.content c.args.dics.now in
    let tokens = c.args.text.now in
    let first = c.args.first in
    subst (λ (l : List (ℕ × Entry)). IsCompoundRow lines dics tokens first l)
    (sym c.new.ensures.items)
    (row-whole lines dics tokens first (first + 1) [] (omega arith)
    (start-other lines dics tokens first c.in_default.ensures.entry)
    (none-unbounded lines dics tokens first c.kind.result c.kind.ensures
    (λ bounds. let t = c.may_bound.ensures.1 bounds in let f = c.if-not-may_bound.true in cc)))

pub returns-in-None-clause-row : goal.returns-in-None-clause-row
returns-in-None-clause-row g c =
    let lines = c.args.alphabet.now in
    let dics = contents g.L.Lexicon.content c.args.dics.now in
    let tokens = c.args.text.now in
    let first = c.args.first in
    subst (λ (l : List (ℕ × Entry)). IsCompoundRow lines dics tokens first l)
    (sym c.new-in-None.ensures.items)
    (row-whole lines dics tokens first (first + 1) [] (omega arith)
    (start-other lines dics tokens first c.in_default.ensures.entry)
    (none-over lines dics tokens first c.args.starts.now c.number.result c.start_at-start.result
    c.requires.started c.start_at-start.ensures c.number.ensures.place c.in-None.ensures))

pub spans_from-requires-clause-begins : goal.spans_from-requires-clause-begins
spans_from-requires-clause-begins g c =
    has_kind MayBound _ c.kind.result c.kind.ensures (c.may_bound.ensures.0 c.if-not-may_bound.false)
