use Rattle.std.proofs.Common.{◌≡◌, ◌∙◌, ◌++◌, List, ℕ, [], ◌∷◌, map, ap, sym, append_assoc}
use Rattle.std.proofs.lemmas.Iterator.Consumers.{YieldsList-end}
use Rattle.std.proofs.lemmas.Iterator.Adapters.{YieldsList-from_vec}
use Rattle.std.proofs.lemmas.List.{map-id, map-append}
use Rattle.ux_dela.specs.declared.entry.Entry.{Entry}
use Rattle.ux_apply.proofs.compounds.push_row.Goals as goal

pub loop-entry-preserved : goal.loop-entry-preserved
loop-entry-preserved c =
    let mark : Entry → ℕ × Entry = λ e. (c.args.last, e) in
    let old = c.args.row.now.items in
    let yielded = c.loop-entry.yielded in
    let entry = c.in-Some.entry in
    c.in_ok-push.ensures.items
    ∙ (ap (λ (l : List (ℕ × Entry)). l ++ mark entry ∷ []) c.loop-entry.invariant
    ∙ (append_assoc old (map mark yielded) (mark entry ∷ [])
    ∙ ap (λ (l : List (ℕ × Entry)). old ++ l) (sym (map-append mark yielded (entry ∷ [])))))

pub returns : goal.returns
returns c =
    let mark : Entry → ℕ × Entry = λ e. (c.args.last, e) in
    let gives = c.into_iter-entry-iterator.ensures.into_iter_gives in
    let all =
    YieldsList-end (YieldsList-from_vec c.args.entries.items gives.0 (gives.1 ∙ c.args.entries.ok.0))
    c.loop-entry.yielded _ c.loop-entry.yielded_by c.next.result c.next.new.self c.in-None.is
    c.next.ensures.steps in
    let same : c.loop-entry.yielded ≡ c.args.entries.items =
    sym (map-id c.loop-entry.yielded) ∙ all.0 in
    c.loop-entry.invariant
    ∙ ap (λ (l : List Entry). c.args.row.now.items ++ map mark l) same
