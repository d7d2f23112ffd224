use Rattle.std.proofs.Common.{◌≡◌, ◌∙◌, ◌↔◌, ℕ, List, Bool, true, ap, subst, sym}
use Rattle.std.specs.List.{list_any}
use Rattle.ux_digraph.specs.Rules.{is_marked_at}
use Rattle.ux_inflect.specs.declared.config.Config.{Config}
use Rattle.ux_inflect.specs.Faults.{IsFaultyAt}
use Rattle.ux_inflect.specs.Ways.{lists_of, AreFalling, IsBest}
use Rattle.ux_inflect.proofs.ListLemmas.{no_mark}
use Rattle.ux_inflect.proofs.PathLemmas.{best_faulty, falling, none_faulty}
use Rattle.ux_inflect.proofs.refusing.least_path.Goals as goal

pub returns-then-not-is_any : goal.returns-then-not-is_any
returns-then-not-is_any c = λ detail net start known.
    let keys = c.args.explored.now.configs.keys in
    let marks = c.in_ok-marks.marks.items in
    let marked = subst (λ (k : List Config). (n : ℕ) → (is_marked_at marks n ≡ true)
    ↔ IsFaultyAt c.args.fault k n) c.as_slice.ensures.keys c.in_ok-marks.ensures in
    let none = ap (λ (m : List Bool). list_any (λ (mark : Bool). mark) m) (sym c.deref.ensures.value)
    ∙ (sym c.is_any.ensures ∙ c.if-not-is_any.true) in
    none_faulty detail net start keys (lists_of c.args.explored.now.links.items) known c.args.fault
    marks marked (no_mark marks none)

pub least_text-requires-clause-falling : goal.least_text-requires-clause-falling
least_text-requires-clause-falling c =
    let links = c.args.explored.now.links.items in
    let r = c.requires in
    subst (λ (l : List _). AreFalling (lists_of l)) (sym c.deref-2.ensures.value)
    (falling r.0 r.1 r.3 c.args.explored.now.configs.keys (lists_of links) r.5 r.2 r.4)

pub returns : goal.returns
returns c = λ detail net start known.
    let keys = c.args.explored.now.configs.keys in
    let marks = c.in_ok-marks.marks.items in
    let marked = subst (λ (k : List Config). (n : ℕ) → (is_marked_at marks n ≡ true)
    ↔ IsFaultyAt c.args.fault k n) c.as_slice.ensures.keys c.in_ok-marks.ensures in
    let best = subst (λ (l : List _). IsBest (lists_of l) c.deref-3.result.now 0 c.in_ok-path.path)
    c.deref-2.ensures.value c.in_ok-path.ensures in
    let same = subst (λ (m : List Bool). IsBest (lists_of c.args.explored.now.links.items) m 0
    c.in_ok-path.path) c.deref-3.ensures.value best in
    best_faulty detail net start keys (lists_of c.args.explored.now.links.items) known c.args.fault
    marks marked c.in_ok-path.path same
