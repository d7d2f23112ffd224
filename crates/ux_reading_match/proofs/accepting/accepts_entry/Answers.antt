use Rattle.std.proofs.Common.{List, ℕ, ◌↔◌, subst}
use Rattle.std.specs.Prelude.{IsTrue}
use Rattle.ux_reading_match.specs.Matching.{AcceptsForm}
use Rattle.ux_reading_match.proofs.AcceptingLemmas.{by_form, by_meeting}
use Rattle.ux_reading_match.proofs.accepting.accepts_entry.Goals as goal

pub returns-in-Some : goal.returns-in-Some
returns-in-Some c = by_meeting c.args.alphabet.now c.args.entry.now c.meets.result c.args.mask.now
    _ c.in-Some.ensures c.meets.ensures

pub returns-in-None : goal.returns-in-None
returns-in-None c = by_form c.args.alphabet.now c.args.entry.now c.accepts_form.result
    c.args.mask.now c.in-None.ensures
    (subst (λ (form : List ℕ). IsTrue c.accepts_form.result
    ↔ AcceptsForm c.args.alphabet.now c.args.mask.now form) c.as_str.ensures c.accepts_form.ensures)
