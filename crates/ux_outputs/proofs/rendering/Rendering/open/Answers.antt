use Rattle.std.specs.Prelude.{ℕ, Some, cond}
use Rattle.std.specs.Str.{bytes_eq}
use Rattle.std.proofs.Common.{◌∙◌, ap}
use Rattle.ux_outputs.specs.declared.known.Known.{Known}
use Rattle.ux_outputs.specs.Kept.{known_in}
use Rattle.ux_outputs.proofs.KeptLemmas.{IsKept-opened, IsSet, opened_at_end, state_of-opened}
use Rattle.ux_outputs.proofs.rendering.Rendering.open.Goals as goal
use Rattle.ux_outputs.proofs.rendering.Rendering.open.Goals.{In_ok-set_known}

is_set : (c : In_ok-set_known) →
    IsSet c.args.name.now (opened_at_end c.args.self.now c.args.name.now) c.args.self.now
    (record c.args.self.now { table = c.set_known.new.table })
is_set c other =
    let old = c.args.self.now in
    let name = c.args.name.now in
    let known : Known = record (known_in old.table name) { opened = Some c.len.result } in
    c.in_ok-set_known.ensures other
    ∙ (ap (λ (k : Known). cond (bytes_eq name other) (record k { opened = Some c.len.result })
    (known_in old.table other)) c.known_at-known.ensures
    ∙ ap (λ (n : ℕ). cond (bytes_eq name other) (record known { opened = Some n })
    (known_in old.table other)) (c.len.ensures ∙ c.args.self.now.collected.bytes.ok.0))

pub returns-clause-kept : goal.returns-clause-kept
returns-clause-kept c tokens kept =
    IsKept-opened tokens c.args.self.now
    (record c.args.self.now { table = c.set_known.new.table }) c.args.name.now kept
    (is_set (goal.at.returns-clause-kept c).In_ok-set_known)

pub returns-clause-state : goal.returns-clause-state
returns-clause-state c mode tokens =
    state_of-opened tokens c.args.self.now
    (record c.args.self.now { table = c.set_known.new.table }) c.args.name.now mode
    (is_set (goal.at.returns-clause-state c).In_ok-set_known)
