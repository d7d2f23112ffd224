use Rattle.std.specs.Prelude.{◌≡◌, ℕ, List, Some, None, cond}
use Rattle.std.specs.Str.{bytes_eq}
use Rattle.std.proofs.Common.{◌∙◌, ap, sym}
use Rattle.std.proofs.lemmas.Result.{on_ok_weaker}
use Rattle.ux_outputs.specs.declared.known.Known.{Known}
use Rattle.ux_outputs.specs.declared.known.Place.TheVariants.{Collected}
use Rattle.ux_outputs.specs.Kept.{known_in}
use Rattle.ux_outputs.proofs.KeptLemmas.{IsKept-closed, IsSet, closed_from, state_of-closed}
use Rattle.ux_outputs.proofs.rendering.Rendering.close.Goals as goal
use Rattle.ux_outputs.proofs.rendering.Rendering.close.Goals.{After-set_known}

-- what is set, as the lemmas tell it
is_set : (c : After-set_known) →
    ((other : List ℕ) → known_in c.set_known.new.table other
    ≡ cond (bytes_eq c.args.name.now other) (record c.known_at-known.result {
      opened = None;
      value = Some (Collected c.in-Some.from c.len.result);
    }) (known_in c.args.self.now.table other)) →
    IsSet c.args.name.now (closed_from c.args.self.now c.args.name.now c.in-Some.from)
    c.args.self.now (record c.args.self.now { table = c.set_known.new.table })
is_set c told other =
    let old = c.args.self.now in
    let name = c.args.name.now in
    told other
    ∙ (ap (λ (k : Known). cond (bytes_eq name other) (record k {
      opened = None;
      value = Some (Collected c.in-Some.from c.len.result);
    }) (known_in old.table other)) c.known_at-known.ensures
    ∙ ap (λ (n : ℕ). cond (bytes_eq name other) (record (known_in old.table name) {
      opened = None;
      value = Some (Collected c.in-Some.from n);
    }) (known_in old.table other)) (c.len.ensures ∙ c.args.self.now.collected.bytes.ok.0))

-- the output is open
is_open : (c : After-set_known) →
    (known_in c.args.self.now.table c.args.name.now).opened ≡ Some c.in-Some.from
is_open c = ap (λ (k : Known). k.opened) (sym c.known_at-known.ensures) ∙ c.in-Some.is

pub returns-in-Some-clause-kept : goal.returns-in-Some-clause-kept
returns-in-Some-clause-kept c =
    on_ok_weaker c.set_known.result (λ told. IsKept-closed c.args.text.now c.args.self.now
    (record c.args.self.now { table = c.set_known.new.table }) c.args.name.now c.in-Some.from
    (is_open c) c.requires.kept (is_set c told)) c.set_known.ensures

pub returns-in-Some-clause-state : goal.returns-in-Some-clause-state
returns-in-Some-clause-state c mode =
    on_ok_weaker c.set_known.result (λ told. state_of-closed c.args.text.now c.args.self.now
    (record c.args.self.now { table = c.set_known.new.table }) c.args.name.now mode c.in-Some.from
    (is_open c) c.requires.kept (is_set c told)) c.set_known.ensures
