use Rattle.std.proofs.Common.{ℕ, List, Vec, Global, ap, subst, sym}
use Rattle.ux_dela.specs.declared.entry.Entry.{Entry}
use Rattle.ux_apply.specs.declared.priority.Priority.{Priority}
use Rattle.ux_apply.specs.Applied.{AreApplied}
use Rattle.ux_dictionaries.specs.Dictionaries.{contents_of}
use Rattle.ux_net.specs.Nets.{net_grammar}
use Rattle.ux_locate.specs.Hits.{IsHit}
use Rattle.ux_locate.specs.Index.{IsIndex}
use Rattle.ux_cmd_locate.proofs.command.index_of.Goals as goal

pub returns : goal.returns
returns c =
    let alphabet = c.args.files.alphabet in
    let tokens = c.args.files.text in
    let tables = c.in_ok-applied.applied in
    record {
      tables = tables;
      applied = subst (λ (l : List (Priority × List Entry)). AreApplied alphabet l tokens tables)
          (ap contents_of c.deref.ensures.value) c.in_ok-applied.ensures.applied;
      is = subst (IsIndex c.args.mode c.args.policy (IsHit alphabet tokens tables (net_grammar c.args.files.net)
          c.args.mode c.args.novar))
          (sym (ap (λ (v : Vec ℕ Global). v.items) c.into_bytes.ensures.value)) c.in_ok-index.ensures;
    }
