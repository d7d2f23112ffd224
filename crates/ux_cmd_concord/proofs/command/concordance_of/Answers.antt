use Rattle.std.proofs.Common.{ℕ, List, Vec, Global, ap, subst, sym}
use Rattle.std.specs.Prelude.{All}
use Rattle.ux_dela.specs.declared.entry.Entry.{Entry}
use Rattle.ux_apply.specs.declared.priority.Priority.{Priority}
use Rattle.ux_apply.specs.Applied.{AreApplied}
use Rattle.ux_dictionaries.specs.Dictionaries.{contents_of}
use Rattle.ux_outputs.specs.declared.hit.Hit.{Hit}
use Rattle.ux_concordance.specs.Concordance.{IsConcordance, LiesIn}
use Rattle.ux_cmd_concord.proofs.HitsLemmas.{hits_lie}
use Rattle.ux_cmd_concord.proofs.command.concordance_of.Goals as goal

pub concord-requires : goal.concord-requires
concord-requires c =
    subst (All (LiesIn c.args.files.text)) (sym c.as_slice.ensures.value)
    (hits_lie c.args.files.net c.args.files.alphabet c.args.files.text c.in_ok-applied.applied
    c.in_ok-applied.ensures.belongs c.args.mode c.args.novar c.args.policy
    c.in_ok-hits.hits.items c.in_ok-hits.ensures)

pub returns : goal.returns
returns c =
    let alphabet = c.args.files.alphabet in
    let layout = c.args.layout in
    let tokens = c.args.files.text in
    let tables = c.in_ok-applied.applied in
    record {
      tables = tables;
      applied = subst (λ (l : List (Priority × List Entry)). AreApplied alphabet l tokens tables)
          (ap contents_of c.deref.ensures.value) c.in_ok-applied.ensures.applied;
      hits = c.in_ok-hits.hits.items;
      listing = c.in_ok-hits.ensures;
      is = subst (λ (hits : List Hit). IsConcordance tokens layout.left layout.right layout.sort hits
          c.into_bytes.result.items) c.as_slice.ensures.value
          (subst (IsConcordance tokens layout.left layout.right layout.sort c.as_slice.result.now)
          (sym (ap (λ (v : Vec ℕ Global). v.items) c.into_bytes.ensures.value))
          c.in_ok-concordance.ensures);
    }
