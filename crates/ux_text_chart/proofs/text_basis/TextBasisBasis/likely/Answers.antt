use Rattle.std.proofs.Common.{List, subst}
use Rattle.std.specs.Prelude.{OnOk}
use Rattle.ux_net.specs.declared.net_graph.NetGraph.{NetGraph}
use Rattle.ux_parts.specs.Parts.{ArePartsOf}
use Rattle.ux_parts.specs.declared.parts.Parts.{Parts}
use Rattle.ux_chart.specs.Likely.{AreLikely}
use Rattle.ux_text_chart.specs.Leading.{input_of}
use Rattle.ux_walk.specs.Settings.{masked_setting}
use Rattle.ux_text_chart.specs.PartIndexes.{IsPartIndex}
use Rattle.ux_text_chart.proofs.text_basis.TextBasisBasis.likely.Goals as goal

pub likely_parts-requires : goal.likely_parts-requires
likely_parts-requires c =
    let text = c.args.self.now.text.now in
    let serves = c.requires.serves in
    let tables = serves.tables_are in
    record {
      known = serves.known;
      ahead = serves.ahead;
      parts = subst (λ (parts : Parts). ArePartsOf text.net.now parts) serves.parts_are
          tables.by.prepared.parts;
      index = (
        tables.texts,
        subst (λ (parts : Parts). IsPartIndex text.alphabet.now tables.texts text.net.now parts
            c.args.self.now.tables.now.index) serves.parts_are tables.by.index,
        c.token_at-token.ensures text.alphabet.now tables.texts tables.numbering,
      );
    }

pub returns : goal.returns
returns c = subst (λ (net : List NetGraph). OnOk c.likely_parts.result
    (AreLikely (input_of (masked_setting c.args.self.now.text.now)) net c.args.parts.now c.args.at
    c.likely_parts.new.row.items)) c.requires.serves.net_is c.likely_parts.ensures
