use Rattle.std.proofs.Common.{refl}
use Rattle.ux_mask_table.proofs.KnownLabels.{mask_in_net}
use Rattle.ux_text_chart.proofs.LeadingLemmas.{goes_ahead}
use Rattle.ux_text_chart.proofs.text_basis.TextBasis.of.Goals as goal

pub returns-clause-serves : goal.returns-clause-serves
returns-clause-serves c =
    let text = c.args.text.now in
    record {
      net_is = refl;
      parts_are = refl;
      known = λ h n state edge found inside. record {
        table = c.requires.table;
        mask = mask_in_net text.net.now h n state edge found inside;
      };
      ahead = goes_ahead text.alphabet.now text.text.now text.applied.now c.requires.table.belongs;
      tables_are = c.requires.tables;
    }
