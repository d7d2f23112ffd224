use Rattle.ux_dictionaries.specs.Dictionaries.{contents_of}
use Rattle.ux_cmd_dico.proofs.reporting.dico.Goals as goal

-- all was read, and the report tells of it
pub returns-clause-ok : goal.returns-clause-ok
returns-clause-ok g c =
    let read = c.in_ok-read.read in
    record {
      read = record {
        letters = read.alphabet;
        tokens = read.text;
        dics = contents_of read.dics.items;
      };
      comes = c.in_ok-read.ensures.ok;
      answers = rw c.into_bytes.ensures.value c.in_ok-report.ensures;
    }
