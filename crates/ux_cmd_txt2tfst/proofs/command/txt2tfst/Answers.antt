use Rattle.ux_dictionaries.specs.Dictionaries.{contents_of}
use Rattle.ux_cmd_txt2tfst.proofs.command.txt2tfst.Goals as goal

-- all was read, and the answer has its automata
pub returns-clause-ok : goal.returns-clause-ok
returns-clause-ok g c =
    let read = c.in_ok-read.read in
    record {
      read = record {
        letters = read.alphabet;
        tokens = read.text;
        dics = contents_of read.dics.items;
      };
      comes = c.in_ok-read.ensures.ok;
      answers = rw c.into_bytes.ensures.value c.in_ok-answer.ensures;
    }
