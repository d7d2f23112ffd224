use Rattle.std.proofs.Common.{All, Contains, subst, sym, ◌∙◌}
use Rattle.std.proofs.lemmas.Iterator.{YieldsList-from_chars}
use Rattle.std.proofs.lemmas.Iterator.Consumers.{YieldsList-end}
use Rattle.std.proofs.lemmas.List.{map-id}
use Rattle.ux_dict.proofs.LetterLemmas.{put_more}
use Rattle.ux_dict.proofs.measures.put_letters.Goals as goal

pub loop-c-preserved : goal.loop-c-preserved
loop-c-preserved c =
    let more = c.in_ok-put_letter.ensures in record {
      marks = more.marks;
      kept = λ d old. more.kept d (c.loop-c.invariant.kept d old);
      put = put_more c.loop-c.set.keys c.put_letter.new.set.keys c.in-Some.c c.loop-c.yielded
          more.kept more.put c.loop-c.invariant.put;
    }

-- all characters were met
pub returns-clause-put : goal.returns-clause-put
returns-clause-put c =
    let t = YieldsList-end (YieldsList-from_chars c.args.text.now c.utf8.text cc) c.loop-c.yielded _
    c.loop-c.yielded_by _ _ c.in-None.is c.next.ensures.steps in
    subst (All (Contains c.loop-c.set.keys)) (sym (map-id c.loop-c.yielded) ∙ t.0)
    c.loop-c.invariant.put
