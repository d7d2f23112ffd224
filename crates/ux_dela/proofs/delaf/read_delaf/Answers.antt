use Rattle.std.proofs.lemmas.Result.{IfOk-weaker}
use Rattle.ux_base.specs.Lines.{lines_of}
use Rattle.ux_dela.specs.Delaf.{DelafSays, RefusesDelaf}
use Rattle.ux_dela.proofs.ExclusionLemmas.{says_excluded}
use Rattle.ux_base.proofs.EachLineLemmas.{not_refused}
use Rattle.ux_dela.proofs.SoundLemmas.{lines_of-no_feed, sound_file}
use Rattle.ux_dela.proofs.delaf.read_delaf.Goals as goal

pub returns-clause-exact : goal.returns-clause-exact
returns-clause-exact c =
    IfOk-weaker c.read_entries.result _ _
    (λ entries are error refuses.
    not_refused DelafSays RefusesDelaf says_excluded (lines_of c.args.text.now) 1 entries.items
    error are refuses) c.read_entries.ensures.ok

pub returns-clause-sound : goal.returns-clause-sound
returns-clause-sound c =
    IfOk-weaker c.read_entries.result _ _
    (λ entries are.
    sound_file (lines_of c.args.text.now) entries.items (lines_of-no_feed c.args.text.now) are)
    c.read_entries.ensures.ok
