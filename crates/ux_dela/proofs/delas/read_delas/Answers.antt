use Rattle.std.proofs.lemmas.Result.{IfOk-weaker}
use Rattle.ux_base.specs.Lines.{lines_of}
use Rattle.ux_dela.specs.Delas.{DelasSays, RefusesDelas}
use Rattle.ux_dela.proofs.StemExclusionLemmas.{stem_excluded}
use Rattle.ux_base.proofs.EachLineLemmas.{not_refused}
use Rattle.ux_dela.proofs.SoundStemLemmas.{sound_stems}
use Rattle.ux_dela.proofs.delas.read_delas.Goals as goal

pub returns-clause-exact : goal.returns-clause-exact
returns-clause-exact c =
    IfOk-weaker c.read_stems.result _ _
    (λ stems are error refuses.
    not_refused DelasSays RefusesDelas stem_excluded (lines_of c.args.text.now) 1 stems.items error
    are refuses) c.read_stems.ensures.ok

pub returns-clause-sound : goal.returns-clause-sound
returns-clause-sound c =
    IfOk-weaker c.read_stems.result _ _ (λ stems are. sound_stems c.args.text.now stems.items are)
    c.read_stems.ensures.ok
