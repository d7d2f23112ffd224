use Rattle.std.proofs.Common.{List, ℕ, Bor}
use Rattle.std.specs.Str.{bytes_eq}
use Rattle.ux_walk.proofs.SetsLemmas.{are_once_as, text_itself}
use Rattle.ux_walk.proofs.texts.Texts.texts_stand_once.Goals as goal

pub returns : goal.returns
returns c = are_once_as (λ (x y : Bor (List ℕ)). bytes_eq x.now y.now)
    (λ (s : Bor (List ℕ)). s.now) text_itself c.args.self.now.texts.keys c.len.ensures.unique
