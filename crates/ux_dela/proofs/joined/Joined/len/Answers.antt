use Rattle.std.proofs.Common.{◌∙◌, sym, ap, length, string_bytes}
use Rattle.ux_dela.proofs.TextsLemmas.{length-texts_from}
use Rattle.ux_dela.proofs.joined.Joined.len.Goals as goal

pub returns : goal.returns
returns c =
    c.len.ensures ∙ c.self.inside.ends.ok.0
    ∙ sym (length-texts_from 0 c.self.inside.ends.items (string_bytes c.self.inside.text))
    ∙ ap length c.self.view_is
