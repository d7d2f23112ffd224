use Rattle.std.proofs.Common.{◌≡◌, length}
use denote.Text.{Utf8}
use denote.Shadow.{shadow}
use Rattle.std.specs.Str.{chars}
use Rattle.ux_image.specs.Codes.{shared_len, behind_chars}
use Rattle.ux_image.proofs.coding.behind_shared.Given as goal

-- what stands behind the common front of the rests does so in the texts
abbrev pub invariant-loop-form_behind : goal.invariant-loop-form_behind
invariant-loop-form_behind l =
    shadow (Utf8 l.form_rest) × shadow (Utf8 l.lemma_rest)
    × (behind_chars (shared_len l.form_rest l.lemma_rest) l.form_rest
    ≡ behind_chars (shared_len l.fn.form l.fn.lemma) l.fn.form)
    × (behind_chars (shared_len l.form_rest l.lemma_rest) l.lemma_rest
    ≡ behind_chars (shared_len l.fn.form l.fn.lemma) l.fn.lemma)

abbrev pub decreases-loop-form_behind : goal.decreases-loop-form_behind
decreases-loop-form_behind l = length (chars l.form_rest)
