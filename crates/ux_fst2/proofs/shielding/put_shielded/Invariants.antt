use Rattle.std.proofs.Common.{◌≡◌, ◌++◌, length, string_bytes}
use denote.Text.{Utf8}
use denote.Shadow.{shadow}
use Rattle.ux_fst2.specs.Inner.{is_shielded}
use Rattle.ux_dela.proofs.ShieldLemmas.{shown}
use Rattle.ux_fst2.proofs.shielding.put_shielded.Given as goal

-- the text so far, and what is printed for the rest
abbrev pub invariant-loop-place : goal.invariant-loop-place
invariant-loop-place l =
    shadow (Utf8 l.rest)
    × (string_bytes l.out ++ shown (is_shielded l.signs) l.rest
    ≡ string_bytes l.fn.out ++ shown (is_shielded l.signs) l.text)

abbrev pub decreases-loop-place : goal.decreases-loop-place
decreases-loop-place l = length l.rest
