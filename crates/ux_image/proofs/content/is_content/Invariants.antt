use Rattle.std.proofs.Common.{◌≢◌, ◌↔◌, [], All, take, drop}
use denote.Text.{Utf8}
use denote.Shadow.{shadow}
use Rattle.ux_dela.specs.declared.entry.Entry.{Entry}
use Rattle.ux_image.specs.Contents.{AreInOrder}
use Rattle.ux_image.proofs.content.is_content.Given as goal

-- no form was empty, and all are in order exactly where those that are left are
abbrev pub invariant-loop-entry : goal.invariant-loop-entry
invariant-loop-entry l =
    shadow (Utf8 l.last)
    × All (λ (entry : Entry). entry.form ≢ []) (take l.entry-index l.entries)
    × (AreInOrder l.last (drop l.entry-index l.entries) ↔ AreInOrder [] l.entries)
