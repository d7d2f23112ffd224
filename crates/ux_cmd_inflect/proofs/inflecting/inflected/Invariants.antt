use Rattle.std.proofs.Common.{◌≡◌, string_bytes, take}
use Rattle.std.specs.Prelude.{All}
use Rattle.ux_tokens.specs.Numbers.{texts_in}
use Rattle.ux_cmd_inflect.specs.Files.{IsNetAt}
use Rattle.ux_cmd_inflect.specs.Inflecting.{AreForms, IsInflectable}
use Rattle.ux_cmd_inflect.proofs.inflecting.inflected.Given as goal

-- the lemmas so far are inflected
abbrev pub invariant-loop-place : goal.invariant-loop-place
invariant-loop-place l = record {
  nets : l.paradigms.items ≡ l.fn.paradigms.items;
  forms : AreForms (IsNetAt (texts_in l.classes.names) l.fn.paradigms.items) (take l.place l.stems)
      (string_bytes l.lines);
  inflectable : All (IsInflectable (IsNetAt (texts_in l.classes.names) l.fn.paradigms.items))
      (take l.place l.stems);
}
