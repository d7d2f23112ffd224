-- What the command `compress` reads, and what answers it. This file carries the command's meaning.
use Rattle.std.specs.Prelude.{ℕ, List}
use Rattle.ux_dela.specs.declared.entry.Entry.{Entry}
use Rattle.ux_image.specs.Images.{IsImage}
use Rattle.ux_plan.specs.Commands.{Command}
use Rattle.ux_plan.specs.Plans.{gives, reads}
use Rattle.ux_reasons.specs.declared.reason.Reason.{Reason}
use Rattle.ux_cmd_compress.specs.Contents.{content_format}
use Rattle.ux_cmd_compress.specs.Laws.{content_sound}

-- the image of the content of a dictionary
abbrev pub compress : (dic : List ℕ) → Command Reason
compress dic = record {
  Read = List Entry;
  plan = reads dic (content_format dic) (λ content. gives content);
  laws = (content_sound dic, λ content. tt);
  Answers = IsImage;
}
