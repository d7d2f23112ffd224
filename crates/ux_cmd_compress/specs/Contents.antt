-- The formats of dictionaries of which the content is read. Public, through `Compress`.
use Rattle.std.specs.Prelude.{ℕ, List}
use Rattle.ux_dela.specs.Files.{Refuses}
use Rattle.ux_dela.specs.declared.entry.Entry.{Entry}
use Rattle.ux_dict.specs.Content.{IsContent}
use Rattle.ux_dict.specs.FileContent.{IsFileContent}
use Rattle.ux_image_files.specs.ImageFiles.{either, image_format, is_image, made}
use Rattle.ux_plan.specs.Plans.{Format, decoded, said_as}
use Rattle.ux_reasons.specs.declared.reason.Reason.{Reason}
use Rattle.ux_reasons.specs.declared.reason.Reason.TheVariants.{Decode, Dela}

-- files of forms, of which the content is read
abbrev pub text_format : Format Reason (List Entry)
text_format = decoded Decode (said_as Dela IsFileContent Refuses)

-- a dictionary, of which the content is read: that of the entries of an image, or of a file of forms
abbrev pub content_format : (name : List ℕ) → Format Reason (List Entry)
content_format name = either (is_image name) (made image_format IsContent) text_format
