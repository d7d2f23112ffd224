-- A small text that is made up, and what is told of it.
use Rattle.std.proofs.Common.{◌≡◌, refl}
use Rattle.std.specs.Prelude.{codes}
use Rattle.std.specs.Fmt.{digits}
use Rattle.ux_cmd_bench.specs.MadeText.{made_text}
use Rattle.ux_cmd_bench.specs.Summaries.{summary}

-- five words
five_words : made_text 5 ≡ codes "sleeps a the dog a"
five_words = refl

twelve_words : made_text 12 ≡ codes "small small a small a small dog cat small sees dog small"
twelve_words = refl

-- the lines that tell of one hit of three tokens among nine
four_lines : summary 5 9 1 3 ≡ codes "words 5\ntokens 9\nhits 1\nlongest 3\n"
unfolding digits
four_lines = refl
