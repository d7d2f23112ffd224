use Rattle.std.proofs.Common.{◌≡◌, ◌++◌, List, ℕ, Bor, map, string_bytes}
use Rattle.std.specs.List.{flat_map}
use Rattle.ux_tokens.specs.Numbers.{texts_in}
use Rattle.ux_tokens.specs.TokenFile.{file_of, line_of}
use Rattle.ux_tokens.proofs.listing.print_texts.Given as goal

-- what is written, and the lines of the texts that are left
abbrev pub invariant-loop-text : goal.invariant-loop-text
invariant-loop-text l =
    string_bytes l.file
    ++ flat_map line_of (map (λ (text : Bor (List ℕ)). text.now) l.text-iterator)
    ≡ file_of (texts_in l.texts)
