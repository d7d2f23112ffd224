-- The names of files: the folder of a word of the command line, and what stands after it. This file
-- carries public meaning.
use Rattle.std.specs.Prelude.{ℕ, ◌==◌, if◌then◌else◌, List, [], ◌∷◌, length, drop}
use Rattle.std.specs.List.{list_any}

abbrev pub SLASH : ℕ
SLASH = 47

-- the folder of a word: all of it up to its last slash, the slash with it
abbrev pub folder_of : List ℕ → List ℕ
folder_of [] = []
folder_of (b ∷ word) =
    if list_any (λ c. c == SLASH) (b ∷ word) then b ∷ folder_of word else []

-- what stands after the folder
abbrev pub base_of : List ℕ → List ℕ
base_of word = drop (length (folder_of word)) word
