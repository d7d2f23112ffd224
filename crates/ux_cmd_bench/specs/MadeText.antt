-- The text of the command `bench`: words that are drawn by a generator. This file carries public meaning.
use Rattle.std.specs.Prelude.{ℕ, zero, suc, ◌+◌, ◌*◌, ◌/◌, ◌%◌, List, [], ◌∷◌, ◌++◌, codes, get_or}
use Rattle.ux_tokens.specs.Tokens.{SPACE}

-- the words that are drawn from
abbrev pub WORDS : List (List ℕ)
WORDS = codes "the" ∷ codes "a" ∷ codes "old" ∷ codes "small" ∷ codes "cat" ∷ codes "dog"
    ∷ codes "sees" ∷ codes "sleeps" ∷ []

-- the number that the generator gives after this one
abbrev pub number_after : ℕ → ℕ
number_after x = (x * 1103515245 + 12345) % 2147483648

-- the numbers of a text of n words: the first is n
abbrev pub number_at : (n k : ℕ) → ℕ
number_at n zero = n
number_at n (suc k) = number_after (number_at n k)

-- the word that a number draws
abbrev pub word_by : ℕ → List ℕ
word_by x = get_or WORDS (x / 65536 % 8) []

-- a text, and a word behind it: a space stands between
abbrev pub with_word : (text word : List ℕ) → List ℕ
with_word [] word = word
with_word (b ∷ text) word = (b ∷ text) ++ SPACE ∷ word

-- the first k words of a text of n words
abbrev pub words_up_to : (n k : ℕ) → List ℕ
words_up_to n zero = []
words_up_to n (suc k) = with_word (words_up_to n k) (word_by (number_at n (suc k)))

-- a text of n words
abbrev pub made_text : (n : ℕ) → List ℕ
made_text n = words_up_to n n
