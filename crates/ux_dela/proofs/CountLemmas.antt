-- The entries of a file are counted line by line.
use Rattle.std.proofs.Common.{refl, ◌≡◌, ℕ, ◌+◌, List, [], ◌∷◌, ◌++◌, sym, ◌∙◌, ap, length, length-append}
use Rattle.ux_base.specs.Lines.{lines_of}
use Rattle.ux_base.specs.EachLine.{AreSaid}
use Rattle.ux_dela.specs.Files.{HasCount}
use Rattle.ux_dela.specs.declared.error.DelaError.{DelaError}
use Rattle.ux_base.proofs.EachLineLemmas.{IsReadTo, read_start, read_more, read_whole}

module _ {T : Type 0} (Says : List ℕ → List T → Type 0)
    (Refuses : List ℕ → ℕ → DelaError → Type 0) where
  -- what was read so far is so many
  pub record IsCountedTo (all left : List (List ℕ)) (number count : ℕ) : Type 0 where
    pub said : List T
    pub read : IsReadTo Says Refuses all left number said
    pub is : count ≡ length said

  pub count_start : (all : List (List ℕ)) → IsCountedTo all all 0 0
  count_start all = record {
    said = [];
    read = read_start Says Refuses all;
    is = refl;
  }

  -- what one more line says was counted
  pub count_more : (all left rest : List (List ℕ)) (number count more : ℕ) (line : List ℕ)
      (here : List T) → IsCountedTo all left number count → left ≡ line ∷ rest → Says line here →
      more ≡ count + length here → IsCountedTo all rest (number + 1) more
  count_more all left rest number count more line here so_far is says counted = record {
    said = so_far.said ++ here;
    read = read_more Says Refuses all left rest number line so_far.said (so_far.said ++ here) here
        so_far.read is says refl;
    is = counted ∙ ap (λ t. t + length here) so_far.is ∙ sym (length-append so_far.said here);
  }

  -- all lines of the text were read
  pub count_whole : (text : List ℕ) (left : List (List ℕ)) (number count : ℕ) →
      IsCountedTo (lines_of text) left number count → left ≡ [] →
      HasCount (λ (t : List ℕ) (said : List T). AreSaid Says (lines_of t) said) text count
  count_whole text left number count so_far none = record {
    said = so_far.said;
    are = read_whole Says Refuses (lines_of text) left number so_far.said so_far.read none;
    is = so_far.is;
  }
