-- One more link and one more sentence are printed.
use Rattle.std.proofs.Common.{arith, ◌+◌, ◌<◌, ◌≤◌, take, get_or, ◌≡◌, ℕ, List, [], ◌∷◌, ◌++◌, refl, sym, ◌∙◌, ap, subst, append_assoc, length}
use Rattle.std.proofs.lemmas.List.{append-nil}
use Rattle.ux_base.proofs.Lists.{take_more, take_whole}
use Rattle.ux_sentence.specs.declared.sentence.Link.{Link}
use Rattle.ux_sentence.specs.declared.sentence.Sentence.{Sentence}
use Rattle.ux_sentence.specs.Written.{ended, line_of_link, link_lines, head_line, IsPrinted, ArePrinted, IsPrintedFile}

-- the lines of links, and one more
pub link_lines-push : (links : List Link) (link : Link) →
    link_lines (links ++ link ∷ []) ≡ link_lines links ++ ended (line_of_link link)
link_lines-push [] link = append-nil (ended (line_of_link link))
link_lines-push (x ∷ links) link =
    ap (λ (t : List ℕ). ended (line_of_link x) ++ t) (link_lines-push links link)
    ∙ sym (append_assoc (ended (line_of_link x)) (link_lines links) (ended (line_of_link link)))

-- the texts of sentences, and one more
pub ArePrinted-push : (sentences : List Sentence) (s : Sentence) (text more : List ℕ) →
    ArePrinted sentences text → IsPrinted s more → ArePrinted (sentences ++ s ∷ []) (text ++ more)
ArePrinted-push [] s text more so_far is =
    (more, [], ap (λ (t : List ℕ). t ++ more) so_far ∙ sym (append-nil more), is, refl)
ArePrinted-push (x ∷ sentences) s text more so_far is = (
  so_far.0,
  so_far.1 ++ more,
  ap (λ (t : List ℕ). t ++ more) so_far.2 ∙ append_assoc so_far.0 so_far.1 more,
  so_far.3,
  ArePrinted-push sentences s so_far.1 more so_far.4 is,
)

-- the lines of the links so far and the next one are printed
pub lines_more : (links items : List Link) (i : ℕ) (link : Link) (old file new head : List ℕ) →
    items ≡ links → i < length items → link ≡ get_or items i link →
    file ≡ old ++ (head ++ link_lines (take i links)) →
    new ≡ file ++ ended (line_of_link link) →
    new ≡ old ++ (head ++ link_lines (take (i + 1) links))
lines_more links items i link old file new head same lt is so_far added =
    let within : i < length links = omega (arith, lt, ap length same) in
    let here : link ≡ get_or links i link = is ∙ ap (λ (ls : List Link). get_or ls i link) same in
    let front : take i links ++ link ∷ [] ≡ take (i + 1) links =
    ap (λ (l : Link). take i links ++ l ∷ []) here ∙ sym (take_more links i link within) in
    let line = ended (line_of_link link) in
    added ∙ ap (λ (t : List ℕ). t ++ line) so_far
    ∙ append_assoc old (head ++ link_lines (take i links)) line
    ∙ ap (λ (t : List ℕ). old ++ t)
    (append_assoc head (link_lines (take i links)) line
    ∙ ap (λ (t : List ℕ). head ++ t) (sym (link_lines-push (take i links) link)
    ∙ ap link_lines front))

-- what is printed of sentences, behind the head line
pub record IsPrintedTo (sentences : List Sentence) (i : ℕ) (head file : List ℕ) : Type 0 where
  pub text : List ℕ
  pub printed : ArePrinted (take i sentences) text
  pub written : file ≡ head ++ text

pub printed_first : (sentences : List Sentence) (head file : List ℕ) → file ≡ head →
    IsPrintedTo sentences 0 head file
printed_first sentences head file is =
    record { text = []; printed = refl; written = is ∙ sym (append-nil head) }

pub printed_more : (sentences : List Sentence) (i : ℕ) (s : Sentence)
    (head file new more : List ℕ) → i < length sentences → s ≡ get_or sentences i s →
    IsPrintedTo sentences i head file → IsPrinted s more → new ≡ file ++ more →
    IsPrintedTo sentences (i + 1) head new
printed_more sentences i s head file new more lt is so_far printed added =
    let front : take i sentences ++ s ∷ [] ≡ take (i + 1) sentences =
    ap (λ (x : Sentence). take i sentences ++ x ∷ []) is ∙ sym (take_more sentences i s lt) in
    record {
      text = so_far.text ++ more;
      printed = subst (λ (ss : List Sentence). ArePrinted ss (so_far.text ++ more)) front
          (ArePrinted-push (take i sentences) s so_far.text more so_far.printed printed);
      written = added ∙ ap (λ (t : List ℕ). t ++ more) so_far.written
          ∙ append_assoc head so_far.text more;
    }

pub printed_whole : (sentences : List Sentence) (i : ℕ) (file : List ℕ) →
    length sentences ≤ i → IsPrintedTo sentences i (ended (head_line (length sentences))) file →
    IsPrintedFile sentences file
printed_whole sentences i file all so_far = (
  so_far.text,
  so_far.written,
  subst (λ (ss : List Sentence). ArePrinted ss so_far.text) (take_whole sentences i all)
      so_far.printed,
)
