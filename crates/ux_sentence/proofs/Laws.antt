-- What a file of sentence automata says is one list of sentences, or one reason of refusal, and never
-- both; what was read is well formed.
use Rattle.std.proofs.Common.{◌≡◌, ℕ, List, sym, ◌∙◌, subst, inl, inr}
use Rattle.ux_sentence.specs.declared.error.SentenceError.{SentenceError}
use Rattle.ux_sentence.specs.declared.sentence.Sentence.{Sentence}
use Rattle.ux_sentence.specs.Files.{Place, IsRefused, AreAll, AreSentences, Refuses}
use Rattle.ux_sentence.proofs.FileLemmas.{one_start, one_rest, rest_excluded, rest_refused_once}

-- a file says one list of sentences
pub sentences_are_unique : (text : List ℕ) (all other : List Sentence) → AreSentences text all →
    AreSentences text other → all ≡ other
sentences_are_unique text all other a b =
    let same = one_start text a.0 b.0 a.1 b.1 in
    let moved : AreAll b.0 all = subst (λ (x : Place). AreAll x all) same a.2 in
    one_rest b.0 all other moved.0 b.2.0 moved.1 moved.2 b.2.1 b.2.2

-- a file that says sentences isn't refused
pub not_refused : (text : List ℕ) (all : List Sentence) (e : SentenceError) →
    AreSentences text all → Refuses text e → ⊥
not_refused text all e a r =
    elim r [
      | inl none ↦ none.0 a.0 a.1
      | inr bad ↦
          let same = one_start text a.0 bad.0 a.1 bad.1 in
          let moved : AreAll bad.0 all = subst (λ (x : Place). AreAll x all) same a.2 in
          rest_excluded bad.0 all bad.2.0 moved.0 bad.2.1 e moved.1 moved.2 bad.2.2 bad.2.3
    ]

-- a file is refused for one reason
pub refused_once : (text : List ℕ) (one other : SentenceError) → Refuses text one →
    Refuses text other → one ≡ other
refused_once text one other r s =
    elim r [
      | inl none ↦ elim s [
        | inl also ↦ none.1 ∙ sym also.1
        | inr bad ↦ absurd (none.0 bad.0 bad.1)
      ]
      | inr bad ↦ elim s [
        | inl none ↦ absurd (none.0 bad.0 bad.1)
        | inr also ↦
            let same = one_start text bad.0 also.0 bad.1 also.1 in
            let moved : IsRefused also.0 one =
            subst (λ (x : Place). IsRefused x one) same bad.2 in
            rest_refused_once also.0 moved.0 also.2.0 moved.1 also.2.1 one other moved.2 moved.3
            also.2.2 also.2.3
      ]
    ]
