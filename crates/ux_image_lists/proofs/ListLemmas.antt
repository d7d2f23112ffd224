-- The next list is read by the rules of its place, and its first code has the next number.
use Rattle.std.proofs.Common.{arith, ◌≡◌, ℕ, ◌+◌, ◌<◌, List, [], ◌∷◌, ◌++◌, sym, ap, subst, length}
use Rattle.std.proofs.lemmas.List.Sums.{sum_by_push}
use Rattle.ux_image.specs.declared.code.CodeList.{CodeList}
use Rattle.ux_image_reader.specs.declared.error.ImageError.{ImageError}
use Rattle.ux_image_reader.specs.declared.error.ImageError.TheVariants.{BadCode}
use Rattle.ux_image_reader.specs.declared.front.Version.{Version}
use Rattle.ux_image_lists.specs.Fields.{each, tested}
use Rattle.ux_image_lists.specs.Lists.{codes_in, list, lists, next_list, rules_at, IsNew}
use Rattle.ux_image_lists.proofs.FieldLemmas.{each_more, each_refused}

module _ (version : Version) (shortest : List ℕ) (index first : ℕ) (bytes mid : List ℕ)
    (before : List CodeList)
    (so_far : (each index (next_list version shortest)).Begins bytes before mid)
    (number : first ≡ codes_in before) (less : index < length shortest) where
  -- it is refused, and so are all lists
  pub list_refused : (error : ImageError) →
      (tested (list (rules_at version shortest index) first) (IsNew before) (BadCode first)).Refuses
      mid error → (lists version shortest).Refuses bytes error
  list_refused error refused =
      each_refused (next_list version shortest) index (length shortest) bytes mid before error so_far
      less
      (subst (λ k. (tested (list (rules_at version shortest k) (codes_in before)) (IsNew before)
      (BadCode (codes_in before))).Refuses mid error) (sym so_far.0)
      (subst (λ k. (tested (list (rules_at version shortest index) k) (IsNew before)
      (BadCode k)).Refuses mid error) number refused))

  -- it is read
  pub list_more : (next : CodeList) (rest : List ℕ) (more : List CodeList) (many then : ℕ) →
      (tested (list (rules_at version shortest index) first) (IsNew before) (BadCode first)).Begins
      mid next rest → more ≡ before ++ next ∷ [] → many ≡ length next.codes →
      then ≡ first + many →
      (each (index + 1) (next_list version shortest)).Begins bytes more rest × (then ≡ codes_in more)
  list_more next rest more many then begins is many_are then_is = (
    each_more (next_list version shortest) index bytes mid rest before more next so_far
        (subst (λ k. (tested (list (rules_at version shortest k) (codes_in before)) (IsNew before)
        (BadCode (codes_in before))).Begins mid next rest) (sym so_far.0)
        (subst (λ k. (tested (list (rules_at version shortest index) k) (IsNew before)
        (BadCode k)).Begins mid next rest) number begins)) is,
    (let sum = sum_by_push (λ (l : CodeList). length l.codes) before next in
        let all = ap codes_in is in
        omega (arith, sum, all, many_are, then_is, number)),
  )
