-- A step has one list of hits in a text. This file has the law that a finder owes.
use Rattle.std.proofs.Common.{arith, ◌≡◌, ℕ, zero, suc, ◌+◌, List, [], ◌∷◌, refl, subst, ◌∙◌, get_or, inl, inr}
use Rattle.std.specs.Prelude.{All, AllPairs, Some, slice_get}
use Rattle.std.specs.Cmp.Lexicographic.{nat_list_cmp_total}
use Rattle.std.proofs.lemmas.Cmp.{tied_itself}
use Rattle.std.proofs.lemmas.List.Elements.{All-cons}
use Rattle.std.proofs.lemmas.List.Kept.{AllPairs-cons}
use Rattle.ux_alphabet.specs.Letters.{Letters}
use Rattle.ux_apply.specs.declared.priority.Priority.{Priority}
use Rattle.ux_apply.proofs.OneTableLaws.{one_table}
use Rattle.ux_base.proofs.OrderedLists.{same_members}
use Rattle.ux_base.specs.declared.settings.Mode.{Mode}
use Rattle.ux_base.specs.declared.settings.NoVar.TheVariants.{Nothing}
use Rattle.ux_base.specs.declared.settings.Policy.TheVariants.{Longest}
use Rattle.ux_dela.specs.declared.entry.Entry.{Entry}
use Rattle.ux_lexical_tables.specs.Tables.{Tables}
use Rattle.ux_locate.specs.Hits.{IsHit}
use Rattle.ux_locate.specs.Index.{IsKeptListing, StandsBefore}
use Rattle.ux_locate.specs.Order.{AreInOrder}
use Rattle.ux_locate.proofs.PolicyLaws.{kept_once}
use Rattle.ux_net.specs.Nets.{net_grammar}
use Rattle.ux_net.specs.Words.{Grammar}
use Rattle.ux_outputs.specs.declared.hit.Hit.{Hit}
use Rattle.ux_tokens.specs.Tokens.{Token}
use Rattle.ux_cmd_cascade.specs.declared.files.StepNet.{StepNet}
use Rattle.ux_cmd_cascade.specs.Finding.{AreStepHits, FindsByNet}

-- of three hits the first stands before the third
before_through : (a b c : Hit) → StandsBefore a b → StandsBefore b c → StandsBefore a c
before_through a b c (inl x) (inl y) = inl (omega (arith, x, y))
before_through a b c (inl x) (inr (inl y)) = inl (omega (arith, x, y.0))
before_through a b c (inl x) (inr (inr y)) = inl (omega (arith, x, y.0))
before_through a b c (inr (inl x)) (inl y) = inl (omega (arith, x.0, y))
before_through a b c (inr (inl x)) (inr (inl y)) =
    inr (inl (x.0 ∙ y.0, omega (arith, x.1, y.1)))
before_through a b c (inr (inl x)) (inr (inr y)) =
    inr (inl (x.0 ∙ y.0, omega (arith, x.1, y.1)))
before_through a b c (inr (inr x)) (inl y) = inl (omega (arith, x.0, y))
before_through a b c (inr (inr x)) (inr (inl y)) =
    inr (inl (x.0 ∙ y.0, omega (arith, x.1, y.1)))
before_through a b c (inr (inr x)) (inr (inr y)) =
    inr (inr (x.0 ∙ y.0, x.1 ∙ y.1, nat_list_cmp_total.trans a.text b.text c.text x.2 y.2))

-- no hit stands before itself
not_before : (hit : Hit) → StandsBefore hit hit → ⊥
not_before hit (inl x) = omega (arith, x)
not_before hit (inr (inl x)) = omega (arith, x.1)
not_before hit (inr (inr x)) = cc (tied_itself nat_list_cmp_total hit.text, x.2)

not_both : (hit other : Hit) → StandsBefore hit other → StandsBefore other hit → ⊥
not_both hit other a b = not_before hit (before_through hit other hit a b)

suc_more : (k : ℕ) → suc (k + 1) ≡ suc k + 1
suc_more k = omega arith

-- in a list in order each hit stands before all later ones
pub all_before : (hits : List Hit) → AreInOrder StandsBefore hits → AllPairs StandsBefore hits
all_before [] ordered = λ i j d lt within. absurd (omega (arith, within))
all_before (hit ∷ hits) ordered =
    let later = all_before hits (λ k a b at next.
    ordered (suc k) a b at (subst (λ n. slice_get (hit ∷ hits) n ≡ Some b) (suc_more k) next)) in
    AllPairs-cons StandsBefore hit hits (first_before hit hits ordered later) later
  where
    first_before : (hit : Hit) (hits : List Hit) → AreInOrder StandsBefore (hit ∷ hits) →
        AllPairs StandsBefore hits → All (StandsBefore hit) hits
    first_before hit [] ordered later = λ k d within. absurd (omega (arith, within))
    first_before hit (next ∷ others) ordered later =
        let first = ordered 0 hit next refl refl in
        All-cons (StandsBefore hit) next others first (λ k d within.
        before_through hit next (get_or others k d) first
        (later 0 (suc k) d (omega arith) (omega (arith, within))))

-- a grammar has one list of longest hits in a text
one_list : (letters : Letters) (dics : List (Priority × List Entry)) (grammar : Grammar) (mode : Mode)
    (tokens : List Token) (one other : List Hit) →
    AreStepHits letters dics grammar mode tokens one →
    AreStepHits letters dics grammar mode tokens other → one ≡ other
one_list letters dics grammar mode tokens one other a b =
    let listing = subst (λ (t : Tables).
    IsKeptListing Longest (IsHit letters tokens t grammar mode Nothing) one)
    (one_table letters dics tokens a.tables b.tables a.applied b.applied) a.listing in
    same_members StandsBefore (λ hit. Unit {0}) (λ hit other _ _ up down. not_both hit other up down) one
    other
    (kept_once Longest (IsHit letters tokens b.tables grammar mode Nothing) one other listing b.listing)
    (λ hit member. tt) (all_before one listing.ordered) (all_before other b.listing.ordered)

-- and so has each step
pub one_list_by_net : (letters : Letters) (dics : List (Priority × List Entry))
    (nets : List StepNet) (step : ℕ) (tokens : List Token) (one other : List Hit) →
    FindsByNet letters dics nets step tokens one → FindsByNet letters dics nets step tokens other →
    one ≡ other
one_list_by_net letters dics [] step tokens one other a b = absurd a
one_list_by_net letters dics (net ∷ nets) zero tokens one other a b =
    one_list letters dics (net_grammar net.net) net.mode tokens one other a b
one_list_by_net letters dics (net ∷ nets) (suc step) tokens one other a b =
    one_list_by_net letters dics nets step tokens one other a b
