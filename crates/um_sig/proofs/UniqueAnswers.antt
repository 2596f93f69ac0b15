-- There is one answer, unless memory is wanting.
use Rattle.std.proofs.Common.{◌≡◌, ℕ, ◌⊎◌, inl, inr, List, refl, sym, ap, ◌∙◌}
use Rattle.std.specs.Prelude.{Result, Ok, Err}
use Rattle.um_tree.specs.TypeTree.{TypeTree}
use Rattle.um_sig.specs.declared.stop.SigStop.{SigStop}
use Rattle.um_sig.specs.declared.stop.SigStop.TheVariants as stop
use Rattle.um_sig.specs.Form.{AreAlike, IsFirstDifference}
use Rattle.um_sig.specs.Matching.{Matching, match_types}
use Rattle.um_sig.specs.Instances.{scheme_types}
use Rattle.um_sig.specs.Answers.{IsMatching}
use Rattle.um_sig.specs.Laws.{AnswersAreUnique}
use Rattle.um_sig.proofs.FormLaws.{alike_everywhere, one_difference}

abbrev Answer : Type 0
Answer = Result (Unit {0}) SigStop

abbrev AreOne : Answer → Answer → Type 0
AreOne r q = (r ≡ q) ⊎ ((r ≡ Err stop.NoMemory) ⊎ (q ≡ Err stop.NoMemory))

one_matching : (m : Matching) (r q : Answer) → IsMatching m r → IsMatching m q → AreOne r q
one_matching m (Ok x) (Ok y) a b = inl refl
one_matching m (Ok x) (Err (stop.Form j)) a b = absurd b
one_matching m (Ok x) (Err (stop.Units j)) a b = absurd (cc (sym a.1 ∙ b))
one_matching m (Ok x) (Err (stop.Range j)) a b = absurd (cc (sym a.1 ∙ b))
one_matching m (Ok x) (Err stop.NoMemory) a b = inr (inr refl)
one_matching m (Err (stop.Form i)) q a b = absurd a
one_matching m (Err (stop.Units i)) (Ok y) a b = absurd (cc (sym a ∙ b.1))
one_matching m (Err (stop.Units i)) (Err (stop.Form j)) a b = absurd b
one_matching m (Err (stop.Units i)) (Err (stop.Units j)) a b = let same : i ≡ j = cc (sym a ∙ b) in inl (ap (λ k. Err (stop.Units k)) same)
one_matching m (Err (stop.Units i)) (Err (stop.Range j)) a b = absurd (cc (sym a ∙ b))
one_matching m (Err (stop.Units i)) (Err stop.NoMemory) a b = inr (inr refl)
one_matching m (Err (stop.Range i)) (Ok y) a b = absurd (cc (sym a ∙ b.1))
one_matching m (Err (stop.Range i)) (Err (stop.Form j)) a b = absurd b
one_matching m (Err (stop.Range i)) (Err (stop.Units j)) a b = absurd (cc (sym a ∙ b))
one_matching m (Err (stop.Range i)) (Err (stop.Range j)) a b = let same : i ≡ j = cc (sym a ∙ b) in inl (ap (λ k. Err (stop.Range k)) same)
one_matching m (Err (stop.Range i)) (Err stop.NoMemory) a b = inr (inr refl)
one_matching m (Err stop.NoMemory) q a b = inr (inl refl)

-- alike types have no difference
never_both : (ss ts : List TypeTree) (i : ℕ) → AreAlike ss ts → IsFirstDifference ss ts i → ⊥
never_both ss ts i alike d = d.here (alike_everywhere ss ts alike i)

pub answers_are_unique : AnswersAreUnique
answers_are_unique bases s types (Err stop.NoMemory) q a b = inr (inl refl)
answers_are_unique bases s types (Err (stop.Form i)) (Err (stop.Form j)) a b = inl (ap (λ k. Err (stop.Form k)) (one_difference (scheme_types s) types i j a b))
answers_are_unique bases s types (Err (stop.Form i)) (Ok y) a b = absurd (never_both (scheme_types s) types i b.0 a)
answers_are_unique bases s types (Err (stop.Form i)) (Err (stop.Units j)) a b = absurd (never_both (scheme_types s) types i b.0 a)
answers_are_unique bases s types (Err (stop.Form i)) (Err (stop.Range j)) a b = absurd (never_both (scheme_types s) types i b.0 a)
answers_are_unique bases s types (Err (stop.Form i)) (Err stop.NoMemory) a b = inr (inr refl)
answers_are_unique bases s types (Ok x) (Err (stop.Form j)) a b = absurd (never_both (scheme_types s) types j a.0 b)
answers_are_unique bases s types (Ok x) (Ok y) a b = one_matching (match_types bases s.vars (scheme_types s) types) (Ok x) (Ok y) a.1 b.1
answers_are_unique bases s types (Ok x) (Err (stop.Units j)) a b = one_matching (match_types bases s.vars (scheme_types s) types) (Ok x) (Err (stop.Units j)) a.1 b.1
answers_are_unique bases s types (Ok x) (Err (stop.Range j)) a b = one_matching (match_types bases s.vars (scheme_types s) types) (Ok x) (Err (stop.Range j)) a.1 b.1
answers_are_unique bases s types (Ok x) (Err stop.NoMemory) a b = inr (inr refl)
answers_are_unique bases s types (Err (stop.Units i)) (Err (stop.Form j)) a b = absurd (never_both (scheme_types s) types j a.0 b)
answers_are_unique bases s types (Err (stop.Units i)) (Ok y) a b = one_matching (match_types bases s.vars (scheme_types s) types) (Err (stop.Units i)) (Ok y) a.1 b.1
answers_are_unique bases s types (Err (stop.Units i)) (Err (stop.Units j)) a b = one_matching (match_types bases s.vars (scheme_types s) types) (Err (stop.Units i)) (Err (stop.Units j)) a.1 b.1
answers_are_unique bases s types (Err (stop.Units i)) (Err (stop.Range j)) a b = one_matching (match_types bases s.vars (scheme_types s) types) (Err (stop.Units i)) (Err (stop.Range j)) a.1 b.1
answers_are_unique bases s types (Err (stop.Units i)) (Err stop.NoMemory) a b = inr (inr refl)
answers_are_unique bases s types (Err (stop.Range i)) (Err (stop.Form j)) a b = absurd (never_both (scheme_types s) types j a.0 b)
answers_are_unique bases s types (Err (stop.Range i)) (Ok y) a b = one_matching (match_types bases s.vars (scheme_types s) types) (Err (stop.Range i)) (Ok y) a.1 b.1
answers_are_unique bases s types (Err (stop.Range i)) (Err (stop.Units j)) a b = one_matching (match_types bases s.vars (scheme_types s) types) (Err (stop.Range i)) (Err (stop.Units j)) a.1 b.1
answers_are_unique bases s types (Err (stop.Range i)) (Err (stop.Range j)) a b = one_matching (match_types bases s.vars (scheme_types s) types) (Err (stop.Range i)) (Err (stop.Range j)) a.1 b.1
answers_are_unique bases s types (Err (stop.Range i)) (Err stop.NoMemory) a b = inr (inr refl)
