-- Where the inference of the first functions stops, it has stopped for good.
use Rattle.std.proofs.Common.{◌≡◌, ℕ, zero, suc, ◌<◌, nat_eq, List, length, slice_get, ap, ◌∙◌, subst, arith}
use Rattle.std.proofs.lemmas.Bool.Decides.{nat_tests}
use Rattle.std.proofs.lemmas.Option.{slice_get_within}
use Rattle.um_tree.specs.ProgramTree.{ProgramTree, SchemeTree}
use Rattle.um_elim.proofs.Cases.{on_test}
use Rattle.um_rows.specs.Judgement.{Judgement}
use Rattle.um_infer.specs.Inference.{Inference, with_judgement, with_function, and_then, infer_first, infer}
use Rattle.um_infer.specs.Schemes.{IsJudged}

module _ (p : ProgramTree) where
  -- function i, after those before it
  pub after_before : (i : ℕ) (j : Judgement) (h : IsJudged p i j) → infer_first p (suc i) ≡ with_judgement h.schemes i j
  after_before i j h =
      ap (λ r. and_then r (λ schemes. with_function (length p.bases) p.records schemes i (slice_get p.functions i))) h.before
      ∙ ap (with_function (length p.bases) p.records h.schemes i) h.declared
      ∙ ap (with_judgement h.schemes i) h.judged

  -- nothing comes after it
  abbrev IsFinal : Inference → Type 0
  IsFinal r = (next : List SchemeTree → Inference) → and_then r next ≡ r

  stays : (i : ℕ) (r : Inference) → IsFinal r → infer_first p (suc i) ≡ r → (n : ℕ) → i < n → infer_first p n ≡ r
  stays i r final is zero l = absurd (omega arith)
  stays i r final is (suc n) l = on_test (nat_eq i n)
      (λ e. let same : i ≡ n = grind (arith, nat_tests) in subst (λ m. infer_first p (suc m) ≡ r) same is)
      (λ e.
      let less : i < n = grind (arith, nat_tests) in
      let next = λ (schemes : List SchemeTree). with_function (length p.bases) p.records schemes n (slice_get p.functions n) in
      ap (λ q. and_then q next) (stays i r final is n less) ∙ final next)

  pub stops_first : (n i : ℕ) (j : Judgement) (h : IsJudged p i j) → ((next : List SchemeTree → Inference) → and_then (with_judgement h.schemes i j) next ≡ with_judgement h.schemes i j) → i < n → infer_first p n ≡ with_judgement h.schemes i j
  stops_first n i j h final l = stays i (with_judgement h.schemes i j) final (after_before i j h) n l

  pub stops : (i : ℕ) (j : Judgement) (h : IsJudged p i j) → ((next : List SchemeTree → Inference) → and_then (with_judgement h.schemes i j) next ≡ with_judgement h.schemes i j) → infer p ≡ with_judgement h.schemes i j
  stops i j h final = stops_first (length p.functions) i j h final (slice_get_within p.functions i h.function h.declared)
