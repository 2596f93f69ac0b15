-- What a function of a program is judged, if the inference gave schemes to it and to the functions before it.
-- Source: Kennedy (1996): functions are taken in order, each with the schemes of those before it.
use Rattle.std.proofs.Common.{◌≡◌, ℕ, ◌<◌, ◌≤◌, cond, leb, List, length, slice_get, Option, Some, None, refl, sym, ap, ◌∙◌, subst, arith}
use Rattle.std.proofs.lemmas.Bool.Decides.{nat_tests}
use Rattle.um_tree.specs.ProgramTree.{RecordTree, FunctionTree, ProgramTree, SchemeTree}
use Rattle.um_tree.specs.Formed.{IsFormed}
use Rattle.um_elim.proofs.Cases.{on_test}
use Rattle.um_equal_types.specs.declared.row.Rows.{Rows}
use Rattle.um_equal_types.specs.Steps.{rows_of, units_of, first_past}
use Rattle.um_slots.specs.Slots.{slot_count}
use Rattle.um_rows.specs.Equations.{Equations, slot_equations}
use Rattle.um_rows.specs.Solutions.{function_rows, slot_signature, HaveSchemes}
use Rattle.um_rows.specs.Judgement.{Judgement, has_scheme, too_many_slots, passes_range, has_no_typing, not_general, by_rows, by_range, judge}
use Rattle.um_rows.specs.Answers.{rows_signature, AreEquations}
use Rattle.um_infer.specs.Inference.{all_schemes, infer_first}
use Rattle.um_infer.proofs.PrincipalSchemes.{have_schemes}
use Rattle.um_infer.proofs.InferenceLaws.{first_are_principal}
use Rattle.um_infer.proofs.SameEquations.{same_count, same_equations}
use Rattle.um_infer.proofs.GivenSchemes.{given}

-- no limit is met
abbrev pub IsUnlimited : Judgement → Type 0
IsUnlimited (has_scheme s) = Unit {0}
IsUnlimited too_many_slots = ⊥
IsUnlimited (passes_range at) = ⊥
IsUnlimited (has_no_typing row at) = Unit {0}
IsUnlimited (not_general row at) = Unit {0}

module _ (bases : ℕ) (records : List RecordTree) (schemes : List SchemeTree) (i : ℕ) (f : FunctionTree) where
  pub record HasJudgement (j : Judgement) : Type 0 where
    pub few : slot_count records schemes i f ≤ 2000
    pub in_range : first_past (slot_equations records schemes i f).steps ≡ None
    pub by : by_rows bases f.units (slot_count records schemes i f) f.at (slot_signature records schemes i f) (rows_of (slot_equations records schemes i f).steps) ≡ j

  abbrev own : Judgement
  own = by_rows bases f.units (slot_count records schemes i f) f.at (slot_signature records schemes i f) (rows_of (slot_equations records schemes i f).steps)

  in_range_by : (o : Option ℕ) (j : Judgement) → IsUnlimited j → first_past (slot_equations records schemes i f).steps ≡ o → slot_count records schemes i f ≤ 2000 → by_range o own ≡ j → HasJudgement j
  in_range_by None j free e few h = record { few = few; in_range = e; by = h }
  in_range_by (Some at) j free e few h = absurd (subst IsUnlimited (sym h) free)

  pub judged_rows : (j : Judgement) → IsUnlimited j → judge bases records schemes i f ≡ j → HasJudgement j
  judged_rows j free h =
      let steps = (slot_equations records schemes i f).steps in
      on_test (leb (slot_count records schemes i f) 2000)
      (λ e.
      let few : slot_count records schemes i f ≤ 2000 = grind (arith, nat_tests) in
      in_range_by (first_past steps) j free refl few (subst (λ b. cond b (by_range (first_past steps) own) too_many_slots ≡ j) e h))
      (λ e. absurd (subst IsUnlimited (sym (subst (λ b. cond b (by_range (first_past steps) own) too_many_slots ≡ j) e h)) free))

  -- ---- by the equations that the code gives
  module _ (r : Rows) (h : AreEquations records schemes i f r) where
    pub same_signature : rows_signature r ≡ slot_signature records schemes i f
    same_signature = λ k. record { params = h.params k; result = h.result k }

    pub same_rows : units_of r.list.items.items ≡ function_rows records schemes i f
    same_rows = ap units_of h.list

    pub judged_same : (at : ℕ) → by_rows bases f.units r.slots at (rows_signature r) r.list.items.items ≡ by_rows bases f.units (slot_count records schemes i f) at (slot_signature records schemes i f) (rows_of (slot_equations records schemes i f).steps)
    judged_same at =
        ap (λ n. by_rows bases f.units n at (rows_signature r) r.list.items.items) h.slots
        ∙ ap (λ g. by_rows bases f.units (slot_count records schemes i f) at g r.list.items.items) same_signature
        ∙ ap (by_rows bases f.units (slot_count records schemes i f) at (slot_signature records schemes i f)) h.list

-- ---- the schemes of the functions before
pub schemes_before : (p : ProgramTree) → IsFormed p → (n : ℕ) (schemes : List SchemeTree) → n ≤ length p.functions → infer_first p n ≡ all_schemes schemes → HaveSchemes p schemes n
schemes_before p formed n schemes l before = have_schemes p n schemes (first_are_principal p formed n schemes l before)

pub schemes_until : (p : ProgramTree) → IsFormed p → (n i : ℕ) (schemes : List SchemeTree) → n ≤ length p.functions → i ≤ n → infer_first p n ≡ all_schemes schemes → HaveSchemes p schemes i
schemes_until p formed n i schemes l le before = λ j h. schemes_before p formed n schemes l before j (omega (arith, h, le))

-- what a function is judged, by its equations
abbrev pub judge_by : ℕ → FunctionTree → ℕ → Equations → Judgement
judge_by bases f n e =
    cond (leb n 2000) (by_range (first_past e.steps) (by_rows bases f.units n f.at (record { params = e.params; result = e.result }) (rows_of e.steps))) too_many_slots

-- ---- a function with a scheme
module _ (p : ProgramTree) (formed : IsFormed p) (n : ℕ) (schemes : List SchemeTree) (few : n ≤ length p.functions) (before : infer_first p n ≡ all_schemes schemes) (i : ℕ) (inside : i < n) (f : FunctionTree) (declared : slice_get p.functions i ≡ Some f)
    (s : SchemeTree) (at : slice_get schemes i ≡ Some s) where
  pub judged_here : judge (length p.bases) p.records schemes i f ≡ has_scheme s
  judged_here =
      let g = given p formed n schemes i s few before inside at in
      sym (λ k. judge_by (length p.bases) f (same_count p.records i f g.earlier schemes g.alike k) (same_equations p.records i f g.earlier schemes g.alike k)) ∙ g.judged f declared

  pub scheme_judgement : HasJudgement (length p.bases) p.records schemes i f (has_scheme s)
  scheme_judgement = judged_rows (length p.bases) p.records schemes i f (has_scheme s) tt judged_here

  module _ (r : Rows) (h : AreEquations p.records schemes i f r) where
    pub yes_judged : by_rows (length p.bases) f.units r.slots f.at (rows_signature r) r.list.items.items ≡ has_scheme s
    yes_judged = judged_same (length p.bases) p.records schemes i f r h f.at ∙ scheme_judgement.by
