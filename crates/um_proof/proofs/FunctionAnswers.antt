-- The certificate of a function of a program: what is asked of its rows, and what the makers' answers say of the function.
use Rattle.std.proofs.Common.{◌≡◌, ◌⊎◌, inl, inr, ℕ, ◌<◌, ◌≤◌, cond, leb, List, length, ℤ, Option, Some, None, slice_get, Result, Ok, Err, refl, sym, ap, ◌∙◌, subst, arith}
use Rattle.std.specs.Prelude.{IfOk, IfErr}
use Rattle.std.proofs.lemmas.Option.{slice_get_within}
use Rattle.um_tree.specs.ProgramTree.{RecordTree, FunctionTree, ProgramTree, SchemeTree}
use Rattle.um_tree.specs.Formed.{IsFormed}
use Rattle.um_equal_types.specs.declared.row.Rows.{Rows}
use Rattle.um_equal_types.specs.Steps.{rows_of, units_of, first_past}
use Rattle.um_rows.specs.Equations.{Equations, slot_equations}
use Rattle.um_slots.specs.Slots.{slot_count}
use Rattle.um_rows.specs.Solutions.{function_rows, slot_signature, HaveSchemes}
use Rattle.um_rows.specs.Answers.{rows_signature, AreEquations}
use Rattle.um_rows.specs.Judgement.{Judgement, has_scheme, too_many_slots, has_no_typing, not_general, by_rows, by_range, judge}
use Rattle.um_infer.specs.Inference.{Inference, all_schemes, stops_at_slots, stops_at_range, stops_at_units, stops_at_not_general, infer, infer_first}
use Rattle.um_infer.specs.Schemes.{IsJudged}
use Rattle.um_infer.proofs.PrincipalSchemes.{have_schemes}
use Rattle.um_infer.proofs.InferenceLaws.{first_are_principal, unit_stops_are_exact, not_general_stops_are_exact}
use Rattle.um_check.specs.declared.certificate.Yes.{Yes}
use Rattle.um_check.specs.declared.certificate.No.{No}
use Rattle.um_check.specs.Validity.{IsValidYes}
use Rattle.um_check.specs.Refutation.{IsValidNo}
use Rattle.um_kept.specs.declared.stop.CertStop.{CertStop}
use Rattle.um_kept.specs.declared.stop.CertStop.TheVariants as stop
use Rattle.um_proof.specs.declared.stop.ProveStop.{ProveStop}
use Rattle.um_proof.specs.declared.stop.ProveStop.TheVariants as prove
use Rattle.um_kept.specs.Kept.{first}
use Rattle.um_kept.specs.Formed.{PassesInRows, PassesAtEnd}
use Rattle.um_proof.specs.Answers.{judged, NamesRefusal, IsRefused, IsYesMade, IsNoMade}
use Rattle.um_proof.specs.Proving.{IsYesOf, IsNoOf, IsRefusal, IsWithinLimits, IsProved}
use Rattle.um_proof.specs.ProgramSteps.{CarriesInFunction, CarriesInSome, IsFirstRefused, of_function}
use Rattle.um_infer.proofs.SchemeJudgements.{schemes_before, schemes_until, judge_by, HasJudgement, judged_rows, same_signature, same_rows, judged_same}
use Rattle.um_infer.proofs.SameEquations.{same_count, same_equations}
use Rattle.um_proof.proofs.FunctionRows.{moved_refusal}

pub same_item : {X : Type 0} (x y : X) → Some x ≡ Some y → x ≡ y
same_item x y e = cc e

same_schemes : (xs ys : List SchemeTree) → all_schemes xs ≡ all_schemes ys → xs ≡ ys
same_schemes xs ys e = cc e

-- a number that passes, in the equations that the code gives
module _ (records : List RecordTree) (schemes : List SchemeTree) (i : ℕ) (f : FunctionTree) (r : Rows) (bases : ℕ) (h : AreEquations records schemes i f r) (parameters : ℕ) (z : ℤ) where
  in_rows : PassesInRows (units_of r.list.items.items) (first bases parameters r.slots) z → PassesInRows (function_rows records schemes i f) (first bases parameters (slot_count records schemes i f)) z
  in_rows m =
      subst (λ rows. PassesInRows rows (first bases parameters (slot_count records schemes i f)) z) (same_rows bases records schemes i f r h)
      (subst (λ slots. PassesInRows (units_of r.list.items.items) (first bases parameters slots) z) h.slots m)

  at_end : PassesAtEnd (units_of r.list.items.items) (first bases parameters r.slots) z → PassesAtEnd (function_rows records schemes i f) (first bases parameters (slot_count records schemes i f)) z
  at_end m =
      subst (λ rows. PassesAtEnd rows (first bases parameters (slot_count records schemes i f)) z) (same_rows bases records schemes i f r h)
      (subst (λ slots. PassesAtEnd (units_of r.list.items.items) (first bases parameters slots) z) h.slots m)

-- ---- a function with a scheme
module _ (p : ProgramTree) (formed : IsFormed p) (n : ℕ) (schemes : List SchemeTree) (few : n ≤ length p.functions) (before : infer_first p n ≡ all_schemes schemes) (i : ℕ) (inside : i < n) (f : FunctionTree) (declared : slice_get p.functions i ≡ Some f)
    (s : SchemeTree) (at : slice_get schemes i ≡ Some s) where
  module _ (r : Rows) (h : AreEquations p.records schemes i f r) where
    pub yes_valid : (result : Result Yes CertStop) → IsYesMade (length p.bases) f.units r s result → IfOk result (IsYesOf p schemes i f s)
    yes_valid (Ok c) valid =
        subst (λ g. IsValidYes (length p.bases) f.units (slot_count p.records schemes i f) (function_rows p.records schemes i f) g s c) (same_signature (length p.bases) p.records schemes i f r h)
        (subst (λ rows. IsValidYes (length p.bases) f.units (slot_count p.records schemes i f) rows (rows_signature r) s c) (same_rows (length p.bases) p.records schemes i f r h)
        (subst (λ slots. IsValidYes (length p.bases) f.units slots (units_of r.list.items.items) (rows_signature r) s c) h.slots valid))
    yes_valid (Err e) valid = tt

    pub yes_range : (result : Result Yes CertStop) → IsYesMade (length p.bases) f.units r s result → IfErr result (CarriesInFunction p i)
    yes_range (Ok c) m = tt
    yes_range (Err (stop.CertRange z)) (inl m) = (n, schemes, f, omega (arith, inside), before, declared, inl (in_rows p.records schemes i f r (length p.bases) h f.units z m))
    yes_range (Err (stop.CertRange z)) (inr m) = (n, schemes, f, omega (arith, inside), before, declared, inr (inl (at_end p.records schemes i f r (length p.bases) h f.units z m)))
    yes_range (Err stop.NoMemory) m = tt

-- ---- a function that is refused
module _ (p : ProgramTree) (i : ℕ) (refused : IsFirstRefused (infer p) i) where
  -- what it is judged
  pub record IsRefusedFunction : Type 0 where
    pub judgement : Judgement
    pub of : IsJudged p i judgement
    pub is : (judgement ≡ has_no_typing refused.0 refused.1) × (infer p ≡ stops_at_units i refused.0 refused.1) ⊎ (judgement ≡ not_general refused.0 refused.1) × (infer p ≡ stops_at_not_general i refused.0 refused.1)

  pub refused_function : IsRefusedFunction
  refused_function =
      elim refused.2 [
        | inl e ↦ record { judgement = has_no_typing refused.0 refused.1; of = (unit_stops_are_exact p i refused.0 refused.1).0 e; is = inl (refl, e) }
        | inr e ↦ record { judgement = not_general refused.0 refused.1; of = (not_general_stops_are_exact p i refused.0 refused.1).0 e; is = inr (refl, e) }
      ]

  pub refused_inside : i < length p.functions
  refused_inside = let h = refused_function.of in slice_get_within p.functions i h.function h.declared

  module _ (schemes : List SchemeTree) (before : infer_first p i ≡ all_schemes schemes) (f : FunctionTree) (declared : slice_get p.functions i ≡ Some f) where
    judgement_here : judge (length p.bases) p.records schemes i f ≡ refused_function.judgement
    judgement_here =
        let h = refused_function.of in
        let q : h.function ≡ f = same_item h.function f (sym h.declared ∙ declared) in
        let g : h.schemes ≡ schemes = same_schemes h.schemes schemes (sym h.before ∙ before) in
        ap (λ x. judge (length p.bases) p.records x i f) (sym g) ∙ ap (judge (length p.bases) p.records h.schemes i) (sym q) ∙ h.judged

    pub refused_judgement : HasJudgement (length p.bases) p.records schemes i f refused_function.judgement
    refused_judgement = elim refused_function.is [
      | inl w ↦ subst (HasJudgement (length p.bases) p.records schemes i f) (sym w.0) (judged_rows (length p.bases) p.records schemes i f (has_no_typing refused.0 refused.1) tt (judgement_here ∙ w.0))
      | inr w ↦ subst (HasJudgement (length p.bases) p.records schemes i f) (sym w.0) (judged_rows (length p.bases) p.records schemes i f (not_general refused.0 refused.1) tt (judgement_here ∙ w.0))
    ]

    module _ (r : Rows) (h : AreEquations p.records schemes i f r) where
      no_judged : judged (length p.bases) f.units 0 r ≡ refused_function.judgement
      no_judged =
          judged_same (length p.bases) p.records schemes i f r h 0
          ∙ elim refused_function.is [
            | inl w ↦ moved_refusal (length p.bases) f.units (slot_count p.records schemes i f) f.at 0 (slot_signature p.records schemes i f) (rows_of (slot_equations p.records schemes i f).steps) (has_no_typing refused.0 refused.1) tt (refused_judgement.by ∙ w.0) ∙ sym w.0
            | inr w ↦ moved_refusal (length p.bases) f.units (slot_count p.records schemes i f) f.at 0 (slot_signature p.records schemes i f) (rows_of (slot_equations p.records schemes i f).steps) (not_general refused.0 refused.1) tt (refused_judgement.by ∙ w.0) ∙ sym w.0
          ]

      pub no_refused : IsRefused (judged (length p.bases) f.units 0 r)
      no_refused = subst IsRefused (sym no_judged) (elim refused_function.is [
        | inl w ↦ (refused.0, refused.1, inl w.0)
        | inr w ↦ (refused.0, refused.1, inr w.0)
      ])

      module _ (formed : IsFormed p) where
        valid_here : (c : No) → IsValidNo (length p.bases) f.units (units_of r.list.items.items) c → IsNoOf p schemes i c
        valid_here c valid = λ g e.
            subst (λ x. IsValidNo (length p.bases) x.units (function_rows p.records schemes i x) c) (same_item f g (sym declared ∙ e))
            (subst (λ rows. IsValidNo (length p.bases) f.units rows c) (same_rows (length p.bases) p.records schemes i f r h) valid)

        count_here : length schemes ≡ i
        count_here = let l = refused_inside in (first_are_principal p formed i schemes (omega (arith, l)) before).count

        pub no_valid : (result : Result No CertStop) → IsNoMade (length p.bases) f.units r (judged (length p.bases) f.units 0 r) result → IfOk result (λ c. IsRefusal p schemes (infer p) (Some c))
        no_valid (Ok c) m = elim refused_function.is [
          | inl w ↦ let names = subst (λ j. NamesRefusal j c) (no_judged ∙ w.0) m.1 in subst (λ q. IsRefusal p schemes q (Some c)) (sym w.1) (count_here, valid_here c m.0, names.0, names.1)
          | inr w ↦ let names = subst (λ j. NamesRefusal j c) (no_judged ∙ w.0) m.1 in subst (λ q. IsRefusal p schemes q (Some c)) (sym w.1) (count_here, valid_here c m.0, names.0, names.1)
        ]
        no_valid (Err e) m = tt

        pub no_range : (result : Result No CertStop) → IsNoMade (length p.bases) f.units r (judged (length p.bases) f.units 0 r) result → IfErr result (CarriesInFunction p i)
        no_range (Ok c) m = tt
        no_range (Err (stop.CertRange z)) (inl m) = (i, schemes, f, omega arith, before, declared, inl (in_rows p.records schemes i f r (length p.bases) h f.units z m))
        no_range (Err (stop.CertRange z)) (inr m) = elim refused_function.is [
          | inl w ↦ (i, schemes, f, omega arith, before, declared, inr (inr (refused.0, refused.1, w.1, in_rows p.records schemes i f r (length p.bases) h 0 z m.1)))
          | inr w ↦ let e : not_general refused.0 refused.1 ≡ has_no_typing (m.0).0 (m.0).1 = sym w.0 ∙ sym no_judged ∙ (m.0).2 in absurd (cc e)
        ]
        no_range (Err stop.NoMemory) m = tt

-- ---- the program
pub within_limits : (p : ProgramTree) (schemes : List SchemeTree) (r : Inference) (c : Option No) → IsRefusal p schemes r c → IsWithinLimits r
within_limits p schemes (all_schemes all) o h = tt
within_limits p schemes (stops_at_slots i) None h = absurd h
within_limits p schemes (stops_at_slots i) (Some c) h = absurd h
within_limits p schemes (stops_at_range i at) None h = absurd h
within_limits p schemes (stops_at_range i at) (Some c) h = absurd h
within_limits p schemes (stops_at_units i row at) o h = tt
within_limits p schemes (stops_at_not_general i row at) o h = tt

pub some_stops : (p : ProgramTree) → IsWithinLimits (infer p) → (e : ProveStop) → CarriesInSome p e → IsProved p (Err e)
some_stops p within (prove.Slots i) h = absurd h
some_stops p within (prove.PowerRange i at) h = absurd h
some_stops p within (prove.CertRange i z) h = (within, h)
some_stops p within prove.NoMemory h = tt

pub function_stops : (p : ProgramTree) (i : ℕ) (e : CertStop) → CarriesInFunction p i e → CarriesInSome p (of_function i e)
function_stops p i (stop.CertRange z) h = h
function_stops p i stop.NoMemory h = tt

pub refused_within : (p : ProgramTree) (i : ℕ) → IsFirstRefused (infer p) i → IsWithinLimits (infer p)
refused_within p i refused = elim refused.2 [ inl e ↦ subst IsWithinLimits (sym e) tt | inr e ↦ subst IsWithinLimits (sym e) tt ]

-- how many schemes there are before the refusal
pub refusal_count : (p : ProgramTree) (schemes : List SchemeTree) (i : ℕ) (c : No) → IsFirstRefused (infer p) i → IsRefusal p schemes (infer p) (Some c) → length schemes ≡ i
refusal_count p schemes i c refused h = elim refused.2 [
  | inl e ↦ let q = subst (λ r. IsRefusal p schemes r (Some c)) e h in q.0
  | inr e ↦ let q = subst (λ r. IsRefusal p schemes r (Some c)) e h in q.0
]
