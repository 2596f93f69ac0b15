-- What an answer says of the signature's instances.
-- Source: Kennedy (1996): matching is sound and complete.
use Rattle.std.proofs.Common.{◌≡◌, ℕ, suc, ◌+◌, ◌<◌, add-one, List, [], map, take, refl, sym, ap, ◌∙◌, subst, arith}
use Rattle.std.specs.Prelude.{All, Result, Ok, Err}
use Rattle.std.proofs.lemmas.List.{take-map}
use Rattle.um_units.specs.PowerMap.{PowerMap, nth}
use Rattle.um_units.specs.Solutions.{IsSolvable}
use Rattle.um_units.proofs.Solutions.{IsSubstitutionInstance_refl}
use Rattle.um_tree.specs.TypeTree.{TypeTree}
use Rattle.um_tree.specs.ProgramTree.{SchemeTree}
use Rattle.um_tree.specs.Typing.{put, moved, parameter_unit}
use Rattle.um_tree.specs.Scheme.{variables}
use Rattle.um_elim.specs.Numbering.{IsInstanceOf}
use Rattle.um_sig.specs.declared.stop.SigStop.{SigStop}
use Rattle.um_sig.specs.declared.stop.SigStop.TheVariants as stop
use Rattle.um_sig.specs.Form.{AreAlike, IsFirstDifference}
use Rattle.um_sig.specs.Matching.{fixed_type, matching_rows, Matching, matched, unmatched, match_types}
use Rattle.um_sig.specs.Instances.{scheme_types, HasAllInstances, AreOverBases, AreMatched, IsFirstUnmatched}
use Rattle.um_sig.specs.Answers.{IsMatching, IsConformed}
use Rattle.um_sig.specs.Laws.{AnswersSayWhatInstancesAre}
use Rattle.um_sig.proofs.FormLaws.{alike_everywhere}
use Rattle.um_sig.proofs.MatchedTypes.{alike_from_same, same_from_rows, rows_below, matched_from_solvable, solvable_from_matched}
use Rattle.um_sig.proofs.SolvedRows.{IsRightFrom, match_types_right}
use Rattle.um_sig.proofs.FixedSignatures.{unfixed, unfixed-parameter, types_unfixed}

module _ (bases : ℕ) (own types : List TypeTree) where
  -- the signature with its variables as units of their own is an instance of it
  pub fixed_instance : IsInstanceOf types (map (fixed_type bases) types)
  fixed_instance = (parameter_unit bases, refl)

  -- where the scheme has this one, it has all
  pub all_from_fixed : AreOverBases bases own → AreOverBases bases types → IsInstanceOf own (map (fixed_type bases) types) → HasAllInstances own types
  all_from_fixed low_own low has ts is =
      let change = unfixed bases is.0 in (
        λ k. change (has.0 k),
        is.1
            ∙ sym (types_unfixed bases is.0 (parameter_unit bases) is.0 (unfixed-parameter bases is.0) types low)
            ∙ ap (map (moved change)) has.1
            ∙ types_unfixed bases is.0 has.0 (λ k. change (has.0 k)) (λ k. refl) own low_own,
      )

  -- so its first types are matched too
  pub matched_up_to : (n : ℕ) → IsInstanceOf own (map (fixed_type bases) types) → AreMatched bases n own types
  matched_up_to n has = (has.0, sym (take-map (fixed_type bases) n types) ∙ ap (take n) has.1 ∙ take-map (put has.0) n own)

  -- and the forms are the same
  pub alike_from_fixed : IsInstanceOf own (map (fixed_type bases) types) → AreAlike own types
  alike_from_fixed has = alike_from_same has.0 (parameter_unit bases) own types (sym has.1)

  pub no_difference : (i : ℕ) → IsFirstDifference own types i → IsInstanceOf own (map (fixed_type bases) types) → ⊥
  no_difference i d has = d.here (alike_everywhere own types (alike_from_fixed has) i)

  module _ (vars : ℕ) (over : All (λ k. k < vars) (variables own)) (alike : AreAlike own types) where
    right : (m : Matching) → match_types bases vars own types ≡ m → IsRightFrom bases vars 0 [] own types m
    right m e = subst (IsRightFrom bases vars 0 [] own types) e (match_types_right bases vars own types (rows_below bases vars own types over))

    -- rows that are solved have the fixed signature as an instance
    pub fixed_from_matched : (us : List PowerMap) → match_types bases vars own types ≡ matched us → IsInstanceOf own (map (fixed_type bases) types)
    fixed_from_matched us e =
        let exact = right (matched us) e in
        let joint = (exact us).0 (IsSubstitutionInstance_refl us) in
        (nth us, sym (same_from_rows bases (nth us) own types alike joint.solves))

    pub first_unmatched : (i : ℕ) → match_types bases vars own types ≡ unmatched i → IsFirstUnmatched bases own types i
    first_unmatched i e =
        let w = right (unmatched i) e in
        let counted : i ≡ 0 + w.0 = w.1 in
        let number : i ≡ w.0 = omega (arith, counted) in
        record {
          before = subst (λ n. AreMatched bases n own types) (sym number) (matched_from_solvable bases vars w.0 own types alike w.2);
          through = λ h.
              w.3 (subst (λ n. IsSolvable vars (matching_rows bases (take n own) (take n types))) (add-one i ∙ ap suc number)
              (solvable_from_matched bases vars (i + 1) own types over h));
        }

-- types of the same forms are answered as their matching ends
pub conformed_from_matching : (bases : ℕ) (s : SchemeTree) (types : List TypeTree) (r : Result (Unit {0}) SigStop) → AreAlike (scheme_types s) types →
    IsMatching (match_types bases s.vars (scheme_types s) types) r → IsConformed bases s types r
conformed_from_matching bases s types (Ok x) alike is = (alike, is)
conformed_from_matching bases s types (Err (stop.Form i)) alike is = absurd is
conformed_from_matching bases s types (Err (stop.Units i)) alike is = (alike, is)
conformed_from_matching bases s types (Err (stop.Range i)) alike is = (alike, is)
conformed_from_matching bases s types (Err stop.NoMemory) alike is = tt

pub answers_say_what_instances_are : AnswersSayWhatInstancesAre
answers_say_what_instances_are bases s types (Ok x) over low_own low is =
    all_from_fixed bases (scheme_types s) types low_own low (fixed_from_matched bases (scheme_types s) types s.vars over is.0 is.1.0 is.1.1)
answers_say_what_instances_are bases s types (Err (stop.Form i)) over low_own low is =
    λ all. no_difference bases (scheme_types s) types i is (all (map (fixed_type bases) types) (fixed_instance bases (scheme_types s) types))
answers_say_what_instances_are bases s types (Err (stop.Units i)) over low_own low is =
    let own = scheme_types s in
    let first = first_unmatched bases own types s.vars over is.0 i is.1 in
    (λ all. first.through (matched_up_to bases own types (i + 1) (all (map (fixed_type bases) types) (fixed_instance bases own types))), first)
answers_say_what_instances_are bases s types (Err (stop.Range i)) over low_own low is = tt
answers_say_what_instances_are bases s types (Err stop.NoMemory) over low_own low is = tt
