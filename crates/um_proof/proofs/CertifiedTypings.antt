-- From valid certificates to typings.
use Rattle.std.proofs.Common.{ℕ, suc, Bool, true, false, List, length, take, drop, sym, subst, arith}
use Rattle.std.proofs.lemmas.List.{take-append-drop}
use Rattle.um_units.specs.PowerMap.{PowerMap, nth}
use Rattle.um_units.specs.Solutions.{IsJointSolution, Solves}
use Rattle.um_units.proofs.Solutions.{Solves-front}
use Rattle.um_tree.specs.Typing.{IsTypingOf, TypingAt, typings_below}
use Rattle.um_tree.proofs.TypingLaws.{typings_without_parameters}
use Rattle.um_rows.specs.Solutions.{function_rows, slot_signature, IsRigid}
use Rattle.um_rows.proofs.Solved.{loose_typings_are_solutions, rigid_typings_are_solutions, rows_hold_slots, types_hold_slots}
use Rattle.um_slots.specs.Slots.{slot_count}
use Rattle.um_check.specs.Refutation.{fixed_slots}
use Rattle.um_check.proofs.Refutations.{valid_no_refutes}
use Rattle.um_check.proofs.Returns.{valid_yes_is_exact}
use Rattle.um_proof.specs.Laws.{CertifiedSchemesArePrincipal, RefutedFunctionsHaveNoTyping}

pub certified_schemes_are_principal : CertifiedSchemesArePrincipal
certified_schemes_are_principal p schemes i f declared none closed have s c valid =
    let exact =
    valid_yes_is_exact (length p.bases) f.units (slot_count p.records schemes i f) (function_rows p.records schemes i f) (slot_signature p.records schemes i f) s c (rows_hold_slots p schemes i f have) (types_hold_slots p schemes i f have) valid in
    record {
      below = valid.own;
      instances = λ g. (
        (λ typed. (exact g).1 ((loose_typings_are_solutions p schemes i f closed have g).0 ((typings_without_parameters p i f g declared none closed).0 typed))),
        (λ instance. (typings_without_parameters p i f g declared none closed).1 ((loose_typings_are_solutions p schemes i f closed have g).1 ((exact g).0 instance))),
      );
    }

-- the first rows of a solution's are solved
solves_first : (units rows : List PowerMap) (k slots : ℕ) → IsJointSolution slots rows units → IsJointSolution slots (take k rows) units
solves_first units rows k slots joint = record {
  per_slot = joint.per_slot;
  solves = Solves-front (nth units) (take k rows) (drop k rows) (subst (Solves (nth units)) (sym (take-append-drop k rows)) joint.solves);
}

-- a loose refusal asks for no unit of its own
rigid_for : (bases n : ℕ) (units : List PowerMap) (loose : Bool) → IsRigid bases n units → IsRigid bases (fixed_slots loose n) units
rigid_for bases n units true rigid k low = absurd (omega (arith, low))
rigid_for bases n units false rigid k low = rigid k low

pub refuted_functions_have_no_typing : RefutedFunctionsHaveNoTyping
refuted_functions_have_no_typing p schemes i f declared closed have c valid g typed =
    let m : IsTypingOf (length p.bases) p.records (typings_below p i) i f g = subst (λ o. TypingAt (length p.bases) p.records (typings_below p i) i o g) declared typed in
    let w = (rigid_typings_are_solutions p schemes i f closed have m.signature).0 m.typing in
    let rows = function_rows p.records schemes i f in
    let n = slot_count p.records schemes i f in
    valid_no_refutes (length p.bases) f.units rows c (valid f declared) n w.0 (solves_first w.0 rows (suc c.last) n w.1) (rigid_for (length p.bases) f.units w.0 c.loose w.2)
