-- The loose typings of a function are exactly what the joint solutions of its rows give, and the rigid ones what the rigid
-- joint solutions give.
-- Source: Kennedy (1996), the soundness and completeness of the inference of units.
use Rattle.std.proofs.Common.{◌≡◌, ◌↔◌, ℕ, ◌<◌, ◌≤◌, List, length, sym, ap, ◌∙◌, subst, arith}
use Rattle.um_units.specs.PowerMap.{PowerMap, nth}
use Rattle.um_tree.specs.ProgramTree.{RecordTree, FunctionTree, ProgramTree, Signature, SchemeTree}
use Rattle.um_units.proofs.Replacement.{replace-variable}
use Rattle.um_tree.specs.Typing.{put_signature, Earlier, IsLooseTypingOf, IsRigidTypingOf, typings_below}
use Rattle.um_tree.proofs.Below.{earlier_typings}
use Rattle.um_tree.specs.Laws.{LiteralsAreClosed}
use Rattle.um_rows.specs.Derivation.{first_units}
use Rattle.um_slots.specs.Keys.{hole, name, text_keys, function_keys}
use Rattle.um_slots.specs.Slots.{slot, slot_unit, function_slots, slot_count}
use Rattle.um_rows.specs.Equations.{slot_equations}
use Rattle.um_rows.specs.Solutions.{slot_signature, IsSolution, IsSolved, IsRigid, IsRigidlySolved, HaveSchemes}
use Rattle.um_rows.specs.Laws.{LooseTypingsAreSolutions, RigidTypingsAreSolutions, RowsHoldSlots, TypesHoldSlots}
use Rattle.um_equal_types.proofs.HeldSteps.{Holds-solves, Solves-holds}
use Rattle.um_rows.proofs.Variables.{SignatureBelow, StepsBelow, signature_put_alike_below, Holds_alike_below}
use Rattle.um_rows.proofs.VariableLists.{signature_below_from, signature_all, rows_all}
use Rattle.um_rows.proofs.Below.{equations_below}
use Rattle.um_rows.proofs.SlotLaws.{slot_values, hole_value, name_value, keys_below, length-first, nth-first}
use Rattle.um_slots.proofs.ParameterSlots.{parameter_slot, parameters_have_slots}
use Rattle.um_rows.proofs.FunctionLaws.{AllFit, callee_below, function_sound, function_used, function_complete}

module _ (earlier : Earlier) (schemes : List SchemeTree) (i : ℕ) (fit : AllFit earlier schemes i) (records : List RecordTree) (f : FunctionTree) where
  -- the equations hold slots alone
  pub slots_below : SignatureBelow (slot_count records schemes i f) (slot_signature records schemes i f) × StepsBelow (slot_count records schemes i f) (slot_equations records schemes i f).steps
  slots_below =
      let order = function_slots records schemes i f in
      equations_below (slot_count records schemes i f) (λ k. slot_unit order (hole k)) (λ k. slot_unit order (name k)) records schemes i f (callee_below earlier schemes i fit f) (keys_below (function_keys records schemes i f))

  -- the slot of unit parameter k is k
  abbrev named_slot : ℕ → ℕ
  named_slot k = slot (function_slots records schemes i f) (name k)

  is_slot : (k : ℕ) → k < f.units → named_slot k ≡ k
  is_slot = parameter_slot f.units (text_keys records schemes i f)

  pub parameters_in_slots : f.units ≤ slot_count records schemes i f
  parameters_in_slots = parameters_have_slots f.units (text_keys records schemes i f)

  -- ---- where each literal's unit is closed
  module _ (closed : LiteralsAreClosed f.body) where
    -- a joint solution gives a typing, whose choice has the unit of slot k for unit parameter k
    solution_typed : (units : List PowerMap) → IsSolution records schemes i f units →
        (h : IsLooseTypingOf records earlier i f (put_signature (nth units) (slot_signature records schemes i f))) × ((k : ℕ) → k < f.units → h.choice k ≡ nth units k)
    solution_typed units h =
        let order = function_slots records schemes i f in
        let typed = function_sound earlier schemes i fit f closed records (λ k. slot_unit order (hole k)) (λ k. slot_unit order (name k)) (nth units) (Holds-solves (nth units) (slot_equations records schemes i f).steps h.solves) in
        (typed.0, λ k low. typed.1 k ∙ replace-variable (nth units) (named_slot k) ∙ ap (nth units) (is_slot k low))

    -- a typing comes from a joint solution that has its choice for unit parameter k in slot k
    typed_solved : (g : Signature) (h : IsLooseTypingOf records earlier i f g) → (w : IsSolved records schemes i f g) × ((k : ℕ) → k < f.units → nth w.0 k ≡ h.choice k)
    typed_solved g h =
        let order = function_slots records schemes i f in
        let n = slot_count records schemes i f in
        let used = function_used earlier schemes i fit f closed records g h in
        let v = slot_values order used h.choice in
        let w = function_complete earlier schemes i fit f closed records (λ k. slot_unit order (hole k)) (λ k. slot_unit order (name k)) g h v (hole_value order used h.choice) (name_value order used h.choice) in
        let units = first_units n v in
        let alike = λ (k : ℕ) (l : k < n). sym (nth-first n v k l) in
        let steps = (slot_equations records schemes i f).steps in (
          (
            units,
            record { per_slot = length-first n v; solves = Solves-holds (nth units) steps (Holds_alike_below n v (nth units) alike steps slots_below.1 w.0) },
            w.1 ∙ signature_put_alike_below n v (nth units) alike (slot_signature records schemes i f) slots_below.0,
          ),
          λ k low.
              (let few = parameters_in_slots in let inside : k < n = omega (arith, low, few) in nth-first n v k inside)
              ∙ ap v (sym (is_slot k low)) ∙ sym (replace-variable v (named_slot k)) ∙ name_value order used h.choice k,
        )

    pub typings_are_solved : (g : Signature) → IsLooseTypingOf records earlier i f g ↔ IsSolved records schemes i f g
    typings_are_solved g = ((λ h. (typed_solved g h).0), (λ h. subst (IsLooseTypingOf records earlier i f) (sym h.2) (solution_typed h.0 h.1).0))

    -- ---- each unit parameter is a unit of its own
    module _ (bases : ℕ) where
      rigid_typed : (units : List PowerMap) → IsSolution records schemes i f units → IsRigid bases f.units units → IsRigidTypingOf bases records earlier i f (put_signature (nth units) (slot_signature records schemes i f))
      rigid_typed units h fixed = let typed = solution_typed units h in record { loose = typed.0; rigid = λ k low. typed.1 k low ∙ fixed k low }

      typed_rigidly : (g : Signature) → IsRigidTypingOf bases records earlier i f g → IsRigidlySolved bases records schemes i f g
      typed_rigidly g h = let w = typed_solved g h.loose in (w.0.0, w.0.1, (λ k low. w.1 k low ∙ h.rigid k low), w.0.2)

      pub rigid_typings_are_solved : (g : Signature) → IsRigidTypingOf bases records earlier i f g ↔ IsRigidlySolved bases records schemes i f g
      rigid_typings_are_solved g = ((λ h. typed_rigidly g h), (λ h. subst (IsRigidTypingOf bases records earlier i f) (sym h.3) (rigid_typed h.0 h.1 h.2)))

-- ---- in a program
pub all_fit : (p : ProgramTree) (schemes : List SchemeTree) (i : ℕ) → HaveSchemes p schemes i → AllFit (typings_below p i) schemes i
all_fit p schemes i have j l =
    let h = have j l in
    record {
      scheme = h.scheme;
      stands = h.stands;
      below = signature_below_from h.scheme.vars h.scheme.signature h.principal.below;
      instances = λ g k. (h.principal.instances g).0 ((earlier_typings p i j g l).0 k);
      typings = λ g k. (earlier_typings p i j g l).1 ((h.principal.instances g).1 k);
    }

pub loose_typings_are_solutions : LooseTypingsAreSolutions
loose_typings_are_solutions p schemes i f closed have g = typings_are_solved (typings_below p i) schemes i (all_fit p schemes i have) p.records f closed g

pub rigid_typings_are_solutions : RigidTypingsAreSolutions
rigid_typings_are_solutions p schemes i f closed have g = rigid_typings_are_solved (typings_below p i) schemes i (all_fit p schemes i have) p.records f closed (length p.bases) g

pub rows_hold_slots : RowsHoldSlots
rows_hold_slots p schemes i f have =
    rows_all (slot_count p.records schemes i f) (slot_equations p.records schemes i f).steps (slots_below (typings_below p i) schemes i (all_fit p schemes i have) p.records f).1

pub types_hold_slots : TypesHoldSlots
types_hold_slots p schemes i f have = signature_all (slot_count p.records schemes i f) (slot_signature p.records schemes i f) (slots_below (typings_below p i) schemes i (all_fit p schemes i have) p.records f).0
