-- The types of agreements hold slots alone.
use Rattle.std.proofs.Common.{◌≡◌, ℕ, zero, suc, ◌<◌, Bool, true, false, cond, List, [], ◌∷◌, map, length, take, drop, get_or, refl, sym, ◌∙◌, subst, arith}
use Rattle.std.specs.Prelude.{All}
use Rattle.std.specs.List.{flat_map}
use Rattle.std.proofs.lemmas.List.Elements.{All-nil, All-cons, All-head, All-tail, All-append}
use Rattle.um_units.specs.PowerMap.{PowerMap, inv}
use Rattle.um_units.specs.Variables.{VariablesBelow}
use Rattle.um_units.proofs.Variables.{variables_below-from_VariablesBelow, VariablesBelow-mul, VariablesBelow-inv}
use Rattle.um_tree.specs.TypeTree.{TypeTree, bool_type, num_type, list_type, record_type}
use Rattle.um_tree.specs.Scheme.{unit_variables, type_variables}
use Rattle.um_tree.specs.Typing.{typings_below}
use Rattle.um_elim.proofs.GrowingOrder.{All-from_below}
use Rattle.um_slots.specs.Slots.{slot_count}
use Rattle.um_equal_types.specs.declared.row.Row.{Row}
use Rattle.um_rows.specs.NodeTypes.{TypedNode, function_nodes}
use Rattle.um_equal_types.specs.Steps.{rows_of, units_of}
use Rattle.um_rows.specs.Equations.{slot_equations}
use Rattle.um_rows.proofs.NodesBelow.{node_types_below}
use Rattle.um_rows.proofs.Solved.{all_fit, rows_hold_slots}
use Rattle.um_rows.proofs.Variables.{TypeBelow, TypesBelow}
use Rattle.um_agree.specs.declared.agreement.By.{By}
use Rattle.um_agree.specs.declared.agreement.By.TheVariants.{Times, Over}
use Rattle.um_agree.specs.declared.found.Asked.{Asked}
use Rattle.um_agree.specs.declared.rule.Rule.{Rule}
use Rattle.um_agree.specs.Agreements.{Agreement}
use Rattle.um_agree.specs.FunctionAgreements.{function_agreements}
use Rattle.um_agree.specs.Laws.{HoldsSlots, AgreementsHoldSlots}
use Rattle.um_agree.specs.Asked.{function_asked}
use Rattle.um_agree.specs.Made.{node_type, is_head, is_result, inner, known_type, unit_by, units_by, type_by, made_of, by_of, AreAgreed}
use Rattle.um_agree.proofs.RuleRows.{rows_asked}
use Rattle.um_agree.proofs.RowLaws.{default_at, many, is_made}
use Rattle.um_agree.proofs.FunctionAsked.{are_agreed}

module _ (n : ℕ) where
  -- ---- as a list
  unit_all : (u : PowerMap) → VariablesBelow n u → All (λ k. k < n) (unit_variables u)
  unit_all u low = All-from_below n u.terms (variables_below-from_VariablesBelow n u low)

  units_all : (us : List PowerMap) → All (VariablesBelow n) us → All (λ k. k < n) (flat_map unit_variables us)
  units_all [] low = All-nil (λ k. k < n)
  units_all (u ∷ us) low =
      All-append (λ k. k < n) (unit_variables u) (flat_map unit_variables us) (unit_all u (All-head (VariablesBelow n) u us low)) (units_all us (All-tail (VariablesBelow n) u us low))

  type_all : (t : TypeTree) → TypeBelow n t → All (λ k. k < n) (type_variables t)
  type_all bool_type low = All-nil (λ k. k < n)
  type_all (num_type u) low = unit_all u low
  type_all (list_type t) low = type_all t low
  type_all (record_type r us) low = units_all us low

  -- ---- types by rows
  unit_below : (b : By) (u r : PowerMap) → VariablesBelow n u → VariablesBelow n r → VariablesBelow n (unit_by b u r)
  unit_below Times u r h k = VariablesBelow-mul n u r h k
  unit_below Over u r h k = VariablesBelow-mul n u (inv r) h (VariablesBelow-inv n r k)

  units_below : (b : By) (us rows : List PowerMap) → All (VariablesBelow n) us → All (VariablesBelow n) rows → All (VariablesBelow n) (units_by b us rows)
  units_below b [] rows h k = All-nil (VariablesBelow n)
  units_below b (u ∷ us) [] h k = All-nil (VariablesBelow n)
  units_below b (u ∷ us) (r ∷ rows) h k =
      All-cons (VariablesBelow n) (unit_by b u r) (units_by b us rows)
      (unit_below b u r (All-head (VariablesBelow n) u us h) (All-head (VariablesBelow n) r rows k))
      (units_below b us rows (All-tail (VariablesBelow n) u us h) (All-tail (VariablesBelow n) r rows k))

  type_below : (b : By) (t : TypeTree) (rows : List PowerMap) → TypeBelow n t → All (VariablesBelow n) rows → TypeBelow n (type_by b t rows)
  type_below b bool_type rows h k = tt
  type_below b (num_type u) [] h k = h
  type_below b (num_type u) (r ∷ rows) h k = unit_below b u r h (All-head (VariablesBelow n) r rows k)
  type_below b (list_type t) rows h k = type_below b t rows h k
  type_below b (record_type q us) rows h k = units_below b us rows h k

  -- ---- the type at a node
  node_below : (nodes : List TypedNode) (k : ℕ) → TypesBelow n (map (λ (x : TypedNode). x.type) nodes) → TypeBelow n (node_type nodes k)
  node_below [] zero h = tt
  node_below [] (suc k) h = tt
  node_below (x ∷ nodes) zero h = h.0
  node_below (x ∷ nodes) (suc k) h = node_below nodes k h.1

  inner_below : (t : TypeTree) → TypeBelow n t → TypeBelow n (inner t)
  inner_below bool_type h = h
  inner_below (num_type u) h = h
  inner_below (list_type t) h = h
  inner_below (record_type r us) h = h

  known_below : (r : Rule) (t : TypeTree) → TypeBelow n t → TypeBelow n (known_type r t)
  known_below r t h = by (is_head r) where
    by : (b : Bool) → TypeBelow n (cond b (inner t) t)
    by true = inner_below t h
    by false = h

  made_below : (r : Rule) (at : ℕ) (t : TypeTree) (rows : List PowerMap) → TypeBelow n t → All (VariablesBelow n) rows → HoldsSlots n (made_of r at t rows)
  made_below r at t rows h k = by (is_result r) where
    other : TypeTree
    other = type_by (by_of r) t rows

    by : (b : Bool) → All (λ j. j < n) (type_variables (cond b t other)) × All (λ j. j < n) (type_variables (cond b other t))
    by true = (type_all t h, type_all other (type_below (by_of r) t rows h k))
    by false = (type_all other (type_below (by_of r) t rows h k), type_all t h)

  -- ---- the agreements
  pub all_hold : (ones : List Agreement) (nodes : List TypedNode) (rows : List Row) (xs : List Asked) → AreAgreed ones nodes rows xs → TypesBelow n (map (λ (x : TypedNode). x.type) nodes) → All (VariablesBelow n) (units_of rows) → All (HoldsSlots n) ones
  all_hold ones nodes rows xs g low below m d l =
      let x = get_or xs m (record { rule = d.rule; at = d.at; node = 0 }) in
      let within : m < length xs = (let e = many ones nodes rows xs g in omega (arith, e, l)) in
      let is : x ≡ get_or xs m x = default_at xs m (record { rule = d.rule; at = d.at; node = 0 }) x within in
      let start = length (rows_asked (take m ones)) in
      subst (HoldsSlots n) (sym (default_at ones m d (record { rule = x.rule; at = x.at; first = bool_type; second = bool_type }) l ∙ is_made ones nodes rows xs g m start x within is refl))
      (made_below x.rule x.at (known_type x.rule (node_type nodes x.node)) (units_of (drop start rows)) (known_below x.rule (node_type nodes x.node) (node_below nodes x.node low))
      (dropped start rows below))
    where
      dropped : (start : ℕ) (rs : List Row) → All (VariablesBelow n) (units_of rs) → All (VariablesBelow n) (units_of (drop start rs))
      dropped zero rs h = h
      dropped (suc start) [] h = h
      dropped (suc start) (r ∷ rs) h = dropped start rs (All-tail (VariablesBelow n) r.unit (units_of rs) h)

pub agreements_hold_slots : AgreementsHoldSlots
agreements_hold_slots p schemes i f have right =
    let steps = (slot_equations p.records schemes i f).steps in
    all_hold (slot_count p.records schemes i f) (function_agreements p.records schemes i f) (function_nodes p.records schemes i f) (rows_of steps) (function_asked f)
    (are_agreed p.records schemes i f right (rows_of steps) refl (function_nodes p.records schemes i f) refl (function_asked f) refl)
    (node_types_below (typings_below p i) schemes i (all_fit p schemes i have) p.records f)
    (rows_hold_slots p schemes i f have)
