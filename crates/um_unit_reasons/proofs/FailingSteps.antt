-- From the core of a function's rows to what is told of it.
use Rattle.std.proofs.Common.{◌≡◌, inl, ℕ, suc, ◌-◌, ◌<◌, ◌≤◌, Bool, nat_lt, ◌&&◌, List, [], ◌∷◌, map, length, slice_get, Option, Some, sym, ap, ◌∙◌, subst, arith}
use Rattle.std.specs.Prelude.{All, IsTrue, Contains}
use Rattle.std.specs.List.{list_all}
use Rattle.std.proofs.lemmas.Bool.Decides.{nat_tests}
use Rattle.std.proofs.lemmas.List.{append-nil, length-map, length-take-le, get_or_past}
use Rattle.std.proofs.lemmas.List.Elements.{All-nil, All-append, All-map, All-take, All-get_or, Contains-append_left, Contains-push}
use Rattle.um_units.specs.PowerMap.{PowerMap}
use Rattle.um_units.specs.Variables.{VariablesBelow}
use Rattle.um_tree.specs.TypeTree.{TypeTree, bool_type}
use Rattle.um_tree.specs.Scheme.{type_variables, variables}
use Rattle.um_tree.specs.ProgramTree.{program_tree}
use Rattle.um_elim.specs.Solution.{parameter_rows}
use Rattle.um_elim.proofs.Cases.{on_test}
use Rattle.um_equal_types.specs.declared.row.Row.{Row}
use Rattle.um_equal_types.specs.Steps.{units_of}
use Rattle.um_rows.specs.FirstUnsolvable.{rows_up_to}
use Rattle.um_reasons.specs.Core.{IsCore}
use Rattle.um_agree.specs.declared.rule.Rule.TheVariants as asks
use Rattle.um_agree.specs.declared.agreements.Told.{Told as Agreed}
use Rattle.um_agree.specs.Agreements.{Agreement}
use Rattle.um_agree.specs.Laws.{HoldsSlots}
use Rattle.um_agree.specs.RowAgreements.{agreement_of}
use Rattle.um_agree.specs.Answers.{agreement_tree, agreement_fits}
use Rattle.um_reasons.proofs.ReasonLaws.{told_types_hold_slots}
use Rattle.um_reasons.specs.Reasons.{Reason, disagree, reason}
use Rattle.um_unit_reasons.specs.declared.failing.Failing.{Failing}
use Rattle.um_unit_reasons.specs.declared.others.CoreAgreements.{CoreAgreements}
use Rattle.um_unit_reasons.specs.declared.reason.Told.{Told}
use Rattle.um_unit_reasons.specs.UnitReasons.{Refusal, UnitReason, told_of, nth_agreement, others_before, types_of, last_row, last, others, own_types, told_types, by_reason, core_reason, fit, IsOfCore}
use Rattle.um_unit_reasons.specs.Answers.{told_trees, refusal_of, IsSound, HaveSlots, AreAllOf}

-- ---- agreements hold slots alone
nth_held : (n : ℕ) (agreed : List Agreement) (k : ℕ) → All (HoldsSlots n) agreed → HoldsSlots n (nth_agreement agreed k)
nth_held n agreed k held =
    let none : Agreement = record { rule = asks.Sum; at = 0; first = bool_type; second = bool_type } in
    on_test (nat_lt k (length agreed))
    (λ t. let inside : k < length agreed = grind (arith, nat_tests) in All-get_or (HoldsSlots n) agreed k none inside held)
    (λ t.
    let past : length agreed ≤ k = grind (arith, nat_tests) in
    subst (HoldsSlots n) (sym (get_or_past agreed k none past)) (All-nil (λ j. j < n), All-nil (λ j. j < n)))

types_held : (n : ℕ) (agreed : List Agreement) → All (HoldsSlots n) agreed → (numbers : List ℕ) → All (λ k. k < n) (variables (types_of (map (nth_agreement agreed) numbers)))
types_held n agreed held [] = All-nil (λ k. k < n)
types_held n agreed held (m ∷ numbers) =
    let a = nth_held n agreed m held in
    let one : Agreement = nth_agreement agreed m in
    let rest : List TypeTree = types_of (map (nth_agreement agreed) numbers) in
    All-append (λ k. k < n) (type_variables one.first) (variables (one.second ∷ rest)) a.0 (All-append (λ k. k < n) (type_variables one.second) (variables rest) a.1 (types_held n agreed held numbers))

-- the agreement of a list of one
pub some_one : (xs : List Agreed) (a : Agreement) → told_trees xs ≡ a ∷ [] → 0 < length xs
some_one [] a e = absurd (cc e)
some_one (t ∷ xs) a e = omega arith

pub one_alone : (xs : List Agreed) (a : Agreement) → told_trees xs ≡ a ∷ [] → (y : Agreed) → slice_get xs 0 ≡ Some y → agreement_tree y.agreement ∷ [] ≡ told_trees xs
one_alone [] a e y is = absurd (cc e)
one_alone (t ∷ []) a e y is = let same : t ≡ y = cc is in ap (λ (z : Agreed). agreement_tree z.agreement ∷ []) (sym same)
one_alone (t ∷ u ∷ xs) a e y is = absurd (cc e)

module _ (x : Failing) (agreed : List Agreement) (sound : IsSound x agreed) where
  abbrev pub R : Refusal
  R = refusal_of x agreed

  abbrev pub list : List Row
  list = x.found.now.rows.list.items.items

  abbrev pub rows : List Row
  rows = rows_up_to x.row list

  pub count : length rows ≡ suc x.row
  count = length-take-le (suc x.row) list (let within = sound.within in omega (arith, within))

  pub some : 0 < length (units_of rows)
  some = let all = length-map rows (λ (r : Row). r.unit) in omega (arith, all, count)

  last_is : last_row R ≡ x.row
  last_is = omega (arith, count)

  pub rows_low : All (λ (row : Row). VariablesBelow x.found.now.rows.slots row.unit) rows
  rows_low = All-take (λ (row : Row). VariablesBelow x.found.now.rows.slots row.unit) (suc x.row) list sound.rows

  pub units_low : All (VariablesBelow x.found.now.rows.slots) (units_of rows)
  units_low = All-map (VariablesBelow x.found.now.rows.slots) (λ (row : Row). row.unit) rows rows_low

  abbrev pub given : List PowerMap
  given = parameter_rows (length (program_tree x.program.now).bases) x.parameters

  -- a core begins with the last row
  pub holds_last : (core : List ℕ) (cut_off : Bool) → IsCore x.found.now.rows.slots given (units_of rows) core cut_off → Contains core x.row
  holds_last core cut_off is =
      let all = length-map rows (λ (r : Row). r.unit) in
      let same : length (units_of rows) - 1 ≡ x.row = omega (arith, all, count) in
      subst (λ l. Contains l x.row) (sym (is.begun.begins ∙ ap (λ k. k ∷ is.begun.further) same)) (Contains-append_left (x.row ∷ []) is.begun.further x.row (Contains-push [] x.row))

  -- ---- the agreements of a core
  module _ (core : List ℕ) (c : CoreAgreements) (are : AreAllOf agreed core x.row c) where
    pub failed_are : told_trees c.last.items ≡ last R ∷ []
    failed_are = are.last_is ∙ ap (λ k. nth_agreement agreed (agreement_of agreed k) ∷ []) (sym last_is)

    pub others_are : told_trees c.others.items ≡ others R core
    others_are = are.others_are ∙ ap (λ k. map (nth_agreement agreed) (others_before agreed core (agreement_of agreed k) k)) (sym last_is)

    pub fits : IsTrue (fit R core)
    fits =
        (λ k. agreement_fits (nth_agreement agreed (agreement_of agreed (last_is k))) && list_all agreement_fits (sym others_are k))
        ∙ (λ k. are.last_fits k && are.others_fit k)

    pub told_are : (first second : TypeTree) (factor : Option PowerMap) (cut_off : Bool) (told : List Told) → told ≡ told_types R (own_types R first second) (told_trees c.last.items) (told_trees c.others.items) → told_of told factor cut_off ≡ by_reason R core cut_off (disagree first second factor)
    told_are first second factor cut_off told is =
        ap (λ l. told_of l factor cut_off) is ∙ (λ k. told_of (told_types R (own_types R first second) (failed_are k) (others_are k)) factor cut_off)

    -- one agreement alone is the last row's
    pub reason_are : (cut_off : Bool) (told : UnitReason) (a : Agreement) (r : Reason) → a ∷ [] ≡ told_trees c.last.items → r ≡ reason (length R.program.bases) x.parameters x.found.now.rows.slots (units_of rows) core a.first a.second →
        told ≡ by_reason R core cut_off r → told ≡ core_reason R core cut_off
    reason_are cut_off told a r one is by =
        let same : a ≡ last R = (let both : a ∷ [] ≡ last R ∷ [] = one ∙ failed_are in cc both) in
        by ∙ ap (by_reason R core cut_off) (is ∙ ap (λ (y : Agreement). reason (length R.program.bases) x.parameters x.found.now.rows.slots (units_of rows) core y.first y.second) same)

    pub others_held : HaveSlots x (types_of (told_trees c.others.items))
    others_held = subst (λ ts. HaveSlots x (types_of ts)) (sym are.others_are) (types_held x.found.now.rows.slots agreed sound.held (others_before agreed core (agreement_of agreed x.row) x.row))

    -- the two types that are told hold slots alone
    pub own_held : (a : Agreement) (r : Reason) → a ∷ [] ≡ told_trees c.last.items → r ≡ reason (length R.program.bases) x.parameters x.found.now.rows.slots (units_of rows) core a.first a.second →
        (first second : TypeTree) (factor : Option PowerMap) → r ≡ disagree first second factor → HaveSlots x (first ∷ second ∷ [])
    own_held a r one is first second factor e =
        let same : a ≡ nth_agreement agreed (agreement_of agreed x.row) = (let both : a ∷ [] ≡ nth_agreement agreed (agreement_of agreed x.row) ∷ [] = one ∙ are.last_is in cc both) in
        let held = subst (HoldsSlots x.found.now.rows.slots) (sym same) (nth_held x.found.now.rows.slots agreed (agreement_of agreed x.row) sound.held) in
        let low = told_types_hold_slots x.found.now.rows.slots (length R.program.bases) x.parameters (units_of rows) core a (record { few = sound.low.parameters; rows_below = units_low; first_below = held.0; second_below = held.1 }) first second factor (sym is ∙ e) in
        All-append (λ k. k < x.found.now.rows.slots) (type_variables first) (variables (second ∷ [])) low.0
        (subst (All (λ k. k < x.found.now.rows.slots)) (sym (append-nil (type_variables second))) low.1)

    pub of_core : (cut_off : Bool) (r : UnitReason) → r ≡ core_reason R core cut_off → IsOfCore R core cut_off r
    of_core cut_off r is = inl (fits, is)
