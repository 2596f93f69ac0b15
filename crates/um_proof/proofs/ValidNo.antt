-- A row that is refused, with its powers of rows, is a valid No, and the row is the first unsolvable one.
use Rattle.std.proofs.Common.{◌≡◌, inl, inr, ℕ, suc, ◌<◌, ◌≤◌, List, length, pos, Result, Ok, Err, sym, ap, ◌∙◌, subst, arith}
use Rattle.std.specs.Prelude.{Bool, true, false, All, IfOk, IfErr}
use Rattle.std.specs.Int.Signed.{◌≤ℤ◌}
use Rattle.std.proofs.lemmas.List.{length-map}
use Rattle.std.proofs.lemmas.List.Elements.{All-from_get_or}
use Rattle.um_units.specs.PowerMap.{PowerMap, one, replace, nth}
use Rattle.um_units.specs.Variables.{VariablesBelow}
use Rattle.um_elim.specs.Solution.{own_variables, rigid_unit, rigid_units}
use Rattle.um_elim.proofs.Slots.{rigid-own}
use Rattle.um_equal_types.specs.declared.row.Row.{Row}
use Rattle.um_equal_types.specs.declared.row.Rows.{Rows}
use Rattle.um_rows.specs.Answers.{rows_signature}
use Rattle.um_equal_types.specs.Steps.{units_of}
use Rattle.um_rows.specs.FirstUnsolvable.{solved, unsolved, out_of_range, solve, rows_up_to}
use Rattle.um_rows.specs.Judgement.{Judgement, has_no_typing, not_general}
use Rattle.um_check.specs.declared.certificate.No.{No}
use Rattle.um_check.specs.Combination.{combined, NamesRowsBelow}
use Rattle.um_check.specs.Refutation.{IsApart, fixed_slots, rigid_rows, IsValidNo}
use Rattle.um_check.proofs.Combinations.{more_rows}
use Rattle.um_check.proofs.RigidRows.{combined-rigid}
use Rattle.um_check.specs.Existence.{exponents}
use Rattle.um_check.proofs.Exponents.{replace-exponents}
use Rattle.um_kept.specs.declared.kept.Head.{Head}
use Rattle.um_kept.specs.declared.row.Refused.{Refused}
use Rattle.um_kept.specs.declared.stop.CertStop.{CertStop}
use Rattle.um_kept.specs.declared.stop.CertStop.TheVariants as stop
use Rattle.um_kept.specs.Answers.{HoldsNoParameter}
use Rattle.um_proof.specs.Answers.{AreFunctionRows, judged, NamesRefusal, IsRefused, IsNoMade}
use Rattle.um_kept.specs.Answers.{AreRefused, CarriesInRows}
use Rattle.um_kept.specs.Kept.{Kept, IsReached, first}
use Rattle.um_proof.proofs.Judged.{IsRefusedBySteps, judged_refused, own_unsolved, front_unsolved, front_inside, units_low}
use Rattle.um_kept.proofs.Solving.{reached_solved, refused_unsolved}
use Rattle.um_kept.proofs.Refusals.{RefutedBy, refused_apart}

pub valid_no : (bases parameters : ℕ) (loose : Bool) (rows : List PowerMap) (row last : ℕ) (refused : Refused) (c : No) → RefutedBy bases (fixed_slots loose parameters) rows row refused → row ≤ last → last < length rows →
    c.loose ≡ loose → c.last ≡ last → c.modulus ≡ refused.modulus → exponents c.parts ≡ refused.total → NamesRowsBelow (suc row) c.parts → IsValidNo bases parameters rows c
valid_no bases parameters loose rows row last refused c refuted le inside is_loose is_last is_modulus is_total named = record {
  proper = subst (λ m. pos 2 ≤ℤ m) (sym is_modulus) refuted.proper;
  in_list = subst (λ n. n < length rows) (sym is_last) inside;
  named = subst (λ n. NamesRowsBelow (suc n) c.parts) (sym is_last) (more_rows (suc row) (suc last) c.parts (omega (arith, le)) named);
  apart =
      subst (λ m. IsApart m (combined (rigid_rows bases (fixed_slots c.loose parameters) rows) c.parts)) (sym is_modulus)
      (subst (λ b. IsApart refused.modulus (combined (rigid_rows bases (fixed_slots b parameters) rows) c.parts)) (sym is_loose)
      (subst (IsApart refused.modulus) (sym product) refuted.apart));
}
  where
    product : combined (rigid_rows bases (fixed_slots loose parameters) rows) c.parts ≡ replace (rigid_unit bases (fixed_slots loose parameters)) (replace (nth rows) refused.total)
    product =
        combined-rigid bases (fixed_slots loose parameters) rows c.parts (more_rows (suc row) (length rows) c.parts (omega (arith, le, inside)) named)
        ∙ ap (replace (rigid_unit bases (fixed_slots loose parameters))) (sym (replace-exponents rows c.parts) ∙ ap (replace (nth rows)) is_total)

module _ (bases parameters : ℕ) (r : Rows) (asked : AreFunctionRows bases parameters r) where
  abbrev head : Head
  head = record { slots = r.slots; parameters = parameters; bases = bases }

  abbrev rows : List PowerMap
  rows = units_of r.list.items.items

  abbrev judgement : Judgement
  judgement = judged bases parameters 0 r

  long : length (units_of r.list.items.items) ≡ length r.list.items.items
  long = length-map r.list.items.items (λ (row : Row). row.unit)

  pub rows_pass : (j : Judgement) (e : CertStop) → CarriesInRows head r.list.items.items e → IsNoMade bases parameters r j (Err e)
  rows_pass j (stop.CertRange z) h = inl h
  rows_pass j stop.NoMemory h = tt

  -- rows that are judged to be refused are not made
  pub never_made : (kept : Kept) → IsRefused judgement → IsReached rows (first bases parameters r.slots) (length r.list.items.items) kept → ⊥
  never_made kept so reached =
      let w = judged_refused bases parameters r.slots 0 (rows_signature r) r.list.items.items so in
      let f = w.unsolvable in
      elim (reached_solved bases parameters r.slots r.list.items.items kept asked.parameters_within asked.rows reached) [
        | inl e ↦ cc (sym e ∙ f)
        | inr u ↦ let e = u.1 in cc (sym e ∙ f)
      ]

  module _ (row : ℕ) (refused : Refused) (made : AreRefused head r.list.items.items row refused) (so : IsRefused judgement) where
    inside : row < length rows
    inside = subst (λ n. row < n) (sym long) made.1

    pub refuted : RefutedBy bases parameters rows row refused
    refuted = refused_apart bases parameters r.slots rows row made.0 refused asked.parameters_within asked.rows asked.declared_rows inside made.2 made.3

    pub by : IsRefusedBySteps bases parameters r.slots 0 (rows_signature r) r.list.items.items judgement
    by = judged_refused bases parameters r.slots 0 (rows_signature r) r.list.items.items so

    at_row : by.row ≡ row
    at_row = elim (refused_unsolved bases parameters r.slots r.list.items.items row made.0 refused asked.parameters_within asked.rows made.1 made.2 made.3) [
      | inl w ↦ let e = w.1 in let f = by.unsolvable in let both : unsolved by.row by.place ≡ unsolved row w.0 = sym f ∙ e in cc both
      | inr w ↦ let e = w.1 in let f = by.unsolvable in absurd (cc (sym e ∙ f))
    ]

    -- what the rows up to it come to where unit parameters are slots like the others
    pub general_end : (us : List PowerMap) → solve 0 (rows_up_to row r.list.items.items) (own_variables r.slots) ≡ solved us → judgement ≡ not_general row by.place
    general_end us e = elim by.loosely [
      | inl w ↦ w.2 ∙ ap (λ n. not_general n by.place) at_row
      | inr w ↦ let f = subst (λ n. solve 0 (rows_up_to n r.list.items.items) (own_variables r.slots) ≡ unsolved w.0 w.1) at_row w.2 in absurd (cc (sym e ∙ f))
    ]

    pub loose_end : (k place : ℕ) → solve 0 (rows_up_to row r.list.items.items) (own_variables r.slots) ≡ unsolved k place → judgement ≡ has_no_typing row by.place
    loose_end k place e = elim by.loosely [
      | inl w ↦ let f = subst (λ n. solve 0 (rows_up_to n r.list.items.items) (own_variables r.slots) ≡ solved w.0) at_row w.1 in absurd (cc (sym e ∙ f))
      | inr w ↦ w.3 ∙ ap (λ n. has_no_typing n by.place) at_row
    ]

    pub no_range : (place : ℕ) → solve 0 (rows_up_to row r.list.items.items) (own_variables r.slots) ≡ out_of_range place → ⊥
    no_range place e = elim by.loosely [
      | inl w ↦ let f = subst (λ n. solve 0 (rows_up_to n r.list.items.items) (own_variables r.slots) ≡ solved w.0) at_row w.1 in absurd (cc (sym e ∙ f))
      | inr w ↦ let f = subst (λ n. solve 0 (rows_up_to n r.list.items.items) (own_variables r.slots) ≡ unsolved w.0 w.1) at_row w.2 in absurd (cc (sym e ∙ f))
    ]

    -- without unit parameters
    pub own_end : parameters ≡ 0 → judgement ≡ has_no_typing row by.place
    own_end none =
        loose_end by.row by.place
        (subst (λ n. solve 0 (rows_up_to n r.list.items.items) (own_variables r.slots) ≡ unsolved by.row by.place) at_row
        (own_unsolved bases r.slots r.list.items.items by.row by.place (ap (λ n. solve 0 r.list.items.items (rigid_units bases n r.slots)) (sym none) ∙ by.unsolvable)))

    -- the certificate that names the row
    pub own_no : parameters ≡ 0 → (c : No) → c.loose ≡ true → c.last ≡ row → c.modulus ≡ refused.modulus → exponents c.parts ≡ refused.total → NamesRowsBelow (suc row) c.parts → IsValidNo bases parameters rows c × NamesRefusal judgement c
    own_no none c is_loose is_last is_modulus is_total named = (
      valid_no bases parameters true rows row row refused c (subst (λ n. RefutedBy bases n rows row refused) none refuted) (omega arith) inside is_loose is_last is_modulus is_total named,
      subst (λ j. NamesRefusal j c) (sym (own_end none)) (is_last, is_loose),
    )

    pub general_no : (us : List PowerMap) → solve 0 (rows_up_to row r.list.items.items) (own_variables r.slots) ≡ solved us →
        (c : No) → c.loose ≡ false → c.last ≡ row → c.modulus ≡ refused.modulus → exponents c.parts ≡ refused.total → NamesRowsBelow (suc row) c.parts → IsValidNo bases parameters rows c × NamesRefusal judgement c
    general_no us end c is_loose is_last is_modulus is_total named = (
      valid_no bases parameters false rows row row refused c refuted (omega arith) inside is_loose is_last is_modulus is_total named,
      subst (λ j. NamesRefusal j c) (sym (general_end us end)) (is_last, is_loose),
    )

    -- the makers' answer where the rows have no solution with unit parameters as slots either
    pub loose_answers : (k place : ℕ) → solve 0 (rows_up_to row r.list.items.items) (own_variables r.slots) ≡ unsolved k place → (result : Result No CertStop) → IfOk result (IsValidNo bases parameters (units_of r.list.items.items)) →
        IfOk result (λ c. c.last ≡ row) → IfOk result (λ c. c.loose ≡ true) → IfErr result (CarriesInRows (record { slots = r.slots; parameters = 0; bases = bases }) r.list.items.items) → IsNoMade bases parameters r judgement result
    loose_answers k place end (Ok c) valid last loose m = (valid, subst (λ j. NamesRefusal j c) (sym (loose_end k place end)) (last, loose))
    loose_answers k place end (Err (stop.CertRange z)) valid last loose m = inr ((row, by.place, loose_end k place end), m)
    loose_answers k place end (Err stop.NoMemory) valid last loose m = tt

    -- the makers' answers by what the certificate's making says
    pub own_answers : parameters ≡ 0 → (result : Result No CertStop) → IfOk result (λ c. c.loose ≡ true) → IfOk result (λ c. c.last ≡ row) → IfOk result (λ c. c.modulus ≡ refused.modulus) → IfOk result (λ c. exponents c.parts ≡ refused.total) →
        ((n : ℕ) → VariablesBelow n refused.total → IfOk result (λ c. NamesRowsBelow n c.parts)) → IfErr result (λ e. e ≡ stop.NoMemory) → IsNoMade bases parameters r judgement result
    own_answers none (Ok c) loose last modulus parts named memory = own_no none c loose last modulus parts (named (suc row) refuted.below)
    own_answers none (Err (stop.CertRange z)) loose last modulus parts named memory = absurd (cc memory)
    own_answers none (Err stop.NoMemory) loose last modulus parts named memory = tt

    pub general_answers : (us : List PowerMap) → solve 0 (rows_up_to row r.list.items.items) (own_variables r.slots) ≡ solved us → (result : Result No CertStop) → IfOk result (λ c. c.loose ≡ false) → IfOk result (λ c. c.last ≡ row) → IfOk result (λ c. c.modulus ≡ refused.modulus) →
        IfOk result (λ c. exponents c.parts ≡ refused.total) → ((n : ℕ) → VariablesBelow n refused.total → IfOk result (λ c. NamesRowsBelow n c.parts)) → IfErr result (λ e. e ≡ stop.NoMemory) → IsNoMade bases parameters r judgement result
    general_answers us end (Ok c) loose last modulus parts named memory = general_no us end c loose last modulus parts (named (suc row) refuted.below)
    general_answers us end (Err (stop.CertRange z)) loose last modulus parts named memory = absurd (cc memory)
    general_answers us end (Err stop.NoMemory) loose last modulus parts named memory = tt

-- ---- rows that have no solution up to the last with the unit parameters as slots like the others
module _ (bases slots : ℕ) (list : List Row) (low : All (λ (row : Row). VariablesBelow slots row.unit) list) (last : ℕ) (inside : last < length list) (unsolvable : (k at : ℕ) × (solve 0 (rows_up_to last list) (own_variables slots) ≡ unsolved k at)) where
  low_units : All (VariablesBelow slots) (units_of list)
  low_units = units_low slots list low

  none : All (HoldsNoParameter bases 0) (units_of list)
  none = All-from_get_or (HoldsNoParameter bases 0) (units_of list) one (λ j l i h. absurd (omega (arith, h)))

  whole : solve 0 list (rigid_units bases 0 slots) ≡ unsolved unsolvable.0 unsolvable.1
  whole = ap (solve 0 list) (rigid-own bases slots) ∙ front_unsolved list (own_variables slots) last unsolvable.0 unsolvable.1 unsolvable.2

  pub never_made_loosely : (kept : Kept) → IsReached (units_of list) (first bases 0 slots) (length list) kept → ⊥
  never_made_loosely kept reached =
      let f = whole in
      elim (reached_solved bases 0 slots list kept (omega arith) low_units reached) [
        | inl e ↦ cc (sym e ∙ f)
        | inr u ↦ let e = u.1 in cc (sym e ∙ f)
      ]

  module _ (row : ℕ) (refused : Refused) (made : AreRefused (record { slots = slots; parameters = 0; bases = bases }) list row refused) where
    pub loose_refuted : RefutedBy bases 0 (units_of list) row refused
    loose_refuted = refused_apart bases 0 slots (units_of list) row made.0 refused (omega arith) low_units none (subst (λ n. row < n) (sym (length-map list (λ (r : Row). r.unit))) made.1) made.2 made.3

    row_is : unsolvable.0 ≡ row
    row_is =
        let f = whole in
        elim (refused_unsolved bases 0 slots list row made.0 refused (omega arith) low_units made.1 made.2 made.3) [
          | inl u ↦ let e = u.1 in let both : unsolved unsolvable.0 unsolvable.1 ≡ unsolved row u.0 = sym f ∙ e in cc both
          | inr u ↦ let e = u.1 in absurd (cc (sym e ∙ f))
        ]

    pub loose_valid : (parameters : ℕ) (result : Result No CertStop) → IfOk result (λ c. c.loose ≡ true) → IfOk result (λ c. c.last ≡ last) → IfOk result (λ c. c.modulus ≡ refused.modulus) → IfOk result (λ c. exponents c.parts ≡ refused.total) →
        ((n : ℕ) → VariablesBelow n refused.total → IfOk result (λ c. NamesRowsBelow n c.parts)) → IfOk result (IsValidNo bases parameters (units_of list))
    loose_valid parameters (Ok c) is_loose is_last is_modulus is_total named =
        let l = front_inside list (own_variables slots) last unsolvable.0 unsolvable.1 unsolvable.2 in
        let e = row_is in
        valid_no bases parameters true (units_of list) row last refused c loose_refuted (omega (arith, l, e)) (subst (λ n. last < n) (sym (length-map list (λ (r : Row). r.unit))) inside) is_loose is_last is_modulus is_total (named (suc row) loose_refuted.below)
    loose_valid parameters (Err e) is_loose is_last is_modulus is_total named = tt
