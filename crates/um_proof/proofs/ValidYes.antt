-- What is kept after all rows, with the variables of its solution numbered, is a valid Yes.
use Rattle.std.proofs.Common.{◌≡◌, ◌≢◌, inl, inr, ℕ, zero, suc, ◌+◌, ◌<◌, false, cond, List, [], ◌++◌, map, length, get_or, pos, Err, sym, ap, ◌∙◌, subst, arith}
use Rattle.std.specs.Prelude.{All, IsTrue, nat_eq, slice_index_or}
use Rattle.std.specs.List.{flat_map, list_any}
use Rattle.std.proofs.lemmas.Bool.Decides.{nat_tests}
use Rattle.std.proofs.lemmas.List.{length-map, get_or-map, get_or_default}
use Rattle.std.proofs.lemmas.List.Elements.{All-get_or, All-from_get_or}
use Rattle.um_units.specs.declared.Atom.TheVariants.{Base, Var}
use Rattle.um_units.specs.PowerMap.{PowerMap, power_of, one, atom, mul, inv, pow, replace, nth, extension}
use Rattle.um_units.specs.Variables.{VariablesBelow}
use Rattle.um_units.specs.Solutions.{IsJointSolution}
use Rattle.um_units.proofs.Replacement.{replace-replace, replace_alike, replace-variable, replace-base, nth-map}
use Rattle.um_units.proofs.Solutions.{IsJointSolution-replace}
use Rattle.um_tree.specs.TypeTree.{num_type}
use Rattle.um_tree.specs.ProgramTree.{Signature, SchemeTree}
use Rattle.um_tree.specs.Typing.{put_signature}
use Rattle.um_tree.specs.Scheme.{variables, signature_types, unit_variables}
use Rattle.um_tree.proofs.Numbered.{numbered_below}
use Rattle.um_elim.specs.Numbering.{variable_order, place, by_place}
use Rattle.um_elim.specs.Solution.{rigid_units}
use Rattle.um_elim.proofs.GrowingOrder.{All-member}
use Rattle.um_elim.proofs.RenamedUnits.{held-member}
use Rattle.um_equal_types.specs.declared.row.Rows.{Rows}
use Rattle.um_equal_types.specs.declared.row.Row.{Row}
use Rattle.um_rows.specs.Answers.{rows_signature}
use Rattle.um_equal_types.specs.Steps.{units_of}
use Rattle.um_rows.specs.Solutions.{IsRigid}
use Rattle.um_rows.specs.FirstUnsolvable.{solved, solve}
use Rattle.um_rows.specs.Generalised.{generalised, generalised_unit}
use Rattle.um_rows.specs.Judgement.{has_scheme, signature_fits, numbered_scheme}
use Rattle.um_rows.proofs.NumberedSchemes.{numbered_is_numbered}
use Rattle.um_wide.specs.Room.{IsNarrow}
use Rattle.um_check.specs.declared.certificate.Part.{Part}
use Rattle.um_check.specs.declared.certificate.Yes.{Yes}
use Rattle.um_check.specs.Combination.{NamesRowsBelow}
use Rattle.um_check.specs.Validity.{returned, ComesBack, ShowsGeneral, IsValidYes}
use Rattle.um_check.proofs.Returns.{signature_put}
use Rattle.um_check.specs.Existence.{exponents}
use Rattle.um_check.proofs.Exponents.{replace-exponents}
use Rattle.um_kept.specs.declared.kept.Head.{Head}
use Rattle.um_kept.specs.declared.kept.PartialCertificate.{PartialCertificate}
use Rattle.um_kept.specs.declared.row.Refused.{Refused}
use Rattle.um_kept.specs.declared.stop.CertStop.{CertStop}
use Rattle.um_kept.specs.declared.stop.CertStop.TheVariants as stop
use Rattle.um_kept.specs.Kept.{Kept, IsReached, first}
use Rattle.um_kept.specs.Formed.{IsPowerIn}
use Rattle.um_proof.specs.Answers.{AreFunctionRows, judged, IsYesMade}
use Rattle.um_kept.specs.Answers.{Agrees, AreRefused, CarriesInRows, CarriesPower}
use Rattle.um_proof.specs.Steps.{CarriesReturned}
use Rattle.um_proof.specs.Renaming.{held_variables, certificate_order, general_units, GoBack}
use Rattle.um_infer.proofs.Prefix.{numbered_in_front}
use Rattle.um_proof.proofs.General.{general_solution, signature_moved, signature_fits_in_place, all_general_below}
use Rattle.um_proof.proofs.HeldVariables.{member_of_unit, member_of_held, in_order, renamed_below}
use Rattle.um_proof.proofs.Judged.{judged_solved, solution_below, solution_joint}
use Rattle.um_kept.proofs.Reached.{ReachedState, reached_state}
use Rattle.um_kept.proofs.Solving.{reached_solved, refused_unsolved}
use Rattle.um_kept.proofs.WayBack.{back_is}

-- with unit parameters the closed units, and else none
shows_general : (bases slots parameters : ℕ) (rows units closed : List PowerMap) → units ≡ cond (nat_eq parameters 0) [] closed → IsJointSolution slots rows closed → IsRigid bases parameters closed → ShowsGeneral bases slots parameters rows units
shows_general bases slots zero rows units closed e joint rigid = e
shows_general bases slots (suc n) rows units closed e joint rigid =
    let off : nat_eq (suc n) 0 ≡ false = grind (arith, nat_tests) in
    let same : units ≡ closed = e ∙ ap (λ b. cond b [] closed) off in
    (subst (IsJointSolution slots rows) (sym same) joint, subst (IsRigid bases (suc n)) (sym same) rigid)

module _ (bases parameters : ℕ) (r : Rows) (asked : AreFunctionRows bases parameters r) where
  abbrev pub head : Head
  head = record { slots = r.slots; parameters = parameters; bases = bases }

  abbrev rows : List PowerMap
  rows = units_of r.list.items.items

  abbrev number : ℕ
  number = length r.list.items.items

  abbrev g : Signature
  g = rows_signature r

  abbrev starts : Kept
  starts = first bases parameters r.slots

  abbrev in_place : PowerMap → PowerMap
  in_place = generalised_unit bases parameters r.slots

  long : length (units_of r.list.items.items) ≡ number
  long = length-map r.list.items.items (λ (row : Row). row.unit)

  -- a number that passes in the rows
  pub rows_pass : (s : SchemeTree) (e : CertStop) → CarriesInRows head r.list.items.items e → IsYesMade bases parameters r s (Err e)
  rows_pass s (stop.CertRange z) h = inl h
  rows_pass s stop.NoMemory h = tt

  -- rows that are judged to have a scheme are not refused
  pub never_refused : (at : ℕ) (s : SchemeTree) (row : ℕ) (refused : Refused) → judged bases parameters at r ≡ has_scheme s → AreRefused head r.list.items.items row refused → ⊥
  never_refused at s row refused so made =
      let w = judged_solved bases parameters r.slots at g r.list.items.items s so in
      let f = w.solves in
      elim (refused_unsolved bases parameters r.slots r.list.items.items row made.0 refused asked.parameters_within asked.rows made.1 made.2 made.3) [
        | inl u ↦ let e = u.1 in cc (sym e ∙ f)
        | inr u ↦ let e = u.1 in cc (sym e ∙ f)
      ]

  module _ (partial : PartialCertificate) (kept : Kept) (agrees : Agrees head partial kept) (reached : IsReached rows starts number kept) (at : ℕ) (s : SchemeTree) (so : judged bases parameters at r ≡ has_scheme s) where
    abbrev units : List PowerMap
    units = kept.solution

    by_judgement : (us : List PowerMap) × (solve 0 r.list.items.items (rigid_units bases parameters r.slots) ≡ solved us) × IsTrue (signature_fits (put_signature (nth us) g)) × (s ≡ numbered_scheme (generalised bases parameters r.slots (put_signature (nth us) g)))
    by_judgement = let w = judged_solved bases parameters r.slots at g r.list.items.items s so in (w.units, w.solves, w.fits, w.scheme)

    solves : solve 0 r.list.items.items (rigid_units bases parameters r.slots) ≡ solved units
    solves = elim (reached_solved bases parameters r.slots r.list.items.items kept asked.parameters_within asked.rows reached) [
      | inl e ↦ e
      | inr w ↦ let e = w.1 in let f = by_judgement.1 in absurd (cc (sym e ∙ f))
    ]

    same : by_judgement.0 ≡ units
    same = let e : solved by_judgement.0 ≡ solved units = sym by_judgement.1 ∙ solves in cc e

    pub fits : IsTrue (signature_fits (put_signature (nth units) g))
    fits = subst (λ us. IsTrue (signature_fits (put_signature (nth us) g))) same by_judgement.2

    scheme : s ≡ numbered_scheme (generalised bases parameters r.slots (put_signature (nth units) g))
    scheme = by_judgement.3 ∙ ap (λ us. numbered_scheme (generalised bases parameters r.slots (put_signature (nth us) g))) same

    pub below : All (VariablesBelow r.slots) units
    below = solution_below bases parameters r.slots r.list.items.items asked.parameters_within asked.rows units solves

    joint : IsJointSolution r.slots rows units
    joint = solution_joint bases parameters r.slots r.list.items.items asked.parameters_within asked.rows units solves

    pub count : length units ≡ r.slots
    count = joint.per_slot

    pub state : ReachedState bases parameters r.slots rows number kept
    state = reached_state bases parameters r.slots rows asked.parameters_within asked.rows asked.declared_rows number kept (let l = long in omega (arith, l)) reached

    abbrev variable_units : List PowerMap
    variable_units = general_units head g units

    long_units : length variable_units ≡ r.slots
    long_units = length-map units in_place ∙ count

    pub fits_in_place : IsTrue (signature_fits (put_signature (nth variable_units) g))
    fits_in_place = signature_fits_in_place bases parameters r.slots units count below g asked.declared_types asked.types fits

    abbrev order : List ℕ
    order = certificate_order head g units

    abbrev renamed : List PowerMap
    renamed = map (replace (by_place order)) variable_units

    long_renamed : length renamed ≡ r.slots
    long_renamed = length-map variable_units (replace (by_place order)) ∙ long_units

    -- ---- the rows and the types
    renamed_joint : IsJointSolution r.slots rows renamed
    renamed_joint =
        IsJointSolution-replace r.slots rows variable_units (by_place order) asked.rows
        (general_solution bases parameters r.slots units count below rows asked.declared_rows asked.rows joint)

    gives : put_signature (nth renamed) g ≡ s.signature
    gives =
        signature_put (by_place order) variable_units g (subst (λ n. All (λ k. k < n) (variables (signature_types g))) (sym long_units) asked.types)
        ∙ numbered_in_front (put_signature (nth variable_units) g) (map (λ k. num_type (atom (Var k))) (held_variables head g units) ++ map num_type variable_units)
        ∙ ap (λ h. put_signature (by_place (variable_order (signature_types h))) h) (signature_moved bases parameters r.slots units count below g asked.declared_types asked.types)
        ∙ sym (ap (λ (t : SchemeTree). t.signature) scheme)

    own : All (λ k. k < s.vars) (variables (signature_types s.signature))
    own =
        let h = generalised bases parameters r.slots (put_signature (nth units) g) in
        subst (λ (t : SchemeTree). All (λ k. k < t.vars) (variables (signature_types t.signature))) (sym scheme) (numbered_below (numbered_scheme h) (numbered_is_numbered h))

    -- ---- variables
    listed : (k : ℕ) → IsTrue (list_any (nat_eq k) (flat_map unit_variables variable_units)) → IsTrue (list_any (nat_eq k) order)
    listed k m = in_order (signature_types (put_signature (nth variable_units) g)) (map (λ k. num_type (atom (Var k))) (held_variables head g units)) variable_units k m

    -- ---- the way back
    module _ (back : List PowerMap) (go_back : GoBack order (held_variables head g units) partial.back.items back) where
      at_variable : (j k : ℕ) → j < r.slots → power_of (nth variable_units j) (Var k) ≢ pos 0 → nth back (place order k) ≡ nth partial.back.items k
      at_variable j k l held =
          let inside : j < length variable_units = subst (λ n. j < n) (sym long_units) l in
          let low : k < r.slots + parameters = All-get_or (VariablesBelow (r.slots + parameters)) variable_units j (atom (Var j)) inside (all_general_below bases parameters r.slots units count below) k held in
          let stands = member_of_unit variable_units j k (atom (Var j)) inside (held-member (nth variable_units j) k held) in
          All-member (λ i. nth back (place order i) ≡ nth partial.back.items i) (held_variables head g units) k go_back (member_of_held (r.slots + parameters) k variable_units low stands)

      pub goes_back : (j : ℕ) → j < r.slots → returned renamed back j ≡ mul (extension kept.back (nth units j)) (inv (atom (Var j)))
      goes_back j l =
          let u = nth variable_units j in
          ap (λ v. mul v (inv (atom (Var j))))
          (ap (replace (nth back)) (nth-map (replace (by_place order)) variable_units j (subst (λ n. j < n) (sym long_units) l))
          ∙ replace-replace (by_place order) (nth back) u
          ∙ replace_alike (λ k. replace (nth back) (by_place order k)) (nth partial.back.items) u (λ k held. replace-variable (nth back) (place order k) ∙ at_variable j k l held)
          ∙ ap (replace (nth partial.back.items)) (nth-map in_place units j (subst (λ n. j < n) (sym count) l))
          ∙ sym (back_is head partial.back.items kept.back (nth units j) agrees.back_count agrees.back (All-get_or (VariablesBelow r.slots) units j (atom (Var j)) (subst (λ n. j < n) (sym count) l) below)))

      -- a number that passes at the end
      pub end_passes : (e : CertStop) → CarriesReturned renamed back e → IsYesMade bases parameters r s (Err e)
      end_passes (stop.CertRange z) h =
          let l : h.0 < r.slots = subst (λ n. h.0 < n) long_renamed h.1 in
          inr (kept, subst (λ n. IsReached rows starts n kept) (sym long) reached, h.0, subst (λ n. h.0 < n) (sym count) l, subst (IsPowerIn z) (goes_back h.0 l) h.2, h.3)
      end_passes stop.NoMemory h = tt

      -- ---- all together
      module _ (parts : List (List Part)) (are : map exponents parts ≡ partial.parts.items) (named : All (NamesRowsBelow number) parts) (narrow : (j : ℕ) → j < length renamed → IsNarrow (returned renamed back j)) where
        long_parts : length parts ≡ r.slots
        long_parts = sym (length-map parts exponents) ∙ ap length are ∙ agrees.parts_count

        part_of : (j : ℕ) → j < r.slots → kept.parts j ≡ exponents (slice_index_or parts j [])
        part_of j l =
            agrees.parts j l ∙ ap (λ us. slice_index_or us j one) (sym are)
            ∙ get_or-map exponents parts j [] one (subst (λ n. j < n) (sym long_parts) l)

        comes_back : ComesBack r.slots rows renamed back partial.divisor parts
        comes_back = record {
          positive = agrees.positive;
          per_slot = long_parts;
          named = subst (λ n. All (NamesRowsBelow n) parts) (sym long) named;
          by_rows = λ j l.
              ap (λ u. pow u partial.divisor) (goes_back j l)
              ∙ ap (pow (mul (extension kept.back (nth units j)) (inv (atom (Var j))))) agrees.divisor
              ∙ state.kept.by_rows j (subst (λ n. j < n) (sym count) l)
              ∙ ap (replace (nth rows)) (part_of j l)
              ∙ replace-exponents rows (slice_index_or parts j []);
          narrow = λ j l. narrow j (subst (λ n. j < n) (sym long_renamed) l);
        }

        abbrev closed : List PowerMap
        closed = map (replace (λ _. one)) units

        closed_rigid : IsRigid bases parameters closed
        closed_rigid k l =
            let few = asked.parameters_within in
            let inside : k < r.slots = omega (arith, l, few) in
            nth-map (replace (λ _. one)) units k (subst (λ n. k < n) (sym count) inside) ∙ ap (replace (λ _. one)) (state.rigid k l) ∙ replace-base (λ _. one) (bases + k)

        pub valid_yes : (c : Yes) → c.vars ≡ length order → c.solution ≡ renamed → c.back ≡ back → length c.back ≡ c.vars → c.divisor ≡ partial.divisor → c.parts ≡ parts → c.rigid ≡ cond (nat_eq parameters 0) [] closed →
            IsValidYes bases parameters r.slots rows g s c
        valid_yes c vars solution way back_count divisor exps rigid = record {
          solves = subst (IsJointSolution r.slots rows) (sym solution) renamed_joint;
          below = subst (λ n. All (VariablesBelow n) c.solution) (sym vars) (subst (All (VariablesBelow (length order))) (sym solution) (renamed_below order variable_units listed));
          back_count = back_count;
          gives = ap (λ us. put_signature (nth us) g) solution ∙ gives;
          own = own;
          comes_back =
              subst (λ us. ComesBack r.slots rows us c.back c.divisor c.parts) (sym solution)
              (subst (λ us. ComesBack r.slots rows renamed us c.divisor c.parts) (sym way)
              (subst (λ d. ComesBack r.slots rows renamed back d c.parts) (sym divisor)
              (subst (ComesBack r.slots rows renamed back partial.divisor) (sym exps) comes_back)));
          general = shows_general bases r.slots parameters rows c.rigid closed rigid (IsJointSolution-replace r.slots rows units (λ _. one) asked.rows joint) closed_rigid;
        }

-- ---- what slots go back to, one after another
pub returned_carried : (solution back : List PowerMap) (j : ℕ) (unit : PowerMap) (e : CertStop) → j < length solution → unit ≡ get_or solution j unit → CarriesPower 9223372036854775807 (mul (replace (nth back) unit) (inv (atom (Var j)))) e → CarriesReturned solution back e
returned_carried solution back j unit (stop.CertRange z) l is h =
    let same : unit ≡ nth solution j = is ∙ get_or_default solution j unit (atom (Var j)) l in
    (j, l, subst (λ u. IsPowerIn z (mul (replace (nth back) u) (inv (atom (Var j))))) same h.0, h.1)
returned_carried solution back j unit stop.NoMemory l is h = tt

pub returned_narrow : (solution back : List PowerMap) (j : ℕ) (unit : PowerMap) → j < length solution → unit ≡ get_or solution j unit → IsNarrow (mul (replace (nth back) unit) (inv (atom (Var j)))) → IsNarrow (returned solution back j)
returned_narrow solution back j unit l is h =
    let same : unit ≡ nth solution j = is ∙ get_or_default solution j unit (atom (Var j)) l in
    subst (λ u. IsNarrow (mul (replace (nth back) u) (inv (atom (Var j))))) same h

-- ---- the parts of what is kept
module _ (bases parameters : ℕ) (r : Rows) (partial : PartialCertificate) (kept : Kept) (agrees : Agrees (record { slots = r.slots; parameters = parameters; bases = bases }) partial kept) (state : ReachedState bases parameters r.slots (units_of r.list.items.items) (length r.list.items.items) kept) where
  same_part : (j : ℕ) → j < length partial.parts.items → kept.parts j ≡ get_or partial.parts.items j one
  same_part j l = agrees.parts j (subst (λ n. j < n) agrees.parts_count l)

  pub parts_closed : All (λ u. (n : ℕ) → power_of u (Base n) ≡ pos 0) partial.parts.items
  parts_closed = All-from_get_or (λ u. (n : ℕ) → power_of u (Base n) ≡ pos 0) partial.parts.items one (λ j l n. ap (λ u. power_of u (Base n)) (sym (same_part j l)) ∙ state.parts_closed j n)

  pub parts_below : All (VariablesBelow (length r.list.items.items)) partial.parts.items
  parts_below = All-from_get_or (VariablesBelow (length r.list.items.items)) partial.parts.items one (λ j l. subst (VariablesBelow (length r.list.items.items)) (same_part j l) (state.parts_below j))
