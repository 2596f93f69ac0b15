-- Rows that are judged to have a scheme have a valid and tidy certificate of it, unless a number passes.
use Rattle.std.proofs.Common.{◌≡◌, ◌≢◌, ◌⊎◌, inl, inr, ℕ, zero, suc, ◌+◌, ◌-◌, ◌<◌, ◌≤◌, true, false, cond, List, [], ◌∷◌, ◌++◌, map, length, get_or, ℤ, pos, Result, Ok, Err, refl, sym, ap, ◌∙◌, subst, arith, length-append}
use Rattle.std.specs.Prelude.{All, IsTrue, IfOk, nat_eq, slice_index_or}
use Rattle.std.specs.List.{range_with_len}
use Rattle.std.proofs.lemmas.Bool.{and_parts, ltb-true}
use Rattle.std.proofs.lemmas.List.{length-map, get_or-map, get_or-append_right, get_or_append_left}
use Rattle.std.proofs.lemmas.List.Elements.{All-nil, All-cons, All-head, All-tail, All-from_get_or}
use Rattle.std.proofs.lemmas.List.FromFn.{length-range_with_len, get_or-map-range_with_len}
use Rattle.um_units.specs.declared.Atom.{Atom}
use Rattle.um_units.specs.declared.Atom.TheVariants.{Base, Var}
use Rattle.um_units.specs.declared.Term.{Term}
use Rattle.um_units.specs.Atoms.{same_atom}
use Rattle.um_units.specs.NormalForm.{head_before_all, tail_normal, head_nonzero}
use Rattle.um_units.specs.Terms.{power_in, is_normal, is_zero}
use Rattle.um_units.specs.PowerMap.{PowerMap, product, power_of, one, atom, replace, nth}
use Rattle.um_units.specs.Variables.{VariablesBelow, atom_below, variables_below}
use Rattle.um_units.proofs.Equality.{power_in-head, power_in-tail, product-of_terms}
use Rattle.um_units.proofs.Group.{power_of-other_atom}
use Rattle.um_units.proofs.Variables.{variables_below-from_VariablesBelow}
use Rattle.um_tree.specs.Formed.{BasesBelow}
use Rattle.um_tree.specs.ProgramTree.{Signature, SchemeTree}
use Rattle.um_elim.specs.Numbering.{place, by_place, renumbered}
use Rattle.um_elim.proofs.Cases.{on_test}
use Rattle.um_elim.proofs.FirstOccurrences.{place-low, at-place}
use Rattle.um_equal_types.specs.declared.row.Rows.{Rows}
use Rattle.um_equal_types.specs.declared.row.Row.{Row}
use Rattle.um_equal_types.specs.Steps.{units_of}
use Rattle.um_rows.specs.Answers.{rows_signature}
use Rattle.um_rows.specs.Generalised.{is_parameter}
use Rattle.um_rows.specs.Judgement.{has_scheme}
use Rattle.um_wide.specs.Room.{IsNarrow}
use Rattle.um_check.specs.declared.certificate.Part.{Part}
use Rattle.um_check.specs.declared.certificate.Yes.{Yes}
use Rattle.um_check.specs.Combination.{NamesRowsBelow}
use Rattle.um_check.specs.Tidy.{AreTidyParts, IsTidyYes}
use Rattle.um_check.specs.Validity.{returned}
use Rattle.um_check.specs.Existence.{exponents}
use Rattle.um_kept.specs.declared.kept.Head.{Head}
use Rattle.um_kept.specs.declared.kept.PartialCertificate.{PartialCertificate}
use Rattle.um_kept.specs.declared.stop.CertStop.{CertStop}
use Rattle.um_kept.specs.declared.stop.CertStop.TheVariants as stop
use Rattle.um_kept.specs.Kept.{Kept, IsReached, first, first_back}
use Rattle.um_kept.specs.Answers.{Agrees, back_at}
use Rattle.um_kept.proofs.TidyParts.{tidy_parts}
use Rattle.um_kept.proofs.WayBack.{parameter_range}
use Rattle.um_kept.proofs.Reached.{ReachedState, reached_state}
use Rattle.um_proof.specs.Answers.{AreFunctionRows, judged, IsYesMade}
use Rattle.um_proof.specs.Renaming.{is_listed, to_number, GoBack, general_units, held_variables, certificate_order}
use Rattle.um_proof.proofs.Judged.{judged_solved}
use Rattle.um_proof.proofs.Renamed.{are_numbered}
use Rattle.um_proof.proofs.TidyYes.{tidy_yes}
use Rattle.um_proof.proofs.ValidYes.{head, valid_yes, end_passes}
use Rattle.um_all_answers.proofs.Narrow.{IsPastAmong, AreNarrow, all_narrow_or_past}
use Rattle.um_all_answers.proofs.Rows.{Passes, Ends, rows_end}
use Rattle.um_all_answers.proofs.Values.{kept_items}

-- ---- parts of which the powers are given

abbrev row_of : Atom → ℕ
row_of (Base n) = 0
row_of (Var k) = k

abbrev part_of : Term → Part
part_of t = record { row = row_of t.atom; times = t.power }

abbrev term_of : Part → Term
term_of p = record { atom = Var p.row; power = p.times }

abbrev pub parts_of : PowerMap → List Part
parts_of u = map part_of u.terms

not_zero : (z : ℤ) → is_zero z ≡ false → z ≢ pos 0
not_zero z e none = cc (sym (ap is_zero none) ∙ e)

-- each term is of a variable, if no base unit has a power
of_variable : (t : Term) (ts : List Term) → IsTrue (is_normal (t ∷ ts)) → ((n : ℕ) → power_in (t ∷ ts) (Base n) ≡ pos 0) → (x : Atom) → t.atom ≡ x → Var (row_of t.atom) ≡ t.atom
of_variable t ts normal closed (Var k) e = ap (λ (y : Atom). Var (row_of y)) e ∙ sym e
of_variable t ts normal closed (Base n) e =
    let own = power_in-head t ts (head_before_all t ts normal) in
    let none : t.power ≡ pos 0 = sym own ∙ ap (power_in (t ∷ ts)) e ∙ closed n in
    absurd (not_zero t.power (head_nonzero t ts normal) none)

-- and no base unit has one in the terms behind it
closed_tail : (t : Term) (ts : List Term) → IsTrue (is_normal (t ∷ ts)) → ((n : ℕ) → power_in (t ∷ ts) (Base n) ≡ pos 0) → (n : ℕ) → power_in ts (Base n) ≡ pos 0
closed_tail t ts normal closed n =
    let other : same_atom (Base n) t.atom ≡ false = ap (same_atom (Base n)) (sym (of_variable t ts normal closed t.atom refl)) in
    sym (power_in-tail t ts (Base n) other) ∙ closed n

same_terms : (ts : List Term) → IsTrue (is_normal ts) → ((n : ℕ) → power_in ts (Base n) ≡ pos 0) → map term_of (map part_of ts) ≡ ts
same_terms [] normal closed = refl
same_terms (t ∷ ts) normal closed =
    let here = of_variable t ts normal closed t.atom refl in
    let there = same_terms ts (tail_normal t ts normal) (closed_tail t ts normal closed) in
    λ i. record { atom = here i; power = t.power } ∷ there i

abbrev IsClosed : PowerMap → Type 0
IsClosed u = (n : ℕ) → power_of u (Base n) ≡ pos 0

pub exponents_are : (u : PowerMap) → IsClosed u → exponents (parts_of u) ≡ u
exponents_are u closed = ap product (same_terms u.terms u.normal closed) ∙ product-of_terms u

rows_below : (n : ℕ) (ps : List Part) → IsTrue (variables_below n (map term_of ps)) → NamesRowsBelow n ps
rows_below n [] h = All-nil (λ (p : Part). p.row < n)
rows_below n (p ∷ ps) h =
    let both = and_parts (atom_below n (Var p.row)) (variables_below n (map term_of ps)) h in
    All-cons (λ (q : Part). q.row < n) p ps (ltb-true p.row n both.0) (rows_below n ps both.1)

pub parts_named : (n : ℕ) (u : PowerMap) → IsClosed u → VariablesBelow n u → NamesRowsBelow n (parts_of u)
parts_named n u closed below =
    rows_below n (parts_of u) (subst (λ ts. IsTrue (variables_below n ts)) (sym (same_terms u.terms u.normal closed)) (variables_below-from_VariablesBelow n u below))

pub parts_tidy : (n : ℕ) (u : PowerMap) → n ≤ 4294967295 → IsClosed u → VariablesBelow n u → AreTidyParts (parts_of u)
parts_tidy n u few closed below =
    tidy_parts n (parts_of u) few (subst (λ ts. IsTrue (is_normal ts)) (sym (same_terms u.terms u.normal closed)) u.normal) (parts_named n u closed below)

all_exponents : (us : List PowerMap) → All IsClosed us → map exponents (map parts_of us) ≡ us
all_exponents [] closed = refl
all_exponents (u ∷ us) closed =
    let here = exponents_are u (All-head IsClosed u us closed) in let there = all_exponents us (All-tail IsClosed u us closed) in λ i. here i ∷ there i

all_named : (n : ℕ) (us : List PowerMap) → All IsClosed us → All (VariablesBelow n) us → All (NamesRowsBelow n) (map parts_of us)
all_named n [] closed below = All-nil (NamesRowsBelow n)
all_named n (u ∷ us) closed below =
    All-cons (NamesRowsBelow n) (parts_of u) (map parts_of us) (parts_named n u (All-head IsClosed u us closed) (All-head (VariablesBelow n) u us below))
    (all_named n us (All-tail IsClosed u us closed) (All-tail (VariablesBelow n) u us below))

all_tidy : (n : ℕ) (us : List PowerMap) → n ≤ 4294967295 → All IsClosed us → All (VariablesBelow n) us → All AreTidyParts (map parts_of us)
all_tidy n [] few closed below = All-nil AreTidyParts
all_tidy n (u ∷ us) few closed below =
    All-cons AreTidyParts (parts_of u) (map parts_of us) (parts_tidy n u few (All-head IsClosed u us closed) (All-head (VariablesBelow n) u us below))
    (all_tidy n us few (All-tail IsClosed u us closed) (All-tail (VariablesBelow n) u us below))

-- ---- the way back from numbered variables

goes_back : (order held : List ℕ) (back : List PowerMap) → All (λ k. IsTrue (is_listed order k)) held → GoBack order held back (map (nth back) order)
goes_back order [] back listed = All-nil (λ k. nth (map (nth back) order) (place order k) ≡ nth back k)
goes_back order (k ∷ held) back listed =
    let member = All-head (λ k. IsTrue (is_listed order k)) k held listed in
    let here = get_or-map (nth back) order (place order k) 0 (atom (Var (place order k))) (place-low order k member) ∙ ap (nth back) (at-place order k member) in
    All-cons (λ k. nth (map (nth back) order) (place order k) ≡ nth back k) k held here
    (goes_back order held back (All-tail (λ k. IsTrue (is_listed order k)) k held listed))

variable_declared : (n k : ℕ) → BasesBelow n (atom (Var k))
variable_declared n k m held = absurd (held (power_of-other_atom (Base m) (Var k) refl))

way_declared : (n : ℕ) (ways : List PowerMap) (k : ℕ) (other : PowerMap) → BasesBelow n other → All (BasesBelow n) ways → BasesBelow n (get_or ways k other)
way_declared n [] k other low all = low
way_declared n (u ∷ us) zero other low all = All-head (BasesBelow n) u us all
way_declared n (u ∷ us) (suc k) other low all = way_declared n us k other low (All-tail (BasesBelow n) u us all)

ways_declared : (n : ℕ) (ways : List PowerMap) (order : List ℕ) → All (BasesBelow n) ways → All (BasesBelow n) (map (nth ways) order)
ways_declared n ways [] all = All-nil (BasesBelow n)
ways_declared n ways (k ∷ order) all = All-cons (BasesBelow n) (nth ways k) (map (nth ways) order) (way_declared n ways k (atom (Var k)) (variable_declared n k) all) (ways_declared n ways order all)

module _ (bases parameters : ℕ) (r : Rows) (asked : AreFunctionRows bases parameters r) (at : ℕ) (s : SchemeTree) (so : judged bases parameters at r ≡ has_scheme s) where
  abbrev rows : List PowerMap
  rows = units_of r.list.items.items

  abbrev number : ℕ
  number = length r.list.items.items

  abbrev g : Signature
  g = rows_signature r

  abbrev starts : Kept
  starts = first bases parameters r.slots

  abbrev h : Head
  h = head bases parameters r asked

  -- some answer other than want of memory
  pub record IsCertified : Type 0 where
    pub result : Result Yes CertStop
    pub some : result ≢ Err stop.NoMemory
    pub made : IsYesMade bases parameters r s result
    pub tidy : All (BasesBelow bases) (units_of r.list.items.items) → IfOk result (IsTidyYes bases parameters)

  long : length rows ≡ number
  long = length-map r.list.items.items (λ (row : Row). row.unit)

  module _ (kept : Kept) (reached : IsReached rows starts number kept) (narrow : (j : ℕ) → j < length kept.solution → IsNarrow (kept.parts j)) where
    state : ReachedState bases parameters r.slots rows number kept
    state = let l = long in reached_state bases parameters r.slots rows asked.parameters_within asked.rows asked.declared_rows number kept (omega (arith, l)) reached

    -- ---- what the code keeps
    abbrev of_slots : List PowerMap
    of_slots = map (λ k. kept.back (Var k)) (range_with_len 0 r.slots)

    abbrev of_parameters : List PowerMap
    of_parameters = map (λ i. kept.back (Base (bases + i))) (range_with_len 0 parameters)

    abbrev ways : List PowerMap
    ways = of_slots ++ of_parameters

    abbrev powers : List PowerMap
    powers = map kept.parts (range_with_len 0 r.slots)

    many_slots : length of_slots ≡ r.slots
    many_slots = length-map (range_with_len 0 r.slots) (λ k. kept.back (Var k)) ∙ length-range_with_len 0 r.slots

    many_parameters : length of_parameters ≡ parameters
    many_parameters = length-map (range_with_len 0 parameters) (λ i. kept.back (Base (bases + i))) ∙ length-range_with_len 0 parameters

    many_ways : length ways ≡ r.slots + parameters
    many_ways = let all = length-append of_slots of_parameters in let a = many_slots in let b = many_parameters in omega (arith, all, a, b)

    many_powers : length powers ≡ r.slots
    many_powers = length-map (range_with_len 0 r.slots) kept.parts ∙ length-range_with_len 0 r.slots

    power_at : (j : ℕ) → j < r.slots → kept.parts j ≡ slice_index_or powers j one
    power_at j less = sym (get_or-map-range_with_len kept.parts 0 r.slots j j one less (omega arith))

    leaves : (n : ℕ) → is_parameter bases parameters 0 n ≡ false → first_back bases parameters (Base n) ≡ atom (Base n)
    leaves n e = rw e refl

    other_base : (n : ℕ) → is_parameter bases parameters 0 n ≡ false → back_at h ways (Base n) ≡ atom (Base n)
    other_base n e = rw e refl

    own_base : (n : ℕ) → is_parameter bases parameters 0 n ≡ true → back_at h ways (Base n) ≡ slice_index_or ways (r.slots + (n - bases)) one
    own_base n e = rw e refl

    at_parameter : (n : ℕ) → bases ≤ n → n < bases + parameters → slice_index_or ways (r.slots + (n - bases)) one ≡ kept.back (Base n)
    at_parameter n least most =
        let i = n - bases in
        let behind : r.slots + i - r.slots ≡ i = omega arith in
        let same : bases + i ≡ n = omega (arith, least) in
        get_or-append_right of_slots of_parameters r.slots (r.slots + i) one many_slots (omega arith)
        ∙ ap (λ k. get_or of_parameters k one) behind
        ∙ get_or-map-range_with_len (λ k. kept.back (Base (bases + k))) 0 parameters i i one (omega (arith, least, most)) (omega arith)
        ∙ ap (λ k. kept.back (Base k)) same

    way_at : (y : Atom) → IsTrue (atom_below r.slots y) → kept.back y ≡ back_at h ways y
    way_at (Var k) low =
        let less = ltb-true k r.slots low in
        let all = many_slots in
        sym (get_or_append_left of_slots of_parameters (atom (Var k)) k (omega (arith, less, all)) ∙ get_or-map-range_with_len (λ i. kept.back (Var i)) 0 r.slots k k (atom (Var k)) less (omega arith))
    way_at (Base n) low =
        on_test (is_parameter bases parameters 0 n)
        (λ e. let range = parameter_range bases parameters n e in sym (own_base n e ∙ at_parameter n range.0 range.1))
        (λ e. state.base n ∙ leaves n e ∙ sym (other_base n e))

    abbrev partial : PartialCertificate
    partial =
        let few = asked.few in
        let within = asked.parameters_within in
        let solved = state.count in
        let back = many_ways in
        let rows_powers = many_powers in
        record {
          solution = kept_items kept.solution (omega (arith, few, solved));
          back = kept_items ways (omega (arith, few, within, back));
          divisor = kept.divisor;
          parts = kept_items powers (omega (arith, few, rows_powers));
        }

    agrees : Agrees h partial kept
    agrees = record {
      solution = refl;
      count = state.count;
      below = state.below;
      back_count = many_ways;
      back = way_at;
      divisor = refl;
      positive = state.positive;
      parts_count = many_powers;
      parts = power_at;
      narrow = All-from_get_or IsNarrow powers one (λ j less.
          let many = many_powers in
          let solved = state.count in
          let within : j < r.slots = omega (arith, less, many) in
          subst IsNarrow (power_at j within) (narrow j (omega (arith, within, solved))));
    }

    -- ---- the certificate
    abbrev units : List PowerMap
    units = general_units h g kept.solution

    abbrev order : List ℕ
    order = certificate_order h g kept.solution

    abbrev held : List ℕ
    held = held_variables h g kept.solution

    abbrev solution : List PowerMap
    solution = map (replace (by_place order)) units

    abbrev way : List PowerMap
    way = map (nth ways) order

    listed : All (λ k. IsTrue (is_listed order k)) held
    listed = (are_numbered g (r.slots + parameters) (length g.params) units (renumbered (to_number g units held)) refl refl).listed

    back : GoBack order held ways way
    back = goes_back order held ways listed

    powers_closed : All IsClosed powers
    powers_closed = All-from_get_or IsClosed powers one (λ j less n.
        let many = many_powers in
        let within : j < r.slots = omega (arith, less, many) in
        ap (λ u. power_of u (Base n)) (sym (power_at j within)) ∙ state.parts_closed j n)

    powers_below : All (VariablesBelow number) powers
    powers_below = All-from_get_or (VariablesBelow number) powers one (λ j less.
        let many = many_powers in
        let within : j < r.slots = omega (arith, less, many) in
        subst (VariablesBelow number) (power_at j within) (state.parts_below j))

    abbrev parts : List (List Part)
    parts = map parts_of powers

    abbrev certificate : Yes
    certificate = record {
      vars = length order;
      solution = solution;
      back = way;
      divisor = kept.divisor;
      parts = parts;
      rigid = cond (nat_eq parameters 0) [] (map (replace (λ _. one)) kept.solution);
    }

    valid : AreNarrow (returned solution way) (length solution) → IsCertified
    valid all = record {
      result = Ok certificate;
      some = λ e. cc e;
      made = valid_yes bases parameters r asked partial kept agrees reached at s so way back parts (all_exponents powers powers_closed) (all_named number powers powers_closed powers_below) all certificate refl refl refl (length-map order (nth ways)) refl refl refl;
      tidy = λ declared.
          tidy_yes bases parameters r.slots rows number kept reached declared partial agrees order way (λ n all. ways_declared n ways order all) certificate refl refl
          (all_tidy number powers asked.number powers_closed powers_below) refl;
    }

    past : IsPastAmong (returned solution way) (length solution) → IsCertified
    past w = record {
      result = Err (stop.CertRange w.past.number);
      some = λ e. cc e;
      made = end_passes bases parameters r asked partial kept agrees reached at s so way back (stop.CertRange w.past.number) (w.index, w.within, w.past.stands, w.past.passes);
      tidy = λ declared. tt;
    }

    by_return : IsCertified
    by_return =
        elim (all_narrow_or_past (returned solution way) (length solution)) [
          | inl all ↦ valid all
          | inr w ↦ past w
        ]

  of_passes : Passes rows starts → IsCertified
  of_passes w = record { result = Err (stop.CertRange w.number); some = λ e. cc e; made = inl w.passes; tidy = λ declared. tt }

  pub certified : IsCertified
  certified =
      let w = judged_solved bases parameters r.slots at g r.list.items.items s so in
      elim (subst (λ end. Ends rows starts end ⊎ Passes rows starts) w.solves (rows_end bases parameters r.slots r.list.items.items)) [
        | inl after ↦ by_return after.kept (subst (λ n. IsReached rows starts n after.kept) long after.reached) after.narrow
        | inr passes ↦ of_passes passes
      ]
