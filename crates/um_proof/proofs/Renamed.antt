-- What is numbered for a certificate: its variables are few, and the numbered types are those of the function, the held
-- variables and the units.
use Rattle.std.proofs.Common.{◌≡◌, ℕ, ◌+◌, ◌<◌, true, List, [], ◌∷◌, ◌++◌, map, length, Result, Ok, Err, get_or, refl, sym, ap, ◌∙◌, subst, arith, length-append}
use Rattle.std.specs.Prelude.{All, IsTrue, IfOk}
use Rattle.std.specs.List.{flat_map, range_with_len}
use Rattle.std.proofs.lemmas.Grind.{flat_map-append}
use Rattle.std.proofs.lemmas.List.{length-map, map-append}
use Rattle.std.proofs.lemmas.List.Elements.{All-nil, All-cons, All-head, All-tail, All-append, All-filter, All-from_get_or, filter_passes}
use Rattle.std.proofs.lemmas.List.FromFn.{length-range_with_len, get_or-range_with_len}
use Rattle.um_units.specs.declared.Atom.TheVariants.{Var}
use Rattle.um_units.specs.PowerMap.{PowerMap, atom, replace, nth}
use Rattle.um_units.specs.Variables.{VariablesBelow}
use Rattle.um_units.proofs.Replacement.{replace-variable}
use Rattle.um_tree.specs.TypeTree.{TypeTree, num_type}
use Rattle.um_tree.specs.Formed.{BasesBelow}
use Rattle.um_tree.specs.ProgramTree.{Signature}
use Rattle.um_tree.specs.Typing.{put, put_signature}
use Rattle.um_tree.specs.Scheme.{signature_types, unit_variables, type_variables, variables}
use Rattle.um_elim.specs.Numbering.{variable_order, by_place, renumbered}
use Rattle.um_elim.proofs.GrowingOrder.{All-front, All-back}
use Rattle.um_elim.proofs.VariablesKept.{own_below, unit_all, put_below}
use Rattle.um_kept.specs.declared.kept.Head.{Head}
use Rattle.um_proof.specs.declared.renaming.Renaming.{Renaming}
use Rattle.um_proof.specs.Renaming.{is_listed, held_below, to_number, AreNumbered, GoBack, IsRenamed, general_units, held_variables, certificate_order}
use Rattle.um_proof.proofs.HeldVariables.{in_order}

-- the held variables are below the count
pub held_low : (n : ℕ) (us : List PowerMap) → All (λ k. k < n) (held_below n us)
held_low n us = All-filter (is_listed (flat_map unit_variables us)) (λ k. k < n) (range_with_len 0 n) (All-from_get_or (λ k. k < n) (range_with_len 0 n) 0 at)
  where
    at : (i : ℕ) → i < length (range_with_len 0 n) → get_or (range_with_len 0 n) i 0 < n
    at i h =
        let low : i < n = subst (λ m. i < m) (length-range_with_len 0 n) h in
        let same : get_or (range_with_len 0 n) i 0 ≡ i = get_or-range_with_len 0 n i 0 low ∙ omega arith in
        subst (λ k. k < n) (sym same) low

-- ---- all variables are below a number that those of the units are below
module _ (n : ℕ) (us : List PowerMap) (low : All (VariablesBelow n) us) where
  types_low : (ts : List TypeTree) → All (λ k. k < length us) (variables ts) → All (λ k. k < n) (variables (map (put (nth us)) ts))
  types_low [] h = All-nil (λ k. k < n)
  types_low (t ∷ ts) h =
      All-append (λ k. k < n) (type_variables (put (nth us) t)) (variables (map (put (nth us)) ts))
      (put_below n us low t (All-front (λ k. k < length us) (type_variables t) (variables ts) h)) (types_low ts (All-back (λ k. k < length us) (type_variables t) (variables ts) h))

  variables_low : (held : List ℕ) → All (λ k. k < n) held → All (λ k. k < n) (variables (map (λ k. num_type (atom (Var k))) held))
  variables_low [] h = All-nil (λ k. k < n)
  variables_low (k ∷ ks) h =
      All-append (λ i. i < n) (unit_variables (atom (Var k))) (variables (map (λ k. num_type (atom (Var k))) ks))
      (unit_all n (atom (Var k)) (own_below n k (All-head (λ i. i < n) k ks h))) (variables_low ks (All-tail (λ i. i < n) k ks h))

  units_low : (vs : List PowerMap) → All (VariablesBelow n) vs → All (λ k. k < n) (variables (map num_type vs))
  units_low [] h = All-nil (λ k. k < n)
  units_low (v ∷ vs) h =
      All-append (λ k. k < n) (unit_variables v) (variables (map num_type vs)) (unit_all n v (All-head (VariablesBelow n) v vs h)) (units_low vs (All-tail (VariablesBelow n) v vs h))

  pub to_number_low : (g : Signature) (held : List ℕ) → All (λ k. k < length us) (variables (signature_types g)) → All (λ k. k < n) held → All (λ k. k < n) (variables (to_number g us held))
  to_number_low g held types h =
      let front = signature_types (put_signature (nth us) g) in
      let middle = map (λ k. num_type (atom (Var k))) held in
      let last = map num_type us in
      let first : All (λ k. k < n) (variables front) = subst (λ ts. All (λ k. k < n) (variables ts)) (map-append (put (nth us)) g.params (g.result ∷ [])) (types_low (signature_types g) types) in
      subst (All (λ k. k < n)) (sym (flat_map-append type_variables front (middle ++ last) ∙ ap (λ ks. variables front ++ ks) (flat_map-append type_variables middle last)))
      (All-append (λ k. k < n) (variables front) (variables middle ++ variables last) first
      (All-append (λ k. k < n) (variables middle) (variables last) (variables_low held h) (units_low us low)))

-- ---- renumbered
renamed_variables : (s : ℕ → PowerMap) (held : List ℕ) → map (put s) (map (λ k. num_type (atom (Var k))) held) ≡ map (λ k. num_type (s k)) held
renamed_variables s [] = refl
renamed_variables s (k ∷ ks) = let first = ap num_type (replace-variable s k) in let rest = renamed_variables s ks in λ i. first i ∷ rest i

renamed_units : (s : ℕ → PowerMap) (us : List PowerMap) → map (put s) (map num_type us) ≡ map num_type (map (replace s) us)
renamed_units s [] = refl
renamed_units s (u ∷ us) = ap (λ ts. num_type (replace s u) ∷ ts) (renamed_units s us)

all_listed : (n : ℕ) (us : List PowerMap) (front middle : List TypeTree) → All (λ k. IsTrue (is_listed (variable_order (front ++ (middle ++ map num_type us))) k)) (held_below n us)
all_listed n us front middle = each (held_below n us) (filter_passes (is_listed (flat_map unit_variables us)) (range_with_len 0 n))
  where
    each : (ks : List ℕ) → All (λ k. is_listed (flat_map unit_variables us) k ≡ true) ks → All (λ k. IsTrue (is_listed (variable_order (front ++ (middle ++ map num_type us))) k)) ks
    each [] h = All-nil (λ k. IsTrue (is_listed (variable_order (front ++ (middle ++ map num_type us))) k))
    each (k ∷ ks) h =
        All-cons (λ k. IsTrue (is_listed (variable_order (front ++ (middle ++ map num_type us))) k)) k ks
        (in_order front middle us k (All-head (λ k. is_listed (flat_map unit_variables us) k ≡ true) k ks h)) (each ks (All-tail (λ k. is_listed (flat_map unit_variables us) k ≡ true) k ks h))

pub are_numbered : (g : Signature) (n many : ℕ) (us : List PowerMap) (types : List TypeTree) → length g.params ≡ many → types ≡ renumbered (to_number g us (held_below n us)) →
    let order = variable_order (to_number g us (held_below n us)) in AreNumbered (many + 1) order (held_below n us) (map (replace (by_place order)) us) types
are_numbered g n many us types count e =
    let held = held_below n us in
    let front = signature_types (put_signature (nth us) g) in
    let middle = map (λ k. num_type (atom (Var k))) held in
    let order = variable_order (to_number g us held) in
    let s = by_place order in
    record {
      front = map (put s) front;
      few = length-map front (put s) ∙ (let l = length-append (map (put (nth us)) g.params) (put (nth us) g.result ∷ []) in let m = length-map g.params (put (nth us)) in omega (arith, l, m, count));
      are =
          e ∙ map-append (put s) front (middle ++ map num_type us)
          ∙ ap (λ ts. map (put s) front ++ ts) (map-append (put s) middle (map num_type us) ∙ ap (λ ts. ts ++ map (put s) (map num_type us)) (renamed_variables s held) ∙ ap (λ ts. map (λ k. num_type (s k)) held ++ ts) (renamed_units s us));
      listed = all_listed n us front middle;
    }

-- ---- together
pub is_renamed : {E : Type 0} (h : Head) (g : Signature) (units back : List PowerMap) (vars : ℕ) (result : Result Renaming E) → vars ≡ length (certificate_order h g units) → IfOk result (λ r. r.vars ≡ vars) →
    IfOk result (λ r. r.solution.items ≡ map (replace (by_place (certificate_order h g units))) (general_units h g units)) → IfOk result (λ r. GoBack (certificate_order h g units) (held_variables h g units) back r.back.items) →
    IfOk result (λ r. length r.back.items ≡ vars) → ((n : ℕ) → All (BasesBelow n) back → IfOk result (λ r. All (BasesBelow n) r.back.items)) → IfOk result (IsRenamed h g units back)
is_renamed h g units back vars (Ok r) long v s b count declared = record { vars = v ∙ long; solution = s; back = b; back_count = count ∙ sym v; declared = declared }
is_renamed h g units back vars (Err e) long v s b count declared = tt
