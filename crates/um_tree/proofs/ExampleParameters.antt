-- Typings of functions with unit parameters: a parameter is no other unit in the body, and every unit to a caller.
use Rattle.std.proofs.Common.{◌≡◌, refl, sym, ap, ◌∙◌, inl, inr, ℕ, zero, suc, ◌<◌, ◌≤◌, ◌+◌, ◌⊎◌, false, List, [], ◌∷◌, None, slice_get, codes, arith}
use Rattle.um_units.specs.declared.Atom.{Atom}
use Rattle.um_units.specs.declared.Atom.TheVariants.{Base, Var}
use Rattle.um_units.specs.PowerMap.{PowerMap, product, atom, extension}
use Rattle.um_units.proofs.Replacement.{replace-variable, extension-mul, extension-atom}
use Rattle.um_tree.specs.declared.note.UnitNote.TheVariants.{Hole, Written}
use Rattle.um_tree.specs.declared.expression.Arith.TheVariants.{Add}
use Rattle.um_tree.specs.TypeTree.{num_type, num_note}
use Rattle.um_tree.specs.ExprTree.{ExprTree, number, local, arith as arith_tree}
use Rattle.um_tree.specs.TypeTree.{NoteTree}
use Rattle.um_tree.specs.ProgramTree.{FunctionTree, ProgramTree, Signature}
use Rattle.um_tree.specs.Typing.{parameter_unit, Typing}
use Rattle.um_tree.specs.Formed.{IsFormedFunction}
use Rattle.um_tree.proofs.ExamplePrograms.{one_number, metre, with_functions}
use Rattle.um_tree.proofs.ExampleTypings.{signature, variable, same_number, same_some, apart}

-- a function with so many unit parameters
abbrev with_parameters : ℕ → ℕ → List NoteTree → ExprTree → FunctionTree
with_parameters units named notes e = record { name = []; at = 0; recursive = false; units = units; params = notes; named = named; result = None; body = e }

-- ---- let g<'u> (x: num<'u>) (y: num<_>) = x + y: both have one unit, and that is any
abbrev both : ProgramTree
both = with_functions (with_parameters 1 1 (num_note (Written (variable 0)) ∷ num_note Hole ∷ []) (arith_tree 0 Add (local 0 0) (local 0 1)) ∷ [])

abbrev the_parameter : PowerMap
the_parameter = parameter_unit 0 0

abbrev put_for_it : PowerMap → Atom → PowerMap
put_for_it u (Base zero) = u
put_for_it u (Base (suc k)) = atom (Base (suc k))
put_for_it u (Var k) = atom (Var k)

left_alone : (u : PowerMap) (k : ℕ) → ((k < 0) ⊎ (0 + 1 ≤ k)) → extension (put_for_it u) (atom (Base k)) ≡ atom (Base k)
left_alone u zero (inl e) = absurd (omega (arith, e))
left_alone u zero (inr e) = absurd (omega (arith, e))
left_alone u (suc k) e = extension-atom (put_for_it u) (Base (suc k))

both_typed : (u : PowerMap) → Typing both 0 (signature (num_type u ∷ num_type u ∷ []) (num_type u))
both_typed u = record {
  signature = signature (num_type the_parameter ∷ num_type the_parameter ∷ []) (num_type the_parameter);
  typing = record {
    loose = record {
      choice = parameter_unit 0;
      params = (num_type the_parameter, num_type the_parameter ∷ [], (the_parameter, sym (replace-variable (parameter_unit 0) 0), refl), (num_type the_parameter, [], (the_parameter, tt, refl), refl, refl), refl);
      result = tt;
      body = (the_parameter, the_parameter, the_parameter, refl, refl, (refl, refl), refl);
    };
    rigid = λ k below. refl;
  };
  change = extension (put_for_it u);
  instantiates = record { homomorphism = extension-mul (put_for_it u); others = left_alone u };
  given = ap (λ v. signature (num_type v ∷ num_type v ∷ []) (num_type v)) (sym (extension-atom (put_for_it u) (Base 0)));
}

-- ---- let f<'u> (x: num<'u>) = x + 1<m> has no typing, though num<m> -> num<m> would be one with a choice of its unit
abbrev with_metre : ProgramTree
with_metre = record { bases = codes "m" ∷ []; records = []; functions = with_parameters 1 1 (num_note (Written (variable 0)) ∷ []) (arith_tree 0 Add (local 0 0) (number 0 one_number (Written metre))) ∷ [] }

parameter_apart : parameter_unit 1 0 ≡ metre → ⊥
unfolding product
parameter_apart = apart (parameter_unit 1 0) metre (Base 0) 0 1 refl refl (λ e. absurd (omega (arith, e)))

with_metre_refused : (g : Signature) → Typing with_metre 0 g → ⊥
with_metre_refused g m =
    let l = m.typing.loose in
    let chosen : l.params.2.0 ≡ parameter_unit 1 0 = l.params.2.1 ∙ replace-variable l.choice 0 ∙ m.typing.rigid 0 (omega arith) in
    let params = l.params.4 ∙ ap (λ t. t ∷ l.params.1) l.params.2.2 in
    let left : l.params.2.0 ≡ l.body.0 = same_number _ _ (same_some _ _ (ap (λ ts. slice_get ts 0) (sym params) ∙ l.body.3)) in
    let right : l.body.1 ≡ metre = same_number _ _ l.body.4.2 ∙ l.body.4.1 in
    parameter_apart (sym chosen ∙ left ∙ l.body.5.0 ∙ right)

-- ---- a formed function has at most four unit parameters, and no more than named variables
too_many_parameters : (p : ProgramTree) (i : ℕ) → IsFormedFunction p i (with_parameters 5 5 [] (local 0 0)) → ⊥
too_many_parameters p i w = let few = w.few_units in absurd (omega (arith, few))

parameters_without_names : (p : ProgramTree) (i : ℕ) → IsFormedFunction p i (with_parameters 2 1 [] (local 0 0)) → ⊥
parameters_without_names p i w = let few = w.units in absurd (omega (arith, few))
