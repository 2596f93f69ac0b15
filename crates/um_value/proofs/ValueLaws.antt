-- The machine of value texts reads their grammar, where the records are formed and the shape is over them.
use Rattle.std.proofs.Common.{◌≡◌, ◌≢◌, List, [], ◌++◌, Some, refl, sym, subst}
use Rattle.std.proofs.lemmas.List.{append-nil}
use Rattle.um_syntax.specs.declared.token.Token.{Token}
use Rattle.um_tree.specs.TypeTree.{ShapeTree}
use Rattle.um_tree.specs.ProgramTree.{RecordTree, ProgramTree}
use Rattle.um_tree.specs.Formed.{IsFormed}
use Rattle.um_reader.specs.Machine.{reached, IsReaderOf}
use Rattle.um_value.specs.ValueSyntax.{ValueSyntax}
use Rattle.um_value.specs.ValueGrammar.{Spells, IsValueText, IsShapeIn, value_height}
use Rattle.um_value.specs.ValueMachine.{Need, NoValue, value_finish, value_least, machine_of_values}
use Rattle.um_value.proofs.ValueFrom.{From}
use Rattle.um_value.proofs.ValueGoes.{runs_go, at_end}
use Rattle.um_value.proofs.ValueBack.{runs_back, end_back}
use Rattle.um_value.proofs.ValueHeights.{value_up, value_found_height}
use Rattle.um_value.proofs.ValueTexts.{shape_text, fields_in}
use Rattle.um_value.proofs.ValueEnds.{runs_in, completion}

module _ (records : List RecordTree) (s : ShapeTree) where
  -- what is wanted at the start is the whole
  from_start : (tokens : List Token) (u : ValueSyntax) → From records (Need [] s) tokens u → IsValueText records s tokens u
  from_start tokens u h = subst (λ w. Spells records w s tokens []) (sym h.3.1) (subst (λ m. Spells records h.0 s tokens m) h.3.0 h.2)

  value_is_found : (tokens : List Token) (u : ValueSyntax) → IsValueText records s tokens u → value_finish (reached (machine_of_values records s) tokens) ≡ Some u
  value_is_found tokens u is = at_end records (reached (machine_of_values records s) tokens) u (runs_go records tokens (Need [] s) u (u, [], is, (refl, refl)))

  found_is_value : (tokens : List Token) (u : ValueSyntax) → value_finish (reached (machine_of_values records s) tokens) ≡ Some u → IsValueText records s tokens u
  found_is_value tokens u e =
      from_start tokens u (subst (λ w. From records (Need [] s) w u) (append-nil tokens) (runs_back records tokens [] (Need [] s) u (end_back records (reached (machine_of_values records s) tokens) u e)))

module _ (p : ProgramTree) (formed : IsFormed p) (s : ShapeTree) (is : IsShapeIn p.records s) where
  value_ends : (tokens : List Token) → reached (machine_of_values p.records s) tokens ≢ NoValue
      → (more : List Token) × (u : ValueSyntax) × IsValueText p.records s (tokens ++ more) u × (value_height u ≡ value_least (reached (machine_of_values p.records s) tokens))
  value_ends tokens ok =
      let st = reached (machine_of_values p.records s) tokens in
      let c = completion p.records (shape_text p formed.records) st (runs_in p.records (fields_in p formed.records) tokens (Need [] s) (is, tt)) ok in
      (c.0, c.1, from_start p.records s (tokens ++ c.0) c.1 (runs_back p.records tokens c.0 (Need [] s) c.1 c.2), c.3)

  pub values_read : IsReaderOf (machine_of_values p.records s) (IsValueText p.records s) value_height
  values_read = record {
    stays = λ token. refl;
    nothing = refl;
    finds = value_is_found p.records s;
    found = found_is_value p.records s;
    completed = value_ends;
    up = value_up p.records;
    same_height = value_found_height;
  }
