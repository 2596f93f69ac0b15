-- The schemes of programs that are the same but for places, or but for the numbers before units.
use Rattle.std.proofs.Common.{◌≡◌, ℕ, List, [], ◌∷◌, map, refl, sym, ap, ◌∙◌}
use Rattle.std.specs.Option.{unwrap_or}
use Rattle.um_frac.specs.declared.number.Frac.{Frac}
use Rattle.um_tree.specs.declared.note.UnitNote.{UnitNote}
use Rattle.um_tree.specs.ExprTree.{ExprTree, ExprTrees, truth, number, local, call, negate, not_expr, pown, arith, compare, both, either, if, bind, split, nil, list_expr, cons, record_expr, field, none, more}
use Rattle.um_tree.specs.ProgramTree.{RecordTree, FunctionTree, ProgramTree}
use Rattle.um_infer.specs.Inference.{Inference, all_schemes, stops_at_slots, stops_at_range, stops_at_units, stops_at_not_general, infer}
use Rattle.um_scale.specs.RescaledLiterals.{rescaled_number, rescaled, all_rescaled, rescaled_function, rescaled_program}
use Rattle.um_rescaled.specs.UnplacedPrograms.{unplaced_expr, unplaced_exprs, unplaced_record, unplaced_function, unplaced_program}
use Rattle.um_rescaled.specs.UnplacedInferences.{unplaced_inference}
use Rattle.um_rescaled.specs.SchemeLaws.{PlacesChangeNoScheme, NumbersChangeNoScheme, RescaledProgramsHaveTheSchemes}
use Rattle.um_rescaled.proofs.Changed.{changed_record, changed, all_changed, changed_function, changed_program}
use Rattle.um_rescaled.proofs.ChangedPrograms.{placed_inference, same_inference}

-- ---- each place is 0

abbrev start : ℕ → ℕ
start at = 0

abbrev kept : Frac → UnitNote → Frac
kept c n = c

mutual
  bare : (e : ExprTree) → changed start kept e ≡ unplaced_expr e
  bare (truth at b) = refl
  bare (number at c n) = refl
  bare (local at k) = refl
  bare (call at j es) = λ i. call 0 j (all_bare es i)
  bare (negate at a) = λ i. negate 0 (bare a i)
  bare (not_expr at a) = λ i. not_expr 0 (bare a i)
  bare (pown at a k) = λ i. pown 0 (bare a i) k
  bare (arith at op a b) = λ i. arith 0 op (bare a i) (bare b i)
  bare (compare at sign a b) = λ i. compare 0 sign (bare a i) (bare b i)
  bare (both at a b) = λ i. both 0 (bare a i) (bare b i)
  bare (either at a b) = λ i. either 0 (bare a i) (bare b i)
  bare (if at c a b) = λ i. if 0 (bare c i) (bare a i) (bare b i)
  bare (bind at a b) = λ i. bind 0 (bare a i) (bare b i)
  bare (split at l a b) = λ i. split 0 (bare l i) (bare a i) (bare b i)
  bare (nil at n) = refl
  bare (list_expr at es) = λ i. list_expr 0 (all_bare es i)
  bare (cons at a b) = λ i. cons 0 (bare a i) (bare b i)
  bare (record_expr at r es) = λ i. record_expr 0 r (all_bare es i)
  bare (field at r k a) = λ i. field 0 r k (bare a i)

  all_bare : (es : ExprTrees) → all_changed start kept es ≡ unplaced_exprs es
  all_bare none = refl
  all_bare (more e es) = λ i. more (bare e i) (all_bare es i)

bare_records : (ds : List RecordTree) → map (changed_record start) ds ≡ map unplaced_record ds
bare_records [] = refl
bare_records (d ∷ ds) = λ i. unplaced_record d ∷ bare_records ds i

bare_function : (f : FunctionTree) → changed_function start kept f ≡ unplaced_function f
bare_function f = λ i. record {
  name = f.name;
  at = 0;
  recursive = f.recursive;
  units = f.units;
  params = f.params;
  named = f.named;
  result = f.result;
  body = bare f.body i;
}

bare_functions : (fs : List FunctionTree) → map (changed_function start kept) fs ≡ map unplaced_function fs
bare_functions [] = refl
bare_functions (f ∷ fs) = λ i. bare_function f i ∷ bare_functions fs i

bare_program : (p : ProgramTree) → changed_program start kept p ≡ unplaced_program p
bare_program p = λ i. record { bases = p.bases; records = bare_records p.records i; functions = bare_functions p.functions i }

bare_inference : (r : Inference) → placed_inference start r ≡ unplaced_inference r
bare_inference (all_schemes schemes) = refl
bare_inference (stops_at_slots i) = refl
bare_inference (stops_at_range i at) = refl
bare_inference (stops_at_units i row at) = refl
bare_inference (stops_at_not_general i row at) = refl

bare_infer : (p : ProgramTree) → infer (unplaced_program p) ≡ unplaced_inference (infer p)
bare_infer p = ap infer (sym (bare_program p)) ∙ same_inference start kept (λ c. refl) p ∙ bare_inference (infer p)

pub places_change_no_scheme : PlacesChangeNoScheme
places_change_no_scheme p q e = sym (bare_infer q) ∙ ap infer e ∙ bare_infer p

-- ---- each literal in other sizes

abbrev itself : ℕ → ℕ
itself at = at

module _ (cs : List Frac) where
  abbrev sized : Frac → UnitNote → Frac
  sized c n = unwrap_or (rescaled_number cs c n) c

  mutual
    scaled : (e : ExprTree) → changed itself sized e ≡ rescaled cs e
    scaled (truth at b) = refl
    scaled (number at c n) = refl
    scaled (local at k) = refl
    scaled (call at j es) = λ i. call at j (all_scaled es i)
    scaled (negate at a) = λ i. negate at (scaled a i)
    scaled (not_expr at a) = λ i. not_expr at (scaled a i)
    scaled (pown at a k) = λ i. pown at (scaled a i) k
    scaled (arith at op a b) = λ i. arith at op (scaled a i) (scaled b i)
    scaled (compare at sign a b) = λ i. compare at sign (scaled a i) (scaled b i)
    scaled (both at a b) = λ i. both at (scaled a i) (scaled b i)
    scaled (either at a b) = λ i. either at (scaled a i) (scaled b i)
    scaled (if at c a b) = λ i. if at (scaled c i) (scaled a i) (scaled b i)
    scaled (bind at a b) = λ i. bind at (scaled a i) (scaled b i)
    scaled (split at l a b) = λ i. split at (scaled l i) (scaled a i) (scaled b i)
    scaled (nil at n) = refl
    scaled (list_expr at es) = λ i. list_expr at (all_scaled es i)
    scaled (cons at a b) = λ i. cons at (scaled a i) (scaled b i)
    scaled (record_expr at r es) = λ i. record_expr at r (all_scaled es i)
    scaled (field at r k a) = λ i. field at r k (scaled a i)

    all_scaled : (es : ExprTrees) → all_changed itself sized es ≡ all_rescaled cs es
    all_scaled none = refl
    all_scaled (more e es) = λ i. more (scaled e i) (all_scaled es i)

  same_records : (ds : List RecordTree) → map (changed_record itself) ds ≡ ds
  same_records [] = refl
  same_records (d ∷ ds) = λ i. d ∷ same_records ds i

  scaled_functions : (fs : List FunctionTree) → map (changed_function itself sized) fs ≡ map (rescaled_function cs) fs
  scaled_functions [] = refl
  scaled_functions (f ∷ fs) = λ i. (record f { body = scaled f.body i }) ∷ scaled_functions fs i

  scaled_program : (p : ProgramTree) → changed_program itself sized p ≡ rescaled_program cs p
  scaled_program p = λ i. record { bases = p.bases; records = same_records p.records i; functions = scaled_functions p.functions i }

same_place : (r : Inference) → placed_inference itself r ≡ r
same_place (all_schemes schemes) = refl
same_place (stops_at_slots i) = refl
same_place (stops_at_range i at) = refl
same_place (stops_at_units i row at) = refl
same_place (stops_at_not_general i row at) = refl

pub numbers_change_no_scheme : NumbersChangeNoScheme
numbers_change_no_scheme cs p = ap infer (sym (scaled_program cs p)) ∙ same_inference itself (sized cs) (λ c. refl) p ∙ same_place (infer p)

pub rescaled_programs_have_the_schemes : RescaledProgramsHaveTheSchemes
rescaled_programs_have_the_schemes cs p q e = places_change_no_scheme (rescaled_program cs p) q e ∙ ap unplaced_inference (numbers_change_no_scheme cs p)
