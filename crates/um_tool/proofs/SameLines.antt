-- The lines of `types` name bases, records and functions: not their places, nor any number.
use Rattle.std.proofs.Common.{◌≡◌, ℕ, List, [], ◌∷◌, ◌++◌, codes, map, slice_get, Option, Some, None, refl, sym, ap, ◌∙◌}
use Rattle.std.specs.List.{join_by}
use Rattle.std.specs.Option.{option_map}
use Rattle.std.proofs.lemmas.Option.{slice_get-map}
use Rattle.um_frac.specs.declared.number.Frac.{Frac}
use Rattle.um_tree.specs.TypeTree.{TypeTree, bool_type, num_type, list_type, record_type}
use Rattle.um_tree.specs.ProgramTree.{RecordTree, FunctionTree, ProgramTree, SchemeTree}
use Rattle.um_tree.specs.Scheme.{signature_types}
use Rattle.um_show.specs.UnitText.{variable_text, named_unit_text}
use Rattle.um_show.specs.SchemeText.{num_text, declared_name, record_name, units_text, type_text, scheme_text}
use Rattle.um_scale.specs.RescaledLiterals.{rescaled_function, rescaled_program}
use Rattle.um_rescaled.specs.UnplacedPrograms.{unplaced_record, unplaced_function, unplaced_program}
use Rattle.um_reports.specs.Steps.{line}
use Rattle.um_answers.specs.TypesAnswer.{scheme_lines}

module _ (p q : ProgramTree) (bases : q.bases ≡ p.bases) (names : (r : ℕ) → record_name q r ≡ record_name p r) where
  same_type : (t : TypeTree) → type_text q t ≡ type_text p t
  same_type bool_type = refl
  same_type (num_type u) = λ i. num_text (named_unit_text variable_text (bases i) u) u.terms
  same_type (list_type t) = λ i. same_type t i ++ codes " list"
  same_type (record_type r us) = λ i. names r i ++ units_text variable_text (bases i) us

  same_scheme : (name : List ℕ) (s : SchemeTree) → scheme_text q name s ≡ scheme_text p name s
  same_scheme name s = λ i. name ++ codes " : " ++ join_by (λ t. same_type t i) (codes " -> ") (signature_types s.signature)

  same_lines : (change : FunctionTree → FunctionTree) → ((f : FunctionTree) → (change f).name ≡ f.name) → (fs : List FunctionTree) (schemes : List SchemeTree) → scheme_lines q (map change fs) schemes ≡ scheme_lines p fs schemes
  same_lines change kept [] schemes = refl
  same_lines change kept (f ∷ fs) [] = refl
  same_lines change kept (f ∷ fs) (s ∷ schemes) =
      let first : scheme_text q (change f).name s ≡ scheme_text p f.name s = (λ i. scheme_text q (kept f i) s) ∙ same_scheme f.name s in
      λ i. line (first i) ++ same_lines change kept fs schemes i

unplaced_name : (p : ProgramTree) (r : ℕ) → record_name (unplaced_program p) r ≡ record_name p r
unplaced_name p r = ap declared_name (slice_get-map unplaced_record p.records r) ∙ by (slice_get p.records r) where
  by : (o : Option RecordTree) → declared_name (option_map unplaced_record o) ≡ declared_name o
  by None = refl
  by (Some d) = refl

-- the lines of all functions of a program
abbrev pub all_lines : ProgramTree → List SchemeTree → List ℕ
all_lines p schemes = scheme_lines p p.functions schemes

unplaced_lines : (p : ProgramTree) (schemes : List SchemeTree) → all_lines (unplaced_program p) schemes ≡ all_lines p schemes
unplaced_lines p schemes = same_lines p (unplaced_program p) refl (unplaced_name p) unplaced_function (λ f. refl) p.functions schemes

rescaled_lines : (cs : List Frac) (p : ProgramTree) (schemes : List SchemeTree) → all_lines (rescaled_program cs p) schemes ≡ all_lines p schemes
rescaled_lines cs p schemes = same_lines p (rescaled_program cs p) refl (λ r. refl) (rescaled_function cs) (λ f. refl) p.functions schemes

-- a program that is the rescaled one but for places has the program's lines
pub lines_stay : (cs : List Frac) (p q : ProgramTree) (schemes : List SchemeTree) → unplaced_program q ≡ unplaced_program (rescaled_program cs p) → all_lines q schemes ≡ all_lines p schemes
lines_stay cs p q schemes e =
    sym (unplaced_lines q schemes) ∙ ap (λ x. all_lines x schemes) e ∙ unplaced_lines (rescaled_program cs p) schemes ∙ rescaled_lines cs p schemes
