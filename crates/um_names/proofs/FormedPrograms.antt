-- The program of a text that was read is formed.
use Rattle.std.proofs.Common.{◌≡◌, ℕ, ◌≤◌, ◌+◌, List, [], ◌∷◌, ◌++◌, length, subst, arith, Ok, length-append}
use Rattle.um_tree.specs.ProgramTree.{ProgramTree}
use Rattle.um_tree.specs.Formed.{IsFormed}
use Rattle.um_tree.specs.RawTree.{DeclSyntax, base_syntax, short_syntax, record_decl_syntax, function_syntax}
use Rattle.um_measures.specs.Faults.{and_then, unless_taken}
use Rattle.um_measures.specs.Known.{Known, nothing, is_taken, record_names, function_names, field_names, measure_unit}
use Rattle.um_measures.specs.UnitNames.{resolved_unit}
use Rattle.um_names.specs.Resolution.{resolved_program}
use Rattle.um_names.specs.Resolution.{resolved_record_decl, resolved_function, with_base, with_short, with_record, with_function, resolved_decl, resolved_decls, resolution}
use Rattle.um_names.specs.Readable.{IsReadDecl, AreReadDecls, functions_in, IsReadable}
use Rattle.um_names.proofs.FormedUnits.{measure_in, resolved_unit_in}
use Rattle.um_names.proofs.FormedTypes.{then_found}
use Rattle.um_names.proofs.FormedNames.{fresh-distinct, names-append}
use Rattle.um_names.proofs.FormedDecls.{IsSound, nothing_sound, not_taken, base_sound, short_sound, record_sound}
use Rattle.um_names.proofs.FormedFunctions.{function_sound}

-- what is known is formed, with no more declared than this
record IsStage (known : Known) (many functions : ℕ) : Type 0 where
  pub sound : IsSound known
  pub bases : length known.program.bases ≤ many
  pub records : length known.program.records ≤ many
  pub functions_are : length known.program.functions ≤ functions

stage_on : (known : Known) (d : DeclSyntax) (after : Known) (m n : ℕ) → IsStage known m n → IsReadDecl d → resolved_decl known d ≡ Ok after → IsStage after (m + 1) (n + functions_in (d ∷ []))
stage_on known (base_syntax at x) after m n s r e =
    let w = then_found (unless_taken (is_taken known x) at) (λ _. Ok (with_base known x)) after e in
    let same : with_base known x ≡ after = cc (w.2) in
    subst (λ k. IsStage k (m + 1) (n + 0)) same (record {
      sound = base_sound known x s.sound r (not_taken (is_taken known x) at w.0 w.1);
      bases = (let l = length-append known.program.bases (x ∷ []) in let b = s.bases in omega (arith, l, b));
      records = (let b = s.records in omega (arith, b));
      functions_are = (let b = s.functions_are in omega (arith, b));
    })
stage_on known (short_syntax at x u) after m n s r e =
    let w = then_found (unless_taken (is_taken known x) at) (λ _. and_then (resolved_unit (measure_unit known) [] u) (λ v. Ok (with_short known x v))) after e in
    let v = then_found (resolved_unit (measure_unit known) [] u) (λ v. Ok (with_short known x v)) after w.2 in
    let same : with_short known x (v.0) ≡ after = cc (v.2) in
    subst (λ k. IsStage k (m + 1) (n + 0)) same (record {
      sound = short_sound known x v.0 s.sound (resolved_unit_in (measure_unit known) [] (length known.program.bases) (λ y. measure_in known y s.sound.closed) u v.0 v.1);
      bases = (let b = s.bases in omega (arith, b));
      records = (let b = s.records in omega (arith, b));
      functions_are = (let b = s.functions_are in omega (arith, b));
    })
stage_on known (record_decl_syntax at x vs fs) after m n s r e =
    let w = then_found (resolved_record_decl known at x vs fs) (λ d. Ok (with_record known d)) after e in
    let same : with_record known (w.0) ≡ after = cc (w.2) in
    subst (λ k. IsStage k (m + 1) (n + 0)) same (record {
      sound = record_sound known at x vs fs w.0 s.sound r w.1;
      bases = (let b = s.bases in omega (arith, b));
      records = (let l = length-append known.program.records (w.0 ∷ []) in let b = s.records in omega (arith, l, b));
      functions_are = (let b = s.functions_are in omega (arith, b));
    })
stage_on known (function_syntax f) after m n s r e =
    let w = then_found (resolved_function known f) (λ g. Ok (with_function known g)) after e in
    let same : with_function known (w.0) ≡ after = cc (w.2) in
    subst (λ k. IsStage k (m + 1) (n + (0 + 1))) same (record {
      sound = function_sound known f s.sound r w.0 w.1;
      bases = (let b = s.bases in omega (arith, b));
      records = (let b = s.records in omega (arith, b));
      functions_are = (let l = length-append known.program.functions (w.0 ∷ []) in let b = s.functions_are in omega (arith, l, b));
    })

one_first : (d : DeclSyntax) (ds : List DeclSyntax) → functions_in (d ∷ ds) ≡ functions_in (d ∷ []) + functions_in ds
one_first (base_syntax at x) ds = omega arith
one_first (short_syntax at x u) ds = omega arith
one_first (record_decl_syntax at x vs fs) ds = omega arith
one_first (function_syntax f) ds = omega arith

stages_on : (known : Known) (ds : List DeclSyntax) (after : Known) (m n : ℕ) → IsStage known m n → AreReadDecls ds → resolved_decls known ds ≡ Ok after → IsStage after (m + length ds) (n + functions_in ds)
stages_on known [] after m n s r e =
    let same : known ≡ after = cc e in
    subst (λ k. IsStage k (m + 0) (n + 0)) same (record {
      sound = s.sound;
      bases = (let b = s.bases in omega (arith, b));
      records = (let b = s.records in omega (arith, b));
      functions_are = (let b = s.functions_are in omega (arith, b));
    })
stages_on known (d ∷ ds) after m n s r e =
    let w = then_found (resolved_decl known d) (λ k. resolved_decls k ds) after e in
    let rest = stages_on w.0 ds after (m + 1) (n + functions_in (d ∷ [])) (stage_on known d w.0 m n s r.0 w.1) r.1 w.2 in
    let first = one_first d ds in
    record {
      sound = rest.sound;
      bases = (let b = rest.bases in omega (arith, b));
      records = (let b = rest.records in omega (arith, b));
      functions_are = (let b = rest.functions_are in omega (arith, b, first));
    }

pub resolution_formed : (ds : List DeclSyntax) (p : ProgramTree) → IsReadable ds → resolved_program ds ≡ Ok p → IsFormed p
resolution_formed ds p r e =
    let w = then_found (resolution ds) (λ known. Ok known.program) p e in
    let s = stages_on nothing ds w.0 0 0 (record { sound = nothing_sound; bases = omega arith; records = omega arith; functions_are = omega arith }) r.each w.1 in
    let sound = s.sound in
    let q = (w.0).program in
    let same : q ≡ p = cc (w.2) in
    subst IsFormed same (record {
      few_bases = (let b = s.bases in let f = r.few in omega (arith, b, f));
      few_records = (let b = s.records in let f = r.few in omega (arith, b, f));
      few_functions = (let b = s.functions_are in let f = r.few_functions in omega (arith, b, f));
      names = names-append q.bases (record_names q.records) sound.names_of_bases sound.names_of_records;
      once = fresh-distinct (q.bases ++ record_names q.records) sound.once;
      names_of_fields = sound.names_of_fields;
      fields_once = fresh-distinct (field_names q.records) sound.fields_once;
      names_of_functions = sound.names_of_functions;
      functions_once = fresh-distinct (function_names q.functions) sound.functions_once;
      records = sound.records;
      functions = sound.functions;
    })
