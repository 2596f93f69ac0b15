-- The names of a program are short: none is longer than its text.
use Rattle.std.proofs.Common.{ℕ, ◌≤◌, List, length, arith}
use Rattle.std.specs.Prelude.{All}
use Rattle.std.proofs.lemmas.List.Elements.{All-weaker}
use Rattle.um_tree.specs.ProgramTree.{FieldTree, RecordTree, FunctionTree}
use Rattle.um_front.proofs.NamesWithin.{names_within}
use Rattle.um_image.specs.Laws.{IsShortName, HasShortNames}
use Rattle.um_front.specs.Stages.{ShapedTree, IsShapedText}

module _ (bytes : List ℕ) (few : length bytes ≤ 1048576) where
  short : (name : List ℕ) → length name ≤ length bytes → IsShortName name
  short name h = omega (arith, h, few)

  short_field : (f : FieldTree) → length f.name ≤ length bytes → IsShortName f.name
  short_field f h = short f.name h

  short_record : (d : RecordTree) → (length d.name ≤ length bytes) × All (λ (f : FieldTree). length f.name ≤ length bytes) d.fields → IsShortName d.name × All (λ (f : FieldTree). IsShortName f.name) d.fields
  short_record d h = (short d.name h.0, All-weaker (λ (f : FieldTree). length f.name ≤ length bytes) (λ (f : FieldTree). IsShortName f.name) short_field d.fields h.1)

  short_function : (f : FunctionTree) → length f.name ≤ length bytes → IsShortName f.name
  short_function f h = short f.name h

pub short_names : (bytes : List ℕ) (s : ShapedTree) → IsShapedText bytes s → HasShortNames s.program
short_names bytes s is =
    let n = length bytes in
    let few = is.written.short in
    let within = names_within bytes is.written.tokens is.raw s.program is.written.lexed is.written.read is.resolved in record {
      records = All-weaker (λ (d : RecordTree). (length d.name ≤ n) × All (λ (f : FieldTree). length f.name ≤ n) d.fields) (λ (d : RecordTree). IsShortName d.name × All (λ (f : FieldTree). IsShortName f.name) d.fields) (short_record bytes few) s.program.records within.records;
      functions = All-weaker (λ (f : FunctionTree). length f.name ≤ n) (λ (f : FunctionTree). IsShortName f.name) (short_function bytes few) s.program.functions within.functions;
    }
