-- What is written of functions one after another.
use Rattle.std.proofs.Common.{◌≡◌, refl, sym, ap, ◌∙◌, ℕ, ◌+◌, ◌*◌, ◌^◌, ◌<◌, ◌≤◌, List, [], ◌∷◌, ◌++◌, map, drop, length, get_or, Some, slice_get, arith, append_assoc, length-append}
use Rattle.std.specs.Prelude.{option_map}
use Rattle.std.proofs.lemmas.List.{append-nil, drop_more, drop_all, length-map}
use Rattle.std.proofs.lemmas.Option.{slice_get_read, slice_get-map}
use Rattle.um_tree.specs.declared.program.Function.{Function}
use Rattle.um_tree.specs.ExprTree.{expr_tree}
use Rattle.um_tree.specs.ProgramTree.{ProgramTree, FunctionTree, function_tree}
use Rattle.um_tree.specs.Formed.{IsFormed}
use Rattle.um_machine.specs.declared.op.Op.{Op}
use Rattle.um_machine.specs.declared.code.Entry.{Entry}
use Rattle.um_gen.specs.ProgramCode.{expr_size, function_code, function_entry, functions_code, functions_entries}
use Rattle.um_gen.proofs.LaidOut.{length_function}
use Rattle.um_gen.proofs.Sizes.{few}

-- the functions from the i-th on
abbrev later : List Function → ℕ → List FunctionTree
later fs i = map function_tree (drop i fs)

later_more : (fs : List Function) (i : ℕ) (f : Function) → i < length fs → f ≡ get_or fs i f → later fs i ≡ function_tree f ∷ later fs (i + 1)
later_more fs i f h s = ap (map function_tree) (drop_more fs i f h) ∙ ap (λ g. function_tree g ∷ later fs (i + 1)) (sym s)

-- the first i functions are written
pub record AreWritten (fs : List Function) (i : ℕ) (ops : List Op) (entries : List Entry) : Type 0 where
  pub code : ops ++ functions_code (later fs i) (length ops) ≡ functions_code (later fs 0) 0
  pub listed : entries ++ functions_entries (later fs i) (length ops) ≡ functions_entries (later fs 0) 0
  pub low : length ops ≤ 60001 * i

pub written_first : (fs : List Function) → AreWritten fs 0 [] []
written_first fs = record { code = refl; listed = refl; low = omega arith }

module _ (p : ProgramTree) (fs : List Function) (formed : IsFormed p) (same : p.functions ≡ map function_tree fs) where
  declared : (i : ℕ) (f : Function) → i < length fs → f ≡ get_or fs i f → slice_get p.functions i ≡ Some (function_tree f)
  declared i f h s =
      ap (λ gs. slice_get gs i) same ∙ slice_get-map function_tree fs i ∙ ap (option_map function_tree) (slice_get_read fs (length fs) i f refl h s)

  small : (i : ℕ) (f : Function) → i < length fs → f ≡ get_or fs i f → expr_size (expr_tree f.body) ≤ 60000
  small i f h s =
      let one = formed.functions i (function_tree f) (declared i f h s) in
      omega (arith, few (expr_tree f.body), one.nodes)

  -- there is room for the next one
  pub written_room : (i : ℕ) (f : Function) (ops : List Op) (entries : List Entry) → i < length fs → f ≡ get_or fs i f → AreWritten fs i ops entries → (length ops + expr_size (expr_tree f.body) + 1 < 2 ^ 32) × (length (function_tree f).params + expr_size (expr_tree f.body) < 2 ^ 32)
  written_room i f ops entries h s w =
      let one = formed.functions i (function_tree f) (declared i f h s) in
      let many : length fs ≤ 2000 = omega (arith, formed.few_functions, ap length same, length-map fs function_tree) in
      let low = small i f h s in
      (omega (arith, w.low, many, low), omega (arith, one.few_params, low))

  pub written_next : (i : ℕ) (f : Function) (ops more_ops : List Op) (entries more_entries : List Entry) → i < length fs → f ≡ get_or fs i f → AreWritten fs i ops entries → more_ops ≡ ops ++ function_code (function_tree f) (length ops) → more_entries ≡ entries ++ function_entry (function_tree f) (length ops) ∷ [] → AreWritten fs (i + 1) more_ops more_entries
  written_next i f ops more_ops entries more_entries h s w written listed =
      let g = function_tree f in
      let a = length ops in
      let rest = later fs (i + 1) in
      let split = later_more fs i f h s in
      let long : length more_ops ≡ a + expr_size g.body + 1 = omega (arith, ap length written, length-append ops (function_code g a), length_function g a) in
      record {
        code =
            (λ k. written k ++ functions_code rest (long k))
            ∙ append_assoc ops (function_code g a) (functions_code rest (a + expr_size g.body + 1))
            ∙ ap (λ gs. ops ++ functions_code gs a) (sym split)
            ∙ w.code;
        listed =
            (λ k. listed k ++ functions_entries rest (long k))
            ∙ append_assoc entries (function_entry g a ∷ []) (functions_entries rest (a + expr_size g.body + 1))
            ∙ ap (λ gs. entries ++ functions_entries gs a) (sym split)
            ∙ w.listed;
        low = omega (arith, long, w.low, small i f h s);
      }

pub written_code : (fs : List Function) (i : ℕ) (ops : List Op) (entries : List Entry) → length fs ≤ i → AreWritten fs i ops entries → ops ≡ functions_code (map function_tree fs) 0
written_code fs i ops entries h w =
    sym (append-nil ops) ∙ ap (λ gs. ops ++ functions_code (map function_tree gs) (length ops)) (sym (drop_all i fs h)) ∙ w.code

pub written_entries : (fs : List Function) (i : ℕ) (ops : List Op) (entries : List Entry) → length fs ≤ i → AreWritten fs i ops entries → entries ≡ functions_entries (map function_tree fs) 0
written_entries fs i ops entries h w =
    sym (append-nil entries) ∙ ap (λ gs. entries ++ functions_entries (map function_tree gs) (length ops)) (sym (drop_all i fs h)) ∙ w.listed
