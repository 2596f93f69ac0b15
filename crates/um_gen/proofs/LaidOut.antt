-- The code of a program is laid out as its entries say.
use Rattle.std.proofs.Common.{◌≡◌, refl, sym, ap, ◌∙◌, ℕ, zero, suc, ◌+◌, ◌<◌, ◌≤◌, cond, List, [], ◌∷◌, ◌++◌, length, Some, None, slice_get, arith, append_assoc, length-append}
use Rattle.std.specs.Prelude.{nat_lt}
use Rattle.std.proofs.lemmas.Bool.{le-leb, lt-ltb}
use Rattle.um_tree.specs.ProgramTree.{FunctionTree}
use Rattle.um_machine.specs.declared.op.Op.{Op}
use Rattle.um_machine.specs.declared.op.Op.TheVariants.{Ret}
use Rattle.um_machine.specs.declared.code.Entry.{Entry}
use Rattle.um_machine.specs.declared.code.Code.{Code}
use Rattle.um_machine.specs.Machine.{op_at, op_within}
use Rattle.um_gen.specs.ProgramCode.{expr_size, expr_code, parameter_places, function_code, function_entry, functions_code, functions_entries, program_code}
use Rattle.um_gen.proofs.Stands.{InRow, in_front, after_code, stands, length_code}
use Rattle.um_gen.proofs.Simulation.{Compiled}

get_here : (pre post : List Op) (i : Op) (a : ℕ) → a ≡ length pre → slice_get (pre ++ i ∷ post) a ≡ Some i
get_here [] post i a e = ap (slice_get (i ∷ post)) e
get_here (x ∷ pre) post i zero e = absurd (omega arith)
get_here (x ∷ pre) post i (suc a) e = get_here pre post i a (omega arith)

module _ (code : Code) (j : ℕ) (e : Entry) (is_entry : slice_get code.entries j ≡ Some e) where
  within : (a : ℕ) → e.start ≤ a → a < e.end → op_at code j a ≡ slice_get code.ops a
  unfolding op_at
  within a lo hi =
      ap (λ en. op_within code.ops en a) is_entry ∙ ap (λ t. cond t (cond (nat_lt a e.end) (slice_get code.ops a) None) None) (le-leb e.start a lo) ∙ ap (λ t. cond t (slice_get code.ops a) None) (lt-ltb a e.end hi)

  pub rows : (is pre post : List Op) (a : ℕ) → code.ops ≡ pre ++ (is ++ post) → a ≡ length pre → e.start ≤ a → a + length is ≤ e.end → InRow code j a is
  rows [] pre post a s n lo hi = tt
  rows (i ∷ is) pre post a s n lo hi =
      (within a lo (omega arith) ∙ ap (λ l. slice_get l a) s ∙ get_here pre (is ++ post) i a n, rows is (pre ++ i ∷ []) post (a + 1) (s ∙ sym (append_assoc pre (i ∷ []) (is ++ post))) (omega (arith, length-append pre (i ∷ []))) (omega arith) (omega arith))

-- where a function's code stands among all
pub record Located (fs : List FunctionTree) (pre : List Op) (a j : ℕ) (g : FunctionTree) : Type 0 where
  pub entry : Entry
  pub before : List Op
  pub behind : List Op
  pub listed : slice_get (functions_entries fs a) j ≡ Some entry
  pub params : entry.params ≡ length g.params
  pub ends : entry.end ≡ entry.start + expr_size g.body + 1
  pub ops : pre ++ functions_code fs a ≡ before ++ (function_code g entry.start ++ behind)
  pub starts : entry.start ≡ length before

pub length_function : (g : FunctionTree) (a : ℕ) → length (function_code g a) ≡ expr_size g.body + 1
length_function g a =
    let body = expr_code g.body (parameter_places g) (length g.params) a in
    omega (arith, length-append body (Ret ∷ []), length_code g.body (parameter_places g) (length g.params) a)

pub located : (fs : List FunctionTree) (pre : List Op) (a j : ℕ) (g : FunctionTree) → a ≡ length pre → slice_get fs j ≡ Some g → Located fs pre a j g
located [] pre a zero g n h = absurd cc
located [] pre a (suc j) g n h = absurd cc
located (f ∷ fs) pre a zero g n h =
    let same : f ≡ g = cc in
    record { entry = function_entry f a; before = pre; behind = functions_code fs (a + expr_size f.body + 1); listed = refl; params = ap (λ (k : FunctionTree). length k.params) same; ends = ap (λ (k : FunctionTree). a + expr_size k.body + 1) same; ops = ap (λ k. pre ++ (function_code k a ++ functions_code fs (a + expr_size f.body + 1))) same; starts = n }
located (f ∷ fs) pre a (suc j) g n h =
    let r = located fs (pre ++ function_code f a) (a + expr_size f.body + 1) j g (omega (arith, length-append pre (function_code f a), length_function f a)) h in
    record { entry = r.entry; before = r.before; behind = r.behind; listed = r.listed; params = r.params; ends = r.ends; ops = sym (append_assoc pre (function_code f a) (functions_code fs (a + expr_size f.body + 1))) ∙ r.ops; starts = r.starts }

pub compiled : (fs : List FunctionTree) → Compiled (program_code fs) fs
unfolding program_code
compiled fs j g h =
    let r = located fs [] 0 j g refl h in
    let e = r.entry in
    let ps = parameter_places g in
    let d = length g.params in
    let row : InRow (program_code fs) j e.start (function_code g e.start) = rows (program_code fs) j e r.listed (function_code g e.start) r.before r.behind e.start r.ops r.starts (omega arith) (omega (arith, length_function g e.start, r.ends)) in
    (e, e.start + expr_size g.body, r.listed, r.params, stands (program_code fs) j g.body ps d e.start _ (in_front (program_code fs) j e.start (expr_code g.body ps d e.start) _ row) refl, (after_code (program_code fs) j g.body ps d e.start _ _ row refl).0)
