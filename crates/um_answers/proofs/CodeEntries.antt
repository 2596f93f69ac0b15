-- The entries of a program's code: one for each function, each within the instructions.
use Rattle.std.proofs.Common.{◌≡◌, ℕ, suc, ◌+◌, ◌≤◌, List, [], ◌∷◌, length, length-append, refl, ap, arith}
use Rattle.std.specs.Prelude.{All}
use Rattle.std.proofs.lemmas.List.Elements.{All-nil, All-cons}
use Rattle.um_tree.specs.ProgramTree.{FunctionTree}
use Rattle.um_machine.specs.declared.code.Entry.{Entry}
use Rattle.um_gen.specs.ProgramCode.{expr_size, function_code, function_entry, functions_code, functions_entries, program_code}
use Rattle.um_gen.proofs.LaidOut.{length_function}

entries_counted : (fs : List FunctionTree) (a : ℕ) → length (functions_entries fs a) ≡ length fs
entries_counted [] a = refl
entries_counted (f ∷ fs) a = ap suc (entries_counted fs (a + expr_size f.body + 1))

abbrev pub IsWithin : ℕ → Entry → Type 0
IsWithin n e = (e.start ≤ e.end) × (e.end ≤ n)

entries_within : (fs : List FunctionTree) (a n : ℕ) → a + length (functions_code fs a) ≤ n → All (IsWithin n) (functions_entries fs a)
entries_within [] a n h = All-nil (IsWithin n)
entries_within (f ∷ fs) a n h =
    let next = a + expr_size f.body + 1 in
    let own = length_function f a in
    let all = length-append (function_code f a) (functions_code fs next) in
    let within : next + length (functions_code fs next) ≤ n = omega (arith, h, own, all) in
    All-cons (IsWithin n) (function_entry f a) (functions_entries fs next) (omega arith, omega (arith, within)) (entries_within fs next n within)

pub code_counted : (fs : List FunctionTree) → length (program_code fs).entries ≡ length fs
unfolding program_code
code_counted fs = entries_counted fs 0

pub code_within : (fs : List FunctionTree) → All (IsWithin (length (program_code fs).ops)) (program_code fs).entries
unfolding program_code
code_within fs = entries_within fs 0 (length (functions_code fs 0)) (omega arith)
