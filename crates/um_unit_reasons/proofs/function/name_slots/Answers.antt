use Rattle.std.proofs.Common.{◌≡◌, ◌<◌, ℕ, List, None, Some, map, get_or, length, slice_get, refl, sym, ap, ◌∙◌, subst, arith}
use Rattle.std.specs.Prelude.{IfOk}
use Rattle.std.specs.Option.{option_map}
use Rattle.std.proofs.lemmas.List.{length-map}
use Rattle.std.proofs.lemmas.Option.{slice_get-map, slice_get_read}
use Rattle.um_tree.specs.declared.program.Program.{Program}
use Rattle.um_tree.specs.declared.program.Scheme.{Scheme}
use Rattle.um_tree.specs.ProgramTree.{FunctionTree, function_tree, program_tree, scheme_tree}
use Rattle.um_slots.specs.Slots.{function_slots}
use Rattle.um_unit_reasons.specs.UnitReasons.{slot_in}
use Rattle.um_unit_reasons.proofs.function.name_slots.Goals as goal

pub returns : goal.returns
returns c = λ f e.
    let q = c.program-program.result.now in
    let same = c.program-program.ensures.program in
    let number = c.args.function.now.number in
    let functions = q.functions.items.items in
    let fn = c.index.result.now in
    let low : number < length (program_tree q).functions = subst (λ (x : Program). number < length (program_tree x).functions) (sym same) c.requires.few in
    let below : number < length functions = omega (arith, low, length-map functions function_tree) in
    let there = slice_get_read functions (length functions) number fn refl below c.index.ensures in
    let whole : slice_get (program_tree q).functions number ≡ Some (function_tree fn) = slice_get-map function_tree functions number ∙ ap (option_map function_tree) there in
    let both : Some (function_tree fn) ≡ Some f = sym whole ∙ subst (λ (x : Program). slice_get (program_tree x).functions number ≡ Some f) (sym same) e in
    let is : function_tree fn ≡ f = cc both in
    subst (λ (x : Program). IfOk c.declared_slots.result (λ slots. (v : ℕ) → get_or slots.items v None ≡ slot_in (function_slots (program_tree x).records (map scheme_tree c.args.schemes.now.items.items) number f) v)) same
    (subst (λ (ss : List Scheme). IfOk c.declared_slots.result (λ slots. (v : ℕ) → get_or slots.items v None ≡ slot_in (function_slots (program_tree q).records (map scheme_tree ss) number f) v)) c.deref.ensures.value
    (subst (λ (g : FunctionTree). IfOk c.declared_slots.result (λ slots. (v : ℕ) → get_or slots.items v None ≡ slot_in (function_slots (program_tree q).records (map scheme_tree c.deref.result.now) number g) v)) is c.declared_slots.ensures))
