use Rattle.std.proofs.Common.{◌≡◌, ◌+◌, ℕ, length, map, [], ◌++◌, Ok, Err, ap, subst, arith, rules}
use Rattle.um_tree.specs.TypeTree.{note_tree}
use Rattle.um_tree.specs.ExprTree.{expr_tree}
use Rattle.um_tree.specs.ProgramTree.{record_tree, result_tree}
use Rattle.um_uses.specs.Holes.{notes_holes, result_holes}
use Rattle.um_slots.specs.Contexts.{callee_in, whole_keys}
use Rattle.um_slots.specs.Keys.{name_keys, notes_keys, result_keys, expr_keys}
use Rattle.um_slots.specs.Slotting.{StopsSlots, HaveSlots, with_keys}
use Rattle.um_slots.proofs.TableLaws.{slots_both, slots_stop, slots_all}
use Rattle.um_slots.proofs.numbering.number_slots.Goals as goal

pub returns-in_err-names_slots-clause-slots : goal.returns-in_err-names_slots-clause-slots
returns-in_err-names_slots-clause-slots c =
    let environment = c.args.environment.now in
    let records = map record_tree environment.records.now in
    let callee = callee_in environment in
    let definition = c.args.definition.now in
    let units = definition.units in
    let params = map note_tree definition.params.now in
    let note = result_tree definition.result.now in
    let body = expr_tree definition.body.now in
    let empty = c.new-slots.result in
    let table = c.new-slots.ensures.table in
    let none : length empty.holes.items ≡ 0 = ap length c.new-slots.ensures.empty in
    let n = notes_holes params in
    let m = n + result_holes note in
    let names = name_keys 0 units in
    let a = notes_keys 0 params in
    let b = result_keys n note in
    let d = expr_keys records callee m body in
    let first = c.names_slots.new.slots in
    let err = c.in_err-names_slots.field-0.0 in
    let stops : StopsSlots (with_keys [] (whole_keys records callee units params note body)) err =
    slots_stop names (a ++ (b ++ d)) empty first err c.in_err-names_slots.ensures.slots [] table in
    search (rules, stops)

pub returns-in_err-notes_slots-clause-slots : goal.returns-in_err-notes_slots-clause-slots
returns-in_err-notes_slots-clause-slots c =
    let environment = c.args.environment.now in
    let records = map record_tree environment.records.now in
    let callee = callee_in environment in
    let definition = c.args.definition.now in
    let units = definition.units in
    let params = map note_tree definition.params.now in
    let note = result_tree definition.result.now in
    let body = expr_tree definition.body.now in
    let empty = c.new-slots.result in
    let table = c.new-slots.ensures.table in
    let none : length empty.holes.items ≡ 0 = ap length c.new-slots.ensures.empty in
    let n = notes_holes params in
    let m = n + result_holes note in
    let names = name_keys 0 units in
    let a = notes_keys 0 params in
    let b = result_keys n note in
    let d = expr_keys records callee m body in
    let first = c.names_slots.new.slots in
    let named = c.in_ok-names_slots.ensures.slots in
    let had = c.in_ok-names_slots.ensures.counted in
    let still : length first.holes.items ≡ 0 = omega (arith, had, none) in
    let one = c.notes_slots.new.slots in
    let err = c.in_err-notes_slots.field-0.0 in
    let noted : HaveSlots a first one (Err err) = subst (λ (k : ℕ). HaveSlots (notes_keys k params) first one (Err err)) still c.in_err-notes_slots.ensures.slots in
    let stops : StopsSlots (with_keys [] (whole_keys records callee units params note body)) err =
    slots_both names (a ++ (b ++ d)) empty first one tt (Err err) named (slots_stop a (b ++ d) first one err noted) [] table in
    search (rules, stops)

pub returns-in_err-result_slots-clause-slots : goal.returns-in_err-result_slots-clause-slots
returns-in_err-result_slots-clause-slots c =
    let environment = c.args.environment.now in
    let records = map record_tree environment.records.now in
    let callee = callee_in environment in
    let definition = c.args.definition.now in
    let units = definition.units in
    let params = map note_tree definition.params.now in
    let note = result_tree definition.result.now in
    let body = expr_tree definition.body.now in
    let empty = c.new-slots.result in
    let table = c.new-slots.ensures.table in
    let none : length empty.holes.items ≡ 0 = ap length c.new-slots.ensures.empty in
    let n = notes_holes params in
    let m = n + result_holes note in
    let names = name_keys 0 units in
    let a = notes_keys 0 params in
    let b = result_keys n note in
    let d = expr_keys records callee m body in
    let first = c.names_slots.new.slots in
    let named = c.in_ok-names_slots.ensures.slots in
    let had = c.in_ok-names_slots.ensures.counted in
    let still : length first.holes.items ≡ 0 = omega (arith, had, none) in
    let one = c.notes_slots.new.slots in
    let noted : HaveSlots a first one (Ok tt) = subst (λ (k : ℕ). HaveSlots (notes_keys k params) first one (Ok tt)) still c.in_ok-notes_slots.ensures.slots in
    let grown = c.in_ok-notes_slots.ensures.counted in
    let counted : length one.holes.items ≡ n = omega (arith, grown, still) in
    let two = c.result_slots.new.slots in
    let err = c.in_err-result_slots.field-0.0 in
    let last : HaveSlots b one two (Err err) = subst (λ (k : ℕ). HaveSlots (result_keys k note) one two (Err err)) counted c.in_err-result_slots.ensures.slots in
    let stops : StopsSlots (with_keys [] (whole_keys records callee units params note body)) err =
    slots_both names (a ++ (b ++ d)) empty first two tt (Err err) named (slots_both a (b ++ d) first one two tt (Err err) noted (slots_stop b d one two err last)) [] table in
    search (rules, stops)

pub returns-in_err-expr_slots-clause-slots : goal.returns-in_err-expr_slots-clause-slots
returns-in_err-expr_slots-clause-slots c =
    let environment = c.args.environment.now in
    let records = map record_tree environment.records.now in
    let callee = callee_in environment in
    let definition = c.args.definition.now in
    let units = definition.units in
    let params = map note_tree definition.params.now in
    let note = result_tree definition.result.now in
    let body = expr_tree definition.body.now in
    let empty = c.new-slots.result in
    let table = c.new-slots.ensures.table in
    let none : length empty.holes.items ≡ 0 = ap length c.new-slots.ensures.empty in
    let n = notes_holes params in
    let m = n + result_holes note in
    let names = name_keys 0 units in
    let a = notes_keys 0 params in
    let b = result_keys n note in
    let d = expr_keys records callee m body in
    let first = c.names_slots.new.slots in
    let named = c.in_ok-names_slots.ensures.slots in
    let had = c.in_ok-names_slots.ensures.counted in
    let still : length first.holes.items ≡ 0 = omega (arith, had, none) in
    let one = c.notes_slots.new.slots in
    let noted : HaveSlots a first one (Ok tt) = subst (λ (k : ℕ). HaveSlots (notes_keys k params) first one (Ok tt)) still c.in_ok-notes_slots.ensures.slots in
    let grown = c.in_ok-notes_slots.ensures.counted in
    let counted : length one.holes.items ≡ n = omega (arith, grown, still) in
    let two = c.result_slots.new.slots in
    let last : HaveSlots b one two (Ok tt) = subst (λ (k : ℕ). HaveSlots (result_keys k note) one two (Ok tt)) counted c.in_ok-result_slots.ensures.slots in
    let more = c.in_ok-result_slots.ensures.counted in
    let both : length two.holes.items ≡ m = omega (arith, more, counted) in
    let three = c.expr_slots.new.slots in
    let err = c.in_err-expr_slots.field-0.0 in
    let rest : HaveSlots d two three (Err err) = subst (λ (k : ℕ). HaveSlots (expr_keys records callee k body) two three (Err err)) both c.in_err-expr_slots.ensures.slots in
    let stops : StopsSlots (with_keys [] (whole_keys records callee units params note body)) err =
    slots_all names a b d empty first one two three tt tt tt (Err err) named noted last rest [] table in
    search (rules, stops)

pub returns-clause-slots : goal.returns-clause-slots
returns-clause-slots c =
    let environment = c.args.environment.now in
    let records = map record_tree environment.records.now in
    let callee = callee_in environment in
    let definition = c.args.definition.now in
    let units = definition.units in
    let params = map note_tree definition.params.now in
    let note = result_tree definition.result.now in
    let body = expr_tree definition.body.now in
    let empty = c.new-slots.result in
    let table = c.new-slots.ensures.table in
    let none : length empty.holes.items ≡ 0 = ap length c.new-slots.ensures.empty in
    let n = notes_holes params in
    let m = n + result_holes note in
    let names = name_keys 0 units in
    let a = notes_keys 0 params in
    let b = result_keys n note in
    let d = expr_keys records callee m body in
    let first = c.names_slots.new.slots in
    let named = c.in_ok-names_slots.ensures.slots in
    let had = c.in_ok-names_slots.ensures.counted in
    let still : length first.holes.items ≡ 0 = omega (arith, had, none) in
    let one = c.notes_slots.new.slots in
    let noted : HaveSlots a first one (Ok tt) = subst (λ (k : ℕ). HaveSlots (notes_keys k params) first one (Ok tt)) still c.in_ok-notes_slots.ensures.slots in
    let grown = c.in_ok-notes_slots.ensures.counted in
    let counted : length one.holes.items ≡ n = omega (arith, grown, still) in
    let two = c.result_slots.new.slots in
    let last : HaveSlots b one two (Ok tt) = subst (λ (k : ℕ). HaveSlots (result_keys k note) one two (Ok tt)) counted c.in_ok-result_slots.ensures.slots in
    let more = c.in_ok-result_slots.ensures.counted in
    let both : length two.holes.items ≡ m = omega (arith, more, counted) in
    let three = c.expr_slots.new.slots in
    let rest : HaveSlots d two three (Ok tt) = subst (λ (k : ℕ). HaveSlots (expr_keys records callee k body) two three (Ok tt)) both c.in_ok-expr_slots.ensures.slots in
    slots_all names a b d empty first one two three tt tt tt (Ok tt) named noted last rest [] table
