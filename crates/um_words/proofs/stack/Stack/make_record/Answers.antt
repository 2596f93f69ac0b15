use Rattle.std.proofs.Common.{◌≡◌, ◌-◌, ◌∙◌, ap, length, sym, subst, take, drop}
use Rattle.std.proofs.lemmas.List.{take_rest}
use Rattle.um_tree.specs.ValueTree.{record_value, values_in_order}
use Rattle.um_cells.specs.Denotes.{DenoteEach}
use Rattle.um_cells.proofs.Denoting.{retained_each}
use Rattle.um_cells.proofs.WellFormed.{hold_kept}
use Rattle.um_words.proofs.Taken.{denote_drop}
use Rattle.um_words.proofs.Settled.{values_held}
use Rattle.um_words.proofs.stack.Stack.make_record.Goals as goal

pub make_record-requires : goal.make_record-requires
make_record-requires c = values_held c.args.self.now c.args.at _ (take_rest c.deref.result.now c.args.at ∙ ap (drop c.args.at) c.deref.ensures.value)

pub invariant_of-self : goal.invariant_of-self
invariant_of-self c = record { held = hold_kept c.args.self.now.store.cells.items c.make_record.new.self.cells.items c.args.self.now.words.items c.args.self.now.store.formed c.make_record.ensures.keeps c.args.self.now.held }

pub settle-requires-clause-value : goal.settle-requires-clause-value
settle-requires-clause-value c =
    let (vs, h) = values_held c.args.self.now c.args.at _ (take_rest c.deref.result.now c.args.at ∙ ap (drop c.args.at) c.deref.ensures.value) in
    (record_value c.args.record_number (values_in_order vs), c.in-Ok.ensures.denotes vs h)

pub returns-in-Ok-clause-value : goal.returns-in-Ok-clause-value
returns-in-Ok-clause-value c = λ vs h.
    let s = c.args.self.now.store.cells.items in
    let same : take (length c.deref.result.now - c.args.at) (drop c.args.at c.deref.result.now) ≡ drop c.args.at c.args.self.now.words.items = take_rest c.deref.result.now c.args.at ∙ ap (drop c.args.at) c.deref.ensures.value in
    let top = subst (λ ws. DenoteEach s ws (drop c.args.at vs)) (sym same) (denote_drop s c.args.at c.args.self.now.words.items vs h) in
    c.settle.ensures.value vs (record_value c.args.record_number (values_in_order (drop c.args.at vs))) (retained_each s c.make_record.new.self.cells.items c.make_record.ensures.keeps c.args.self.now.words.items vs h) (c.in-Ok.ensures.denotes (drop c.args.at vs) top)
