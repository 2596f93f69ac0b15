use Rattle.std.proofs.Common.{◌≡◌, ◌-◌, ◌∙◌, ap, refl, sym, subst, length, take, drop}
use Rattle.std.proofs.lemmas.List.{take_rest}
use Rattle.um_tree.specs.ValueTree.{record_value, values_in_order}
use Rattle.um_cells.specs.Stores.{AllDenote, HaveValues}
use Rattle.um_eval.specs.declared.frame.Collection.TheVariants as collection
use Rattle.um_eval.specs.Variables.{own_of, callers_of}
use Rattle.um_eval.specs.Progress.{frames_of}
use Rattle.um_eval.proofs.Resuming.{values_there, made_leads}
use Rattle.um_eval.proofs.evaluator.Evaluator.make_record.Goals as goal

pub make_record-requires : goal.make_record-requires
make_record-requires c =
    let m = c.args.self.now in
    let (fs, whole, n, h) = c.requires.all in
    let same : take (length c.deref.result.now - c.args.first) (drop c.args.first c.deref.result.now) ≡ drop c.args.first m.values.items = take_rest c.deref.result.now c.args.first ∙ ap (drop c.args.first) c.deref.ensures.value in
    subst (λ ws. HaveValues m.store ws) (sym same) (values_there fs m.store (callers_of m.scope) (own_of m.scope) m.values.items m.budget (frames_of m) whole (collection.Rec c.args.r) c.args.first n h)

pub returns-in-Ok : goal.returns-in-Ok
returns-in-Ok c = λ fs whole n h.
    let m = c.args.self.now in
    let same : take (length c.deref.result.now - c.args.first) (drop c.args.first c.deref.result.now) ≡ drop c.args.first m.values.items = take_rest c.deref.result.now c.args.first ∙ ap (drop c.args.first) c.deref.ensures.value in
    c.give.ensures fs whole n
    (made_leads fs m.store (callers_of m.scope) (own_of m.scope) m.values.items m.budget (frames_of m) whole (collection.Rec c.args.r) c.args.first n c.make_record.new.self c.truncate.new.self.items c.in-Ok.word (λ vs. record_value c.args.r (values_in_order vs)) c.truncate.ensures.items c.make_record.ensures.keeps
    (λ vs d. c.in-Ok.ensures.denotes vs (subst (λ ws. AllDenote m.store ws vs) (sym same) d))
    (λ vs. refl) h)
