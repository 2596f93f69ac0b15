use Rattle.std.proofs.Common.{◌∷◌, ◌+◌, refl, sym, subst, map}
use Rattle.um_tree.specs.ProgramTree.{function_tree}
use Rattle.um_eval.specs.declared.next.Next.TheVariants as next
use Rattle.um_eval.specs.Variables.{own_of, callers_of}
use Rattle.um_eval.specs.Tasks.{Evaluate, Give}
use Rattle.um_eval.specs.Progress.{Leads, Within, Goes, frames_of}
use Rattle.um_eval.proofs.Resuming.{left_leads, and_leads, or_leads, test_leads, inner_within, inner_leads, body_within, returned_leads}
use Rattle.um_eval.proofs.Running.{either_goes}
use Rattle.um_eval.proofs.evaluator.Evaluator.resume.Goals as goal

pub returns-in-Operand : goal.returns-in-Operand
returns-in-Operand c = λ whole n h.
    let m = c.args.self.now in
    let fs = map function_tree c.args.functions.now in
    let at = subst (λ f. Within fs m (f ∷ frames_of m) (Give m.value) whole (n + 1)) c.in-Operand.is h in
    c.apply.ensures fs whole n at

pub returns-in-Left : goal.returns-in-Left
returns-in-Left c = λ whole n h.
    let m = c.args.self.now in
    let fs = map function_tree c.args.functions.now in
    let at = subst (λ f. Within fs m (f ∷ frames_of m) (Give m.value) whole (n + 1)) c.in-Left.is h in
    c.begin.ensures fs whole n (left_leads fs m.store (callers_of m.scope) (own_of m.scope) m.values.items m.budget (frames_of m) whole m.value n c.in-Left.op c.in-Left.y at)

pub combine-requires : goal.combine-requires
combine-requires c =
    let (whole, n, h) = c.requires in
    let m = c.args.self.now in
    let fs = map function_tree c.args.functions.now in
    let at = subst (λ f. Within fs m (f ∷ frames_of m) (Give m.value) whole n) c.in-Right.is h in
    (fs, whole, n, at)

pub returns-in-Right : goal.returns-in-Right
returns-in-Right c = λ whole n h.
    let m = c.args.self.now in
    let fs = map function_tree c.args.functions.now in
    let at = subst (λ f. Within fs m (f ∷ frames_of m) (Give m.value) whole (n + 1)) c.in-Right.is h in
    c.combine.ensures fs whole n at

pub returns-in-LeftOfAnd : goal.returns-in-LeftOfAnd
returns-in-LeftOfAnd c = λ whole n h.
    let m = c.args.self.now in
    let fs = map function_tree c.args.functions.now in
    let at = subst (λ f. Within fs m (f ∷ frames_of m) (Give m.value) whole (n + 1)) c.in-LeftOfAnd.is h in
    subst (λ x. Goes fs m x whole n) (sym c.either.ensures)
    (either_goes fs m c.truth.result (next.Evaluate c.in-LeftOfAnd.y) next.Give (Evaluate c.in-LeftOfAnd.y) (Give m.value) whole n refl refl
    (and_leads fs m.store (callers_of m.scope) (own_of m.scope) m.values.items m.budget (frames_of m) whole m.value n c.in-LeftOfAnd.y c.truth.result c.truth.ensures at))

pub returns-in-LeftOfOr : goal.returns-in-LeftOfOr
returns-in-LeftOfOr c = λ whole n h.
    let m = c.args.self.now in
    let fs = map function_tree c.args.functions.now in
    let at = subst (λ f. Within fs m (f ∷ frames_of m) (Give m.value) whole (n + 1)) c.in-LeftOfOr.is h in
    subst (λ x. Goes fs m x whole n) (sym c.either-in-LeftOfOr.ensures)
    (either_goes fs m c.truth-in-LeftOfOr.result next.Give (next.Evaluate c.in-LeftOfOr.y) (Give m.value) (Evaluate c.in-LeftOfOr.y) whole n refl refl
    (or_leads fs m.store (callers_of m.scope) (own_of m.scope) m.values.items m.budget (frames_of m) whole m.value n c.in-LeftOfOr.y c.truth-in-LeftOfOr.result c.truth-in-LeftOfOr.ensures at))

pub returns-in-Test : goal.returns-in-Test
returns-in-Test c = λ whole n h.
    let m = c.args.self.now in
    let fs = map function_tree c.args.functions.now in
    let at = subst (λ f. Within fs m (f ∷ frames_of m) (Give m.value) whole (n + 1)) c.in-Test.is h in
    subst (λ x. Goes fs m x whole n) (sym c.either-in-Test.ensures)
    (either_goes fs m c.truth-in-Test.result (next.Evaluate c.in-Test.x) (next.Evaluate c.in-Test.y) (Evaluate c.in-Test.x) (Evaluate c.in-Test.y) whole n refl refl
    (test_leads fs m.store (callers_of m.scope) (own_of m.scope) m.values.items m.budget (frames_of m) whole m.value n c.in-Test.x c.in-Test.y c.truth-in-Test.result c.truth-in-Test.ensures at))

pub returns-in-Bound : goal.returns-in-Bound
returns-in-Bound c = λ whole n h.
    let m = c.args.self.now in
    let fs = map function_tree c.args.functions.now in
    let at = subst (λ f. Within fs m (f ∷ frames_of m) (Give m.value) whole (n + 1)) c.in-Bound.is h in
    c.bind.ensures fs whole n at

pub returns-in-Matched : goal.returns-in-Matched
returns-in-Matched c = λ whole n h.
    let m = c.args.self.now in
    let fs = map function_tree c.args.functions.now in
    let at = subst (λ f. Within fs m (f ∷ frames_of m) (Give m.value) whole (n + 1)) c.in-Matched.is h in
    c.split.ensures fs whole n at

pub cut-requires : goal.cut-requires
cut-requires c =
    let (whole, n, h) = c.requires in
    let m = c.args.self.now in
    let fs = map function_tree c.args.functions.now in
    let at = subst (λ f. Within fs m (f ∷ frames_of m) (Give m.value) whole n) c.in-Inner.is h in
    inner_within fs m.store (callers_of m.scope) (own_of m.scope) m.values.items m.budget (frames_of m) whole m.value n c.in-Inner.outside n at

pub returns-in-Inner : goal.returns-in-Inner
returns-in-Inner c = λ whole n h.
    let m = c.args.self.now in
    let fs = map function_tree c.args.functions.now in
    let at = subst (λ f. Within fs m (f ∷ frames_of m) (Give m.value) whole (n + 1)) c.in-Inner.is h in
    subst (λ ws. Leads fs m.store ws (own_of c.cut.new.self) m.values.items m.budget (frames_of m) (Give m.value) whole n) (sym c.cut.ensures.callers)
    (inner_leads fs m.store (callers_of m.scope) (own_of m.scope) m.values.items m.budget (frames_of m) whole m.value n c.in-Inner.outside (own_of c.cut.new.self) c.cut.ensures.own at)

pub go_on-requires : goal.go_on-requires
go_on-requires c =
    let (whole, n, h) = c.requires in
    let m = c.args.self.now in
    let fs = map function_tree c.args.functions.now in
    let at = subst (λ f. Within fs m (f ∷ frames_of m) (Give m.value) whole n) c.in-Item.is h in
    (whole, n, at)

pub returns-in-Item : goal.returns-in-Item
returns-in-Item c = λ whole n h.
    let m = c.args.self.now in
    let fs = map function_tree c.args.functions.now in
    let at = subst (λ f. Within fs m (f ∷ frames_of m) (Give m.value) whole (n + 1)) c.in-Item.is h in
    c.go_on.ensures whole n at

pub close-requires : goal.close-requires
close-requires c =
    let (whole, n, h) = c.requires in
    let m = c.args.self.now in
    let fs = map function_tree c.args.functions.now in
    let at = subst (λ f. Within fs m (f ∷ frames_of m) (Give m.value) whole n) c.in-Body.is h in
    body_within fs m.store (callers_of m.scope) (own_of m.scope) m.values.items m.budget (frames_of m) whole m.value c.in-Body.base c.in-Body.field-1 c.in-Body.field-2 n at

pub returns-in-Body : goal.returns-in-Body
returns-in-Body c = λ whole n h.
    let m = c.args.self.now in
    let fs = map function_tree c.args.functions.now in
    let at = subst (λ f. Within fs m (f ∷ frames_of m) (Give m.value) whole (n + 1)) c.in-Body.is h in
    returned_leads fs m.store (callers_of m.scope) (own_of m.scope) m.values.items m.budget (frames_of m) whole m.value c.in-Body.base c.in-Body.field-1 c.in-Body.field-2 n (callers_of c.close.new.self) (own_of c.close.new.self) c.close.ensures.own c.close.ensures.callers at
