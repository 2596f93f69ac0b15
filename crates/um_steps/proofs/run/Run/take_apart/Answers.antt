use Rattle.std.proofs.Common.{rules, ◌≡◌, ◌+◌, ◌++◌, ◌∷◌, [], Some, subst, take}
use Rattle.um_cells.specs.declared.word.ListCase.TheVariants.{Empty, Items}
use Rattle.um_cells.specs.Operations.{TakenApart}
use Rattle.um_machine.specs.Machine.{stuck, goes}
use Rattle.um_steps.specs.Going.{state_of}
use Rattle.um_steps.proofs.Acted.{no_list, empty_list, full_list, same_step}
use Rattle.um_steps.proofs.run.Run.take_apart.Goals as goal

pub returns-in-Some-Empty-clause-step : goal.returns-in-Some-Empty-clause-step
returns-in-Some-Empty-clause-step c = λ code vs v h k.
    let m = c.args.self.now in
    let low = take c.args.at vs in
    let is : c.args.list ≡ Some Empty = search rules in
    same_step code c.arrive.new.self _ (goes code (state_of m vs) low c.args.t) c.arrive.result (empty_list m.stack.store _ _ v (subst (λ x. TakenApart m.stack.store v x) is k)) (c.arrive.ensures.step code vs low (h.0, c.cut.ensures.values vs h.1))

pub settle_two-requires-clause-first : goal.settle_two-requires-clause-first
settle_two-requires-clause-first c =
    let s = c.args.self.now.stack.store in
    let (v, k) = c.requires.list in
    let is : c.args.list ≡ Some (Items c.in-Some-Items.first c.in-Some-Items.others) = search rules in
    let (x, u, p, q, e) = full_list s stuck (λ h u. stuck) v c.in-Some-Items.first c.in-Some-Items.others (subst (λ x. TakenApart s v x) is k) in
    (x, p)

pub settle_two-requires-clause-second : goal.settle_two-requires-clause-second
settle_two-requires-clause-second c =
    let s = c.args.self.now.stack.store in
    let (v, k) = c.requires.list in
    let is : c.args.list ≡ Some (Items c.in-Some-Items.first c.in-Some-Items.others) = search rules in
    let (x, u, p, q, e) = full_list s stuck (λ h u. stuck) v c.in-Some-Items.first c.in-Some-Items.others (subst (λ x. TakenApart s v x) is k) in
    (u, q)

pub returns-in-Ok-clause-step : goal.returns-in-Ok-clause-step
returns-in-Ok-clause-step c = λ code vs v h k.
    let m = c.args.self.now in
    let s = m.stack.store in
    let low = take c.args.at vs in
    let is : c.args.list ≡ Some (Items c.in-Some-Items.first c.in-Some-Items.others) = search rules in
    let (x, u, p, q, e) = full_list s (goes code (state_of m vs) low c.args.t) (λ x u. goes code (state_of m vs) (low ++ x ∷ u ∷ []) (m.at + 1)) v c.in-Some-Items.first c.in-Some-Items.others (subst (λ x. TakenApart s v x) is k) in
    same_step code c.go_on.new.self _ (goes code (state_of m vs) (low ++ x ∷ u ∷ []) (m.at + 1)) c.go_on.result e (c.go_on.ensures.step code vs (low ++ x ∷ u ∷ []) (h.0, c.in-Ok.ensures.values vs x u h.1 p q))

pub returns-in-None-clause-step : goal.returns-in-None-clause-step
returns-in-None-clause-step c = λ code vs v h k.
    let s = c.args.self.now.stack.store in
    no_list s _ _ v (subst (λ l. TakenApart s v l) c.in-None.is k)
