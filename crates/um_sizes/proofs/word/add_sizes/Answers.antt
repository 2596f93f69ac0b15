use Rattle.std.proofs.Common.{◌≡◌, true, false, Some, None, sym, ap, ◌∙◌, rules}
use Rattle.std.specs.Prelude.{is_some}
use Rattle.std.proofs.lemmas.Result.{IfOk-weaker}
use Rattle.um_sizes.specs.Parts.{cut}
use Rattle.um_sizes.proofs.Adds.{add_next, add_last}
use Rattle.um_sizes.proofs.word.add_sizes.Goals as goal

pub returns-then-not-branch : goal.returns-then-not-branch
returns-then-not-branch c =
    let l = c.parts in
    let here : cut 44 l.rest.now ≡ Some (c.in-Some.part.now, c.in-Some.more.now) = sym c.in-Some.ensures in
    let no : c.in_ok-add_size.field-0 ≡ false = search rules in
    let next = add_next l.names c.add_size.new.names l.rest.now c.in-Some.part.now c.in-Some.more.now c.in_ok-add_size.field-0 here c.in_ok-add_size.ensures in
    sym (ap is_some (l.invariant.behind ∙ rw no at next))

pub parts-preserved : goal.parts-preserved
parts-preserved c =
    let l = c.parts in
    let here : cut 44 l.rest.now ≡ Some (c.in-Some.part.now, c.in-Some.more.now) = sym c.in-Some.ensures in
    let yes : c.in_ok-add_size.field-0 ≡ true = search rules in
    let next = add_next l.names c.add_size.new.names l.rest.now c.in-Some.part.now c.in-Some.more.now c.in_ok-add_size.field-0 here c.in_ok-add_size.ensures in
    record { behind = l.invariant.behind ∙ rw yes at next; text = search rules }

pub returns : goal.returns
returns c =
    let l = c.parts in
    let last : cut 44 l.rest.now ≡ None = rw c.in_default.is at (sym c.cut.ensures) in
    IfOk-weaker c.add_size-2.result _ _
    (λ b h. sym (ap is_some l.invariant.behind ∙ add_last l.names c.add_size-2.new.names l.rest.now b last h))
    c.add_size-2.ensures
