use Rattle.std.proofs.Common.{◌≡◌, true, false, Some, None, sym, ◌∙◌, rules}
use Rattle.um_sizes.specs.Parts.{cut}
use Rattle.um_sizes.proofs.BaseScales.{set_next, set_last}
use Rattle.um_sizes.proofs.read.set_sizes.Goals as goal

pub returns-then-not-set_size : goal.returns-then-not-set_size
returns-then-not-set_size c =
    let l = c.parts in
    let here : cut 44 l.rest.now ≡ Some (c.in-Some.part.now, c.in-Some.more.now) = sym c.in-Some.ensures in
    let no : c.set_size.result ≡ false = search rules in
    let next = set_next c.args.bases.now l.scales c.set_size.new.scales l.rest.now c.in-Some.part.now c.in-Some.more.now c.set_size.result here c.set_size.ensures.set in
    l.invariant.behind ∙ rw no at next

pub parts-preserved : goal.parts-preserved
parts-preserved c =
    let l = c.parts in
    let here : cut 44 l.rest.now ≡ Some (c.in-Some.part.now, c.in-Some.more.now) = sym c.in-Some.ensures in
    let yes : c.set_size.result ≡ true = search rules in
    let next = set_next c.args.bases.now l.scales c.set_size.new.scales l.rest.now c.in-Some.part.now c.in-Some.more.now c.set_size.result here c.set_size.ensures.set in
    record { behind = l.invariant.behind ∙ rw yes at next; many = c.set_size.ensures.many; text = search rules }

pub returns : goal.returns
returns c =
    let l = c.parts in
    let last : cut 44 l.rest.now ≡ None = rw c.in_default.is at (sym c.cut.ensures) in
    l.invariant.behind ∙ set_last c.args.bases.now l.scales c.set_size-2.new.scales l.rest.now c.set_size-2.result last c.set_size-2.ensures.set
