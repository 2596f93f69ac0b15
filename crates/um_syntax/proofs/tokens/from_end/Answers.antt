use Rattle.std.proofs.Common.{◌≡◌, ◌-◌, length, Some, ◌∙◌, sym, ap}
use Rattle.std.specs.Prelude.{slice_get}
use Rattle.um_syntax.proofs.BlockLists.{back_of_last, got}
use Rattle.um_syntax.proofs.tokens.from_end.Goals as goal

pub returns-in-Some : goal.returns-in-Some
returns-in-Some c =
    let blocks = c.args.blocks.now in
    let block = c.in-Some.block.now in
    let last : slice_get blocks (length blocks - 1) ≡ Some block = sym c.in-Some.ensures.value in
    let taken = got c.deref.result.now (256 - c.args.k) c.get.result c.get.ensures.lookup.1 c.get.ensures.lookup.3 in
    taken ∙ ap (λ ts. slice_get ts (256 - c.args.k)) c.deref.ensures.value ∙ sym (back_of_last blocks block c.args.k c.requires.whole last c.requires.few)
