use Rattle.std.proofs.Common.{◌≡◌, ◌*◌, ◌-◌, ◌/◌, ◌%◌, ◌≤◌, length, Some, arith, ◌∙◌, sym, ap}
use Rattle.std.specs.Option.{option_copied}
use Rattle.std.specs.Prelude.{slice_get}
use Rattle.um_syntax.proofs.BlockLists.{after_blocks, got, in_block}
use Rattle.um_syntax.proofs.tokens.TokenBlocks.get.Goals as goal

pub returns-in-Some : goal.returns-in-Some
returns-in-Some c =
    let k = c.args.k in
    let whole = c.self.inside.whole.items in
    let last = c.self.inside.last.items in
    let block = c.in-Some.block.now in
    let found = got c.deref.result.now (k / 256) c.get.result c.get.ensures.lookup.1 c.get.ensures.lookup.3 in
    let here : slice_get whole (k / 256) ≡ Some block = sym (ap (λ ts. slice_get ts (k / 256)) c.deref.ensures.value) ∙ sym found ∙ ap option_copied c.in-Some.is in
    let taken = got c.deref-in-Some.result.now (k % 256) c.get-in-Some.result c.get-in-Some.ensures.lookup.1 c.get-in-Some.ensures.lookup.3 in
    taken ∙ ap (λ ts. slice_get ts (k % 256)) c.deref-in-Some.ensures.value
    ∙ sym (in_block whole last k (k / 256) (k % 256) block c.self.invariant.0 (omega arith) (omega arith) here) ∙ ap (λ ts. slice_get ts k) c.self.view_is

pub returns-in-None : goal.returns-in-None
returns-in-None c =
    let k = c.args.k in
    let whole = c.self.inside.whole in
    let last = c.self.inside.last.items in
    let past : length whole.items * 256 ≤ k = omega (arith, ap length c.deref.ensures.value, c.in-None.ensures.lookup) in
    let place : k - c.len.result * 256 ≡ k - length whole.items * 256 = omega (arith, c.len.ensures, whole.ok.0) in
    let taken = got c.deref-in-None.result.now (k - c.len.result * 256) c.get-in-None.result c.get-in-None.ensures.lookup.1 c.get-in-None.ensures.lookup.3 in
    taken ∙ ap (λ ts. slice_get ts (k - c.len.result * 256)) c.deref-in-None.ensures.value ∙ ap (slice_get last) place
    ∙ sym (after_blocks whole.items last k c.self.invariant.0 past) ∙ ap (λ ts. slice_get ts k) c.self.view_is
