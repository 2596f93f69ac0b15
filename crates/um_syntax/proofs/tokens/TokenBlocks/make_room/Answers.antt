use Rattle.std.proofs.Common.{◌≡◌, ◌++◌, ◌∷◌, [], length, ap, ◌∙◌, arith}
use Rattle.std.proofs.lemmas.List.{append-nil, length_push}
use Rattle.um_syntax.specs.Blocks.{joined}
use Rattle.um_syntax.proofs.BlockLists.{joined-push, whole-push}
use Rattle.um_syntax.proofs.tokens.TokenBlocks.make_room.Goals as goal

pub invariant_of-self-2 : goal.invariant_of-self-2
invariant_of-self-2 c =
    let whole = c.self.inside.whole in
    let last = c.self.inside.last in
    let same : c.replace-last.result ≡ last = c.replace-last.ensures.value in
    let pushed = c.in_ok-push.ensures.items ∙ ap (λ v. whole.items ++ v ∷ []) same in
    let full : length last.items ≡ 256 = omega (arith, last.ok.0, c.len.ensures, c.if-len-ne-BLOCK.false) in
    let few = c.if-len-ge-MOST_BLOCKS.false in
    rw pushed (whole-push whole.items last c.self.invariant.0 full, (let size = length_push whole.items last in omega (arith, size, few, whole.ok.0)))

pub returns : goal.returns
returns c =
    let whole = c.self.inside.whole in
    let last = c.self.inside.last in
    let same : c.replace-last.result ≡ last = c.replace-last.ensures.value in
    let pushed = c.in_ok-push.ensures.items ∙ ap (λ v. whole.items ++ v ∷ []) same in
    let none = ap (λ v. v.items) c.replace-last.ensures.after ∙ c.in_ok-block.ensures.items in
    ap (λ bs. joined bs ++ c.replace-last.new.dest.items) pushed ∙ ap (λ ts. joined (whole.items ++ last ∷ []) ++ ts) none
    ∙ append-nil (joined (whole.items ++ last ∷ [])) ∙ joined-push whole.items last ∙ c.self.view_is
