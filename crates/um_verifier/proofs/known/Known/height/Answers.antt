use Rattle.std.proofs.Common.{sym, ap, ◌∙◌, ◌+◌, ℕ}
use Rattle.um_stacks.specs.FlatShapes.{item_shape}
use Rattle.um_verifier.specs.KnownImages.{known_heights}
use Rattle.um_verifier.proofs.Taken.{height_in_lists}
use Rattle.um_verifier.proofs.known.Known.height.Goals as goal

pub returns : goal.returns
returns c =
    ap (λ (n : ℕ). c.args.shape.lists + n) c.item_height.ensures.height ∙ sym (height_in_lists (known_heights c.args.self.now) c.args.shape.lists (item_shape c.args.shape.item))
