use Rattle.std.proofs.Common.{ℕ, ap, ◌∙◌}
use Rattle.um_image.specs.Reading.{shape_at}
use Rattle.um_image.proofs.ShapeFormats.{no_levels}
use Rattle.um_image.proofs.record.+read_shape.Goals as goal

pub returns-then-levels-eq0 : goal.returns-then-levels-eq0
returns-then-levels-eq0 t c = ap (λ (n : ℕ). shape_at n c.args.bytes.now) c.if-levels-eq0.true ∙ no_levels c.args.bytes.now
