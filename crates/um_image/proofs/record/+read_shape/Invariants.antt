use Rattle.um_image.proofs.record.+read_shape.Given as goal

abbrev pub decreases-read_shape : goal.decreases-read_shape
decreases-read_shape l = l.levels
