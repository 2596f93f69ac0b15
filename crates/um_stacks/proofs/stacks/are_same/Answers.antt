use Rattle.um_stacks.specs.FlatShapes.{flat_shape}
use Rattle.um_stacks.proofs.SameShapes.{fits_both}
use Rattle.um_stacks.proofs.stacks.are_same.Goals as goal

pub returns : goal.returns
returns c = fits_both (flat_shape c.args.a) (flat_shape c.args.b) c.fits.result c.fits-2.result c.args.a.lists c.fits.ensures c.if-not-fits.false c.fits-2.ensures
