use Rattle.std.proofs.Common.{◌∙◌}
use Rattle.std.proofs.lemmas.Result.{IfOk-weaker, on_ok_weaker}
use Rattle.um_verify.specs.ImageTree.{image_tree}
use Rattle.um_image.proofs.Spelled.{spelled_image}
use Rattle.um_image.proofs.encoding.encode.Goals as goal

pub returns-clause-bytes : goal.returns-clause-bytes
returns-clause-bytes c = IfOk-weaker c.added.result _ _ (λ bytes e. e ∙ spelled_image (image_tree c.args.image.now) c.requires.form) c.added.ensures.bytes

pub returns-clause-writable : goal.returns-clause-writable
returns-clause-writable c = on_ok_weaker c.added.result (λ fits. record { form = c.requires.form; numbers = fits }) c.added.ensures.fits
