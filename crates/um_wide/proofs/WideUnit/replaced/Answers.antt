use Rattle.std.proofs.Common.{◌≡◌, ◌*◌, ◌^◌, length, subst, arith}
use Rattle.std.specs.Prelude.{IfOk}
use Rattle.std.proofs.lemmas.Result.{IfOk-weaker}
use Rattle.um_units.specs.PowerMap.{PowerMap, product, images, nth}
use Rattle.um_wide.specs.Room.{IsWithin}
use Rattle.um_wide.proofs.Rooms.{within-weaker}
use Rattle.um_wide.proofs.WideUnit.replaced.Goals as goal

pub returns-clause-exact : goal.returns-clause-exact
returns-clause-exact c = subst (λ ts. IfOk c.product.result (λ (u : PowerMap). u ≡ product (images (nth c.args.by.now) ts))) c.terms.ensures.terms c.product.ensures.product

pub returns-clause-room : goal.returns-clause-room
returns-clause-room c =
    IfOk-weaker c.product.result (IsWithin (length c.terms.result.now * 2 ^ 62)) (IsWithin (2 ^ 126))
    (λ u h. within-weaker (length c.terms.result.now * 2 ^ 62) (2 ^ 126) u (let l = c.product.ensures.few in omega (arith, l)) h) c.product.ensures.room
