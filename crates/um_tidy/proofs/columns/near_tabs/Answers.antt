use Rattle.std.proofs.Common.{◌<◌, ◌==◌, eqb, sym, subst, w8, arith}
use Rattle.std.proofs.lemmas.Simd.{length-chunk, bitmask_splat}
use lib.Lanes.{chunk}
use Rattle.um_tidy.proofs.LineMargins.{mask_short}
use Rattle.um_tidy.proofs.columns.near_tabs.Goals as goal

pub returns-clause-few : goal.returns-clause-few
returns-clause-few c =
    let part = chunk c.args.at 16 c.args.bytes.now in
    let long = length-chunk c.args.at 16 c.args.bytes.now c.requires in
    subst (λ n. n < 65536) (sym (bitmask_splat w8 eqb part 16 9 long (omega arith))) (mask_short (λ b. b == 9) part long)

pub returns-clause-mask : goal.returns-clause-mask
returns-clause-mask c = bitmask_splat w8 eqb (chunk c.args.at 16 c.args.bytes.now) 16 9 (length-chunk c.args.at 16 c.args.bytes.now c.requires) (omega arith)
