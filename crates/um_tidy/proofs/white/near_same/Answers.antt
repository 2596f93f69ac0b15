use Rattle.std.proofs.Common.{not, eqb, w8, arith}
use Rattle.std.proofs.lemmas.Simd.{length-chunk, bitmask_splat}
use lib.Lanes.{chunk}
use Rattle.um_tidy.proofs.Whites.{near_same_is}
use Rattle.um_tidy.proofs.white.near_same.Goals as goal

pub returns-clause-within : goal.returns-clause-within
returns-clause-within c =
    let bytes = c.args.bytes.now in
    let at = c.args.at in
    (near_same_is bytes at c.args.byte _ _ c.requires (bitmask_splat w8 (λ a b. not (eqb a b)) (chunk at 16 bytes) 16 c.args.byte (length-chunk at 16 bytes c.requires) (omega arith)) c.first_set.ensures).within

pub returns-clause-same : goal.returns-clause-same
returns-clause-same c =
    let bytes = c.args.bytes.now in
    let at = c.args.at in
    (near_same_is bytes at c.args.byte _ _ c.requires (bitmask_splat w8 (λ a b. not (eqb a b)) (chunk at 16 bytes) 16 c.args.byte (length-chunk at 16 bytes c.requires) (omega arith)) c.first_set.ensures).same
