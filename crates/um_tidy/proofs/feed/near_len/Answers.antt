use Rattle.std.proofs.Common.{eqb, w8, arith}
use Rattle.std.proofs.lemmas.Simd.{length-chunk, bitmask_splat}
use lib.Lanes.{chunk}
use Rattle.um_tidy.proofs.NearFeeds.{is_near}
use Rattle.um_tidy.proofs.feed.near_len.Goals as goal

pub returns-clause-within : goal.returns-clause-within
returns-clause-within c =
    let bytes = c.args.bytes.now in
    let from = c.args.from in
    let near = is_near bytes from _ _ c.requires (bitmask_splat w8 eqb (chunk from 16 bytes) 16 10 (length-chunk from 16 bytes c.requires) (omega arith)) c.first_set.ensures in
    near.within

pub returns-clause-passed : goal.returns-clause-passed
returns-clause-passed c =
    let bytes = c.args.bytes.now in
    let from = c.args.from in
    let near = is_near bytes from _ _ c.requires (bitmask_splat w8 eqb (chunk from 16 bytes) 16 10 (length-chunk from 16 bytes c.requires) (omega arith)) c.first_set.ensures in
    near.passed

pub returns-clause-ended : goal.returns-clause-ended
returns-clause-ended c =
    let bytes = c.args.bytes.now in
    let from = c.args.from in
    let near = is_near bytes from _ _ c.requires (bitmask_splat w8 eqb (chunk from 16 bytes) 16 10 (length-chunk from 16 bytes c.requires) (omega arith)) c.first_set.ensures in
    near.ended
