use Rattle.std.proofs.Common.{◌≡◌, length, take, drop, rules}
use Rattle.um_wire.proofs.Pieces.{drop-copied}
use Rattle.um_wire.proofs.copy.copy_next.Goals as goal

pub returns-clause-copied : goal.returns-clause-copied
returns-clause-copied c =
    let n = c.min-count.result in
    let is : c.copy_from_slice.new.self ≡ take n (drop c.args.at c.args.bytes.now) = search rules in
    let len : length c.copy_from_slice.new.self ≡ n = search rules in
    drop-copied _ _ _ _ n is len
