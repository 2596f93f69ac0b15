use Rattle.std.proofs.Common.{arith}
use Rattle.um_tidy.proofs.TabColumns.{columns_near, columns_far}
use Rattle.um_tidy.proofs.columns.past_near.Goals as goal

pub returns-then-len-le8 : goal.returns-then-len-le8
returns-then-len-le8 c = columns_near c.args.column c.args.len c.args.tabs c.tabs_more.result c.if-len-le8.true c.tabs_more.ensures.more

pub returns : goal.returns
returns c = columns_far c.args.column c.args.len c.args.tabs c.tabs_more-2.result c.tabs_more-3.result (omega arith) c.requires.few c.tabs_more-2.ensures.more c.tabs_more-3.ensures.more
