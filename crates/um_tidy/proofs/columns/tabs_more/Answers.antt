use Rattle.um_tidy.proofs.TabColumns.{tabs_few, tabs_more_is}
use Rattle.um_tidy.proofs.columns.tabs_more.Goals as goal

pub returns-clause-few : goal.returns-clause-few
returns-clause-few c = tabs_few c.args.column c.args.tabs c.requires

pub returns-clause-more : goal.returns-clause-more
returns-clause-more c = tabs_more_is c.args.column c.args.tabs c.requires
