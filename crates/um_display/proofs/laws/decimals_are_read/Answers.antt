use Rattle.um_display.proofs.ReadDecimals.{decimals_are_read}
use Rattle.um_display.proofs.laws.decimals_are_read.Goals as goal

pub returns : goal.returns
returns c = decimals_are_read
