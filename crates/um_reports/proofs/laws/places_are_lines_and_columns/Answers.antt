use Rattle.um_reports.proofs.PlaceLaws.{lines_same, columns_same, places_printed}
use Rattle.um_reports.proofs.laws.places_are_lines_and_columns.Goals as goal

pub returns : goal.returns
returns c = record { line = lines_same; column = columns_same; printed = places_printed }
