-- The exit status of each ending; 18 is none.
-- Source: this project's own numbers.
use Rattle.std.specs.Prelude.{ℕ}
use Rattle.um_reports.specs.declared.status.Status.{Status}
use Rattle.um_reports.specs.declared.status.Status.TheVariants.{Done, Usage, TooLong, Utf8, Lexical, Syntax, Limit}
use Rattle.um_reports.specs.declared.status.Status.TheVariants.{Names, Shape, Units, PowerRange, Input, Trap, BudgetEnd}
use Rattle.um_reports.specs.declared.status.Status.TheVariants.{ScaleRange, ReadFault, WriteFault, NoMemory}
use Rattle.um_reports.specs.declared.status.Status.TheVariants.{NotGeneral, NotConform, CertRange, BadImage}

abbrev pub number_of : Status → ℕ
number_of Done = 0
number_of Usage = 1
number_of TooLong = 2
number_of Utf8 = 3
number_of Lexical = 4
number_of Syntax = 5
number_of Limit = 6
number_of Names = 7
number_of Shape = 8
number_of Units = 9
number_of PowerRange = 10
number_of Input = 11
number_of Trap = 12
number_of BudgetEnd = 13
number_of ScaleRange = 14
number_of ReadFault = 15
number_of WriteFault = 16
number_of NoMemory = 17
number_of NotGeneral = 19
number_of NotConform = 20
number_of CertRange = 21
number_of BadImage = 22
