-- texts with other numbers
mod Alike
mod Ends
mod Respelled
mod RespelledBytes
mod CaretTokens
mod UnitPowers
mod ExprPowers
mod Powers
mod RespelledPrograms
-- the numbers of the rescaled program
mod Picks
mod UnitsReplaced
mod TokensReplaced
mod RescaledNumbers
mod ExprSizes
mod OtherFunctions
mod ExprsReplaced
mod DeclsReplaced
mod Table
mod RescaledPrograms
-- programs without places
mod BareFaults
mod BareTypes
mod BareExprs
mod BareDecls
mod BareFaultless
mod BareSizes
mod RescaledTexts
-- their schemes
mod Changed
mod ChangedSlots
mod ChangedSteps
mod ChangedRules
mod ChangedDerivations
mod ChangedJudgements
mod ChangedPrograms
mod SameSchemes
mod Examples
