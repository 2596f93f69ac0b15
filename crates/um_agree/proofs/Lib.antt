pub mod RuleRows
pub mod AgreementRows
pub mod MadeTypes
pub mod AskedNodes
pub mod AskedLeft
pub mod RowLaws
pub mod FunctionAsked
pub mod SlotsHeld
pub mod UnitRows
pub mod RowAnswers
mod Examples
