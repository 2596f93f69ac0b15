pub mod Lines
pub mod Trimmed
pub mod Beside
pub mod GapLines
pub mod BlankLines
pub mod Encoded
pub mod Printed
pub mod GapsAgain
pub mod NearFeeds
pub mod Masks
pub mod NearEdges
pub mod PlacedComments
pub mod TabColumns
pub mod LineMargins
pub mod Margins
pub mod Whites
pub mod GapComments
mod StandAgain
pub mod Anew
mod TokensAnew
pub mod CommentsAnew
pub mod TidiedAgain
mod GlueAnew
-- the layout of a program
mod SpacedPieces
mod UnitsSpaced
mod TypesSpaced
mod ExprsSpaced
mod DeclsSpaced
mod PiecesApart
mod LayoutTidy
pub mod Alike
mod Leaves
mod AfterNumbers
pub mod TokenKinds
mod UnitsStay
mod TypesStay
mod InfixStays
mod PartsStay
mod ExprsStay
pub mod DeclsStay
mod BareLayouts
mod ProgramStays
mod Examples
