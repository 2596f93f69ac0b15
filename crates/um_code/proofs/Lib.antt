mod AddedLines
mod OpTexts
mod Examples
