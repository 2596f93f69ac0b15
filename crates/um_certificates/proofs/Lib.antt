mod NumberedTexts
mod Examples
