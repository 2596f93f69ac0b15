mod Nearest
mod DecimalNumbers
mod Examples
