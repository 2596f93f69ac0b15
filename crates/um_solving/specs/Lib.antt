-- What the answers come to, beside the judgement of a function in um_rows, and what a refusal of rows becomes.
pub mod Solving
pub mod Refusals
