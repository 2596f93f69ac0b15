-- Sources and lines at small bytes.
use Rattle.std.proofs.Common.{◌≡◌, refl, [], ◌∷◌, codes}
use Rattle.um_lines.specs.Sources.{program_in, calls_of, words_in}

two_lines : program_in (codes "x\n---\nf\t1\n\ng") ≡ codes "x\n"
two_lines = refl

their_lines : calls_of (codes "x\n---\nf\t1\n\ng") ≡ codes "f\t1" ∷ [] ∷ codes "g" ∷ []
their_lines = refl

-- the first mark cuts; a later one is a line of calls
twice : calls_of (codes "---\n---\n") ≡ codes "---" ∷ []
twice = refl

at_the_start : program_in (codes "---\nf\n") ≡ []
at_the_start = refl

with_returns : calls_of (codes "x\r\n---\r\nf\r\n\r\n") ≡ codes "f" ∷ [] ∷ []
with_returns = refl

-- without a line feed after it a carriage return belongs to the line
no_cut : program_in (codes "x\n---\r") ≡ codes "x\n---\r"
no_cut = refl

at_the_end : program_in (codes "x\n---") ≡ codes "x\n"
at_the_end = refl

none : calls_of (codes "x\n") ≡ []
none = refl

tabs : words_in (codes "f\t\t1\t") ≡ codes "f" ∷ [] ∷ codes "1" ∷ [] ∷ []
tabs = refl

one_tab : words_in (codes "\t") ≡ [] ∷ [] ∷ []
one_tab = refl
