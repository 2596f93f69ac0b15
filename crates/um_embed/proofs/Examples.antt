-- What the definitions come to on small bytes.
use Rattle.std.proofs.Common.{◌≡◌, refl, sym, List, ℕ, [], ◌∷◌, codes}
use Rattle.std.specs.Str.{IsUtf8}
use Rattle.um_embed.specs.CommandLine.{words_in}
use Rattle.um_embed.specs.Embedded.{BeginsWith}
use Rattle.um_embed.proofs.LineWords.{words_of_text, words_of_other}

abbrev line : List ℕ
line = 102 ∷ 109 ∷ 116 ∷ 0 ∷ 0 ∷ 49 ∷ []

-- a zero byte stands between two words, and two of them have a word without bytes between them
between : IsUtf8 line → words_in line ≡ codes "fmt" ∷ [] ∷ codes "1" ∷ []
between is = sym (words_of_text line is)

none : IsUtf8 [] → words_in [] ≡ [] ∷ []
none is = sym (words_of_text [] is)

unreadable : (bytes : List ℕ) → ¬ (IsUtf8 bytes) → words_in bytes ≡ codes "?" ∷ []
unreadable bytes is_not = sym (words_of_other bytes is_not)

-- what stands after the answer stays
front : BeginsWith (1 ∷ 2 ∷ []) (7 ∷ 8 ∷ 9 ∷ []) (1 ∷ 2 ∷ 9 ∷ [])
front _ = refl
