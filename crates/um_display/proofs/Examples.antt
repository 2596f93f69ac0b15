-- Words of units on which the definitions are tried.
use Rattle.std.proofs.Common.{◌≡◌, true, false, [], ◌∷◌, codes, refl}
use Rattle.um_display.specs.UnitWords.{is_other_white, is_space_at, one_space_each, texts_in}

-- a tab and the mark U+FEFF are white space other than a space
tab : is_other_white 9 ≡ true
tab = refl

mark : is_other_white 65279 ≡ true
mark = refl

space : is_other_white 32 ≡ false
space = refl

-- each run of spaces is one
spaces : one_space_each (codes "( m   s  )") ≡ codes "( m s )"
spaces = refl

first : is_space_at (codes " m") 0 ≡ true
first = refl

-- a text between two commas may be empty, which is no part
texts : texts_in (codes "J,,ft=2<m>") ≡ codes "J" ∷ [] ∷ codes "ft=2<m>" ∷ []
texts = refl

none : texts_in [] ≡ [] ∷ []
none = refl
