-- Words on which the definitions are tried.
use Rattle.std.proofs.Common.{◌≡◌, true, false, [], ◌∷◌, codes, None, Some, refl}
use Rattle.um_syntax.specs.Numeral.{Whole, Decimal, Ratio}
use Rattle.um_sizes.specs.Parts.{cut, parts_of}
use Rattle.um_sizes.specs.NumberTexts.{are_digits, numeral_in, number_in}
use Rattle.um_sizes.specs.NameTexts.{is_reserved}
use Rattle.um_sizes.specs.ScaleWords.{size_in, are_once}

two_parts : parts_of (codes "m=100,s=1r60") ≡ codes "m=100" ∷ codes "s=1r60" ∷ []
two_parts = refl

-- a comma at the end has an empty part behind it, which is no size
empty_part : parts_of (codes "m=1,") ≡ codes "m=1" ∷ [] ∷ []
empty_part = refl

empty_is_none : size_in [] ≡ None
empty_is_none = refl

no_equal : size_in (codes "m") ≡ None
no_equal = refl

-- the first `=` and the first point decide
first_equal : cut 61 (codes "m=1=2") ≡ Some (codes "m", codes "1=2")
first_equal = refl

digits : numeral_in (codes "100") ≡ Whole (codes "100")
digits = refl

point : numeral_in (codes "2.50") ≡ Decimal (codes "2") (codes "50")
point = refl

over : numeral_in (codes "1r60") ≡ Ratio (codes "1") (codes "60")
over = refl

two_points : number_in (codes "1.2.3") ≡ None
two_points = refl

point_and_over : number_in (codes "1.2r3") ≡ None
point_and_over = refl

no_digits_behind : number_in (codes "1.") ≡ None
no_digits_behind = refl

no_sign : number_in (codes "-1") ≡ None
no_sign = refl

no_space : are_digits (codes "1 ") ≡ false
no_space = refl

many_digits : number_in (codes "000000000000000000000000000000000000001") ≡ None
many_digits = refl

reserved_word : is_reserved (codes "num") ≡ true
reserved_word = refl

names_twice : are_once (codes "m" ∷ codes "s" ∷ codes "m" ∷ []) ≡ false
names_twice = refl

names_once : are_once (codes "m" ∷ codes "s" ∷ []) ≡ true
names_once = refl
