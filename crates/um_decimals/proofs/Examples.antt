-- Decimal numbers of a few fractions: the nearest number by its parts.
use Rattle.std.proofs.Common.{◌≡◌, ◌*◌, refl}
use Rattle.um_decimals.specs.Decimals.{nearest}

-- of 0 and 1 the even one, of 1 and 2, of 2 and 3
half : nearest 1 2 ≡ 0
half = refl

three_halves : nearest 3 2 ≡ 2
three_halves = refl

five_halves : nearest 5 2 ≡ 2
five_halves = refl

-- 5/1000 at two digits: of 0.00 and 0.01 the even one; 15/1000: of 0.01 and 0.02
five_thousandths : nearest (5 * 100) 1000 ≡ 0
five_thousandths = refl

fifteen_thousandths : nearest (15 * 100) 1000 ≡ 2
fifteen_thousandths = refl

-- 100 m in feet of 3048/10000 m, at four digits
hundred_metres : nearest (1250000 * 10000) 3810 ≡ 3280840
hundred_metres = refl
