-- Images as bytes: what small ones come to, and where bytes are refused.
use Rattle.std.proofs.Common.{◌≡◌, refl, ℕ, pos, negsuc, List, [], ◌∷◌, ◌++◌, codes, Err}
use lib.Signed.{le_z_yes}
use Rattle.um_frac.specs.declared.number.Frac.{Frac}
use Rattle.um_frac.proofs.Gcd.{gcd-one}
use Rattle.um_tree.specs.TypeTree.{num_shape, list_shape, record_shape, bool_type, list_type}
use Rattle.um_machine.specs.declared.op.Op.TheVariants.{PushNum, Ret, MakeRec, Pow}
use Rattle.um_verify.specs.ImageTree.{ImageTree}
use Rattle.um_image.specs.Encoding.{written, forbidden, shape_items, op_items, field_items, image_bytes}
use Rattle.um_image.specs.Places.{IsBadAt}
use Rattle.um_image.specs.Reading.{number_at, letters_at, truth_at, shape_at, records_at, functions_at, name_at, text_at, op_at, form_at, operands_at, last_functions_at, image_at}
use Rattle.um_image.proofs.Formats.{IsBytes}
use Rattle.um_image.proofs.ReadLaws.{read_refused}

one : Frac
one = record {
  num = pos 1;
  den = pos 1;
  positive = le_z_yes tt;
  den_fits = le_z_yes tt;
  above = le_z_yes tt;
  num_fits = le_z_yes tt;
  lowest = gcd-one 1;
}

-- the image of `let k = 1`
k_is_one : ImageTree
k_is_one = record {
  records = [];
  heads = record { name = codes "k"; params = []; result = num_shape } ∷ [];
  code = record { ops = PushNum one ∷ Ret ∷ []; entries = record { start = 0; end = 2; params = 0 } ∷ [] };
}

its_bytes : image_bytes k_is_one
    ≡ 85 ∷ 77 ∷ 73 ∷ 49 ∷ 0 ∷ 0 ∷ 0 ∷ 0 ∷ 0 ∷ 0 ∷ 0 ∷ 1 ∷ 0 ∷ 0 ∷ 0 ∷ 1 ∷ 107 ∷ 0 ∷ 0 ∷ 0 ∷ 0 ∷ 1 ∷ 0 ∷ 0 ∷ 0 ∷ 2
    ∷ 0 ∷ 0 ∷ 0 ∷ 0 ∷ 0 ∷ 0 ∷ 0 ∷ 0 ∷ 1 ∷ 0 ∷ 0 ∷ 0 ∷ 0 ∷ 0 ∷ 0 ∷ 0 ∷ 1 ∷ 21 ∷ []
unfolding k_is_one one
its_bytes = refl

-- the record stands before the number of its fields, and a negative power has its complement
two_operands : op_items (MakeRec 3 258) ≡ written (17 ∷ []) ∷ written (0 ∷ 0 ∷ 0 ∷ 3 ∷ []) ∷ written (0 ∷ 0 ∷ 1 ∷ 2 ∷ []) ∷ []
two_operands = refl

negative_power : op_items (Pow (negsuc 1)) ≡ written (22 ∷ []) ∷ written (255 ∷ 255 ∷ 255 ∷ 254 ∷ []) ∷ []
negative_power = refl

-- a field's name stands before its shape
field_bytes : field_items (record { name = codes "ab"; type = list_type bool_type }) ≡ written (0 ∷ 0 ∷ 0 ∷ 2 ∷ []) ∷ written (97 ∷ 98 ∷ []) ∷ written (2 ∷ []) ∷ written (0 ∷ []) ∷ []
field_bytes = refl

-- the last level may be no list
too_high : shape_items 1 (list_shape num_shape) ≡ written (2 ∷ []) ∷ forbidden ∷ []
too_high = refl

low_enough : shape_items 2 (list_shape (record_shape 1)) ≡ written (2 ∷ []) ∷ written (3 ∷ []) ∷ written (0 ∷ 0 ∷ 0 ∷ 1 ∷ []) ∷ []
low_enough = refl

inner_is_refused : shape_at 1 (2 ∷ 1 ∷ []) ≡ Err 1
unfolding shape_at
inner_is_refused = refl

other_truth : truth_at (2 ∷ 7 ∷ []) ≡ Err 2
unfolding truth_at
other_truth = refl

-- a length that passes the end is refused at the name's bytes
long_name : name_at (0 ∷ 0 ∷ 0 ∷ 3 ∷ 97 ∷ 98 ∷ []) ≡ Err 2
unfolding name_at number_at text_at
long_name = refl

-- a number that is no instruction's, and an operand that is cut
no_op : op_at (23 ∷ 0 ∷ []) ≡ Err 2
unfolding op_at form_at
no_op = refl

cut_operand : op_at (12 ∷ 0 ∷ 0 ∷ []) ≡ Err 2
unfolding op_at form_at operands_at number_at
cut_operand = refl

-- ---- places

ten : List ℕ
ten = codes "UMI1" ++ 0 ∷ 0 ∷ 0 ∷ 0 ∷ 0 ∷ 0 ∷ []

ten_refused : image_at ten ≡ Err 2
unfolding ten image_at letters_at records_at number_at functions_at last_functions_at
ten_refused = refl

-- where the bytes end inside the second count, that is refused
bad_at_8 : IsBytes ten → IsBadAt ten 8
unfolding ten
bad_at_8 b = (read_refused ten 2 b ten_refused).0

thirteen : List ℕ
thirteen = codes "UMI1" ++ 0 ∷ 0 ∷ 0 ∷ 0 ∷ 0 ∷ 0 ∷ 0 ∷ 0 ∷ 9 ∷ []

byte_behind : image_at thirteen ≡ Err 1
unfolding thirteen image_at letters_at records_at number_at functions_at last_functions_at
byte_behind = refl
