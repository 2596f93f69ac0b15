-- The formats of names and of shapes.
use Rattle.std.proofs.Common.{◌≡◌, ◌≢◌, refl, sym, subst, ap, ◌∙◌, ℕ, zero, suc, ◌-◌, ◌^◌, ◌<◌, Bool, cond, List, [], ◌∷◌, ◌++◌, length, Result, Ok, Err, arith}
use Rattle.std.proofs.Math.Dec.{eqb-suc-zero}
use Rattle.um_tree.specs.TypeTree.{ShapeTree, bool_shape, num_shape, list_shape, record_shape}
use Rattle.um_tree.specs.Heights.{greatest_height}
use Rattle.um_image.specs.Encoding.{Item, written, forbidden, spell, four_bytes, name_items, shape_items, low_shape_items}
use Rattle.um_image.specs.Places.{IsWritten, ShapeFits}
use Rattle.um_image.specs.Reading.{◌>>=◌, number_at, text_at, name_at, shape_at, low_shape_at}
use Rattle.um_image.proofs.Formats.{same_gift, right_nil, IsFormat, IsItem, item_format, done_format, Made, made_at, made_format}
use Rattle.um_image.proofs.Chains.{Splits, chain_format}
use Rattle.um_image.proofs.ItemFormats.{own_bytes, HasLength, number_item, text_item}

format_same : {A : Type 0} (r q : List ℕ → Result (A × List ℕ) ℕ) (items : A → List Item) (Fits : A → Type 0) → ((bytes : List ℕ) → r bytes ≡ q bytes) → IsFormat r items Fits → IsFormat q items Fits
format_same {A} r q items Fits e h = subst (λ (s : List ℕ → Result (A × List ℕ) ℕ). IsFormat s items Fits) (λ i bytes. e bytes i) h

abbrev pub number_items : ℕ → List Item
number_items n = written (four_bytes n) ∷ []

abbrev pub IsSmall : ℕ → Type 0
IsSmall n = n < 2 ^ 32

pub number_format : IsFormat number_at number_items IsSmall
number_format = item_format number_at four_bytes IsSmall number_item

-- ---- names

abbrev text_items : List ℕ → List Item
text_items text = written text ∷ []

abbrev pub IsShort : List ℕ → Type 0
IsShort name = length name < 2 ^ 32

name_split : Splits number_items IsSmall (λ (n : ℕ) (name : List ℕ). text_items name) HasLength name_items IsShort
name_split = record {
  apart = λ name short. (length name, short, refl, refl);
  joined = λ n name small len. (subst IsSmall (sym len) small, (λ i. written (four_bytes (len i)) ∷ written name ∷ []));
}

pub name_format : IsFormat name_at name_items IsShort
unfolding name_at
name_format =
    chain_format number_at number_items IsSmall text_at (λ (n : ℕ) (name : List ℕ). text_items name) HasLength name_items IsShort number_format
    (λ n small. item_format (text_at n) own_bytes (HasLength n) (text_item n))
    name_split

-- ---- shapes

-- the number of a shape
abbrev tag_at : List ℕ → Result (ℕ × List ℕ) ℕ
tag_at [] = Err 0
tag_at (zero ∷ rest) = Ok (0, rest)
tag_at (suc zero ∷ rest) = Ok (1, rest)
tag_at (suc (suc zero) ∷ rest) = Ok (2, rest)
tag_at (suc (suc (suc zero)) ∷ rest) = Ok (3, rest)
tag_at (suc (suc (suc (suc b))) ∷ rest) = Err (suc (length rest))

abbrev tag_bytes : ℕ → List ℕ
tag_bytes b = b ∷ []

abbrev IsTag : ℕ → Type 0
IsTag b = b < 4

tag_taken : (bytes : List ℕ) (b : ℕ) (rest : List ℕ) → tag_at bytes ≡ Ok (b, rest) → IsTag b × (bytes ≡ tag_bytes b ++ rest)
tag_taken [] b rest e = absurd cc
tag_taken (zero ∷ r) b rest e = let s = same_gift 0 b r rest e in (subst IsTag s.0 (omega arith), (λ i. s.0 i ∷ s.1 i))
tag_taken (suc zero ∷ r) b rest e = let s = same_gift 1 b r rest e in (subst IsTag s.0 (omega arith), (λ i. s.0 i ∷ s.1 i))
tag_taken (suc (suc zero) ∷ r) b rest e = let s = same_gift 2 b r rest e in (subst IsTag s.0 (omega arith), (λ i. s.0 i ∷ s.1 i))
tag_taken (suc (suc (suc zero)) ∷ r) b rest e = let s = same_gift 3 b r rest e in (subst IsTag s.0 (omega arith), (λ i. s.0 i ∷ s.1 i))
tag_taken (suc (suc (suc (suc c))) ∷ r) b rest e = absurd cc

tag_given : (b : ℕ) (rest : List ℕ) → IsTag b → tag_at (tag_bytes b ++ rest) ≡ Ok (b, rest)
tag_given zero rest f = refl
tag_given (suc zero) rest f = refl
tag_given (suc (suc zero)) rest f = refl
tag_given (suc (suc (suc zero))) rest f = refl
tag_given (suc (suc (suc (suc b)))) rest f = absurd (omega arith)

tag_refused : (bytes : List ℕ) (left : ℕ) → tag_at bytes ≡ Err left → left ≡ length bytes
tag_refused [] left e = cc
tag_refused (zero ∷ r) left e = absurd cc
tag_refused (suc zero ∷ r) left e = absurd cc
tag_refused (suc (suc zero) ∷ r) left e = absurd cc
tag_refused (suc (suc (suc zero)) ∷ r) left e = absurd cc
tag_refused (suc (suc (suc (suc c))) ∷ r) left e = cc

tag_item : IsItem tag_at tag_bytes IsTag
tag_item = record {
  taken = λ bytes b rest f e. tag_taken bytes b rest e;
  given = tag_given;
  refused = tag_refused;
  one = 0;
  one_fits = omega arith;
}

abbrev tag_items : ℕ → List Item
tag_items b = written (tag_bytes b) ∷ []

-- what stands behind it
abbrev behind_tag : (List ℕ → Result (ShapeTree × List ℕ) ℕ) → ℕ → List ℕ → Result (ShapeTree × List ℕ) ℕ
behind_tag items zero bytes = Ok (bool_shape, bytes)
behind_tag items (suc zero) bytes = Ok (num_shape, bytes)
behind_tag items (suc (suc zero)) bytes = made_at items list_shape bytes
behind_tag items (suc (suc (suc b))) bytes = made_at number_at record_shape bytes

-- level by level
abbrev level_at : ℕ → List ℕ → Result (ShapeTree × List ℕ) ℕ
level_at zero bytes = Err (length bytes)
level_at (suc n) bytes = tag_at bytes >>= λ b. behind_tag (level_at n) b.0 b.1

-- behind the last level nothing is read
pub no_levels : (bytes : List ℕ) → shape_at 0 bytes ≡ Err (length bytes)
unfolding shape_at
no_levels [] = refl
no_levels (zero ∷ r) = refl
no_levels (suc zero ∷ r) = refl
no_levels (suc (suc zero) ∷ r) = refl
no_levels (suc (suc (suc zero)) ∷ r) = refl
no_levels (suc (suc (suc (suc c))) ∷ r) = refl

levels : (n : ℕ) (bytes : List ℕ) → level_at n bytes ≡ shape_at n bytes
unfolding shape_at
levels zero bytes = sym (no_levels bytes)
levels (suc n) [] = refl
levels (suc n) (zero ∷ r) = ap (λ (b : Bool). cond b (Err (suc (length r))) (Ok (bool_shape, r))) (sym (eqb-suc-zero n))
levels (suc n) (suc zero ∷ r) = ap (λ (b : Bool). cond b (Err (suc (length r))) (Ok (num_shape, r))) (sym (eqb-suc-zero n))
levels (suc n) (suc (suc zero) ∷ r) =
    let one : n ≡ suc n - 1 = omega arith in
    ap (λ (q : Result (ShapeTree × List ℕ) ℕ). q >>= λ s. Ok (list_shape s.0, s.1)) (levels n r)
    ∙ ap (λ (m : ℕ). shape_at m r >>= λ s. Ok (list_shape s.0, s.1)) one
    ∙ ap (λ (b : Bool). cond b (Err (suc (length r))) (shape_at (suc n - 1) r >>= λ s. Ok (list_shape s.0, s.1))) (sym (eqb-suc-zero n))
levels (suc n) (suc (suc (suc zero)) ∷ r) = ap (λ (b : Bool). cond b (Err (suc (length r))) (made_at number_at record_shape r)) (sym (eqb-suc-zero n))
levels (suc n) (suc (suc (suc (suc c))) ∷ r) = refl

-- the items behind its first
abbrev behind_items : ℕ → ShapeTree → List Item
behind_items n bool_shape = []
behind_items n num_shape = []
behind_items n (list_shape s) = shape_items n s
behind_items n (record_shape r) = number_items r

abbrev BehindFits : ℕ → ShapeTree → Type 0
BehindFits zero s = s ≡ bool_shape
BehindFits (suc zero) s = s ≡ num_shape
BehindFits (suc (suc zero)) s = Made ShapeFits list_shape s
BehindFits (suc (suc (suc b))) s = Made IsSmall record_shape s

abbrev ShapeHolds : ℕ → ℕ → ShapeTree → Type 0
ShapeHolds n b s = ShapeFits s × (shape_items (suc n) s ≡ tag_items b ++ behind_items n s)

shape_split : (n : ℕ) → Splits tag_items IsTag (λ (b : ℕ) (s : ShapeTree). behind_items n s) BehindFits (shape_items (suc n)) ShapeFits
shape_split n = record { apart = apart; joined = joined } where
  apart : (s : ShapeTree) → ShapeFits s → (b : ℕ) × IsTag b × BehindFits b s × (shape_items (suc n) s ≡ tag_items b ++ behind_items n s)
  apart bool_shape f = (0, omega arith, refl, refl)
  apart num_shape f = (1, omega arith, refl, refl)
  apart (list_shape s) f = (2, omega arith, (s, f, refl), refl)
  apart (record_shape r) f = (3, omega arith, (r, f, refl), refl)

  joined : (b : ℕ) (s : ShapeTree) → IsTag b → BehindFits b s → ShapeHolds n b s
  joined zero s t e = subst (ShapeHolds n 0) (sym e) (tt, refl)
  joined (suc zero) s t e = subst (ShapeHolds n 1) (sym e) (tt, refl)
  joined (suc (suc zero)) s t (u, f, e) = subst (ShapeHolds n 2) (sym e) (f, refl)
  joined (suc (suc (suc zero))) s t (r, f, e) = subst (ShapeHolds n 3) (sym e) (f, refl)
  joined (suc (suc (suc (suc b)))) s t e = absurd (omega arith)

-- behind the last level none may stand
last_format : IsFormat (level_at zero) (shape_items zero) ShapeFits
last_format = record {
  takes = λ bytes s rest b e. absurd cc;
  again = λ s rest f w. absurd w;
  whole = λ s u others f g w e. absurd w;
  stops = λ bytes left b e. record {
    front = [];
    rest = bytes;
    one = bool_shape;
    others = forbidden ∷ [];
    fits = tt;
    begins = refl;
    have_bytes = tt;
    parts = refl;
    left_is = cc;
    no_more = λ y item more others f q p. absurd cc;
  };
  stuck = λ s front others rest b f w e n barred. stuck front others rest w e n;
  some = bool_shape;
  some_fits = tt;
} where
  stuck : (front others : List Item) (rest : List ℕ) → IsWritten front → forbidden ∷ [] ≡ front ++ others → others ≢ [] → level_at zero (spell front ++ rest) ≡ Err (length rest)
  stuck [] others rest w e n = refl
  stuck (c ∷ front) others rest w e n =
      let tails : [] ≡ front ++ others = cc in
      absurd (n (right_nil front others (sym tails)))

level_format : (n : ℕ) → IsFormat (level_at n) (shape_items n) ShapeFits
level_format zero = last_format
level_format (suc n) =
    chain_format tag_at tag_items IsTag (behind_tag (level_at n)) (λ (b : ℕ) (s : ShapeTree). behind_items n s) BehindFits (shape_items (suc n)) ShapeFits (item_format tag_at tag_bytes IsTag tag_item) (behind (level_format n)) (shape_split n)
  where
    behind : IsFormat (level_at n) (shape_items n) ShapeFits → (b : ℕ) → IsTag b → IsFormat (behind_tag (level_at n) b) (behind_items n) (BehindFits b)
    behind h zero t = done_format bool_shape (behind_items n) refl
    behind h (suc zero) t = done_format num_shape (behind_items n) refl
    behind h (suc (suc zero)) t = made_format (level_at n) (shape_items n) ShapeFits list_shape (behind_items n) (λ s. refl) h
    behind h (suc (suc (suc b))) t = made_format number_at number_items IsSmall record_shape (behind_items n) (λ r. refl) number_format

shape_format : (n : ℕ) → IsFormat (shape_at n) (shape_items n) ShapeFits
shape_format n = format_same (level_at n) (shape_at n) (shape_items n) ShapeFits (levels n) (level_format n)

pub low_shape_format : IsFormat low_shape_at low_shape_items ShapeFits
unfolding low_shape_at
low_shape_format = shape_format greatest_height
