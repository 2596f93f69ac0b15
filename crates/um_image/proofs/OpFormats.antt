-- The formats of instructions.
use Rattle.std.proofs.Common.{◌≡◌, refl, sym, subst, ap, ℕ, ◌==◌, Bool, true, false, cond, List, [], ◌∷◌, ◌++◌, length, map, Option, Some, None, Ok, Err, FitsSigned, w32, ℤ}
use Rattle.std.specs.List.{AllByRecursion}
use Rattle.std.proofs.lemmas.Bool.{eqb-true}
use Rattle.std.proofs.lemmas.List.Elements.{All-from_recursion, recursion_from_All}
use Rattle.um_machine.specs.declared.op.Op.{Op}
use Rattle.um_machine.specs.declared.op.Op.TheVariants.{PushNum, PushBool, Load, Add, Sub, Mul, Div, Neg, Not, Lt, Le, Eq, Jump, JumpIfNot, MakeList, Cons, Split, MakeRec, Field, Slide, Call, Ret, Pow}
use Rattle.um_machine.specs.declared.table.Operand.{Operand}
use Rattle.um_machine.specs.Table.{op_operands}
use Rattle.um_image.specs.declared.form.Form.{Form}
use Rattle.um_image.specs.declared.form.Form.TheVariants as form
use Rattle.um_image.specs.declared.form.Counted.{Counted}
use Rattle.um_image.specs.declared.form.Counted.TheVariants as counted
use Rattle.um_image.specs.Encoding.{Item, written, op_number, operand_item, op_items}
use Rattle.um_image.specs.Places.{OperandFits, OpFits}
use Rattle.um_image.specs.Reading.{found_one, found, forms, with_number, number_at, power_at, truth_at, fraction_at, form_at, operands_at, op_at}
use Rattle.um_image.proofs.Formats.{IsFormat, IsItem, item_format, done_format, Made, made_at, made_format}
use Rattle.um_image.proofs.Chains.{Splits, chain_format}
use Rattle.um_image.proofs.ItemFormats.{some_is, found_ok, power_bytes, power_item, truth_bytes, truth_item, fraction_bytes, fraction_item, IsAny}
use Rattle.um_image.proofs.ShapeFormats.{number_items, IsSmall, number_format}

-- ---- the table of forms

abbrev form_number : Form → ℕ
form_number (form.Alone i) = op_number i
form_number (form.Number c) = op_number (with_number c 0)
form_number form.Fraction = 0
form_number form.Truth = 1
form_number form.Made = 17
form_number form.Power = 22

abbrev FormHolds : Form → Type 0
FormHolds (form.Alone i) = op_operands i ≡ []
FormHolds (form.Number c) = Unit {0}
FormHolds form.Fraction = Unit {0}
FormHolds form.Truth = Unit {0}
FormHolds form.Made = Unit {0}
FormHolds form.Power = Unit {0}

abbrev Numbered : ℕ → Form → Type 0
Numbered b f = (form_number f ≡ b) × FormHolds f

numbered_table : AllByRecursion (λ (e : ℕ × Form). Numbered e.0 e.1) forms
numbered_table = ((refl, tt), ((refl, tt), ((refl, tt), ((refl, refl), ((refl, refl), ((refl, refl), ((refl, refl), ((refl, refl), ((refl, refl), ((refl, refl), ((refl, refl), ((refl, refl), ((refl, tt), ((refl, tt), ((refl, tt), ((refl, refl), ((refl, tt), ((refl, tt), ((refl, tt), ((refl, tt), ((refl, tt), ((refl, refl), ((refl, tt), tt)))))))))))))))))))))))

found_numbered : (b : ℕ) (xs : List (ℕ × Form)) (f : Form) → AllByRecursion (λ (e : ℕ × Form). Numbered e.0 e.1) xs → found b xs ≡ Some f → Numbered b f
found_numbered b [] f h e = absurd cc
found_numbered b (x ∷ xs) f h e = by (b == x.0) refl e (found_numbered b xs f h.1) where
  by : (t : Bool) → (b == x.0) ≡ t → cond t (Some x.1) (found b xs) ≡ Some f → (found b xs ≡ Some f → Numbered b f) → Numbered b f
  by true q p k =
      let same : x.1 ≡ f = some_is x.1 f p in
      subst (λ (g : Form). Numbered b g) same (subst (λ (n : ℕ). Numbered n x.1) (sym (eqb-true b x.0 q)) h.0)
  by false q p k = k p

abbrev IsForm : Form → Type 0
IsForm f = found (form_number f) forms ≡ Some f

abbrev form_bytes : Form → List ℕ
form_bytes f = form_number f ∷ []

form_taken : (bytes : List ℕ) (f : Form) (rest : List ℕ) → form_at bytes ≡ Ok (f, rest) → IsForm f × (bytes ≡ form_bytes f ++ rest)
unfolding form_at
form_taken [] f rest e = absurd cc
form_taken (b ∷ r) f rest e =
    let o = found_ok (found b forms) (b ∷ r) r f rest e in
    let n = found_numbered b forms f numbered_table o.0 in
    (subst (λ (k : ℕ). found k forms ≡ Some f) (sym n.0) o.0, (λ i. (sym n.0) i ∷ o.1 i))

form_given : (f : Form) (rest : List ℕ) → IsForm f → form_at (form_bytes f ++ rest) ≡ Ok (f, rest)
unfolding form_at
form_given f rest h = ap (λ (o : Option Form). found_one o (form_number f ∷ rest) rest) h

form_refused : (bytes : List ℕ) (left : ℕ) → form_at bytes ≡ Err left → left ≡ length bytes
unfolding form_at
form_refused [] left e = cc
form_refused (b ∷ r) left e = by (found b forms) e where
  by : (o : Option Form) → found_one o (b ∷ r) r ≡ Err left → left ≡ length (b ∷ r)
  by None q = cc
  by (Some f) q = absurd cc

form_item : IsItem form_at form_bytes IsForm
form_item = record {
  taken = λ bytes f rest b e. form_taken bytes f rest e;
  given = form_given;
  refused = form_refused;
  one = form.Power;
  one_fits = refl;
}

abbrev form_items : Form → List Item
form_items f = written (form_bytes f) ∷ []

-- ---- what stands behind a form

abbrev operand_items : Op → List Item
operand_items i = map operand_item (op_operands i)

abbrev BehindForm : Form → Op → Type 0
BehindForm (form.Alone i) op = op ≡ i
BehindForm (form.Number c) op = Made IsSmall (with_number c) op
BehindForm form.Fraction op = Made IsAny PushNum op
BehindForm form.Truth op = Made IsAny PushBool op
BehindForm form.Made op = (r : ℕ) × IsSmall r × Made IsSmall (MakeRec r) op
BehindForm form.Power op = Made (λ (k : ℤ). FitsSigned w32 k) Pow op

with_number_items : (c : Counted) (n : ℕ) → operand_items (with_number c n) ≡ number_items n
with_number_items counted.Load n = refl
with_number_items counted.Jump n = refl
with_number_items counted.JumpIfNot n = refl
with_number_items counted.MakeList n = refl
with_number_items counted.Split n = refl
with_number_items counted.Field n = refl
with_number_items counted.Slide n = refl
with_number_items counted.Call n = refl

abbrev second_items : Op → List Item
second_items i = behind (operand_items i) where
  behind : List Item → List Item
  behind [] = []
  behind (x ∷ xs) = xs

made_split : Splits number_items IsSmall (λ (r : ℕ) (op : Op). second_items op) (λ (r : ℕ). Made IsSmall (MakeRec r)) operand_items (BehindForm form.Made)
made_split = record {
  apart = λ op f. (f.0, f.1, f.2, subst (λ (o : Op). operand_items o ≡ number_items f.0 ++ second_items o) (sym f.2.2) refl);
  joined = λ r op s m. ((r, s, m), subst (λ (o : Op). operand_items o ≡ number_items r ++ second_items o) (sym m.2) refl);
}

form_format : (f : Form) → IsForm f → IsFormat (operands_at f) operand_items (BehindForm f)
unfolding operands_at
form_format (form.Alone i) h =
    let n = found_numbered (op_number i) forms (form.Alone i) numbered_table h in
    done_format i operand_items (ap (λ (os : List Operand). map operand_item os) n.1)
form_format (form.Number c) h = made_format number_at number_items IsSmall (with_number c) operand_items (with_number_items c) number_format
form_format form.Fraction h = made_format fraction_at (λ c. written (fraction_bytes c) ∷ []) IsAny PushNum operand_items (λ c. refl) (item_format fraction_at fraction_bytes IsAny fraction_item)
form_format form.Truth h = made_format truth_at (λ b. written (truth_bytes b) ∷ []) IsAny PushBool operand_items (λ b. refl) (item_format truth_at truth_bytes IsAny truth_item)
form_format form.Made h =
    chain_format number_at number_items IsSmall (λ (r : ℕ). made_at number_at (MakeRec r)) (λ (r : ℕ) (op : Op). second_items op) (λ (r : ℕ). Made IsSmall (MakeRec r)) operand_items (BehindForm form.Made) number_format
    (λ r s. made_format number_at number_items IsSmall (MakeRec r) second_items (λ n. refl) number_format)
    made_split
form_format form.Power h = made_format power_at (λ k. written (power_bytes k) ∷ []) (λ (k : ℤ). FitsSigned w32 k) Pow operand_items (λ k. refl) (item_format power_at power_bytes (λ (k : ℤ). FitsSigned w32 k) power_item)

-- ---- an instruction

op_apart : (op : Op) → AllByRecursion OperandFits (op_operands op) → (f : Form) × IsForm f × BehindForm f op × (op_items op ≡ form_items f ++ operand_items op)
op_apart (PushNum c) h = (form.Fraction, refl, (c, tt, refl), refl)
op_apart (PushBool b) h = (form.Truth, refl, (b, tt, refl), refl)
op_apart (Load n) h = (form.Number counted.Load, refl, (n, h.0, refl), refl)
op_apart Add h = (form.Alone Add, refl, refl, refl)
op_apart Sub h = (form.Alone Sub, refl, refl, refl)
op_apart Mul h = (form.Alone Mul, refl, refl, refl)
op_apart Div h = (form.Alone Div, refl, refl, refl)
op_apart Neg h = (form.Alone Neg, refl, refl, refl)
op_apart Not h = (form.Alone Not, refl, refl, refl)
op_apart Lt h = (form.Alone Lt, refl, refl, refl)
op_apart Le h = (form.Alone Le, refl, refl, refl)
op_apart Eq h = (form.Alone Eq, refl, refl, refl)
op_apart (Jump n) h = (form.Number counted.Jump, refl, (n, h.0, refl), refl)
op_apart (JumpIfNot n) h = (form.Number counted.JumpIfNot, refl, (n, h.0, refl), refl)
op_apart (MakeList n) h = (form.Number counted.MakeList, refl, (n, h.0, refl), refl)
op_apart Cons h = (form.Alone Cons, refl, refl, refl)
op_apart (Split n) h = (form.Number counted.Split, refl, (n, h.0, refl), refl)
op_apart (MakeRec r n) h = (form.Made, refl, (r, h.0, (n, h.1.0, refl)), refl)
op_apart (Field n) h = (form.Number counted.Field, refl, (n, h.0, refl), refl)
op_apart (Slide n) h = (form.Number counted.Slide, refl, (n, h.0, refl), refl)
op_apart (Call n) h = (form.Number counted.Call, refl, (n, h.0, refl), refl)
op_apart Ret h = (form.Alone Ret, refl, refl, refl)
op_apart (Pow k) h = (form.Power, refl, (k, h.0, refl), refl)

abbrev OpHolds : Form → Op → Type 0
OpHolds f op = OpFits op × (op_items op ≡ form_items f ++ operand_items op)

-- operands one by one
fit : (op : Op) → AllByRecursion OperandFits (op_operands op) → OpFits op
fit op h = All-from_recursion OperandFits (op_operands op) h

with_number_holds : (c : Counted) (n : ℕ) → IsSmall n → OpHolds (form.Number c) (with_number c n)
with_number_holds counted.Load n s = (fit (Load n) (s, tt), refl)
with_number_holds counted.Jump n s = (fit (Jump n) (s, tt), refl)
with_number_holds counted.JumpIfNot n s = (fit (JumpIfNot n) (s, tt), refl)
with_number_holds counted.MakeList n s = (fit (MakeList n) (s, tt), refl)
with_number_holds counted.Split n s = (fit (Split n) (s, tt), refl)
with_number_holds counted.Field n s = (fit (Field n) (s, tt), refl)
with_number_holds counted.Slide n s = (fit (Slide n) (s, tt), refl)
with_number_holds counted.Call n s = (fit (Call n) (s, tt), refl)

op_joined : (f : Form) (op : Op) → IsForm f → BehindForm f op → OpHolds f op
op_joined (form.Alone i) op h e =
    let n = found_numbered (op_number i) forms (form.Alone i) numbered_table h in
    subst (OpHolds (form.Alone i)) (sym e) (fit i (subst (λ (os : List Operand). AllByRecursion OperandFits os) (sym n.1) tt), refl)
op_joined (form.Number c) op h (n, s, e) = subst (OpHolds (form.Number c)) (sym e) (with_number_holds c n s)
op_joined form.Fraction op h (c, s, e) = subst (OpHolds form.Fraction) (sym e) (fit (PushNum c) (tt, tt), refl)
op_joined form.Truth op h (b, s, e) = subst (OpHolds form.Truth) (sym e) (fit (PushBool b) (tt, tt), refl)
op_joined form.Made op h (r, s, (n, t, e)) = subst (OpHolds form.Made) (sym e) (fit (MakeRec r n) (s, (t, tt)), refl)
op_joined form.Power op h (k, s, e) = subst (OpHolds form.Power) (sym e) (fit (Pow k) (s, tt), refl)

op_split : Splits form_items IsForm (λ (f : Form) (op : Op). operand_items op) BehindForm op_items OpFits
op_split = record {
  apart = λ op h. op_apart op (recursion_from_All OperandFits (op_operands op) h);
  joined = op_joined;
}

pub op_format : IsFormat op_at op_items OpFits
unfolding op_at
op_format = chain_format form_at form_items IsForm operands_at (λ (f : Form) (op : Op). operand_items op) BehindForm op_items OpFits (item_format form_at form_bytes IsForm form_item) form_format op_split
