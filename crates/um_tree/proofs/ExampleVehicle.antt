-- A realistic program, on which the definitions are tried: a small vehicle model.
-- Each function has the type that is expected at every unit, and an instance of another is refused; and its calls end as expected.
use Rattle.std.proofs.Common.{◌≡◌, refl, sym, ap, subst, ◌∙◌, inl, inr, ℕ, false, List, [], ◌∷◌, pos, Some, arith}
use Rattle.std.proofs.lemmas.Int.{ints}
use Rattle.um_frac.specs.declared.number.Frac.{Frac}
use Rattle.um_frac.specs.Gcd.{gcd}
use Rattle.um_frac.specs.Fraction.{fraction, divided, reduced}
use Rattle.um_frac.specs.Arithmetic.{sum_of, product_of, quotient_of}
use Rattle.um_units.specs.declared.Atom.TheVariants.{Base}
use Rattle.um_units.specs.PowerMap.{PowerMap, product, one, atom, mul, inv, replace}
use Rattle.um_units.specs.PowerMapCode.{same_from_terms}
use Rattle.um_units.proofs.Group.{mul-one, mul_assoc, mul_comm, mul-inv, inv-one}
use Rattle.um_units.proofs.Replacement.{replace-one, replace-mul, replace-inv, replace-base, replace-variable}
use Rattle.um_tree.specs.declared.note.UnitNote.TheVariants.{Hole, Written}
use Rattle.um_tree.specs.declared.expression.Arith.TheVariants.{Add, Mul, Div}
use Rattle.um_tree.specs.TypeTree.{TypeTree, num_type, list_type, record_type, num_note, list_note, record_note}
use Rattle.um_tree.specs.ExprTree.{number, local, call, arith as arith_tree, split, record_expr, field, none, more}
use Rattle.um_tree.specs.ProgramTree.{RecordTree, ProgramTree}
use Rattle.um_tree.specs.ValueTree.{ValueTree, list_value, record_value, values_in_order}
use Rattle.um_tree.specs.Meaning.{Outcome}
use Rattle.um_tree.specs.Typing.{unit_at, Typing}
use Rattle.um_tree.proofs.ExamplePrograms.{whole, zero_number, one_number, metre, second, kilogram, plain, rec_function}
use Rattle.um_units.specs.Variables.{IsClosed}
use Rattle.um_units.proofs.Variables.{IsClosed-one, IsClosed-base, IsClosed-mul, IsClosed-inv}
use Rattle.um_tree.proofs.ExampleTypings.{Chosen, by_choice, choice_of, signature, variable, same_number, same_some, apart, metre_apart, same_item}
use Rattle.um_tree.proofs.ExampleShown.{value_shown, end_shown, number_shown, plain_record, whole_number, in_plain_order, shown, number_of}

abbrev foot : PowerMap
foot = atom (Base 3)

abbrev per : PowerMap → PowerMap → PowerMap
per u v = mul u (inv v)

abbrev speed : PowerMap
speed = per metre second

-- kg m^2/s^2, from N = kg m/s^2 and J = N m
abbrev joule : PowerMap
joule = mul (per (mul kilogram metre) (mul second second)) metre

-- type Body<[<Measure>] 'u> = { pos: num<'u>; vel: num<'u/s> }
abbrev body : RecordTree
body = record { name = []; at = 0; units = 1; fields = record { name = []; type = num_type (variable 0) } ∷ record { name = []; type = num_type (per (variable 0) second) } ∷ [] }

-- 0.3048
abbrev feet_to_metres : Frac
unfolding gcd
feet_to_metres = record { num = pos 381; den = pos 1250; positive = omega (arith, ints); den_fits = omega (arith, ints); above = omega (arith, ints); num_fits = omega (arith, ints); lowest = refl }

-- let rec total (l: num<_> list) : num<_> = match l with [] -> 0<_> | x :: r -> x + total r
-- let rec count (l: num<_> list) : num = match l with [] -> 0 | _ :: r -> 1 + count r
-- let mean (l: num<_> list) = total l / count l
-- let kinetic (k: num<kg>) (v: num<m/s>) : num<J> = k * v * v / 2
-- let metres (d: num<ft>) = d * 0.3048<m/ft>
-- let move (b: Body<_>) (t: num<s>) = { pos = b.pos + b.vel * t; vel = b.vel }
abbrev vehicle : ProgramTree
vehicle = record {
  bases = [];
  records = body ∷ [];
  functions =
      rec_function (list_note (num_note Hole) ∷ []) (num_note Hole) (split 0 (local 0 0) (number 0 zero_number Hole) (arith_tree 0 Add (local 0 1) (call 0 0 (more (local 0 2) none))))
      ∷ rec_function (list_note (num_note Hole) ∷ []) (num_note (Written one)) (split 0 (local 0 0) (number 0 zero_number (Written one)) (arith_tree 0 Add (number 0 one_number (Written one)) (call 0 1 (more (local 0 2) none))))
      ∷ plain (list_note (num_note Hole) ∷ []) (arith_tree 0 Div (call 0 0 (more (local 0 0) none)) (call 0 1 (more (local 0 0) none)))
      ∷ record {
        name = [];
        at = 0;
        recursive = false;
        units = 0;
        params = num_note (Written kilogram) ∷ num_note (Written speed) ∷ [];
        named = 0;
        result = Some (num_note (Written joule));
        body = arith_tree 0 Div (arith_tree 0 Mul (arith_tree 0 Mul (local 0 0) (local 0 1)) (local 0 1)) (number 0 (whole 2 (omega arith)) (Written one));
      }
      ∷ plain (num_note (Written foot) ∷ []) (arith_tree 0 Mul (local 0 0) (number 0 feet_to_metres (Written (per metre foot))))
      ∷ plain (record_note 0 (Hole ∷ []) ∷ num_note (Written second) ∷ [])
      (record_expr 0 0 (more (arith_tree 0 Add (field 0 0 0 (local 0 0)) (arith_tree 0 Mul (field 0 0 1 (local 0 0)) (local 0 1))) (more (field 0 0 1 (local 0 0)) none)))
      ∷ [];
}

-- ---- total : num<'a> list -> num<'a>
total_typed : (u : PowerMap) → Typing vehicle 0 (signature (list_type (num_type u) ∷ []) (num_type u))
total_typed u = by_choice vehicle 0 _ refl (record {
  choice = λ k. one;
  params = (list_type (num_type u), [], (num_type u, (u, tt, refl), refl), refl, refl);
  result = (u, tt, refl);
  body = (
    num_type u,
    refl,
    (u, refl, refl),
    (u, u, u, refl, (list_type (num_type u) ∷ [], (list_type (num_type u), [], refl, refl, refl), inr (refl, record { recursive = refl; noted = refl }, refl)), (refl, refl), refl),
  );
})

same_unit_of_total : (u v : PowerMap) → Typing vehicle 0 (signature (list_type (num_type u) ∷ []) (num_type v)) → u ≡ v
same_unit_of_total u v m =
    let l = choice_of vehicle 0 _ refl (tt, tt, (tt, (tt, tt))) m in
    let item : num_type u ≡ l.body.0 = same_item _ _ (same_some _ _ l.body.1) in
    let head : l.body.0 ≡ num_type l.body.3.0 = same_some _ _ l.body.3.3 in
    let sum : v ≡ l.body.3.2 = same_number _ _ l.body.3.6 in
    same_number _ _ (item ∙ head) ∙ sym (sum ∙ l.body.3.5.1)

total_refused : Typing vehicle 0 (signature (list_type (num_type metre) ∷ []) (num_type second)) → ⊥
total_refused m = metre_apart (same_unit_of_total metre second m)

-- ---- count : num<'a> list -> num
count_typed : (u : PowerMap) → Typing vehicle 1 (signature (list_type (num_type u) ∷ []) (num_type one))
count_typed u = by_choice vehicle 1 _ refl (record {
  choice = λ k. one;
  params = (list_type (num_type u), [], (num_type u, (u, tt, refl), refl), refl, refl);
  result = (one, sym (replace-one _), refl);
  body = (
    num_type u,
    refl,
    (one, refl, refl),
    (one, one, one, (one, refl, refl), (list_type (num_type u) ∷ [], (list_type (num_type u), [], refl, refl, refl), inr (refl, record { recursive = refl; noted = refl }, refl)), (refl, refl), refl),
  );
})

one_apart : metre ≡ one → ⊥
unfolding product
one_apart = apart metre one (Base 0) 1 0 refl refl (λ e. absurd (omega (arith, e)))

unit_of_count : (ts : List TypeTree) (u : PowerMap) → Typing vehicle 1 (signature ts (num_type u)) → u ≡ one
unit_of_count ts u m =
    let l = choice_of vehicle 1 _ refl (tt, IsClosed-one, (IsClosed-one, (tt, tt))) m in
    same_number _ _ l.result.2 ∙ l.result.1 ∙ replace-one l.choice

count_refused : (u : PowerMap) → Typing vehicle 1 (signature (list_type (num_type u) ∷ []) (num_type metre)) → ⊥
count_refused u m = one_apart (unit_of_count (list_type (num_type u) ∷ []) metre m)

-- ---- mean : num<'a> list -> num<'a>
mean_typed : (u : PowerMap) → Typing vehicle 2 (signature (list_type (num_type u) ∷ []) (num_type u))
mean_typed u = by_choice vehicle 2 _ refl (record {
  choice = λ k. one;
  params = (list_type (num_type u), [], (num_type u, (u, tt, refl), refl), refl, refl);
  result = tt;
  body = (
    u,
    one,
    u,
    (list_type (num_type u) ∷ [], (list_type (num_type u), [], refl, refl, refl), inl (omega arith, total_typed u)),
    (list_type (num_type u) ∷ [], (list_type (num_type u), [], refl, refl, refl), inl (omega arith, count_typed u)),
    sym (ap (mul u) inv-one ∙ mul-one u),
    refl,
  );
})

one_item : (u : PowerMap) (ts rest : List TypeTree) (t : TypeTree) → Some (list_type (num_type u)) ≡ Some t → ts ≡ t ∷ rest → rest ≡ [] → ts ≡ list_type (num_type u) ∷ []
one_item u ts rest t e f g = f ∙ ap (λ s. s ∷ rest) (sym (same_some _ _ e)) ∙ ap (λ r. list_type (num_type u) ∷ r) g

module _ (m : Chosen vehicle 2 (signature (list_type (num_type metre) ∷ []) (num_type second))) where
  total_at : metre ≡ m.body.0
  total_at =
      let call = m.body.3 in
      let args : call.0 ≡ list_type (num_type metre) ∷ [] = one_item metre call.0 call.1.1 call.1.0 call.1.2 call.1.4 call.1.3 in
      elim call.2 as (λ x. metre ≡ m.body.0) [
        | inl a ↦ same_unit_of_total metre m.body.0 (subst (λ ts. Typing vehicle 0 (signature ts (num_type m.body.0))) args a.1)
        | inr a ↦ absurd (omega (arith, a.0))
      ]

  count_at : m.body.1 ≡ one
  count_at =
      let call = m.body.4 in
      elim call.2 as (λ x. m.body.1 ≡ one) [
        | inl a ↦ unit_of_count call.0 m.body.1 a.1
        | inr a ↦ absurd (omega (arith, a.0))
      ]

  mean_not_chosen : ⊥
  mean_not_chosen =
      let unit : second ≡ mul m.body.0 (inv m.body.1) = same_number _ _ m.body.6 ∙ m.body.5 in
      metre_apart (sym (unit ∙ ap (λ v. mul m.body.0 (inv v)) count_at ∙ ap (mul m.body.0) inv-one ∙ mul-one m.body.0 ∙ sym total_at))

mean_refused : Typing vehicle 2 (signature (list_type (num_type metre) ∷ []) (num_type second)) → ⊥
mean_refused m = mean_not_chosen (choice_of vehicle 2 _ refl ((tt, tt), (tt, tt)) m)

-- ---- kinetic : num<kg> -> num<m/s> -> num<kg m^2/s^2>
closed_speed : (s : ℕ → PowerMap) → replace s speed ≡ speed
closed_speed s = replace-mul s metre (inv second) ∙ ap (λ u. mul u (replace s (inv second))) (replace-base s 0) ∙ ap (mul metre) (replace-inv s second ∙ ap inv (replace-base s 1))

kinetic_unit : per (mul (mul kilogram speed) speed) one ≡ joule
unfolding product
kinetic_unit = same_from_terms _ _ refl

closed_joule : (s : ℕ → PowerMap) → replace s joule ≡ joule
closed_joule s =
    ap (replace s) (sym kinetic_unit)
    ∙ replace-mul s (mul (mul kilogram speed) speed) (inv one)
    ∙ ap (λ u. mul u (replace s (inv one))) (replace-mul s (mul kilogram speed) speed ∙ ap (λ u. mul u (replace s speed)) (replace-mul s kilogram speed ∙ ap (λ u. mul u (replace s speed)) (replace-base s 2)))
    ∙ ap (λ u. mul (mul (mul kilogram u) u) (replace s (inv one))) (closed_speed s)
    ∙ ap (mul (mul (mul kilogram speed) speed)) (replace-inv s one ∙ ap inv (replace-one s))
    ∙ kinetic_unit

kinetic_typed : Typing vehicle 3 (signature (num_type kilogram ∷ num_type speed ∷ []) (num_type joule))
kinetic_typed = by_choice vehicle 3 _ refl (record {
  choice = λ k. one;
  params = (num_type kilogram, num_type speed ∷ [], (kilogram, sym (replace-base _ 2), refl), (num_type speed, [], (speed, sym (closed_speed _), refl), refl, refl), refl);
  result = (joule, sym (closed_joule _), refl);
  body = (mul (mul kilogram speed) speed, one, joule, (mul kilogram speed, speed, mul (mul kilogram speed) speed, (kilogram, speed, mul kilogram speed, refl, refl, refl, refl), refl, refl, refl), (one, refl, refl), sym kinetic_unit, refl);
})

joule_apart : joule ≡ kilogram → ⊥
unfolding product
joule_apart = apart joule kilogram (Base 0) 2 0 refl refl (λ e. absurd (omega (arith, e)))

kinetic_refused : (ts : List TypeTree) → Typing vehicle 3 (signature ts (num_type kilogram)) → ⊥
kinetic_refused ts m =
    let l = choice_of vehicle 3 _ refl (((tt, tt), tt), IsClosed-one) m in
    joule_apart (sym (same_number _ _ l.result.2 ∙ l.result.1 ∙ closed_joule l.choice))

-- ---- metres : num<ft> -> num<m>
metres_unit : mul foot (per metre foot) ≡ metre
unfolding product
metres_unit = same_from_terms _ _ refl

metres_typed : Typing vehicle 4 (signature (num_type foot ∷ []) (num_type metre))
metres_typed = by_choice vehicle 4 _ refl (record {
  choice = λ k. one;
  params = (num_type foot, [], (foot, sym (replace-base _ 3), refl), refl, refl);
  result = tt;
  body = (foot, per metre foot, metre, refl, (per metre foot, refl, refl), sym metres_unit, refl);
})

closed_rate : IsClosed (per metre foot)
closed_rate = IsClosed-mul metre (inv foot) (IsClosed-base 0) (IsClosed-inv foot (IsClosed-base 3))

foot_apart : metre ≡ foot → ⊥
unfolding product
foot_apart = apart metre foot (Base 0) 1 0 refl refl (λ e. absurd (omega (arith, e)))

same_head : (u v : PowerMap) (s : TypeTree) (rest : List TypeTree) → num_type u ∷ [] ≡ s ∷ rest → s ≡ num_type v → u ≡ v
same_head u v s rest e f = let item : num_type u ≡ s = cc e in same_number u v (item ∙ f)

metres_refused : (t : TypeTree) → Typing vehicle 4 (signature (num_type metre ∷ []) t) → ⊥
metres_refused t m =
    let l = choice_of vehicle 4 _ refl (tt, closed_rate) m in
    foot_apart (same_head metre l.params.2.0 l.params.0 l.params.1 l.params.4 l.params.2.2 ∙ l.params.2.1 ∙ replace-base l.choice 3)

-- ---- move : Body<'a> -> num<s> -> Body<'a>
abbrev with_unit : PowerMap → ℕ → PowerMap
with_unit u = unit_at (u ∷ [])

position : (u : PowerMap) → replace (with_unit u) (variable 0) ≡ u
position u = replace-variable (with_unit u) 0

velocity : (u : PowerMap) → replace (with_unit u) (per (variable 0) second) ≡ per u second
velocity u =
    replace-mul (with_unit u) (variable 0) (inv second)
    ∙ ap (λ v. mul v (replace (with_unit u) (inv second))) (position u)
    ∙ ap (mul u) (replace-inv (with_unit u) second ∙ ap inv (replace-base (with_unit u) 1))

way : (u : PowerMap) → u ≡ mul (per u second) second
way u = sym (mul_assoc u (inv second) second ∙ ap (mul u) (mul_comm (inv second) second ∙ mul-inv second) ∙ mul-one u)

move_typed : (u : PowerMap) → Typing vehicle 5 (signature (record_type 0 (u ∷ []) ∷ num_type second ∷ []) (record_type 0 (u ∷ [])))
move_typed u = by_choice vehicle 5 _ refl (record {
  choice = λ k. one;
  params = (record_type 0 (u ∷ []), num_type second ∷ [], (u ∷ [], (u, [], tt, refl, refl), refl), (num_type second, [], (second, sym (replace-base _ 1), refl), refl, refl), refl);
  result = tt;
  body = (
    u ∷ [],
    body,
    record { declared = refl; units = refl },
    (
      num_type u,
      num_type (per u second) ∷ [],
      (
        u,
        u,
        u,
        (u ∷ [], body, num_type (variable 0), record { declared = refl; units = refl }, refl, refl, ap num_type (sym (position u))),
        (
          per u second,
          second,
          u,
          (u ∷ [], body, num_type (per (variable 0) second), record { declared = refl; units = refl }, refl, refl, ap num_type (sym (velocity u))),
          refl,
          way u,
          refl,
        ),
        (refl, refl),
        refl,
      ),
      (num_type (per u second), [], (u ∷ [], body, num_type (per (variable 0) second), record { declared = refl; units = refl }, refl, refl, ap num_type (sym (velocity u))), refl, refl),
      ap (λ v. num_type v ∷ num_type (replace (with_unit u) (per (variable 0) second)) ∷ []) (position u) ∙ ap (λ v. num_type u ∷ num_type v ∷ []) (velocity u),
    ),
    refl,
  );
})

move_refused : (t : TypeTree) → Typing vehicle 5 (signature (record_type 0 (metre ∷ []) ∷ num_type metre ∷ []) t) → ⊥
move_refused t m =
    let l = choice_of vehicle 5 _ refl ((tt, (tt, tt)), (tt, tt)) m in
    let unit : l.params.3.2.0 ≡ second = l.params.3.2.1 ∙ replace-base l.choice 1 in
    let rest : num_type metre ∷ [] ≡ l.params.1 = cc l.params.4 in
    let item : num_type metre ≡ l.params.3.0 = cc (rest ∙ l.params.3.4) in
    metre_apart (same_number _ _ (item ∙ l.params.3.2.2) ∙ unit)

-- ---- how calls end
abbrev numbers : List ValueTree → ValueTree
numbers vs = list_value (values_in_order vs)

-- the mean of 1, 2 and 6 is 3 with nine calls, and ends with eight
mean_runs : shown (Outcome vehicle.functions 2 (numbers (number_of 1 (omega arith) ∷ number_of 2 (omega arith) ∷ number_of 6 (omega arith) ∷ []) ∷ []) 9) ≡ number_shown (pos 3) (pos 1) 0
unfolding Outcome sum_of quotient_of reduced divided fraction gcd
mean_runs = refl

mean_ends : shown (Outcome vehicle.functions 2 (numbers (number_of 1 (omega arith) ∷ number_of 2 (omega arith) ∷ number_of 6 (omega arith) ∷ []) ∷ []) 8) ≡ end_shown
unfolding Outcome sum_of quotient_of reduced divided fraction gcd
mean_ends = refl

-- 10 feet are 381/125 metres
metres_runs : shown (Outcome vehicle.functions 4 (number_of 10 (omega arith) ∷ []) 1) ≡ number_shown (pos 381) (pos 125) 0
unfolding Outcome product_of reduced divided fraction gcd
metres_runs = refl

kinetic_runs : shown (Outcome vehicle.functions 3 (number_of 2 (omega arith) ∷ number_of 3 (omega arith) ∷ []) 1) ≡ number_shown (pos 9) (pos 1) 0
unfolding Outcome product_of quotient_of reduced divided fraction gcd
kinetic_runs = refl

-- { pos = 1; vel = 2 } and 3 give { pos = 7; vel = 2 }
move_runs : shown (Outcome vehicle.functions 5 (record_value 0 (values_in_order (number_of 1 (omega arith) ∷ number_of 2 (omega arith) ∷ [])) ∷ number_of 3 (omega arith) ∷ []) 1) ≡ value_shown (plain_record 0 (in_plain_order (whole_number 7 ∷ whole_number 2 ∷ []))) 0
unfolding Outcome sum_of product_of reduced divided fraction gcd
move_runs = refl
