-- Typings of small programs: each has the scheme that is expected, and an instance of another is refused.
use Rattle.std.proofs.Common.{◌≡◌, refl, sym, ap, subst, ◌∙◌, inl, inr, ℕ, zero, suc, List, [], ◌∷◌, pos, negsuc, Option, Some, None, slice_get, length, arith}
use Rattle.um_units.specs.declared.Atom.{Atom}
use Rattle.um_units.specs.declared.Atom.TheVariants.{Base, Var}
use Rattle.um_units.specs.PowerMap.{PowerMap, product, power_of, one, atom, mul, inv, replace}
use Rattle.um_units.proofs.Group.{mul-one, mul_assoc}
use Rattle.um_units.proofs.Replacement.{replace-one, replace-mul, replace-inv, replace-base, replace-variable}
use Rattle.um_tree.specs.declared.note.UnitNote.TheVariants.{Hole, Written}
use Rattle.um_tree.specs.TypeTree.{TypeTree, bool_type, num_type, list_type, record_type, num_note}
use Rattle.um_tree.specs.ExprTree.{number}
use Rattle.um_tree.specs.ProgramTree.{FunctionTree, ProgramTree, Signature, SchemeTree}
use Rattle.um_tree.specs.Typing.{put_signature, UnitsMatch, TypesMatch, IsLooseTypingOf, TypingAt, typings_below, Typing}
use Rattle.um_tree.specs.Laws.{LiteralsAreClosed}
use Rattle.um_tree.proofs.TypingsMoved.{typing_of_loose, loose_of_typing}
use Rattle.um_units.proofs.Variables.{IsClosed-one}
use Rattle.um_tree.specs.Scheme.{IsInstance, IsPrincipal, IsNumberedScheme}
use Rattle.um_tree.proofs.Numbered.{numbered_below}
use Rattle.um_tree.proofs.ExamplePrograms.{one_number, plain, with_functions, metre, second, kilogram, newton, marked, area_of_metres, area, identity, zeros, squares, sum, weights, make, pick}

abbrev pub signature : List TypeTree → TypeTree → Signature
signature ts t = record { params = ts; result = t }

abbrev pub variable : ℕ → PowerMap
variable k = atom (Var k)

-- what is chosen for a function without unit parameters
abbrev pub ChosenAt : ProgramTree → ℕ → Option FunctionTree → Signature → Type 0
ChosenAt p i None g = ⊥
ChosenAt p i (Some f) g = IsLooseTypingOf p.records (typings_below p i) i f g

abbrev pub Chosen : ProgramTree → ℕ → Signature → Type 0
Chosen p i g = ChosenAt p i (slice_get p.functions i) g

abbrev pub units_at : Option FunctionTree → ℕ
units_at None = 0
units_at (Some f) = f.units

abbrev pub ClosedAt : Option FunctionTree → Type 0
ClosedAt None = Unit {0}
ClosedAt (Some f) = LiteralsAreClosed f.body

by_choice_at : (p : ProgramTree) (i : ℕ) (o : Option FunctionTree) (g : Signature) → units_at o ≡ 0 → ChosenAt p i o g → TypingAt (length p.bases) p.records (typings_below p i) i o g
by_choice_at p i None g none m = m
by_choice_at p i (Some f) g none m = typing_of_loose p i f none g m

choice_at : (p : ProgramTree) (i : ℕ) (o : Option FunctionTree) (g : Signature) → units_at o ≡ 0 → ClosedAt o → TypingAt (length p.bases) p.records (typings_below p i) i o g → ChosenAt p i o g
choice_at p i None g none closed m = m
choice_at p i (Some f) g none closed m = loose_of_typing p i f none closed g m

-- such a choice is a typing, and each typing comes from one
pub by_choice : (p : ProgramTree) (i : ℕ) (g : Signature) → units_at (slice_get p.functions i) ≡ 0 → Chosen p i g → Typing p i g
by_choice p i g none m = by_choice_at p i (slice_get p.functions i) g none m

pub choice_of : (p : ProgramTree) (i : ℕ) (g : Signature) → units_at (slice_get p.functions i) ≡ 0 → ClosedAt (slice_get p.functions i) → Typing p i g → Chosen p i g
choice_of p i g none closed m = choice_at p i (slice_get p.functions i) g none closed m

pub signature_is : (g : Signature) (ts : List TypeTree) (t : TypeTree) → g.params ≡ ts → g.result ≡ t → g ≡ signature ts t
signature_is g ts t e f = ap (λ xs. signature xs g.result) e ∙ ap (signature ts) f

pub same_number : (u v : PowerMap) → num_type u ≡ num_type v → u ≡ v
same_number u v e = cc e

pub same_some : (s t : TypeTree) → Some s ≡ Some t → s ≡ t
same_some s t e = cc e

-- units with other powers
pub apart : (u v : PowerMap) (x : Atom) (m n : ℕ) → power_of u x ≡ pos m → power_of v x ≡ pos n → (m ≡ n → ⊥) → u ≡ v → ⊥
apart u v x m n e f other same = let all : pos m ≡ pos n = sym e ∙ ap (λ w. power_of w x) same ∙ f in other (cc all)

pub metre_apart : metre ≡ second → ⊥
unfolding product
metre_apart = apart metre second (Base 0) 1 0 refl refl (λ e. absurd (omega (arith, e)))

-- ---- let area (x: num<m>) (y: num<m>) = x * y has the type num<m> -> num<m> -> num<m^2> alone
metres_typed : Typing area_of_metres 0 (signature (num_type metre ∷ num_type metre ∷ []) (num_type (mul metre metre)))
metres_typed = by_choice area_of_metres 0 _ refl (record {
  choice = λ k. one;
  params = (num_type metre, num_type metre ∷ [], (metre, sym (replace-base _ 0), refl), (num_type metre, [], (metre, sym (replace-base _ 0), refl), refl, refl), refl);
  result = tt;
  body = (metre, metre, mul metre metre, refl, refl, refl, refl);
})

seconds_refused : (t : TypeTree) → Typing area_of_metres 0 (signature (num_type metre ∷ num_type second ∷ []) t) → ⊥
seconds_refused t m =
    let l = choice_of area_of_metres 0 _ refl (tt, tt) m in
    let unit : l.params.3.2.0 ≡ metre = l.params.3.2.1 ∙ replace-base l.choice 0 in
    let rest : num_type second ∷ [] ≡ l.params.1 = cc l.params.4 in
    let item : num_type second ≡ l.params.3.0 = cc (rest ∙ l.params.3.4) in
    metre_apart (sym (same_number _ _ (item ∙ l.params.3.2.2) ∙ unit))

-- ---- let area (x: num<_>) (y: num<_>) = x * y
area_typed : (u v : PowerMap) → Typing area 0 (signature (num_type u ∷ num_type v ∷ []) (num_type (mul u v)))
area_typed u v = by_choice area 0 _ refl (record {
  choice = λ k. one;
  params = (num_type u, num_type v ∷ [], (u, tt, refl), (num_type v, [], (v, tt, refl), refl, refl), refl);
  result = tt;
  body = (u, v, mul u v, refl, refl, refl, refl);
})

two_holes : (choice : ℕ → PowerMap) (ts : List TypeTree) → TypesMatch choice (num_note Hole ∷ num_note Hole ∷ []) ts → (u : PowerMap) × ((v : PowerMap) × (ts ≡ num_type u ∷ num_type v ∷ []))
two_holes choice ts m =
    let last = m.3.4 ∙ ap (λ s. s ∷ m.3.1) m.3.2.2 ∙ ap (λ r. num_type m.3.2.0 ∷ r) m.3.3 in
    (m.2.0, (m.3.2.0, m.4 ∙ ap (λ s. s ∷ m.1) m.2.2 ∙ ap (λ r. num_type m.2.0 ∷ r) last))

abbrev area_scheme : SchemeTree
area_scheme = record { signature = signature (num_type (variable 0) ∷ num_type (variable 1) ∷ []) (num_type (mul (variable 0) (variable 1))); vars = 2 }

abbrev pair_at : PowerMap → PowerMap → ℕ → PowerMap
pair_at u v zero = u
pair_at u v (suc k) = v

area_instance : (u v : PowerMap) → put_signature (pair_at u v) area_scheme.signature ≡ signature (num_type u ∷ num_type v ∷ []) (num_type (mul u v))
area_instance u v =
    let first = replace-variable (pair_at u v) 0 in
    let other = replace-variable (pair_at u v) 1 in
    ap (λ r. signature (num_type (replace (pair_at u v) (variable 0)) ∷ num_type (replace (pair_at u v) (variable 1)) ∷ []) (num_type r)) (replace-mul (pair_at u v) (variable 0) (variable 1))
    ∙ ap (λ x. signature (num_type x ∷ num_type (replace (pair_at u v) (variable 1)) ∷ []) (num_type (mul x (replace (pair_at u v) (variable 1))))) first
    ∙ ap (λ y. signature (num_type u ∷ num_type y ∷ []) (num_type (mul u y))) other

area_numbered : IsNumberedScheme area_scheme
unfolding product
area_numbered = inr (refl, inr (refl, inl (omega arith, inl (omega arith, refl))))

-- its typings are exactly the instances of num<'a> -> num<'b> -> num<'a 'b>
area_principal : IsPrincipal area 0 area_scheme
area_principal = record { below = numbered_below area_scheme area_numbered; instances = λ g. (there g, back g) }
  where
    there : (g : Signature) → Typing area 0 g → IsInstance area_scheme g
    there g m =
        let l = choice_of area 0 _ refl (tt, tt) m in
        let found = two_holes l.choice g.params l.params in
        let u = found.0 in
        let v = found.1.0 in
        let params = found.1.1 in
        let left : u ≡ l.body.0 = same_number _ _ (same_some _ _ (ap (λ ts. slice_get ts 0) (sym params) ∙ l.body.3)) in
        let right : v ≡ l.body.1 = same_number _ _ (same_some _ _ (ap (λ ts. slice_get ts 1) (sym params) ∙ l.body.4)) in
        let unit = l.body.5 ∙ ap (λ x. mul x l.body.1) (sym left) ∙ ap (mul u) (sym right) in
        (pair_at u v, signature_is g _ _ params (l.body.6 ∙ ap num_type unit) ∙ sym (area_instance u v))

    back : (g : Signature) → IsInstance area_scheme g → Typing area 0 g
    back g m =
        let u = replace m.0 (variable 0) in
        let v = replace m.0 (variable 1) in
        subst (Typing area 0) (ap (λ w. signature (num_type u ∷ num_type v ∷ []) (num_type w)) (sym (replace-mul m.0 (variable 0) (variable 1))) ∙ sym m.1) (area_typed u v)

-- num<'a> -> num<'b> -> num<'a> is none
area_refused : Typing area 0 (signature (num_type (variable 0) ∷ num_type (variable 1) ∷ []) (num_type (variable 0))) → ⊥
unfolding product
area_refused m =
    let l = choice_of area 0 _ refl (tt, tt) m in
    let left : variable 0 ≡ l.body.0 = same_number _ _ (same_some _ _ l.body.3) in
    let right : variable 1 ≡ l.body.1 = same_number _ _ (same_some _ _ l.body.4) in
    let unit : variable 0 ≡ mul (variable 0) (variable 1) = same_number _ _ l.body.6 ∙ l.body.5 ∙ ap (λ x. mul x l.body.1) (sym left) ∙ ap (mul (variable 0)) (sym right) in
    apart (variable 0) (mul (variable 0) (variable 1)) (Var 1) 0 1 refl refl (λ e. absurd (omega (arith, e))) unit

-- ---- let id (x: num<_>) = x
pub identity_typed : (u : PowerMap) → Typing identity 0 (signature (num_type u ∷ []) (num_type u))
identity_typed u = by_choice identity 0 _ refl (record { choice = λ k. one; params = (num_type u, [], (u, tt, refl), refl, refl); result = tt; body = refl })

identity_refused : Typing identity 0 (signature (num_type metre ∷ []) (num_type second)) → ⊥
identity_refused m =
    let l = choice_of identity 0 _ refl tt m in
    metre_apart (same_number _ _ (same_some _ _ l.body))

-- ---- let z = 0<_> has each num<'a>, and let w = 0<_> * 0<_> each num<'a 'b>
pub zero_typed : (u : PowerMap) → Typing zeros 0 (signature [] (num_type u))
zero_typed u = by_choice zeros 0 _ refl (record { choice = λ k. one; params = refl; result = tt; body = (u, refl, refl) })

zeros_typed : (u v : PowerMap) → Typing zeros 1 (signature [] (num_type (mul u v)))
zeros_typed u v = by_choice zeros 1 _ refl (record { choice = λ k. one; params = refl; result = tt; body = (u, v, mul u v, (u, refl, refl), (v, refl, refl), refl, refl) })

zero_refused : Typing zeros 0 (signature [] bool_type) → ⊥
zero_refused m =
    let l = choice_of zeros 0 _ refl tt m in
    absurd (cc l.body.2)

-- ---- a literal has its unit as it stands, whatever is chosen for the function's variables: a program with an open one is
-- not formed
abbrev open_literal : ProgramTree
open_literal = with_functions (plain [] (number 0 one_number (Written (variable 0))) ∷ [])

open_literal_typed : (choice : ℕ → PowerMap) → Chosen open_literal 0 (signature [] (num_type (variable 0)))
open_literal_typed choice = record { choice = choice; params = refl; result = tt; body = (variable 0, refl, refl) }

variable_apart : metre ≡ variable 0 → ⊥
unfolding product
variable_apart = apart metre (variable 0) (Base 0) 1 0 refl refl (λ e. absurd (omega (arith, e)))

open_literal_refused : Chosen open_literal 0 (signature [] (num_type metre)) → ⊥
open_literal_refused m = variable_apart (same_number _ _ m.body.2 ∙ m.body.1)

-- ---- let rec f (n: num) (x: num<_>) : num<_> = if n < 1 then x else f (n - 1) (x * x) has num -> num -> num alone
pub squares_typed : Typing squares 0 (signature (num_type one ∷ num_type one ∷ []) (num_type one))
squares_typed = by_choice squares 0 _ refl (record {
  choice = λ k. one;
  params = (num_type one, num_type one ∷ [], (one, sym (replace-one _), refl), (num_type one, [], (one, tt, refl), refl, refl), refl);
  result = (one, tt, refl);
  body = (
    (one, refl, (one, refl, refl), refl),
    refl,
    (
      num_type one ∷ num_type one ∷ [],
      (
        num_type one,
        num_type one ∷ [],
        (one, one, one, refl, (one, refl, refl), (refl, refl), refl),
        (num_type one, [], (one, one, one, refl, refl, sym (mul-one one), refl), refl, refl),
        refl,
      ),
      inr (refl, record { recursive = refl; noted = refl }, refl),
    ),
  );
})

-- ---- let rec sum (l: num<_> list) : num<_> = match l with [] -> 0<_> | x :: r -> x + sum r
pub sum_typed : (u : PowerMap) → Typing sum 0 (signature (list_type (num_type u) ∷ []) (num_type u))
sum_typed u = by_choice sum 0 _ refl (record {
  choice = λ k. one;
  params = (list_type (num_type u), [], (num_type u, (u, tt, refl), refl), refl, refl);
  result = (u, tt, refl);
  body = (
    num_type u,
    refl,
    (u, refl, refl),
    (u, u, u, refl, (list_type (num_type u) ∷ [], (list_type (num_type u), [], refl, refl, refl), inr (refl, record { recursive = refl; noted = refl }, refl)), (refl, refl), refl),
  );
})

pub same_item : (s t : TypeTree) → list_type s ≡ list_type t → s ≡ t
same_item s t e = cc e

sum_refused : Typing sum 0 (signature (list_type (num_type metre) ∷ []) (num_type second)) → ⊥
sum_refused m =
    let l = choice_of sum 0 _ refl (tt, tt, (tt, (tt, tt))) m in
    let item : num_type metre ≡ l.body.0 = same_item _ _ (same_some _ _ l.body.1) in
    let head : l.body.0 ≡ num_type l.body.3.0 = same_some _ _ l.body.3.3 in
    let total : second ≡ l.body.3.2 = same_number _ _ l.body.3.6 in
    metre_apart (same_number _ _ (item ∙ head) ∙ sym (total ∙ l.body.3.5.1))

-- num -> num<m> -> num<m> is none of f: its own call squares the unit
pub second_of : (ts rest more : List TypeTree) (s t u v : TypeTree) → ts ≡ s ∷ rest → rest ≡ t ∷ more → ts ≡ u ∷ v ∷ [] → t ≡ v
second_of ts rest more s t u v e f g = same_some _ _ (ap (λ xs. slice_get xs 1) (sym (e ∙ ap (λ r. s ∷ r) f) ∙ g))

squares_not_chosen : Chosen squares 0 (signature (num_type one ∷ num_type metre ∷ []) (num_type metre)) → ⊥
unfolding product
squares_not_chosen m = elim m.body.2.2 as (λ x. ⊥) [ inl a ↦ absurd (omega (arith, a.0)) | inr a ↦ at_own a.2 ]
  where
    at_own : signature m.body.2.0 (num_type metre) ≡ signature (num_type one ∷ num_type metre ∷ []) (num_type metre) → ⊥
    at_own e =
        let args = m.body.2.1 in
        let product_typed = args.3.2 in
        let item : args.3.0 ≡ num_type metre = second_of m.body.2.0 args.1 args.3.1 args.0 args.3.0 (num_type one) (num_type metre) args.4 args.3.4 (ap (λ g. g.params) e) in
        let unit : product_typed.2 ≡ metre = same_number _ _ (sym product_typed.6 ∙ item) in
        let left : metre ≡ product_typed.0 = same_number _ _ (same_some _ _ product_typed.3) in
        let right : metre ≡ product_typed.1 = same_number _ _ (same_some _ _ product_typed.4) in
        let whole : mul metre metre ≡ metre = ap (λ x. mul x metre) left ∙ ap (mul product_typed.0) right ∙ sym product_typed.5 ∙ unit in
        apart (mul metre metre) metre (Base 0) 2 1 refl refl (λ n. absurd (omega (arith, n))) whole

squares_refused : Typing squares 0 (signature (num_type one ∷ num_type metre ∷ []) (num_type metre)) → ⊥
squares_refused m = squares_not_chosen (choice_of squares 0 _ refl ((tt, IsClosed-one), tt, ((tt, IsClosed-one), ((tt, tt), tt))) m)

-- ---- let weight (k: num<kg>) = k * 9<m/s^2>, let push (f: num<kg m/s^2>) = f, let lift (k: num<kg>) = push (weight k)
closed_per_second : (s : ℕ → PowerMap) → replace s (inv (mul second second)) ≡ inv (mul second second)
closed_per_second s =
    replace-inv s (mul second second) ∙ ap inv (replace-mul s second second ∙ ap (λ u. mul u (replace s second)) (replace-base s 1) ∙ ap (mul second) (replace-base s 1))

closed_newton : (s : ℕ → PowerMap) → replace s newton ≡ newton
closed_newton s =
    replace-mul s (mul kilogram metre) (inv (mul second second))
    ∙ ap (mul (replace s (mul kilogram metre))) (closed_per_second s)
    ∙ ap (λ u. mul u (inv (mul second second))) (replace-mul s kilogram metre ∙ ap (λ u. mul u (replace s metre)) (replace-base s 2) ∙ ap (mul kilogram) (replace-base s 0))

abbrev gravity : PowerMap
gravity = mul metre (inv (mul second second))

weight_typed : Typing weights 0 (signature (num_type kilogram ∷ []) (num_type newton))
weight_typed = by_choice weights 0 _ refl (record {
  choice = λ k. one;
  params = (num_type kilogram, [], (kilogram, sym (replace-base _ 2), refl), refl, refl);
  result = tt;
  body = (kilogram, gravity, newton, refl, (gravity, refl, refl), mul_assoc kilogram metre (inv (mul second second)), refl);
})

push_typed : Typing weights 1 (signature (num_type newton ∷ []) (num_type newton))
push_typed = by_choice weights 1 _ refl (record { choice = λ k. one; params = (num_type newton, [], (newton, sym (closed_newton _), refl), refl, refl); result = tt; body = refl })

lift_typed : Typing weights 2 (signature (num_type kilogram ∷ []) (num_type newton))
lift_typed = by_choice weights 2 _ refl (record {
  choice = λ k. one;
  params = (num_type kilogram, [], (kilogram, sym (replace-base _ 2), refl), refl, refl);
  result = tt;
  body = (
    num_type newton ∷ [],
    (num_type newton, [], (num_type kilogram ∷ [], (num_type kilogram, [], refl, refl, refl), inl (omega arith, weight_typed)), refl, refl),
    inl (omega arith, push_typed),
  );
})

one_param : (u v : PowerMap) (s : TypeTree) (rest : List TypeTree) → num_type u ∷ [] ≡ s ∷ rest → s ≡ num_type v → u ≡ v
one_param u v s rest e f = let item : num_type u ≡ s = cc e in same_number u v (item ∙ f)

kilogram_apart : metre ≡ kilogram → ⊥
unfolding product
kilogram_apart = apart metre kilogram (Base 0) 1 0 refl refl (λ e. absurd (omega (arith, e)))

lift_refused : (t : TypeTree) → Typing weights 2 (signature (num_type metre ∷ []) t) → ⊥
lift_refused t m =
    let l = choice_of weights 2 _ refl ((tt, tt), tt) m in
    kilogram_apart (one_param metre l.params.2.0 l.params.0 l.params.1 l.params.4 l.params.2.2 ∙ l.params.2.1 ∙ replace-base l.choice 2)

-- ---- type V<[<Measure>] 'u> = { x: num } and let mk = { x = 1 }: each V<'a>
make_typed : (u : PowerMap) → Typing make 0 (signature [] (record_type 0 (u ∷ [])))
make_typed u = by_choice make 0 _ refl (record {
  choice = λ k. one;
  params = refl;
  result = tt;
  body = (u ∷ [], marked, record { declared = refl; units = refl }, (num_type one, [], (one, refl, refl), refl, ap (λ v. num_type v ∷ []) (replace-one _)), refl);
})

-- a record has as many units as are declared
make_refused : Typing make 0 (signature [] (record_type 0 [])) → ⊥
make_refused m =
    let l = choice_of make 0 _ refl (IsClosed-one, tt) m in
    let units : [] ≡ l.body.0 = cc l.body.4 in
    let declared : marked ≡ l.body.1 = cc l.body.2.declared in
    absurd (omega (arith, ap (λ d. d.units) declared, l.body.2.units, ap length units))

-- ---- let pick (b: bool) (p: V<m>) (q: V<s>) = if b then p else q has no type: the arms have two units
pick_refused : (g : Signature) → Typing pick 0 g → ⊥
pick_refused g m =
    let l = choice_of pick 0 _ refl (tt, tt, tt) m in
    let after = l.params.3 in
    let last = after.3 in
    let params : g.params ≡ l.params.0 ∷ after.0 ∷ last.0 ∷ last.1 = l.params.4 ∙ ap (λ r. l.params.0 ∷ r) (after.4 ∙ ap (λ r. after.0 ∷ r) last.4) in
    let left : after.0 ≡ g.result = same_some _ _ (ap (λ ts. slice_get ts 1) (sym params) ∙ l.body.1) in
    let right : last.0 ≡ g.result = same_some _ _ (ap (λ ts. slice_get ts 2) (sym params) ∙ l.body.2) in
    let units : after.2.0 ≡ last.2.0 = same_units _ _ (sym after.2.2 ∙ left ∙ sym right ∙ last.2.2) in
    let p = unit_of l.choice metre after.2.0 (replace-base l.choice 0) after.2.1 in
    let q = unit_of l.choice second last.2.0 (replace-base l.choice 1) last.2.1 in
    let all : metre ∷ [] ≡ second ∷ [] = sym p ∙ units ∙ q in
    metre_apart (cc all)
  where
    same_units : (us vs : List PowerMap) → record_type 0 us ≡ record_type 0 vs → us ≡ vs
    same_units us vs e = cc e

    unit_of : (choice : ℕ → PowerMap) (u : PowerMap) (us : List PowerMap) → replace choice u ≡ u → UnitsMatch choice (Written u ∷ []) us → us ≡ u ∷ []
    unit_of choice u us closed h = h.4 ∙ ap (λ v. v ∷ h.1) (h.2 ∙ closed) ∙ ap (λ vs. u ∷ vs) h.3

-- ---- the units as they are printed
metres_printed : (mul metre metre).terms ≡ record { atom = Base 0; power = pos 2 } ∷ []
unfolding product
metres_printed = refl

area_printed : (mul (variable 0) (variable 1)).terms ≡ record { atom = Var 0; power = pos 1 } ∷ record { atom = Var 1; power = pos 1 } ∷ []
unfolding product
area_printed = refl

newton_printed : newton.terms ≡ record { atom = Base 0; power = pos 1 } ∷ record { atom = Base 1; power = negsuc 1 } ∷ record { atom = Base 2; power = pos 1 } ∷ []
unfolding product
newton_printed = refl
