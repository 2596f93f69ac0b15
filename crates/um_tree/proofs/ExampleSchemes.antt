-- Schemes of small programs: the typings are exactly the instances.
-- Source: Kennedy 1996: principal schemes.
use Rattle.std.proofs.Common.{◌≡◌, refl, sym, ap, subst, ◌∙◌, inl, inr, ℕ, [], ◌∷◌, ◌++◌, slice_get, arith}
use Rattle.um_units.specs.PowerMap.{PowerMap, product, one, mul, replace}
use Rattle.um_units.proofs.Group.{mul-one, mul_cancel}
use Rattle.um_units.proofs.Replacement.{replace-one, replace-variable}
use Rattle.um_tree.specs.TypeTree.{num_type, list_type}
use Rattle.um_tree.specs.ProgramTree.{Signature, SchemeTree}
use Rattle.um_tree.specs.Typing.{put_signature, Typing}
use Rattle.um_tree.specs.Scheme.{IsPrincipal, IsInstance, IsNumberedScheme}
use Rattle.um_tree.proofs.Numbered.{numbered_below}
use Rattle.um_tree.proofs.ExamplePrograms.{identity, zeros, squares, sum}
use Rattle.um_units.proofs.Variables.{IsClosed-one}
use Rattle.um_tree.proofs.ExampleTypings.{Chosen, choice_of, signature, variable, signature_is, same_number, same_some, same_item, second_of, identity_typed, zero_typed, squares_typed, sum_typed}

-- ---- let id (x: num<_>) = x has num<'a> -> num<'a>
abbrev identity_scheme : SchemeTree
identity_scheme = record { signature = signature (num_type (variable 0) ∷ []) (num_type (variable 0)); vars = 1 }

identity_instance : (g : Signature) → Typing identity 0 g → IsInstance identity_scheme g
identity_instance g m =
    let l = choice_of identity 0 _ refl tt m in
    let u = l.params.2.0 in
    let params : g.params ≡ num_type u ∷ [] = l.params.4 ∙ ap (λ s. s ∷ l.params.1) l.params.2.2 ∙ ap (λ r. num_type u ∷ r) l.params.3 in
    let result : g.result ≡ num_type u = sym (same_some _ _ (ap (λ ts. slice_get ts 0) (sym params) ∙ l.body)) in
    let same = ap (λ v. signature (num_type v ∷ []) (num_type v)) (replace-variable (λ k. u) 0) in
    (λ k. u, signature_is g _ _ params result ∙ sym same)

identity_numbered : IsNumberedScheme identity_scheme
unfolding product
identity_numbered = inr (refl, inl (omega arith, refl))

identity_principal : IsPrincipal identity 0 identity_scheme
identity_principal = record {
  below = numbered_below identity_scheme identity_numbered;
  instances = λ g. (identity_instance g, λ m. subst (Typing identity 0) (sym m.1) (identity_typed (replace m.0 (variable 0))));
}

-- a scheme of no variables is not over 'a
identity_of_no_variables : IsPrincipal identity 0 (record { signature = identity_scheme.signature; vars = 0 }) → ⊥
unfolding product
identity_of_no_variables w = let low = w.below 0 0 (omega arith) in absurd (omega (arith, low))

-- ---- let z = 0<_> has num<'a>
abbrev zero_scheme : SchemeTree
zero_scheme = record { signature = signature [] (num_type (variable 0)); vars = 1 }

zero_instance : (g : Signature) → Typing zeros 0 g → IsInstance zero_scheme g
zero_instance g m =
    let l = choice_of zeros 0 _ refl tt m in
    let u = l.body.0 in
    (λ k. u, signature_is g _ _ l.params l.body.2 ∙ sym (ap (λ v. signature [] (num_type v)) (replace-variable (λ k. u) 0)))

zero_numbered : IsNumberedScheme zero_scheme
unfolding product
zero_numbered = inr (refl, refl)

zero_principal : IsPrincipal zeros 0 zero_scheme
zero_principal = record {
  below = numbered_below zero_scheme zero_numbered;
  instances = λ g. (zero_instance g, λ m. subst (Typing zeros 0) (sym m.1) (zero_typed (replace m.0 (variable 0))));
}

-- ---- let rec sum (l: num<_> list) : num<_> = match l with [] -> 0<_> | x :: r -> x + sum r has num<'a> list -> num<'a>
abbrev sum_scheme : SchemeTree
sum_scheme = record { signature = signature (list_type (num_type (variable 0)) ∷ []) (num_type (variable 0)); vars = 1 }

sum_instance : (g : Signature) → Typing sum 0 g → IsInstance sum_scheme g
sum_instance g m =
    let l = choice_of sum 0 _ refl (tt, tt, (tt, (tt, tt))) m in
    let u = l.params.2.1.0 in
    let params : g.params ≡ list_type (num_type u) ∷ [] = l.params.4 ∙ ap (λ s. s ∷ l.params.1) (l.params.2.2 ∙ ap list_type l.params.2.1.2) ∙ ap (λ r. list_type (num_type u) ∷ r) l.params.3 in
    let item : num_type u ≡ l.body.0 = same_item _ _ (same_some _ _ (ap (λ ts. slice_get ts 0) (sym params) ∙ l.body.1)) in
    let head : l.body.0 ≡ num_type l.body.3.0 = same_some _ _ (ap (λ ts. slice_get (ts ++ l.body.0 ∷ list_type l.body.0 ∷ []) 1) (sym params) ∙ l.body.3.3) in
    let result : g.result ≡ num_type u = l.body.3.6 ∙ ap num_type l.body.3.5.1 ∙ sym (item ∙ head) in
    let same = ap (λ v. signature (list_type (num_type v) ∷ []) (num_type v)) (replace-variable (λ k. u) 0) in
    (λ k. u, signature_is g _ _ params result ∙ sym same)

sum_numbered : IsNumberedScheme sum_scheme
unfolding product
sum_numbered = inr (refl, inl (omega arith, refl))

sum_principal : IsPrincipal sum 0 sum_scheme
sum_principal = record {
  below = numbered_below sum_scheme sum_numbered;
  instances = λ g. (sum_instance g, λ m. subst (Typing sum 0) (sym m.1) (sum_typed (replace m.0 (variable 0))));
}

-- ---- let rec f (n: num) (x: num<_>) : num<_> = if n < 1 then x else f (n - 1) (x * x) has num -> num -> num: its own call
-- squares the unit of x, and a unit that is its own square is 1
abbrev squares_scheme : SchemeTree
squares_scheme = record { signature = signature (num_type one ∷ num_type one ∷ []) (num_type one); vars = 0 }

square_is_one : (u : PowerMap) → mul u u ≡ u → u ≡ one
square_is_one u e = mul_cancel u u one (e ∙ sym (mul-one u))

module _ (g : Signature) (m : Chosen squares 0 g) where
  abbrev unit : PowerMap
  unit = m.params.3.2.0

  params : g.params ≡ num_type one ∷ num_type unit ∷ []
  params =
      m.params.4
      ∙ ap (λ s. s ∷ m.params.1) (m.params.2.2 ∙ ap num_type (m.params.2.1 ∙ replace-one m.choice))
      ∙ ap (λ r. num_type one ∷ r) (m.params.3.4 ∙ ap (λ s. s ∷ m.params.3.1) m.params.3.2.2 ∙ ap (λ r. num_type unit ∷ r) m.params.3.3)

  at_own : signature m.body.2.0 g.result ≡ g → unit ≡ one
  at_own e =
      let args = m.body.2.1 in
      let product_typed = args.3.2 in
      let item : args.3.0 ≡ num_type unit = second_of m.body.2.0 args.1 args.3.1 args.0 args.3.0 (num_type one) (num_type unit) args.4 args.3.4 (ap (λ h. h.params) e ∙ params) in
      let left : unit ≡ product_typed.0 = same_number _ _ (same_some _ _ (ap (λ ts. slice_get ts 1) (sym params) ∙ product_typed.3)) in
      let right : unit ≡ product_typed.1 = same_number _ _ (same_some _ _ (ap (λ ts. slice_get ts 1) (sym params) ∙ product_typed.4)) in
      square_is_one unit (ap (λ x. mul x unit) left ∙ ap (mul product_typed.0) right ∙ sym product_typed.5 ∙ same_number _ _ (sym product_typed.6 ∙ item))

  unit_is_one : unit ≡ one
  unit_is_one = elim m.body.2.2 as (λ x. unit ≡ one) [ inl a ↦ absurd (omega (arith, a.0)) | inr a ↦ at_own a.2 ]

  squares_only : g ≡ squares_scheme.signature
  squares_only =
      let result : g.result ≡ num_type unit = sym (same_some _ _ (ap (λ ts. slice_get ts 1) (sym params) ∙ m.body.1)) in
      signature_is g _ _ (params ∙ ap (λ u. num_type one ∷ num_type u ∷ []) unit_is_one) (result ∙ ap num_type unit_is_one)

squares_at : (s : ℕ → PowerMap) → put_signature s squares_scheme.signature ≡ squares_scheme.signature
squares_at s = ap (λ u. signature (num_type u ∷ num_type u ∷ []) (num_type u)) (replace-one s)

squares_numbered : IsNumberedScheme squares_scheme
unfolding product
squares_numbered = refl

squares_principal : IsPrincipal squares 0 squares_scheme
squares_principal = record {
  below = numbered_below squares_scheme squares_numbered;
  instances = λ g. (
    λ m. (λ k. one, squares_only g (choice_of squares 0 g refl ((tt, IsClosed-one), tt, ((tt, IsClosed-one), ((tt, tt), tt))) m) ∙ sym (squares_at (λ k. one))),
    λ m. subst (Typing squares 0) (sym (m.1 ∙ squares_at m.0)) squares_typed,
  );
}
