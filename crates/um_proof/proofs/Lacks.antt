-- A base unit that units and types lack.
use Rattle.std.proofs.Common.{◌≡◌, ◌≢◌, ℕ, zero, suc, ◌≤◌, inl, inr, List, [], ◌∷◌, ◌++◌, map, length, ℤ, pos, negsuc, ◌+ℤ◌, ◌*ℤ◌, get_or, refl, ap, ◌∙◌, arith}
use Rattle.std.specs.Prelude.{All}
use Rattle.std.proofs.lemmas.Bool.{cases_lt, ne_eqb}
use Rattle.std.proofs.Math.IntN.{*ℤ-zero}
use Rattle.std.proofs.lemmas.List.{length-map}
use Rattle.std.proofs.lemmas.List.Elements.{All-nil, All-cons, All-head, All-tail, All-map}
use Rattle.um_units.specs.declared.Atom.{Atom}
use Rattle.um_units.specs.declared.Atom.TheVariants.{Base, Var}
use Rattle.um_units.specs.Terms.{indicator}
use Rattle.um_units.specs.PowerMap.{PowerMap, power_of, one, atom, mul, inv, pow, image, replace, nth}
use Rattle.um_units.proofs.Integers.{zero_cases}
use Rattle.um_units.proofs.Group.{weight-atom, weight-mul, weight-pow, power_of-one, power_of-other_atom}
use Rattle.um_units.proofs.Replacement.{power_of-replace, weight_held}
use Rattle.um_tree.specs.TypeTree.{TypeTree, bool_type, num_type, list_type, record_type}
use Rattle.um_tree.specs.ProgramTree.{Signature}
use Rattle.um_tree.specs.Typing.{put}
use Rattle.um_tree.specs.Scheme.{signature_types}
use Rattle.um_tree.specs.Formed.{BasesBelow}
use Rattle.um_tree.specs.Laws.{TypeHas}

-- ---- units
module _ (m : ℕ) where
  -- the unit doesn't hold base unit m
  abbrev pub Lacks : PowerMap → Type 0
  Lacks u = power_of u (Base m) ≡ pos 0

  pub one_lacks : Lacks one
  one_lacks = power_of-one (Base m)

  pub variable_lacks : (k : ℕ) → Lacks (atom (Var k))
  variable_lacks k = power_of-other_atom (Base m) (Var k) refl

  pub base_lacks : (n : ℕ) → m ≢ n → Lacks (atom (Base n))
  base_lacks n ne = power_of-other_atom (Base m) (Base n) (ne_eqb m n ne)

  pub mul_lacks : (u v : PowerMap) → Lacks u → Lacks v → Lacks (mul u v)
  mul_lacks u v a b = weight-mul (indicator (Base m)) u v ∙ ap (λ n. n +ℤ power_of v (Base m)) a ∙ ap (λ n. pos 0 +ℤ n) b

  pub pow_lacks : (u : PowerMap) (i : ℤ) → Lacks u → Lacks (pow u i)
  pow_lacks u i a = weight-pow (indicator (Base m)) u i ∙ ap (λ z. i *ℤ z) a ∙ *ℤ-zero i

  pub inv_lacks : (u : PowerMap) → Lacks u → Lacks (inv u)
  inv_lacks u a = pow_lacks u (negsuc 0) a

  pub quotient_lacks : (u v : PowerMap) → Lacks u → Lacks v → Lacks (mul u (inv v))
  quotient_lacks u v a b = mul_lacks u (inv v) a (inv_lacks v b)

  -- with units that lack it put for the variables
  pub replace_lacks : (s : ℕ → PowerMap) → ((k : ℕ) → Lacks (s k)) → (u : PowerMap) → Lacks u → Lacks (replace s u)
  replace_lacks s each u lacks = power_of-replace s u (Base m) ∙ weight_held _ (indicator (Base m)) u at ∙ lacks
    where
      at : (x : Atom) → power_of u x ≢ pos 0 → power_of (image s x) (Base m) ≡ indicator (Base m) x
      at (Base n) held = weight-atom (indicator (Base m)) (Base n)
      at (Var k) held = each k

  pub all_replaced : (s : ℕ → PowerMap) → ((k : ℕ) → Lacks (s k)) → (us : List PowerMap) → All Lacks us → All Lacks (map (replace s) us)
  all_replaced s each us all = All-map Lacks (replace s) us (λ k d low. replace_lacks s each (get_or us k d) (all k d low))

  pub item_lacks : (us : List PowerMap) (k : ℕ) (d : PowerMap) → All Lacks us → Lacks d → Lacks (get_or us k d)
  item_lacks [] k d all h = h
  item_lacks (u ∷ us) zero d all h = All-head Lacks u us all
  item_lacks (u ∷ us) (suc k) d all h = item_lacks us k d (All-tail Lacks u us all) h

  pub nth_lacks : (us : List PowerMap) → All Lacks us → (k : ℕ) → Lacks (nth us k)
  nth_lacks us all k = item_lacks us k (atom (Var k)) all (variable_lacks k)

  -- a unit over the base units below m
  pub below_lacks : (n : ℕ) → n ≤ m → (u : PowerMap) → BasesBelow n u → Lacks u
  below_lacks n l u low = elim (zero_cases (power_of u (Base m))) [ inl e ↦ e | inr ne ↦ absurd (let i = low m ne in omega (arith, i, l)) ]

  -- ---- types

  -- each unit of the type lacks it, and no record has more than four
  abbrev pub TypeLacks : TypeTree → Type 0
  TypeLacks bool_type = Unit {0}
  TypeLacks (num_type u) = Lacks u
  TypeLacks (list_type t) = TypeLacks t
  TypeLacks (record_type r us) = All Lacks us × (length us ≤ 4)

  abbrev pub TypesLack : List TypeTree → Type 0
  TypesLack [] = Unit {0}
  TypesLack (t ∷ ts) = TypeLacks t × TypesLack ts

  abbrev pub SignatureLacks : Signature → Type 0
  SignatureLacks g = TypesLack g.params × TypeLacks g.result

  pub put_lacks : (s : ℕ → PowerMap) → ((k : ℕ) → Lacks (s k)) → (t : TypeTree) → TypeLacks t → TypeLacks (put s t)
  put_lacks s each bool_type h = tt
  put_lacks s each (num_type u) h = replace_lacks s each u h
  put_lacks s each (list_type t) h = put_lacks s each t h
  put_lacks s each (record_type r us) h = (all_replaced s each us h.0, (let l = h.1 in let e = length-map us (replace s) in omega (arith, l, e)))

  pub types_put_lack : (s : ℕ → PowerMap) → ((k : ℕ) → Lacks (s k)) → (ts : List TypeTree) → TypesLack ts → TypesLack (map (put s) ts)
  types_put_lack s each [] h = tt
  types_put_lack s each (t ∷ ts) h = (put_lacks s each t h.0, types_put_lack s each ts h.1)

  pub types_lack-append : (ss ts : List TypeTree) → TypesLack ss → TypesLack ts → TypesLack (ss ++ ts)
  types_lack-append [] ts h k = k
  types_lack-append (s ∷ ss) ts h k = (h.0, types_lack-append ss ts h.1 k)

-- ---- what lacks each base unit from n on
module _ (n : ℕ) where
  pub bases_below : (u : PowerMap) → ((m : ℕ) → n ≤ m → Lacks m u) → BasesBelow n u
  bases_below u lacks k held = elim (cases_lt k n) [ inl h ↦ h | inr l ↦ absurd (held (lacks k l)) ]

  pub all_bases_below : (us : List PowerMap) → ((m : ℕ) → n ≤ m → All (Lacks m) us) → All (BasesBelow n) us
  all_bases_below us lack k d low = bases_below (get_or us k d) (λ m l. lack m l k d low)

  type_bases_below : (t : TypeTree) → ((m : ℕ) → n ≤ m → TypeLacks m t) → TypeHas (BasesBelow n) t
  type_bases_below bool_type lack = tt
  type_bases_below (num_type u) lack = bases_below u lack
  type_bases_below (list_type t) lack = type_bases_below t lack
  type_bases_below (record_type r us) lack = all_bases_below us (λ m l. (lack m l).0)

  pub signature_bases_below : (g : Signature) → ((m : ℕ) → n ≤ m → SignatureLacks m g) → All (TypeHas (BasesBelow n)) (signature_types g)
  signature_bases_below g lack = each g.params (λ m l. (lack m l).0)
    where
      each : (ts : List TypeTree) → ((m : ℕ) → n ≤ m → TypesLack m ts) → All (TypeHas (BasesBelow n)) (ts ++ g.result ∷ [])
      each [] h = All-cons (TypeHas (BasesBelow n)) g.result [] (type_bases_below g.result (λ m l. (lack m l).1)) (All-nil (TypeHas (BasesBelow n)))
      each (t ∷ ts) h = All-cons (TypeHas (BasesBelow n)) t (ts ++ g.result ∷ []) (type_bases_below t (λ m l. (h m l).0)) (each ts (λ m l. (h m l).1))
