-- The laws of replacements: a replacement is a homomorphism, and replacements compose.
-- Source: Kennedy (1996): substitutions of units for unit variables.
use Rattle.std.proofs.Common.{◌≡◌, ◌≢◌, ℕ, ◌<◌, true, false, List, [], ◌∷◌, ◌++◌, map, length, ℤ, pos, negsuc, ◌+ℤ◌, ◌*ℤ◌, refl, sym, ap, ◌∙◌, arith}
use Rattle.std.specs.Prelude.{All, IsTrue}
use Rattle.std.proofs.lemmas.Int.{ints}
use Rattle.std.proofs.lemmas.List.{get_or-map}
use Rattle.std.proofs.lemmas.List.Elements.{All-head, All-tail}
use Rattle.um_units.specs.declared.Atom.{Atom}
use Rattle.um_units.specs.declared.Atom.TheVariants.{Base, Var}
use Rattle.um_units.specs.declared.Term.{Term}
use Rattle.um_units.specs.Atoms.{same_atom}
use Rattle.um_units.specs.Terms.{weigh, indicator, power_in, is_zero, is_normal}
use Rattle.um_units.specs.NormalForm.{head_nonzero, head_before_all, tail_normal, same_atom-eq}
use Rattle.um_units.specs.PowerMap.{PowerMap, product, weight, power_of, one, atom, mul, scale, pow, inv, image, images_of, images, extension, replace, nth}
use Rattle.um_units.specs.Variables.{IsClosed, VariablesBelow}
use Rattle.um_units.proofs.Weights.{weigh-product, weigh-++, weigh_alike}
use Rattle.um_units.proofs.Equality.{same_unit, same_product, power_in-before_all, power_in-head, power_in-tail}
use Rattle.um_units.proofs.Group.{weigh-scale, weight-one, weight-atom, weight-mul, weight-pow}

-- ---- a linear functional at a replaced unit
weigh-images_of : (f : Atom → ℤ) (g : Atom → PowerMap) (ts : List Term) → weigh f (images_of g ts) ≡ weigh (λ x. weight f (g x)) ts
weigh-images_of f g [] = refl
weigh-images_of f g (t ∷ ts) =
    weigh-++ f (map (scale t.power) (g t.atom).terms) (images_of g ts)
    ∙ ap (λ n. n +ℤ weigh f (images_of g ts)) (weigh-scale f t.power (g t.atom).terms)
    ∙ ap (λ n. t.power *ℤ weight f (g t.atom) +ℤ n) (weigh-images_of f g ts)

pub weigh-images : (f : Atom → ℤ) (s : ℕ → PowerMap) (ts : List Term) → weigh f (images s ts) ≡ weigh (λ x. weight f (image s x)) ts
weigh-images f s ts = weigh-images_of f (image s) ts

-- ---- a homomorphism that is given at the atoms
weight-extension : (f : Atom → ℤ) (g : Atom → PowerMap) (u : PowerMap) → weight f (extension g u) ≡ weight (λ x. weight f (g x)) u
weight-extension f g u = weigh-product f (images_of g u.terms) ∙ weigh-images_of f g u.terms

pub extension-mul : (g : Atom → PowerMap) (u v : PowerMap) → extension g (mul u v) ≡ mul (extension g u) (extension g v)
extension-mul g u v =
    same_unit _ _ (λ x. omega (
      arith,
      ints,
      weight-extension (indicator x) g (mul u v),
      weight-mul (λ y. power_of (g y) x) u v,
      weight-mul (indicator x) (extension g u) (extension g v),
      weight-extension (indicator x) g u,
      weight-extension (indicator x) g v,
    ))

pub extension-atom : (g : Atom → PowerMap) (x : Atom) → extension g (atom x) ≡ g x
extension-atom g y = same_unit _ _ (λ x. weight-extension (indicator x) g (atom y) ∙ weight-atom (λ z. power_of (g z) x) y)

pub weight-replace : (f : Atom → ℤ) (s : ℕ → PowerMap) (u : PowerMap) → weight f (replace s u) ≡ weight (λ x. weight f (image s x)) u
weight-replace f s u = weigh-product f (images s u.terms) ∙ weigh-images f s u.terms

-- the power of an atom in a replaced unit
pub power_of-replace : (s : ℕ → PowerMap) (u : PowerMap) (x : Atom) → power_of (replace s u) x ≡ weight (λ y. power_of (image s y) x) u
power_of-replace s u x = weight-replace (indicator x) s u

-- ---- a homomorphism
pub replace-one : (s : ℕ → PowerMap) → replace s one ≡ one
replace-one s = same_unit _ _ (λ x. weight-replace (indicator x) s one ∙ weight-one (λ y. power_of (image s y) x) ∙ sym (weight-one (indicator x)))

pub replace-mul : (s : ℕ → PowerMap) (u v : PowerMap) → replace s (mul u v) ≡ mul (replace s u) (replace s v)
replace-mul s u v =
    same_unit _ _ (λ x. omega (
      arith,
      ints,
      weight-replace (indicator x) s (mul u v),
      weight-mul (λ y. power_of (image s y) x) u v,
      weight-mul (indicator x) (replace s u) (replace s v),
      weight-replace (indicator x) s u,
      weight-replace (indicator x) s v,
    ))

pub replace-pow : (s : ℕ → PowerMap) (u : PowerMap) (k : ℤ) → replace s (pow u k) ≡ pow (replace s u) k
replace-pow s u k =
    same_unit _ _ (λ x. weight-replace (indicator x) s (pow u k) ∙ weight-pow (λ y. power_of (image s y) x) u k
    ∙ sym (weight-pow (indicator x) (replace s u) k ∙ ap (λ n. k *ℤ n) (weight-replace (indicator x) s u)))

pub replace-inv : (s : ℕ → PowerMap) (u : PowerMap) → replace s (inv u) ≡ inv (replace s u)
replace-inv s u = replace-pow s u (negsuc 0)

-- ---- at atoms
pub replace-atom : (s : ℕ → PowerMap) (x : Atom) → replace s (atom x) ≡ image s x
replace-atom s y = same_unit _ _ (λ x. weight-replace (indicator x) s (atom y) ∙ weight-atom (λ z. power_of (image s z) x) y)

-- a variable is replaced, and a base unit is left
pub replace-variable : (s : ℕ → PowerMap) (k : ℕ) → replace s (atom (Var k)) ≡ s k
replace-variable s k = replace-atom s (Var k)

pub replace-base : (s : ℕ → PowerMap) (n : ℕ) → replace s (atom (Base n)) ≡ atom (Base n)
replace-base s n = replace-atom s (Base n)

-- ---- each atom for itself
image-same : (x y : Atom) → power_of (image (λ k. atom (Var k)) y) x ≡ indicator x y
image-same x (Base n) = weight-atom (indicator x) (Base n)
image-same x (Var k) = weight-atom (indicator x) (Var k)

pub images-same : (ts : List Term) → product (images (λ k. atom (Var k)) ts) ≡ product ts
images-same ts = same_product _ _ (λ x. weigh-images (indicator x) (λ k. atom (Var k)) ts ∙ weigh_alike _ _ (image-same x) ts)

pub replace-same : (u : PowerMap) → replace (λ k. atom (Var k)) u ≡ u
replace-same u = same_unit _ _ (λ x. weight-replace (indicator x) (λ k. atom (Var k)) u ∙ weigh_alike _ _ (image-same x) u.terms)

-- ---- atoms for which they are put themselves
module _ (s : ℕ → PowerMap) where
  image_stays : (x : Atom) → image s x ≡ atom x → image s x ≡ image (λ k. atom (Var k)) x
  image_stays (Base n) e = refl
  image_stays (Var k) e = e

  images_stay : (ts : List Term) → All (λ (t : Term). image s t.atom ≡ atom t.atom) ts → images s ts ≡ images (λ k. atom (Var k)) ts
  images_stay [] h = refl
  images_stay (t ∷ ts) h =
      let first = image_stays t.atom (All-head (λ (t : Term). image s t.atom ≡ atom t.atom) t ts h) in
      let rest = images_stay ts (All-tail (λ (t : Term). image s t.atom ≡ atom t.atom) t ts h) in
      λ i. map (scale t.power) (first i).terms ++ rest i

pub replace-stays : (s : ℕ → PowerMap) (u : PowerMap) → All (λ (t : Term). image s t.atom ≡ atom t.atom) u.terms → replace s u ≡ u
replace-stays s u h = ap product (images_stay s u.terms h) ∙ replace-same u

-- ---- one replacement after another
pub image-replace : (s t : ℕ → PowerMap) (x : Atom) → replace t (image s x) ≡ image (λ k. replace t (s k)) x
image-replace s t (Base n) = replace-base t n
image-replace s t (Var k) = refl

-- replacing twice is replacing by the replaced
pub replace-replace : (s t : ℕ → PowerMap) (u : PowerMap) → replace t (replace s u) ≡ replace (λ k. replace t (s k)) u
replace-replace s t u =
    same_unit _ _ (λ x. weight-replace (indicator x) t (replace s u) ∙ weight-replace (λ y. power_of (image t y) x) s u
    ∙ weigh_alike _ _ (λ y. sym (weight-replace (indicator x) t (image s y)) ∙ ap (λ v. power_of v x) (image-replace s t y)) u.terms
    ∙ sym (weight-replace (indicator x) (λ k. replace t (s k)) u))

-- ---- only the atoms that a unit holds count
weigh_held : (f g : Atom → ℤ) (ts : List Term) → IsTrue (is_normal ts) → ((x : Atom) → power_in ts x ≢ pos 0 → f x ≡ g x) → weigh f ts ≡ weigh g ts
weigh_held f g [] n same = refl
weigh_held f g (t ∷ ts) n same =
    ap (λ z. t.power *ℤ z +ℤ weigh f ts) (same t.atom head_held) ∙ ap (λ z. t.power *ℤ g t.atom +ℤ z) (weigh_held f g ts (tail_normal t ts n) (λ x h. same x (tail_held x h)))
  where
    head_held : power_in (t ∷ ts) t.atom ≡ pos 0 → ⊥
    head_held e = let z : is_zero t.power ≡ true = ap is_zero (sym (power_in-head t ts (head_before_all t ts n)) ∙ e) in let f = head_nonzero t ts n in cc

    tail_held : (x : Atom) → (power_in ts x ≡ pos 0 → ⊥) → power_in (t ∷ ts) x ≡ pos 0 → ⊥
    tail_held x h e =
        elim (same_atom x t.atom) as (λ b. same_atom x t.atom ≡ b → ⊥) [
          | true ↦ λ s. h (ap (power_in ts) (same_atom-eq x t.atom s) ∙ power_in-before_all t.atom ts (head_before_all t ts n))
          | false ↦ λ s. h (sym (power_in-tail t ts x s) ∙ e)
        ] refl

pub weight_held : (f g : Atom → ℤ) (u : PowerMap) → ((x : Atom) → power_of u x ≢ pos 0 → f x ≡ g x) → weight f u ≡ weight g u
weight_held f g u same = weigh_held f g u.terms u.normal same

-- replacements that are alike at the variables of a unit
pub replace_alike : (s t : ℕ → PowerMap) (u : PowerMap) → ((k : ℕ) → power_of u (Var k) ≢ pos 0 → s k ≡ t k) → replace s u ≡ replace t u
replace_alike s t u same =
    same_unit _ _ (λ x. weight-replace (indicator x) s u ∙ weight_held _ _ u (at x) ∙ sym (weight-replace (indicator x) t u))
  where
    at : (x y : Atom) → power_of u y ≢ pos 0 → power_of (image s y) x ≡ power_of (image t y) x
    at x (Base n) h = refl
    at x (Var k) h = ap (λ v. power_of v x) (same k h)

pub replace-closed : (s : ℕ → PowerMap) (u : PowerMap) → IsClosed u → replace s u ≡ u
replace-closed s u closed = replace_alike s (λ k. atom (Var k)) u (λ k h. absurd (h (closed k))) ∙ replace-same u

-- ---- replacements by lists
pub nth-map : (f : PowerMap → PowerMap) (us : List PowerMap) (k : ℕ) → k < length us → nth (map f us) k ≡ f (nth us k)
nth-map f us k h = get_or-map f us k (atom (Var k)) (atom (Var k)) h

pub replace-nth_map : (t : ℕ → PowerMap) (us : List PowerMap) (u : PowerMap) → VariablesBelow (length us) u → replace (nth (map (replace t) us)) u ≡ replace t (replace (nth us) u)
replace-nth_map t us u below = replace_alike _ _ u (λ k h. nth-map (replace t) us k (below k h)) ∙ sym (replace-replace (nth us) t u)
