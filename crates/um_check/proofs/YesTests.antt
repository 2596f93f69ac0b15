-- The tests of a Yes say that it is valid.
use Rattle.std.proofs.Common.{◌≡◌, ℕ, ◌<◌, ◌≤◌, Bool, List, [], ◌∷◌, length, get_or, ℤ, pos, refl, sym, ap, ◌∙◌, subst, arith}
use Rattle.std.specs.Prelude.{◌↔◌, IsTrue}
use Rattle.std.proofs.lemmas.Int.{ints}
use Rattle.std.proofs.lemmas.List.Elements.{All-get_or, All-from_get_or}
use Rattle.um_units.specs.declared.Atom.TheVariants.{Base, Var}
use Rattle.um_units.specs.declared.Term.{Term}
use Rattle.um_units.specs.PowerMap.{PowerMap, power_of, atom, mul, inv, pow, replace, nth}
use Rattle.um_units.specs.Atoms.{same_atom}
use Rattle.um_units.specs.NormalForm.{same_atom-eq, same_atom_refl}
use Rattle.um_units.specs.PowerMapCode.{same_from_terms}
use Rattle.um_units.specs.Solutions.{Solves}
use Rattle.um_units.proofs.Group.{terms-atom, power_of-atom, power_of-other_atom}
use Rattle.um_wide.specs.Room.{IsNarrow}
use Rattle.um_tree.specs.ProgramTree.{Signature, SchemeTree}
use Rattle.um_tree.specs.Typing.{put_signature}
use Rattle.um_check.specs.declared.certificate.Part.{Part}
use Rattle.um_check.specs.declared.certificate.Yes.{Yes}
use Rattle.um_check.specs.Combination.{combined, NamesRowsBelow}
use Rattle.um_check.specs.Validity.{ShowsGeneral, IsValidYes}
use Rattle.um_check.specs.Tests.{IsSized, SlotComesBack, AllComeBack}

-- ---- the whole certificate
pub valid_from : (bases parameters slots : ℕ) (rows : List PowerMap) (g : Signature) (s : SchemeTree) (c : Yes) →
    IsSized slots s c → Solves (nth c.solution) rows → put_signature (nth c.solution) g ≡ s.signature → ShowsGeneral bases slots parameters rows c.rigid → AllComeBack rows c.solution c.back c.divisor c.parts →
    IsValidYes bases parameters slots rows g s c
valid_from bases parameters slots rows g s c sized solved shown general all = record {
  solves = record { per_slot = sized.units; solves = solved };
  below = sized.below;
  back_count = sized.back;
  gives = shown;
  own = sized.own;
  comes_back = record {
    positive = sized.positive;
    per_slot = sized.parts ∙ sized.units;
    named = All-from_get_or (NamesRowsBelow (length rows)) c.parts [] (λ i h. (all i (subst (λ n. i < n) sized.parts h)).0);
    by_rows = λ j h. (all j (subst (λ n. j < n) (sym sized.units) h)).1.by_rows;
    narrow = λ j h. (all j (subst (λ n. j < n) (sym sized.units) h)).1.narrow;
  };
  general = general;
}

pub sized_by : (bases parameters slots : ℕ) (rows : List PowerMap) (g : Signature) (s : SchemeTree) (c : Yes) → IsValidYes bases parameters slots rows g s c → IsSized slots s c
sized_by bases parameters slots rows g s c v = record {
  units = v.solves.per_slot;
  parts = v.comes_back.per_slot ∙ sym v.solves.per_slot;
  back = v.back_count;
  positive = v.comes_back.positive;
  below = v.below;
  own = v.own;
}

pub all_by : (bases parameters slots : ℕ) (rows : List PowerMap) (g : Signature) (s : SchemeTree) (c : Yes) → IsValidYes bases parameters slots rows g s c → AllComeBack rows c.solution c.back c.divisor c.parts
all_by bases parameters slots rows g s c v j h =
    let low : j < slots = subst (λ n. j < n) v.solves.per_slot h in (
      All-get_or (NamesRowsBelow (length rows)) c.parts j [] (subst (λ n. j < n) (sym v.comes_back.per_slot) low) v.comes_back.named,
      record { by_rows = v.comes_back.by_rows j low; narrow = v.comes_back.narrow j low },
    )

pub moved_back : (rows us solution bs back : List PowerMap) (k divisor : ℤ) (ps parts : List (List Part)) → us ≡ solution → bs ≡ back → k ≡ divisor → ps ≡ parts → AllComeBack rows us bs k ps → AllComeBack rows solution back divisor parts
moved_back rows us solution bs back k divisor ps parts e f g h a =
    subst (λ z. AllComeBack rows solution back divisor z) h (subst (λ z. AllComeBack rows solution back z ps) g (subst (λ z. AllComeBack rows solution z k ps) f (subst (λ z. AllComeBack rows z bs k ps) e a)))

-- ---- one slot
pub slot_judged : (rows back : List PowerMap) (unit : PowerMap) (j : ℕ) (divisor k : ℤ) (parts : List Part) (over power product : PowerMap) → over ≡ mul (replace (nth back) unit) (inv (atom (Var j))) →
    IsNarrow over → k ≡ divisor → power ≡ pow over k → product ≡ combined rows parts → (power ≡ product) ↔ SlotComesBack rows back unit j divisor parts
slot_judged rows back unit j divisor k parts over power product e narrow same f g = (
  (λ q. record { by_rows = sym raised ∙ q ∙ g; narrow = subst IsNarrow e narrow }),
  (λ s. raised ∙ s.by_rows ∙ sym g),
)
  where
    raised : power ≡ pow (mul (replace (nth back) unit) (inv (atom (Var j)))) divisor
    raised = f ∙ (λ i. pow (e i) (same i))

-- ---- a base unit
pub base_unit_from : (u : PowerMap) (t : Term) (n : ℕ) → u.terms ≡ t ∷ [] → t ≡ record { atom = Base n; power = pos 1 } → u ≡ atom (Base n)
base_unit_from u t n e f = same_from_terms u (atom (Base n)) (e ∙ ap (λ s. s ∷ []) f ∙ sym (terms-atom (Base n)))

pub base_unit_terms : (u : PowerMap) (n : ℕ) → u ≡ atom (Base n) → u.terms ≡ record { atom = Base n; power = pos 1 } ∷ []
base_unit_terms u n e = ap (λ (v : PowerMap). v.terms) e ∙ terms-atom (Base n)

pub variable_no_base : (k n : ℕ) → atom (Var k) ≡ atom (Base n) → ⊥
variable_no_base k n e =
    let z : pos 1 ≡ pos 0 = sym (power_of-atom (Var k)) ∙ ap (λ u. power_of u (Var k)) e ∙ power_of-other_atom (Var k) (Base n) refl in
    omega (arith, ints, z)

-- the one term is that of the base unit exactly where the atom is
pub base_unit_judged : (ts : List Term) (u : PowerMap) (n : ℕ) (d : Term) (b : Bool) → ts ≡ u.terms → length ts < 2 → 1 ≤ length ts → (get_or ts 0 d).power ≡ pos 1 → b ≡ same_atom (Base n) (get_or ts 0 d).atom → IsTrue b ↔ (u ≡ atom (Base n))
base_unit_judged [] u n d b e l m p q = absurd (omega (arith, m))
base_unit_judged (t ∷ []) u n d b e l m p q = (
  (λ g. base_unit_from u t n (sym e) (λ i. record { atom = sym (same_atom-eq (Base n) t.atom (sym q ∙ g)) i; power = p i })),
  (λ h. q ∙ ap (same_atom (Base n)) (ap (λ (s : Term). s.atom) (first h)) ∙ same_atom_refl (Base n)),
)
  where
    first : u ≡ atom (Base n) → t ≡ record { atom = Base n; power = pos 1 }
    first h = let w : t ∷ [] ≡ record { atom = Base n; power = pos 1 } ∷ [] = e ∙ base_unit_terms u n h in cc w
base_unit_judged (t ∷ s ∷ ts) u n d b e l m p q = absurd (omega (arith, l))

pub base_unit_power : (ts : List Term) (u : PowerMap) (n : ℕ) (d : Term) → ts ≡ u.terms → u ≡ atom (Base n) → (get_or ts 0 d).power ≡ pos 1
base_unit_power ts u n d e h = ap (λ us. (get_or us 0 d).power) (e ∙ base_unit_terms u n h)

pub base_unit_length : (ts : List Term) (u : PowerMap) (n : ℕ) → ts ≡ u.terms → u ≡ atom (Base n) → length ts ≡ 1
base_unit_length ts u n e h = ap length (e ∙ base_unit_terms u n h)
