-- A typing of a program stays one where each unit is changed by a homomorphism that leaves what is written.
use Rattle.std.proofs.Common.{◌≡◌, ◌≢◌, refl, sym, ap, subst, ◌∙◌, inl, inr, ℕ, zero, suc, ◌+◌, ◌<◌, ◌≤◌, length, Option, Some, None, slice_get, cond, nat_eq, nat_lt, true, false, pos, List, ◌⊎◌, arith}
use Rattle.std.proofs.lemmas.Bool.Decides.{nat_tests}
use Rattle.um_units.specs.declared.Atom.{Atom}
use Rattle.um_units.specs.declared.Atom.TheVariants.{Base, Var}
use Rattle.um_units.specs.PowerMap.{PowerMap, atom, power_of, extension, replace}
use Rattle.um_units.specs.Variables.{IsClosed}
use Rattle.um_units.proofs.Replacement.{replace-mul, replace-base, replace-closed, replace-same, extension-mul}
use Rattle.um_tree.specs.ProgramTree.{RecordTree, FunctionTree, ProgramTree, Signature}
use Rattle.um_tree.specs.Typing.{moved_signature, IsHomomorphism, Earlier, IsLooseTypingOf, IsInstantiation, IsTypingOf, TypingAt, typings_below, Typing}
use Rattle.um_tree.specs.Formed.{BasesBelow}
use Rattle.um_tree.specs.Laws.{ProgramHas, Leaves, Fixes, LiteralsAreClosed, WritesDeclaredUnits}
use Rattle.um_tree.proofs.Homomorphisms.{h-replace}
use Rattle.um_tree.proofs.Instantiations.{signature_alike, signature_twice, signature_left, alike_where_held, after-mul, named, named-declared, rigid_change, rigid_change-mul, rigid_change-declared, rigid_change-parameter, instantiation, instantiation-is, same_change}
use Rattle.um_tree.proofs.Moved.{typing_of}
use Rattle.um_tree.proofs.WrittenUnits.{function_has, records_have, program_has_both}

-- ---- an instantiation of unit parameters, changed further

-- units put for variables behind it are one more instantiation
module _ (bases : ℕ) (records : List RecordTree) (earlier : Earlier) (i : ℕ) where
  put_behind : (f : FunctionTree) (g : Signature) (units : ℕ → PowerMap) → IsTypingOf bases records earlier i f g → IsTypingOf bases records earlier i f (moved_signature (replace units) g)
  put_behind f g units m = record {
    signature = m.signature;
    typing = m.typing;
    change = λ u. replace units (m.change u);
    instantiates = record {
      homomorphism = after-mul m.change (replace units) m.instantiates.homomorphism (replace-mul units);
      others = λ k e. ap (replace units) (m.instantiates.others k e) ∙ replace-base units k;
    };
    given = ap (moved_signature (replace units)) m.given ∙ signature_twice m.change (replace units) m.signature;
  }

  pub put_behind_at : (o : Option FunctionTree) (g : Signature) (units : ℕ → PowerMap) → TypingAt bases records earlier i o g → TypingAt bases records earlier i o (moved_signature (replace units) g)
  put_behind_at None g units m = m
  put_behind_at (Some f) g units m = put_behind f g units m

-- ---- a change that leaves what is written leaves it too where it leaves the unit parameters
module _ (b n : ℕ) (inst h : PowerMap → PowerMap) (is : IsInstantiation b n inst) (h-mul : IsHomomorphism h) where
  leaves_written : (u : PowerMap) → BasesBelow b u → Leaves h u → Leaves (rigid_change b n inst h is h-mul) u
  leaves_written u below left k held =
      rigid_change-declared b n inst h is h-mul k (below k held) ∙ ap (extension (named b n)) (left k held) ∙ named-declared b n k (below k held)

  fixes_written : (u : PowerMap) → IsClosed u × BasesBelow b u → Fixes h u → Fixes (rigid_change b n inst h is h-mul) u
  fixes_written u w fixed =
      alike_where_held (rigid_change b n inst h is h-mul) (λ u. extension (named b n) (h u)) (rigid_change-mul b n inst h is h-mul) (after-mul h (extension (named b n)) h-mul (extension-mul (named b n))) u changed
      ∙ ap (extension (named b n)) fixed
      ∙ alike_where_held (extension (named b n)) (λ u. u) (extension-mul (named b n)) (λ u v. refl) u named_left
    where
      changed : (x : Atom) → power_of u x ≢ pos 0 → rigid_change b n inst h is h-mul (atom x) ≡ extension (named b n) (h (atom x))
      changed (Base k) held = rigid_change-declared b n inst h is h-mul k (w.1 k held)
      changed (Var k) held = absurd (held (w.0 k))

      named_left : (x : Atom) → power_of u x ≢ pos 0 → extension (named b n) (atom x) ≡ atom x
      named_left (Base k) held = named-declared b n k (w.1 k held)
      named_left (Var k) held = absurd (held (w.0 k))

  pub leaves_program : (p : ProgramTree) (i : ℕ) → ProgramHas (BasesBelow b) (λ u. IsClosed u × BasesBelow b u) p i → ProgramHas (Leaves h) (Fixes h) p i → ProgramHas (Leaves (rigid_change b n inst h is h-mul)) (Fixes (rigid_change b n inst h is h-mul)) p i
  leaves_program p i declared left = program_has_both _ _ _ _ _ _ leaves_written fixes_written p i declared left

-- ---- programs
module _ (p : ProgramTree) (i : ℕ) (declared : WritesDeclaredUnits p i) where
  abbrev b : ℕ
  b = length p.bases

  -- the change keeps the typings of the functions below n
  abbrev Keeps : ℕ → Type 0
  Keeps n = (h : PowerMap → PowerMap) → IsHomomorphism h → ProgramHas (Leaves h) (Fixes h) p i → (j : ℕ) (g : Signature) → typings_below p n j g → typings_below p n j (moved_signature h g)

  module _ (n : ℕ) (low : n ≤ i) (keeps : Keeps n) (h : PowerMap → PowerMap) (h-mul : IsHomomorphism h) (left : ProgramHas (Leaves h) (Fixes h) p i) where
    function_kept : (f : FunctionTree) → slice_get p.functions n ≡ Some f → (g : Signature) → IsTypingOf b p.records (typings_below p n) n f g → IsTypingOf b p.records (typings_below p n) n f (moved_signature h g)
    function_kept f at g m =
        let rigid : PowerMap → PowerMap = rigid_change b f.units m.change h m.instantiates h-mul in
        let left_there = leaves_program b f.units m.change h m.instantiates h-mul p i declared left in
        let loose = typing_of rigid (rigid_change-mul b f.units m.change h m.instantiates h-mul) p.records left_there.records (typings_below p n) (keeps rigid (rigid_change-mul b f.units m.change h m.instantiates h-mul) left_there) n f m.signature (left_there.functions n f low at) m.typing.loose in
        record {
          signature = moved_signature rigid m.signature;
          typing = record { loose = loose.0; rigid = λ k below. loose.1 k ∙ ap rigid (m.typing.rigid k below) ∙ rigid_change-parameter b f.units m.change h m.instantiates h-mul k below };
          change = instantiation b f.units m.change h m.instantiates h-mul;
          instantiates = instantiation-is b f.units m.change h m.instantiates h-mul;
          given =
              ap (moved_signature h) m.given
              ∙ signature_twice m.change h m.signature
              ∙ signature_alike (λ u. h (m.change u)) (λ u. instantiation b f.units m.change h m.instantiates h-mul (rigid u)) (λ u. sym (same_change b f.units m.change h m.instantiates h-mul u)) m.signature
              ∙ sym (signature_twice rigid (instantiation b f.units m.change h m.instantiates h-mul) m.signature);
        }

    kept_at : (o : Option FunctionTree) → slice_get p.functions n ≡ o → (g : Signature) → TypingAt b p.records (typings_below p n) n o g → TypingAt b p.records (typings_below p n) n o (moved_signature h g)
    kept_at None at g m = m
    kept_at (Some f) at g m = function_kept f at g m

  below_kept : (n : ℕ) → n ≤ i → Keeps n
  below_kept zero low h h-mul left j g m = m
  below_kept (suc n) low h h-mul left j g m =
      elim (nat_eq j n) as (λ t. cond t (TypingAt b p.records (typings_below p n) n (slice_get p.functions n) g) (typings_below p n j g) → cond t (TypingAt b p.records (typings_below p n) n (slice_get p.functions n) (moved_signature h g)) (typings_below p n j (moved_signature h g))) [
        | true ↦ λ m. kept_at n (omega arith) (below_kept n (omega arith)) h h-mul left (slice_get p.functions n) refl g m
        | false ↦ λ m. below_kept n (omega arith) h h-mul left j g m
      ] m

  pub typing_moved : (h : PowerMap → PowerMap) → IsHomomorphism h → ProgramHas (Leaves h) (Fixes h) p i → (g : Signature) → Typing p i g → Typing p i (moved_signature h g)
  typing_moved h h-mul left g m = kept_at i (omega arith) (below_kept i (omega arith)) h h-mul left (slice_get p.functions i) refl g m

-- the same of replacements, of any program
below_put : (p : ProgramTree) (units : ℕ → PowerMap) (n j : ℕ) (g : Signature) → typings_below p n j g → typings_below p n j (moved_signature (replace units) g)
below_put p units zero j g m = m
below_put p units (suc n) j g m =
    elim (nat_eq j n) as (λ t. cond t (TypingAt (length p.bases) p.records (typings_below p n) n (slice_get p.functions n) g) (typings_below p n j g) → cond t (TypingAt (length p.bases) p.records (typings_below p n) n (slice_get p.functions n) (moved_signature (replace units) g)) (typings_below p n j (moved_signature (replace units) g))) [
      | true ↦ λ m. put_behind_at (length p.bases) p.records (typings_below p n) n (slice_get p.functions n) g units m
      | false ↦ λ m. below_put p units n j g m
    ] m

pub typing_put : (p : ProgramTree) (i : ℕ) (units : ℕ → PowerMap) (g : Signature) → Typing p i g → Typing p i (moved_signature (replace units) g)
typing_put p i units g m = put_behind_at (length p.bases) p.records (typings_below p i) i (slice_get p.functions i) g units m

-- ---- functions without unit parameters
module _ (p : ProgramTree) (i : ℕ) (f : FunctionTree) (none : f.units ≡ 0) where
  -- an instantiation of no unit parameters puts units for variables
  puts : (h : PowerMap → PowerMap) → IsInstantiation (length p.bases) f.units h → (u : PowerMap) → h u ≡ replace (λ k. h (atom (Var k))) u
  puts h is u = sym (ap h (replace-same u)) ∙ h-replace h is.homomorphism u (λ k e. is.others k (each k)) (λ k. atom (Var k))
    where
      each : (k : ℕ) → (k < length p.bases) ⊎ (length p.bases + f.units ≤ k)
      each k = elim (nat_lt k (length p.bases)) as (λ t. nat_lt k (length p.bases) ≡ t → (k < length p.bases) ⊎ (length p.bases + f.units ≤ k)) [
        | true ↦ λ e. inl (grind (arith, nat_tests))
        | false ↦ λ e. inr (grind (arith, nat_tests, none))
      ] refl

  pub loose_of_typing : LiteralsAreClosed f.body → (g : Signature) → IsTypingOf (length p.bases) p.records (typings_below p i) i f g → IsLooseTypingOf p.records (typings_below p i) i f g
  loose_of_typing closed g m =
      let units : ℕ → PowerMap = λ k. m.change (atom (Var k)) in
      let same : g ≡ moved_signature (replace units) m.signature = m.given ∙ signature_alike m.change (replace units) (puts m.change m.instantiates) m.signature in
      let has = function_has (Leaves (replace units)) (Fixes (replace units)) (λ u k e. replace-base units k) (replace-closed units) f closed in
      subst (IsLooseTypingOf p.records (typings_below p i) i f) (sym same)
      (typing_of (replace units) (replace-mul units) p.records (records_have (Leaves (replace units)) (λ u k e. replace-base units k) p.records) (typings_below p i) (below_put p units i) i f m.signature has m.typing.loose).0

  pub typing_of_loose : (g : Signature) → IsLooseTypingOf p.records (typings_below p i) i f g → IsTypingOf (length p.bases) p.records (typings_below p i) i f g
  typing_of_loose g m = record {
    signature = g;
    typing = record { loose = m; rigid = λ k below. absurd (omega (arith, none, below)) };
    change = λ u. u;
    instantiates = record { homomorphism = λ u v. refl; others = λ k e. refl };
    given = sym (signature_left g);
  }
