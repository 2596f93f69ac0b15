-- Terms that a unit keeps, one after another.
use Rattle.std.proofs.Common.{◌≡◌, ℕ, ◌<◌, ◌≤◌, ◌-◌, ◌+◌, false, not, List, [], ◌∷◌, length, get_or, drop, refl, sym, ap, ◌∙◌, subst, arith}
use Rattle.std.specs.Prelude.{IsTrue}
use Rattle.std.proofs.lemmas.Bool.{and_from}
use Rattle.std.proofs.lemmas.List.{drop_more}
use Rattle.um_units.specs.declared.Term.{Term}
use Rattle.um_units.specs.Atoms.{is_before}
use Rattle.um_units.specs.NormalForm.{head_before_all}
use Rattle.um_units.specs.Range.{in_range, IsKept}
use Rattle.um_units.specs.Terms.{is_before_all, is_normal, is_zero}
use Rattle.um_units.proofs.MergeLemmas.{before_all-cons}

pub kept_single : (t : Term) → is_zero t.power ≡ false → IsTrue (in_range t.power) → IsKept (t ∷ [])
kept_single t nonzero fit = record {
  normal = and_from _ _ (ap not nonzero) refl;
  fit = and_from _ _ fit refl;
}

pub kept_first : (t : Term) (ts : List Term) (d : Term) → is_zero t.power ≡ false → IsTrue (in_range t.power) → 0 < length ts → IsTrue (is_before t.atom (get_or ts 0 d).atom) → IsKept ts → IsKept (t ∷ ts)
kept_first t ts d nonzero fit some first kept =
    let parts : ts ≡ get_or ts 0 d ∷ drop 1 ts = drop_more ts 0 d some in
    let own : IsTrue (is_normal (get_or ts 0 d ∷ drop 1 ts)) = ap is_normal (sym parts) ∙ kept.normal in
    let before : IsTrue (is_before_all t.atom ts) =
    ap (is_before_all t.atom) parts ∙ before_all-cons t.atom (get_or ts 0 d) (drop 1 ts) first (head_before_all (get_or ts 0 d) (drop 1 ts) own) in
    record {
      normal = and_from _ _ (ap not nonzero) (and_from _ _ before kept.normal);
      fit = and_from _ _ fit kept.fit;
    }

pub kept_more : (ts : List Term) (k : ℕ) (d : Term) → 0 < k → k ≤ length ts → IsKept (get_or ts (k - 1) d ∷ drop k ts) → IsKept (drop (k - 1) ts)
kept_more ts k d some within kept =
    let below : k - 1 < length ts = omega (arith, some, within) in
    let next : k - 1 + 1 ≡ k = omega (arith, some) in
    subst IsKept (ap (λ j. get_or ts (k - 1) d ∷ drop j ts) (sym next) ∙ sym (drop_more ts (k - 1) d below)) kept
