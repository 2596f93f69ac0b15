-- Units put into types: one replacement after another, and into the fields of a record.
use Rattle.std.proofs.Common.{◌≡◌, ℕ, zero, suc, ◌<◌, List, [], ◌∷◌, map, length, refl, ap, ◌∙◌, arith}
use Rattle.um_units.specs.PowerMap.{PowerMap, replace}
use Rattle.um_units.proofs.Replacement.{replace-one}
use Rattle.um_tree.specs.TypeTree.{TypeTree}
use Rattle.um_tree.specs.ProgramTree.{Signature}
use Rattle.um_tree.specs.Typing.{put, put_signature, unit_at}
use Rattle.um_elim.proofs.RenamedUnits.{put-put, puts-put}
use Rattle.um_rows.specs.Derivation.{first_units}

-- ---- one replacement after another
pub signature_put-put : (s t : ℕ → PowerMap) (g : Signature) → put_signature t (put_signature s g) ≡ put_signature (λ k. replace t (s k)) g
signature_put-put s t g = λ i. record { params = puts-put s t g.params i; result = put-put s t g.result i }

-- ---- the units of a record in the types of its fields
unit_at-map : (v : ℕ → PowerMap) (us : List PowerMap) (k : ℕ) → replace v (unit_at us k) ≡ unit_at (map (replace v) us) k
unit_at-map v [] k = replace-one v
unit_at-map v (u ∷ us) zero = refl
unit_at-map v (u ∷ us) (suc k) = unit_at-map v us k

pub put-field : (v : ℕ → PowerMap) (us : List PowerMap) (t : TypeTree) → put v (put (unit_at us) t) ≡ put (unit_at (map (replace v) us)) t
put-field v us t = put-put (unit_at us) v t ∙ ap (λ s. put s t) (λ i k. unit_at-map v us k i)

pub put-fields : (v : ℕ → PowerMap) (us : List PowerMap) (ts : List TypeTree) → map (put v) (map (put (unit_at us)) ts) ≡ map (put (unit_at (map (replace v) us))) ts
put-fields v us ts = puts-put (unit_at us) v ts ∙ ap (λ s. map (put s) ts) (λ i k. unit_at-map v us k i)

-- ---- the first m units
pub length-first_units : (v : ℕ → PowerMap) (m : ℕ) (f : ℕ → PowerMap) → length (map (replace v) (first_units m f)) ≡ m
length-first_units v zero f = refl
length-first_units v (suc m) f = ap suc (length-first_units v m (λ k. f (suc k)))

pub first_units-are : (v : ℕ → PowerMap) (m : ℕ) (f : ℕ → PowerMap) (us : List PowerMap) → length us ≡ m → ((k : ℕ) → k < m → replace v (f k) ≡ unit_at us k) → map (replace v) (first_units m f) ≡ us
first_units-are v zero f [] e h = refl
first_units-are v zero f (u ∷ us) e h = absurd (omega arith)
first_units-are v (suc m) f [] e h = absurd (omega arith)
first_units-are v (suc m) f (u ∷ us) e h = λ i. h 0 (omega arith) i ∷ first_units-are v m (λ k. f (suc k)) us (omega arith) (λ k l. h (suc k) (omega arith)) i
