-- Laws of products of rows.
use Rattle.std.proofs.Common.{◌≡◌, ℕ, ◌<◌, ◌≤◌, List, [], ◌∷◌, ◌++◌, map, length, take, drop, get_or, refl, sym, ap, ◌∙◌, subst, arith}
use Rattle.std.specs.Prelude.{All}
use Rattle.std.proofs.lemmas.List.{get_or-take, length-take-le, take-append-drop}
use Rattle.std.proofs.lemmas.List.Elements.{All-nil, All-cons, All-head, All-tail, All-get_or}
use Rattle.um_units.specs.declared.Atom.TheVariants.{Var}
use Rattle.um_units.specs.PowerMap.{PowerMap, one, atom, mul, pow, replace, nth}
use Rattle.um_units.specs.Solutions.{Solves}
use Rattle.um_units.proofs.Group.{one-pow, mul-one, one-mul, mul_assoc}
use Rattle.um_units.proofs.Replacement.{replace-one, replace-mul, replace-pow, nth-map}
use Rattle.um_check.specs.declared.certificate.Part.{Part}
use Rattle.um_check.specs.Combination.{combined, NamesRowsBelow}

abbrev IsBelow : ℕ → Part → Type 0
IsBelow n p = p.row < n

-- ---- a substitution that makes rows 1 makes their products 1
abbrev IsSolved : (ℕ → PowerMap) → List PowerMap → Part → Type 0
IsSolved s rows p = replace s (nth rows p.row) ≡ one

combined-named : (s : ℕ → PowerMap) (rows : List PowerMap) (parts : List Part) → All (IsSolved s rows) parts → replace s (combined rows parts) ≡ one
combined-named s rows [] h = replace-one s
combined-named s rows (p ∷ ps) h =
    replace-mul s (pow (nth rows p.row) p.times) (combined rows ps)
    ∙ ap (λ u. mul u (replace s (combined rows ps))) (replace-pow s (nth rows p.row) p.times ∙ ap (λ u. pow u p.times) (All-head (IsSolved s rows) p ps h) ∙ one-pow p.times)
    ∙ ap (mul one) (combined-named s rows ps (All-tail (IsSolved s rows) p ps h))
    ∙ mul-one one

-- the rows before row n, where that many are solved
named_solved : (s : ℕ → PowerMap) (rows : List PowerMap) (n : ℕ) (parts : List Part) → n ≤ length rows → Solves s (take n rows) → NamesRowsBelow n parts → All (IsSolved s rows) parts
named_solved s rows n [] l h named = All-nil (IsSolved s rows)
named_solved s rows n (p ∷ ps) l h named =
    let b : p.row < n = All-head (IsBelow n) p ps named in
    let in_taken : p.row < length (take n rows) = subst (λ m. p.row < m) (sym (length-take-le n rows l)) b in
    All-cons (IsSolved s rows) p ps
    (subst (λ u. replace s u ≡ one) (get_or-take n rows p.row (atom (Var p.row)) b) (All-get_or (λ row. replace s row ≡ one) (take n rows) p.row (atom (Var p.row)) in_taken h))
    (named_solved s rows n ps l h (All-tail (IsBelow n) p ps named))

pub combined-through : (s : ℕ → PowerMap) (rows : List PowerMap) (n : ℕ) (parts : List Part) → n ≤ length rows → Solves s (take n rows) → NamesRowsBelow n parts → replace s (combined rows parts) ≡ one
combined-through s rows n parts l h named = combined-named s rows parts (named_solved s rows n parts l h named)

pub combined-solved : (s : ℕ → PowerMap) (rows : List PowerMap) (parts : List Part) → Solves s rows → NamesRowsBelow (length rows) parts → replace s (combined rows parts) ≡ one
combined-solved s rows parts h named = combined-named s rows parts (each parts named)
  where
    each : (parts : List Part) → NamesRowsBelow (length rows) parts → All (IsSolved s rows) parts
    each [] named = All-nil (IsSolved s rows)
    each (p ∷ ps) named =
        All-cons (IsSolved s rows) p ps (All-get_or (λ row. replace s row ≡ one) rows p.row (atom (Var p.row)) (All-head (IsBelow (length rows)) p ps named) h)
        (each ps (All-tail (IsBelow (length rows)) p ps named))

-- ---- the product of replaced rows is the replaced product
pub combined-map : (s : ℕ → PowerMap) (rows : List PowerMap) (parts : List Part) → NamesRowsBelow (length rows) parts → combined (map (replace s) rows) parts ≡ replace s (combined rows parts)
combined-map s rows [] named = sym (replace-one s)
combined-map s rows (p ∷ ps) named =
    ap (λ u. mul (pow u p.times) (combined (map (replace s) rows) ps)) (nth-map (replace s) rows p.row (All-head (IsBelow (length rows)) p ps named))
    ∙ ap (mul (pow (replace s (nth rows p.row)) p.times)) (combined-map s rows ps (All-tail (IsBelow (length rows)) p ps named))
    ∙ sym (replace-mul s (pow (nth rows p.row) p.times) (combined rows ps) ∙ ap (λ u. mul u (replace s (combined rows ps))) (replace-pow s (nth rows p.row) p.times))

pub more_rows : (n m : ℕ) (parts : List Part) → n ≤ m → NamesRowsBelow n parts → NamesRowsBelow m parts
more_rows n m [] l h = All-nil (IsBelow m)
more_rows n m (p ∷ ps) l h = All-cons (IsBelow m) p ps (let b : p.row < n = All-head (IsBelow n) p ps h in omega (arith, b, l)) (more_rows n m ps l (All-tail (IsBelow n) p ps h))

-- ---- halves
combined-append : (rows : List PowerMap) (ps qs : List Part) → combined rows (ps ++ qs) ≡ mul (combined rows ps) (combined rows qs)
combined-append rows [] qs = sym (one-mul (combined rows qs))
combined-append rows (p ∷ ps) qs = ap (mul (pow (nth rows p.row) p.times)) (combined-append rows ps qs) ∙ sym (mul_assoc (pow (nth rows p.row) p.times) (combined rows ps) (combined rows qs))

pub combined-halves : (rows : List PowerMap) (ps front back : List Part) (n : ℕ) → front ≡ take n ps → back ≡ drop n ps → mul (combined rows front) (combined rows back) ≡ combined rows ps
combined-halves rows ps front back n e f =
    sym (combined-append rows front back) ∙ ap (combined rows) (ap (λ qs. qs ++ back) e ∙ ap (λ qs. take n ps ++ qs) f ∙ take-append-drop n ps)

pub combined-none : (rows : List PowerMap) (ps : List Part) → length ps < 1 → one ≡ combined rows ps
combined-none rows [] h = refl
combined-none rows (p ∷ ps) h = absurd (omega arith)

pub combined-one : (rows : List PowerMap) (ps : List Part) (d : Part) → length ps < 2 → 0 < length ps → pow (nth rows (get_or ps 0 d).row) (get_or ps 0 d).times ≡ combined rows ps
combined-one rows [] d h l = absurd (omega (arith, l))
combined-one rows (p ∷ []) d h l = sym (mul-one (pow (nth rows p.row) p.times))
combined-one rows (p ∷ q ∷ ps) d h l = absurd (omega (arith, h))
