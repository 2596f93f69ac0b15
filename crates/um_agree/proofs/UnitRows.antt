-- Units with their rows, one by one.
use Rattle.std.proofs.Common.{◌≡◌, ℕ, zero, suc, ◌+◌, ◌<◌, ◌≤◌, Bool, true, false, ◌&&◌, List, [], ◌∷◌, ◌++◌, length, take, get_or, refl, sym, ap, ◌∙◌, arith}
use Rattle.std.specs.Prelude.{IsTrue}
use Rattle.std.specs.List.{list_all}
use Rattle.std.proofs.lemmas.List.{get_or-map}
use Rattle.std.proofs.lemmas.List.Folds.{list_all-append}
use Rattle.um_units.specs.declared.UnitStop.{UnitStop}
use Rattle.um_units.specs.declared.UnitStop.TheVariants as stop
use Rattle.um_units.specs.PowerMap.{PowerMap}
use Rattle.um_units.specs.Range.{fits, IsStopUnless}
use Rattle.um_equal_types.specs.declared.row.Row.{Row}
use Rattle.um_equal_types.specs.Steps.{units_of}
use Rattle.um_agree.specs.declared.agreement.By.{By}
use Rattle.um_agree.specs.Made.{unit_by, units_by}

-- ---- units with their rows
pub units_more : (b : By) (us rows : List PowerMap) (k : ℕ) (u r : PowerMap) → k < length us → length us ≤ length rows → u ≡ get_or us k u → r ≡ get_or rows k r →
    units_by b (take (k + 1) us) rows ≡ units_by b (take k us) rows ++ unit_by b u r ∷ []
units_more b [] rows k u r l m p q = absurd (omega (arith, l))
units_more b (v ∷ us) [] k u r l m p q = absurd (omega (arith, m))
units_more b (v ∷ us) (w ∷ rows) zero u r l m p q = λ i. unit_by b (sym p i) (sym q i) ∷ []
units_more b (v ∷ us) (w ∷ rows) (suc k) u r l m p q =
    (let e : suc k + 1 ≡ suc (k + 1) = omega arith in ap (λ n. units_by b (take n (v ∷ us)) (w ∷ rows)) e) ∙ ap (λ xs. unit_by b v w ∷ xs) (units_more b us rows k u r (omega (arith, l)) (omega (arith, m)) p q)

and-false : (b : Bool) → (b && false) ≡ false
and-false true = refl
and-false false = refl

fails : (b : By) (us rows : List PowerMap) (k : ℕ) (u r : PowerMap) → k < length us → length us ≤ length rows → u ≡ get_or us k u → r ≡ get_or rows k r →
    fits (unit_by b u r) ≡ false → list_all fits (units_by b us rows) ≡ false
fails b [] rows k u r l m p q e = absurd (omega (arith, l))
fails b (v ∷ us) [] k u r l m p q e = absurd (omega (arith, m))
fails b (v ∷ us) (w ∷ rows) zero u r l m p q e =
    ap (λ t. t && list_all fits (units_by b us rows)) ((λ i. fits (unit_by b (sym p i) (sym q i))) ∙ e)
fails b (v ∷ us) (w ∷ rows) (suc k) u r l m p q e =
    ap (λ t. fits (unit_by b v w) && t) (fails b us rows k u r (omega (arith, l)) (omega (arith, m)) p q e) ∙ and-false (fits (unit_by b v w))

pub units_stop : (b : By) (us rows : List PowerMap) (k : ℕ) (u r : PowerMap) (e : UnitStop) → k < length us → length us ≤ length rows → u ≡ get_or us k u → r ≡ get_or rows k r →
    IsStopUnless (fits (unit_by b u r)) e → IsStopUnless (list_all fits (units_by b us rows)) e
units_stop b us rows k u r stop.Range l m p q h = fails b us rows k u r l m p q h
units_stop b us rows k u r stop.NoMemory l m p q h = tt

pub all_push : (us : List PowerMap) (u : PowerMap) → IsTrue (list_all fits us) → IsTrue (fits u) → IsTrue (list_all fits (us ++ u ∷ []))
all_push us u h k = list_all-append fits us (u ∷ []) ∙ (λ i. h i && (k i && true))

pub row_is : (rows : List Row) (k : ℕ) (row : Row) → k < length rows → row ≡ get_or rows k row → row.unit ≡ get_or (units_of rows) k row.unit
row_is rows k row l is = ap (λ (r : Row). r.unit) is ∙ sym (get_or-map (λ (r : Row). r.unit) rows k row row.unit l)
