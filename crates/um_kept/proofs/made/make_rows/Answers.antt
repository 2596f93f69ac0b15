use Rattle.std.proofs.Common.{◌≡◌, ◌<◌, ◌+◌, ℕ, suc, List, length, refl, sym, subst, arith}
use Rattle.std.proofs.lemmas.List.{get_or-map, length-map}
use Rattle.std.proofs.lemmas.List.Elements.{All-get_or}
use Rattle.um_units.specs.declared.Atom.TheVariants.{Var}
use Rattle.um_units.specs.PowerMap.{PowerMap, atom}
use Rattle.um_units.specs.Variables.{VariablesBelow}
use Rattle.um_equal_types.specs.declared.row.Row.{Row}
use Rattle.um_equal_types.specs.Steps.{units_of}
use Rattle.um_kept.specs.declared.kept.Head.{Head}
use Rattle.um_kept.specs.declared.stop.CertStop.{CertStop}
use Rattle.um_kept.specs.declared.stop.CertStop.TheVariants as stop
use Rattle.um_kept.specs.Kept.{Kept, IsReached}
use Rattle.um_kept.specs.Answers.{CarriesInRows, start}
use Rattle.um_kept.specs.Steps.{CarriesInRow}
use Rattle.um_kept.proofs.made.make_rows.Goals as goal

abbrev unit_of : Row → PowerMap
unit_of r = r.unit

row_stops : (h : Head) (rows : List Row) (k : ℕ) (kept : Kept) (s : CertStop) → k < length rows → IsReached (units_of rows) (start h) k kept → CarriesInRow (units_of rows) kept k s → CarriesInRows h rows s
row_stops h rows k kept (stop.CertRange z) l r c = (k, subst (λ n. k < n) (sym (length-map rows unit_of)) l, kept, r, c)
row_stops h rows k kept stop.NoMemory l r c = tt

next : (k : ℕ) → k + 1 ≡ suc k
next k = omega arith

pub loop-k-init : goal.loop-k-init
loop-k-init c = (start c.args.head, refl, c.in_ok-partial.ensures)

pub make_row-requires-clause-below : goal.make_row-requires-clause-below
make_row-requires-clause-below c =
    All-get_or (λ (row : Row). VariablesBelow c.args.head.slots row.unit) c.args.rows.now c.loop-k.k c.index-rows-k.result c.loop-k-test.true c.requires.rows

pub make_row-requires-clause-partial : goal.make_row-requires-clause-partial
make_row-requires-clause-partial c = (c.loop-k.invariant.0, c.loop-k.invariant.2)

pub returns-in-Ok-Some : goal.returns-in-Ok-Some
returns-in-Ok-Some c =
    let rows = c.args.rows.now in
    let k = c.loop-k.k in
    let l : k < length rows = c.loop-k-test.true in
    let i = c.loop-k.invariant in
    let here = sym (get_or-map unit_of rows k c.index-rows-k.result (atom (Var k)) l) in
    (i.0, l, i.1, rw c.in-Ok-Some.field-0-is at c.in-Ok-Some.ensures.treated (units_of rows) i.0 here i.2)

pub returns-in-Err : goal.returns-in-Err
returns-in-Err c =
    let rows = c.args.rows.now in
    let k = c.loop-k.k in
    let l : k < length rows = c.loop-k-test.true in
    let i = c.loop-k.invariant in
    let here = sym (get_or-map unit_of rows k c.index-rows-k.result (atom (Var k)) l) in
    row_stops c.args.head rows k i.0 c.in-Err.stop l i.1 (c.in-Err.ensures.range (units_of rows) i.0 here i.2)

pub loop-k-preserved : goal.loop-k-preserved
loop-k-preserved c =
    let rows = c.args.rows.now in
    let k = c.loop-k.k in
    let l : k < length rows = c.loop-k-test.true in
    let i = c.loop-k.invariant in
    let here = sym (get_or-map unit_of rows k c.index-rows-k.result (atom (Var k)) l) in
    let w = rw c.in-Ok-None.field-0-is at c.in-Ok-None.ensures.treated (units_of rows) i.0 here i.2 in
    (w.0, subst (λ n. IsReached (units_of rows) (start c.args.head) n w.0) (sym (next k)) (i.0, i.1, w.1), w.2)

pub returns : goal.returns
returns c =
    let rows = c.args.rows.now in
    let i = c.loop-k.invariant in
    let end : c.loop-k.k ≡ length rows = omega (arith, c.loop-k-test.false, c.loop-k.auto.k-end) in
    (i.0, subst (λ n. IsReached (units_of rows) (start c.args.head) n i.0) end i.1, i.2)
