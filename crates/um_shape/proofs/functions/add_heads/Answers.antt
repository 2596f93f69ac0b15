use Rattle.std.proofs.Common.{◌≡◌, ℕ, ◌+◌, ◌<◌, List, [], ◌∷◌, ◌++◌, length, map, drop, get_or, Ok, sym, ap, ◌∙◌, subst, rules}
use Rattle.std.proofs.lemmas.List.{drop_more, map-append}
use Rattle.std.proofs.Math.ListN.{drop_of_length-le}
use Rattle.um_tree.specs.declared.program.Function.{Function}
use Rattle.um_tree.specs.ProgramTree.{FunctionTree, function_tree}
use Rattle.um_tree.specs.Shapes.{ShapeSignature}
use Rattle.um_shape.specs.RecordShapes.{RecordShape}
use Rattle.um_shape.specs.FirstFault.{then, function_found, functions_found}
use Rattle.um_shape.specs.FlatShapes.{known_records, head_shapes, heads_shapes, known_function_found}
use Rattle.um_shape.specs.Stops.{IsFoundFault}
use Rattle.um_shape.specs.declared.known.Head.{Head}
use Rattle.um_shape.specs.declared.known.Known.{Known}
use Rattle.um_shape.specs.declared.stop.ShapeStop.{ShapeStop}
use Rattle.um_shape.proofs.Stopping.{stops_first}
use Rattle.um_shape.proofs.functions.add_heads.Goals as goal

from_i : (fs : List Function) (i : ℕ) (f : Function) → i < length fs → f ≡ get_or fs i f → map function_tree (drop i fs) ≡ function_tree f ∷ map function_tree (drop (i + 1) fs)
from_i fs i f below is = ap (map function_tree) (drop_more fs i f below ∙ ap (λ g. g ∷ drop (i + 1) fs) (sym is))

-- one function more
found_next : (records : List RecordShape) (known : List ShapeSignature) (f : FunctionTree) (fs : List FunctionTree) (head : ShapeSignature) → function_found records known f ≡ Ok head → functions_found records known (f ∷ fs) ≡ functions_found records (known ++ head ∷ []) fs
found_next records known f fs head e = ap (λ r. then r (λ g. functions_found records (known ++ g ∷ []) fs)) e

more : (fs : List Function) (i : ℕ) (f : Function) (known new : Known) (heads : List Head) (head : Head) → i < length fs → f ≡ get_or fs i f → known_function_found known (function_tree f) ≡ Ok (head_shapes head) →
    new.records.items ≡ known.records.items → new.heads.items ≡ known.heads.items → heads ≡ new.heads.items ++ head ∷ [] →
    functions_found (known_records known.records.items) (heads_shapes known.heads.items) (map function_tree (drop i fs)) ≡ functions_found (known_records new.records.items) (heads_shapes heads) (map function_tree (drop (i + 1) fs))
more fs i f known new heads head below is found same_records same_heads pushed =
    let records = known_records known.records.items in
    let old = heads_shapes known.heads.items in
    let rest = map function_tree (drop (i + 1) fs) in
    let added : heads_shapes heads ≡ old ++ head_shapes head ∷ [] = ap heads_shapes (pushed ∙ ap (λ hs. hs ++ head ∷ []) same_heads) ∙ map-append head_shapes known.heads.items (head ∷ []) in
    ap (functions_found records old) (from_i fs i f below is)
    ∙ found_next records old (function_tree f) rest (head_shapes head) found
    ∙ ap (λ hs. functions_found records hs rest) (sym added)
    ∙ ap (λ rs. functions_found (known_records rs) (heads_shapes heads) rest) (sym same_records)

stops : (fs : List Function) (i : ℕ) (f : Function) (known : Known) (stop : ShapeStop) → i < length fs → f ≡ get_or fs i f → IsFoundFault (known_function_found known (function_tree f)) stop →
    IsFoundFault (functions_found (known_records known.records.items) (heads_shapes known.heads.items) (map function_tree (drop i fs))) stop
stops fs i f known stop below is fault =
    let records = known_records known.records.items in
    let old = heads_shapes known.heads.items in
    let rest = map function_tree (drop (i + 1) fs) in
    subst (λ ts. IsFoundFault (functions_found records old ts) stop) (sym (from_i fs i f below is))
    (stops_first (function_found records old (function_tree f)) (λ head. functions_found records (old ++ head ∷ []) rest) stop fault)

pub returns-in_err-head : goal.returns-in_err-head
returns-in_err-head c =
    let fault = stops c.args.functions.now c.loop-i.i c.index-functions-i.result c.loop-i.known c.in_err-head.field-0.0 c.loop-i-test.true c.index-functions-i.is c.in_err-head.ensures.found in
    let found = subst (λ m. IsFoundFault m c.in_err-head.field-0.0) (sym c.loop-i.invariant) fault in
    search (rules, found)

pub loop-i-preserved : goal.loop-i-preserved
loop-i-preserved c =
    c.loop-i.invariant ∙ more c.args.functions.now c.loop-i.i c.index-functions-i.result c.loop-i.known c.head_of.new.known c.push.new.self.items c.in_ok-head.head c.loop-i-test.true c.index-functions-i.is c.in_ok-head.ensures.found c.in_ok-head.ensures.records c.in_ok-head.ensures.heads c.in_ok-push.ensures.items

pub returns : goal.returns
returns c =
    let known = c.loop-i.known in
    c.loop-i.invariant ∙ ap (λ fs. functions_found (known_records known.records.items) (heads_shapes known.heads.items) (map function_tree fs)) (drop_of_length-le c.args.functions.now c.loop-i-test.false)
