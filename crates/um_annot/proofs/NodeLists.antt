-- Nodes with their types changed.
use Rattle.std.proofs.Common.{◌≡◌, ℕ, List, [], ◌∷◌, map, refl, sym, ap, ◌∙◌}
use Rattle.um_units.specs.PowerMap.{PowerMap, replace}
use Rattle.um_tree.specs.TypeTree.{TypeTree}
use Rattle.um_tree.specs.Typing.{put}
use Rattle.um_elim.proofs.RenamedUnits.{put-put}
use Rattle.um_rows.specs.NodeTypes.{TypedNode}
use Rattle.um_annot.specs.TextOrder.{node_with}
use Rattle.um_annot.specs.Annotated.{node_types}

pub types_with : (f : TypeTree → TypeTree) (ns : List TypedNode) → node_types (map (node_with f) ns) ≡ map f (node_types ns)
types_with f [] = refl
types_with f (n ∷ ns) = ap (λ ts. f n.type ∷ ts) (types_with f ns)

-- nodes whose types are changed alike
pub with_alike : (f h : TypeTree → TypeTree) (ns : List TypedNode) → map f (node_types ns) ≡ map h (node_types ns) → map (node_with f) ns ≡ map (node_with h) ns
with_alike f h [] e = refl
with_alike f h (n ∷ ns) e =
    let head : f n.type ≡ h n.type = cc e in
    let tail : map f (node_types ns) ≡ map h (node_types ns) = cc e in
    let rest = with_alike f h ns tail in
    λ i. record { at = n.at; type = head i } ∷ rest i

pub maps_twice : (f h : TypeTree → TypeTree) (ts : List TypeTree) → map f (map h ts) ≡ map (λ t. f (h t)) ts
maps_twice f h [] = refl
maps_twice f h (t ∷ ts) = ap (λ us. f (h t) ∷ us) (maps_twice f h ts)

pub puts_twice : (b s : ℕ → PowerMap) (ts : List TypeTree) → map (λ t. put s (put b t)) ts ≡ map (put (λ k. replace s (b k))) ts
puts_twice b s [] = refl
puts_twice b s (t ∷ ts) = let one = put-put b s t in let rest = puts_twice b s ts in λ j. one j ∷ rest j

pub twice_with : (f h : TypeTree → TypeTree) (ns : List TypedNode) → map (node_with f) (map (node_with h) ns) ≡ map (node_with (λ t. f (h t))) ns
twice_with f h [] = refl
twice_with f h (n ∷ ns) = ap (λ xs. record { at = n.at; type = f (h n.type) } ∷ xs) (twice_with f h ns)

-- two changes after one another, and two others
pub with_both : (f h k l : TypeTree → TypeTree) (ns : List TypedNode) → map f (map h (node_types ns)) ≡ map k (map l (node_types ns)) → map (node_with f) (map (node_with h) ns) ≡ map (node_with k) (map (node_with l) ns)
with_both f h k l ns e =
    twice_with f h ns ∙ with_alike (λ t. f (h t)) (λ t. k (l t)) ns (sym (maps_twice f h (node_types ns)) ∙ e ∙ maps_twice k l (node_types ns)) ∙ sym (twice_with k l ns)
