-- Kept nodes: those of a node after its parts, and those of a part after another.
use Rattle.std.proofs.Common.{◌≡◌, ℕ, Bool, false, List, [], ◌++◌, Result, Ok, Err, refl, sym, ap, ◌∙◌, rules}
use Rattle.std.proofs.lemmas.List.{append_assoc, append-nil}
use Rattle.um_tree.specs.declared.expression.Expr.{Expr}
use Rattle.um_tree.specs.declared.expression.Expr.{the_lemmas}
use Rattle.um_tree.specs.declared.expression.Node.TheOpen.{Node-F}
use Rattle.um_tree.specs.ExprTree.{ExprTree, ExprTrees, expr_tree, node_tree}
use Rattle.um_rows.specs.NodeTypes.{TypedNode}
use Rattle.um_rows.specs.Walk.{Walked}
use Rattle.um_rows.specs.Kept.{place, kept, last_kept, kept_then}

-- ---- the place of an expression is its own
place_of_node : (n : Node-F (ℕ → ExprTree) ExprTree ExprTrees) (at : ℕ) → place (node_tree n at) ≡ at
place_of_node (Node-F.Bool b) at = refl
place_of_node (Node-F.Num c n) at = refl
place_of_node (Node-F.Local k) at = refl
place_of_node (Node-F.Call f es) at = refl
place_of_node (Node-F.Neg a) at = refl
place_of_node (Node-F.Not a) at = refl
place_of_node (Node-F.Pow a k) at = refl
place_of_node (Node-F.Arith op a b) at = refl
place_of_node (Node-F.Compare s a b) at = refl
place_of_node (Node-F.And a b) at = refl
place_of_node (Node-F.Or a b) at = refl
place_of_node (Node-F.If c a b) at = refl
place_of_node (Node-F.Let a b) at = refl
place_of_node (Node-F.Match l a b) at = refl
place_of_node (Node-F.Nil n) at = refl
place_of_node (Node-F.List es) at = refl
place_of_node (Node-F.Cons a b) at = refl
place_of_node (Node-F.Rec r es) at = refl
place_of_node (Node-F.Field r k a) at = refl

pub place_is : (e : Expr) → place (expr_tree e) ≡ e.at
place_is e = search (rules, the_lemmas, place_of_node)

-- ---- a node after its parts
pub kept_own : (asked : Bool) (p at : ℕ) (m : Result Walked ℕ) (w : Walked) (old mid new parts : List TypedNode) → p ≡ at → m ≡ Ok w → mid ≡ old ++ parts → new ≡ mid ++ kept asked at w.type → new ≡ old ++ (parts ++ last_kept asked p m)
kept_own asked p at m w old mid new parts place_same is first last =
    last ∙ ap (λ ns. ns ++ kept asked at w.type) first ∙ append_assoc old parts (kept asked at w.type)
    ∙ (λ i. old ++ (parts ++ last_kept asked (sym place_same i) (sym is i)))

-- ---- what comes after a part
pub kept_after : {A : Type 0} (m : Result A ℕ) (x : A) (go : A → List TypedNode) (old mid new first : List TypedNode) → m ≡ Ok x → mid ≡ old ++ first → new ≡ mid ++ go x → new ≡ old ++ (first ++ kept_then m go)
kept_after m x go old mid new first is before after =
    after ∙ ap (λ ns. ns ++ go x) before ∙ append_assoc old first (go x) ∙ ap (λ r. old ++ (first ++ kept_then r go)) (sym is)

-- ---- a walk that isn't asked for nodes keeps none
none_last : (p : ℕ) (m : Result Walked ℕ) → last_kept false p m ≡ []
none_last p (Ok w) = refl
none_last p (Err e) = refl

pub kept_none : (asked : Bool) (p : ℕ) (m : Result Walked ℕ) (old new parts : List TypedNode) → asked ≡ false → new ≡ old ++ parts → new ≡ old ++ (parts ++ last_kept asked p m)
kept_none asked p m old new parts off same =
    same ∙ ap (λ ns. old ++ ns) (sym (append-nil parts) ∙ ap (λ ns. parts ++ ns) (sym (ap (λ a. last_kept a p m) off ∙ none_last p m)))
