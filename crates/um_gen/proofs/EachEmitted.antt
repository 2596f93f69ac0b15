-- What is written of expressions one after another.
use Rattle.std.proofs.Common.{◌≡◌, refl, sym, ap, ◌∙◌, ℕ, ◌+◌, ◌<◌, ◌≤◌, List, [], ◌∷◌, ◌++◌, map, length, get_or, arith, append_assoc}
use Rattle.std.proofs.lemmas.List.{append-nil}
use Rattle.um_tree.specs.ExprTree.{expr_tree, in_order}
use Rattle.um_tree.specs.Formed.{count}
use Rattle.um_tree.specs.declared.expression.Expr.{Expr}
use Rattle.um_shape.proofs.AllFound.{from, from_more, from_end}
use Rattle.um_machine.specs.declared.op.Op.{Op}
use Rattle.um_gen.specs.ProgramCode.{expr_size, all_size, expr_code, all_code}
use Rattle.um_gen.proofs.Emitted.{behind}
use Rattle.um_gen.proofs.Sizes.{some}

-- the first i expressions are written, and the places are as before
pub record IsLeft (ps : List ℕ) (d : ℕ) (o : List Op) (es : List Expr) (i : ℕ) (n : List Op) (places : List ℕ) : Type 0 where
  pub whole : n ++ all_code (from es i) ps (d + i) (length n) ≡ o ++ all_code (from es 0) ps d (length o)
  pub size : length n + all_size (from es i) ≡ length o + all_size (from es 0)
  pub depth : i + all_size (from es i) ≤ all_size (from es 0)
  pub same_places : places ≡ ps

module _ (ps : List ℕ) (d : ℕ) (o : List Op) (es : List Expr) where
  pub left_first : IsLeft ps d o es 0 o ps
  left_first = record {
    whole = let same : d + 0 ≡ d = omega arith in ap (λ k. o ++ all_code (from es 0) ps k (length o)) same;
    size = refl;
    depth = omega arith;
    same_places = refl;
  }

  -- there is room for the next one
  pub left_room : (i : ℕ) (e : Expr) (n : List Op) (places : List ℕ) → i < length es → e ≡ get_or es i e → IsLeft ps d o es i n places → (length n + expr_size (expr_tree e) ≤ length o + all_size (from es 0)) × (i + expr_size (expr_tree e) ≤ all_size (from es 0))
  left_room i e n places h g l =
      let sizes : all_size (from es i) ≡ expr_size (expr_tree e) + all_size (from es (i + 1)) = ap all_size (from_more es i e h g) in
      (omega (arith, sizes, l.size), omega (arith, sizes, l.depth))

  pub left_next : (i : ℕ) (e : Expr) (n n' : List Op) (places other : List ℕ) → i < length es → e ≡ get_or es i e → IsLeft ps d o es i n places → n' ≡ n ++ expr_code (expr_tree e) places (d + i) (length n) → other ≡ places → IsLeft ps d o es (i + 1) n' other
  left_next i e n n' places other h g l written same =
      let x = expr_tree e in
      let rest = from es (i + 1) in
      let more_is = from_more es i e h g in
      let written' : n' ≡ n ++ expr_code x ps (d + i) (length n) = written ∙ ap (λ p. n ++ expr_code x p (d + i) (length n)) l.same_places in
      let long : length n' ≡ length n + expr_size x = behind n n' x ps (d + i) (length n) written' in
      let deep : d + (i + 1) ≡ d + i + 1 = omega arith in
      let sizes : all_size (from es i) ≡ expr_size x + all_size rest = ap all_size more_is in
      record {
        whole =
            (λ k. written' k ++ all_code rest ps (deep k) (long k))
            ∙ append_assoc n (expr_code x ps (d + i) (length n)) (all_code rest ps (d + i + 1) (length n + expr_size x))
            ∙ ap (λ r. n ++ all_code r ps (d + i) (length n)) (sym more_is)
            ∙ l.whole;
        size = omega (arith, long, sizes, l.size);
        depth = omega (arith, some x, sizes, l.depth);
        same_places = same ∙ l.same_places;
      }

  pub left_last : (i : ℕ) (n : List Op) (places : List ℕ) → length es ≤ i → IsLeft ps d o es i n places → n ≡ o ++ all_code (in_order (map expr_tree es)) ps d (length o)
  left_last i n places h l =
      sym (append-nil n) ∙ ap (λ r. n ++ all_code r ps (d + i) (length n)) (sym (from_end es i h)) ∙ l.whole

-- as many expressions as items
pub counted : (es : List Expr) → count (in_order (map expr_tree es)) ≡ length es
counted [] = refl
counted (e ∷ es) = omega (arith, counted es)
