-- The agreement that a row is of: agreements before it are passed with their rows, and it is made from its own.
use Rattle.std.proofs.Common.{◌≡◌, ℕ, zero, suc, ◌+◌, ◌-◌, ◌<◌, ◌≤◌, Bool, true, false, cond, ltb, List, [], ◌∷◌, ◌++◌, length, take, drop, get_or, Some, slice_get, refl, sym, ap, ◌∙◌, arith}
use Rattle.std.proofs.lemmas.Bool.{lt-ltb}
use Rattle.std.proofs.lemmas.Bool.Decides.{nat_tests}
use Rattle.std.proofs.lemmas.Grind.{flat_map-append}
use Rattle.std.proofs.lemmas.List.{append-nil, map-append, length-append, length-map, take_more, take_all, drop_more, drop_at, take-append-drop, get_or-map}
use Rattle.um_units.specs.PowerMap.{PowerMap}
use Rattle.um_tree.specs.TypeTree.{TypeTree, bool_type}
use Rattle.um_equal_types.specs.declared.row.Row.{Row}
use Rattle.um_rows.specs.NodeTypes.{TypedNode}
use Rattle.um_equal_types.specs.Steps.{units_of, row_units}
use Rattle.um_equal_types.specs.Against.{against}
use Rattle.um_rows.specs.RightShapes.{HaveRightShapes}
use Rattle.um_agree.specs.declared.rule.Rule.{Rule}
use Rattle.um_agree.specs.declared.rule.Rule.TheVariants as asks
use Rattle.um_agree.specs.declared.found.Asked.{Asked}
use Rattle.um_agree.specs.Agreements.{Agreement, agreement_rows, agreement_steps}
use Rattle.um_agree.specs.RowAgreements.{agreement_of}
use Rattle.um_agree.specs.Made.{node_type, known_type, known_of, units_in, made_of, Known, known, seen, AllRight, AreAgreed}
use Rattle.um_agree.proofs.RuleRows.{rows_asked}
use Rattle.um_agree.proofs.MadeTypes.{first_made, second_made, count_rows}

-- ---- one agreement
-- as many rows as the type at its node has units
count_known : (r : Rule) (at : ℕ) (s t : TypeTree) → HaveRightShapes (against at s t) → length (row_units (against at s t)) ≡ units_in (known_of r s t)
count_known asks.ResultNote at s t h = (count_rows at s t h).0
count_known asks.Sum at s t h = (count_rows at s t h).1
count_known asks.Difference at s t h = (count_rows at s t h).1
count_known asks.Comparison at s t h = (count_rows at s t h).1
count_known asks.Branches at s t h = (count_rows at s t h).1
count_known asks.Arms at s t h = (count_rows at s t h).1
count_known (asks.Item k) at s t h = (count_rows at s t h).1
count_known asks.Head at s t h = (count_rows at s t h).1
count_known (asks.Argument j k) at s t h = (count_rows at s t h).1
count_known (asks.Part q k) at s t h = (count_rows at s t h).1

-- made from its own rows, with others behind, it is itself
made_again : (r : Rule) (at : ℕ) (s t : TypeTree) (more : List PowerMap) → HaveRightShapes (against at s t) →
    made_of r at (known_of r s t) (row_units (against at s t) ++ more) ≡ record { rule = r; at = at; first = s; second = t }
made_again asks.ResultNote at s t more h = ap (λ x. record { rule = asks.ResultNote; at = at; first = s; second = x }) (second_made at more s t h)
made_again asks.Sum at s t more h = ap (λ x. record { rule = asks.Sum; at = at; first = x; second = t }) (first_made at more s t h)
made_again asks.Difference at s t more h = ap (λ x. record { rule = asks.Difference; at = at; first = x; second = t }) (first_made at more s t h)
made_again asks.Comparison at s t more h = ap (λ x. record { rule = asks.Comparison; at = at; first = x; second = t }) (first_made at more s t h)
made_again asks.Branches at s t more h = ap (λ x. record { rule = asks.Branches; at = at; first = x; second = t }) (first_made at more s t h)
made_again asks.Arms at s t more h = ap (λ x. record { rule = asks.Arms; at = at; first = x; second = t }) (first_made at more s t h)
made_again (asks.Item k) at s t more h = ap (λ x. record { rule = asks.Item k; at = at; first = x; second = t }) (first_made at more s t h)
made_again asks.Head at s t more h = ap (λ x. record { rule = asks.Head; at = at; first = x; second = t }) (first_made at more s t h)
made_again (asks.Argument j k) at s t more h = ap (λ x. record { rule = asks.Argument j k; at = at; first = x; second = t }) (first_made at more s t h)
made_again (asks.Part q k) at s t more h = ap (λ x. record { rule = asks.Part q k; at = at; first = x; second = t }) (first_made at more s t h)

-- ---- the agreements of a list
right_at : (ones : List Agreement) (m : ℕ) (d : Agreement) → AllRight ones → m < length ones → HaveRightShapes (agreement_steps (get_or ones m d))
right_at [] m d h l = absurd (omega (arith, l))
right_at (a ∷ ones) zero d h l = h.0
right_at (a ∷ ones) (suc m) d h l = right_at ones m d h.1 (omega (arith, l))

get_at : (ones : List Agreement) (m : ℕ) (d : Agreement) → m < length ones → slice_get ones m ≡ Some (get_or ones m d)
get_at [] m d l = absurd (omega (arith, l))
get_at (a ∷ ones) zero d l = refl
get_at (a ∷ ones) (suc m) d l = get_at ones m d (omega (arith, l))

-- whatever stands for what is past the end
pub default_at : {A : Type 0} (ys : List A) (m : ℕ) (d e : A) → m < length ys → get_or ys m d ≡ get_or ys m e
default_at [] m d e l = absurd (omega (arith, l))
default_at (y ∷ ys) zero d e l = refl
default_at (y ∷ ys) (suc m) d e l = default_at ys m d e (omega (arith, l))

module _ (ones : List Agreement) (nodes : List TypedNode) (rows : List Row) (xs : List Asked) (g : AreAgreed ones nodes rows xs) where
  pub many : length xs ≡ length ones
  many = sym (length-map xs (seen nodes)) ∙ ap length g.nodes_are ∙ length-map ones known

  -- the m-th agreement, whose rows begin with the row of number start
  module _ (m start : ℕ) (x : Asked) (below : m < length xs) (is : x ≡ get_or xs m x) (start_is : start ≡ length (rows_asked (take m ones))) where
    abbrev other : Agreement
    other = record { rule = x.rule; at = x.at; first = bool_type; second = bool_type }

    abbrev pub this : Agreement
    this = get_or ones m other

    abbrev pub this_type : TypeTree
    this_type = known_type x.rule (node_type nodes x.node)

    -- the rows of those after it
    abbrev pub behind : List Row
    behind = rows_asked (drop (m + 1) ones)

    low : m < length ones
    low = omega (arith, below, many)

    right : HaveRightShapes (agreement_steps this)
    right = right_at ones m other g.right low

    same : seen nodes x ≡ known this
    same =
        ap (seen nodes) is ∙ sym (get_or-map (seen nodes) xs m x (seen nodes x) below)
        ∙ ap (λ ks. get_or ks m (seen nodes x)) g.nodes_are ∙ get_or-map known ones m other (seen nodes x) low

    rule_is : x.rule ≡ this.rule
    rule_is = ap (λ (y : Known). y.rule) same

    at_is : x.at ≡ this.at
    at_is = ap (λ (y : Known). y.at) same

    type_is : this_type ≡ known_of this.rule this.first this.second
    type_is = ap (λ (y : Known). y.type) same

    pub rest : drop m ones ≡ this ∷ drop (m + 1) ones
    rest = drop_more ones m other low

    pub count_is : units_in this_type ≡ length (agreement_rows this)
    count_is = ap units_in type_is ∙ sym (count_known this.rule this.at this.first this.second right) ∙ length-map (agreement_rows this) (λ (r : Row). r.unit)

    cut : rows ≡ rows_asked (take m ones) ++ (agreement_rows this ++ behind)
    cut =
        g.rows_are ∙ ap rows_asked (sym (take-append-drop m ones) ∙ ap (λ bs. take m ones ++ bs) rest)
        ∙ flat_map-append agreement_rows (take m ones) (this ∷ drop (m + 1) ones)

    rows_behind : drop start rows ≡ agreement_rows this ++ behind
    rows_behind = ap (drop start) cut ∙ drop_at (rows_asked (take m ones)) (agreement_rows this ++ behind) start (sym start_is)

    pub enough : units_in this_type ≤ length (drop start rows)
    enough = let l = ap length rows_behind ∙ length-append (agreement_rows this) behind in omega (arith, l, count_is)

    pub within : start + units_in this_type ≤ length rows
    within =
        let whole = ap length cut ∙ length-append (rows_asked (take m ones)) (agreement_rows this ++ behind) in
        let ends = length-append (agreement_rows this) behind in
        omega (arith, whole, ends, start_is, count_is)

    pub next_start : start + units_in this_type ≡ length (rows_asked (take (m + 1) ones))
    next_start =
        (λ i. start_is i + count_is i) ∙ sym (length-append (rows_asked (take m ones)) (agreement_rows this))
        ∙ ap length (ap (λ rs. rows_asked (take m ones) ++ rs) (sym (append-nil (agreement_rows this))) ∙ sym (flat_map-append agreement_rows (take m ones) (this ∷ [])) ∙ ap rows_asked (sym (take_more ones m other low)))

    pub is_made : this ≡ made_of x.rule x.at this_type (units_of (drop start rows))
    is_made =
        sym (made_again this.rule this.at this.first this.second (units_of behind) right)
        ∙ (λ i. made_of (sym rule_is i) (sym at_is i) (sym type_is i) (sym (ap units_of rows_behind ∙ map-append (λ (r : Row). r.unit) (agreement_rows this) behind) i))

    pub stands : slice_get ones m ≡ Some (made_of x.rule x.at this_type (units_of (drop start rows)))
    stands = get_at ones m other low ∙ ap Some is_made

  -- ---- the agreement that row k is of
  module _ (k : ℕ) where
    -- the first m agreements have so many rows, and row k is none of them
    pub record IsPast (m start : ℕ) : Type 0 where
      pub start_is : start ≡ length (rows_asked (take m ones))
      pub low : start ≤ k
      pub number : agreement_of ones k ≡ m + agreement_of (drop m ones) (k - start)

    pub none_past : IsPast 0 0
    none_past = record { start_is = refl; low = omega arith; number = ap (agreement_of ones) (let e : k ≡ k - 0 = omega arith in e) ∙ (let e : agreement_of ones (k - 0) ≡ 0 + agreement_of ones (k - 0) = omega arith in e) }

    module _ (m start : ℕ) (x : Asked) (below : m < length xs) (is : x ≡ get_or xs m x) (past : IsPast m start) where
      abbrev n : ℕ
      n = units_in (this_type m start x below is past.start_is)

      number_at : (b : Bool) → ltb (k - start) n ≡ b → agreement_of ones k ≡ m + cond b 0 (suc (agreement_of (drop (m + 1) ones) ((k - start) - n)))
      number_at b e =
          past.number ∙ ap (λ bs. m + agreement_of bs (k - start)) (rest m start x below is past.start_is)
          ∙ ap (λ c. m + cond (ltb (k - start) c) 0 (suc (agreement_of (drop (m + 1) ones) ((k - start) - c)))) (sym (count_is m start x below is past.start_is))
          ∙ ap (λ c. m + cond c 0 (suc (agreement_of (drop (m + 1) ones) ((k - start) - n)))) e

      -- the next agreement
      pub one_past : start + n ≤ k → IsPast (m + 1) (start + n)
      one_past l = record {
        start_is = next_start m start x below is past.start_is;
        low = l;
        number =
            number_at false (let test : ltb (k - start) n ≡ false = grind (arith, nat_tests, l) in test)
            ∙ (let e : (k - start) - n ≡ k - (start + n) = omega arith in ap (λ c. m + suc (agreement_of (drop (m + 1) ones) c)) e)
            ∙ (let e : m + suc (agreement_of (drop (m + 1) ones) (k - (start + n))) ≡ m + 1 + agreement_of (drop (m + 1) ones) (k - (start + n)) = omega arith in e);
      }

      -- the row is of this one
      pub here : k < start + n → agreement_of ones k ≡ m
      here l =
          let low = past.low in
          number_at true (lt-ltb (k - start) n (omega (arith, l, low))) ∙ (let e : m + 0 ≡ m = omega arith in e)

      pub stands_here : k < start + n → slice_get ones (agreement_of ones k) ≡ Some (made_of x.rule x.at (this_type m start x below is past.start_is) (units_of (drop start rows)))
      stands_here l = ap (slice_get ones) (here l) ∙ stands m start x below is past.start_is

    -- after the last there is no row
    pub none_left : (m start : ℕ) → length xs ≤ m → k < length rows → IsPast m start → ⊥
    none_left m start past_end l past =
        let all = ap (λ bs. length (rows_asked bs)) (take_all m ones (omega (arith, past_end, many))) in
        let whole = ap length g.rows_are in
        let s = past.start_is in
        let low = past.low in
        omega (arith, all, whole, s, low, l)
