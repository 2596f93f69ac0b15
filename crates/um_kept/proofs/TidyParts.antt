-- Parts that are the terms of a unit over rows' numbers are tidy: these terms are in normal form.
use Rattle.std.proofs.Common.{◌≡◌, ◌≢◌, ℕ, suc, ◌+◌, ◌<◌, ◌≤◌, false, List, [], ◌∷◌, map, length, pos, sym, ap, ◌∙◌, arith}
use Rattle.std.specs.Prelude.{All, IsTrue}
use Rattle.std.proofs.lemmas.Bool.{and_parts, ltb-true}
use Rattle.std.proofs.lemmas.List.Elements.{All-nil, All-cons, All-head, All-tail, All-weaker}
use Rattle.um_units.specs.declared.Atom.TheVariants.{Var}
use Rattle.um_units.specs.declared.Term.{Term}
use Rattle.um_units.specs.Atoms.{is_before}
use Rattle.um_units.specs.Terms.{is_zero, is_before_all, is_normal}
use Rattle.um_units.specs.NormalForm.{head_nonzero, head_before_all, tail_normal}
use Rattle.um_check.specs.declared.certificate.Part.{Part}
use Rattle.um_check.specs.Combination.{NamesRowsBelow}
use Rattle.um_check.specs.Tidy.{AreInOrder, AreTidyParts}

-- a part as a term over the rows' numbers
abbrev pub of_part : Part → Term
of_part p = record { atom = Var p.row; power = p.times }

after_row : (k : ℕ) (ps : List Part) → IsTrue (is_before_all (Var k) (map of_part ps)) → All (λ q. k < q.row) ps
after_row k [] h = All-nil (λ (q : Part). k < q.row)
after_row k (p ∷ ps) h =
    let parts = and_parts (is_before (Var k) (Var p.row)) (is_before_all (Var k) (map of_part ps)) h in
    All-cons (λ (q : Part). k < q.row) p ps (ltb-true k p.row parts.0) (after_row k ps parts.1)

in_order : (ps : List Part) → IsTrue (is_normal (map of_part ps)) → AreInOrder ps
in_order [] h = tt
in_order (p ∷ ps) h = (after_row p.row ps (head_before_all (of_part p) (map of_part ps) h), in_order ps (tail_normal (of_part p) (map of_part ps) h))

powers_held : (ps : List Part) → IsTrue (is_normal (map of_part ps)) → All (λ p. p.times ≢ pos 0) ps
powers_held [] h = All-nil (λ (p : Part). p.times ≢ pos 0)
powers_held (p ∷ ps) h =
    All-cons (λ (p : Part). p.times ≢ pos 0) p ps
    (λ z. let e : is_zero p.times ≡ false = head_nonzero (of_part p) (map of_part ps) h in let f = ap is_zero z in cc (sym f ∙ e))
    (powers_held ps (tail_normal (of_part p) (map of_part ps) h))

-- so many rows from k on are not more than those up to n
few_rows : (n k : ℕ) (ps : List Part) → k ≤ n → AreInOrder ps → All (λ p. k ≤ p.row) ps → NamesRowsBelow n ps → length ps + k ≤ n
few_rows n k [] le ordered from named = omega (arith, le)
few_rows n k (p ∷ ps) le ordered from named =
    let here = All-head (λ (q : Part). k ≤ q.row) p ps from in
    let low = All-head (λ (q : Part). q.row < n) p ps named in
    let rest = few_rows n (suc p.row) ps (omega (arith, low)) ordered.1 (All-weaker (λ (q : Part). p.row < q.row) (λ (q : Part). suc p.row ≤ q.row) (λ q l. omega (arith, l)) ps ordered.0) (All-tail (λ (q : Part). q.row < n) p ps named) in
    omega (arith, here, low, rest)

pub tidy_parts : (n : ℕ) (ps : List Part) → n ≤ 4294967295 → IsTrue (is_normal (map of_part ps)) → NamesRowsBelow n ps → AreTidyParts ps
tidy_parts n ps few normal named = record {
  ordered = in_order ps normal;
  powers = powers_held ps normal;
  few = (
      let all = All-weaker (λ (q : Part). q.row < n) (λ (q : Part). 0 ≤ q.row) (λ q l. omega arith) ps named in
      let m = few_rows n 0 ps (omega arith) (in_order ps normal) all named in
      omega (arith, m, few)
      );
}
