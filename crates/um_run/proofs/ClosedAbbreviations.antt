-- The abbreviations of a text are over the base units of its program.
use Rattle.std.proofs.Common.{◌≡◌, ℕ, List, [], ◌∷◌, ◌++◌, length, get_or, sym, subst, ◌∙◌, arith, Ok, length-append}
use Rattle.std.proofs.lemmas.List.Elements.{All-nil, All-cons, All-append}
use Rattle.um_tree.specs.ProgramTree.{ProgramTree}
use Rattle.um_tree.specs.RawTree.{DeclSyntax, base_syntax, short_syntax, record_decl_syntax, function_syntax}
use Rattle.um_tree.specs.Formed.{IsUnitIn}
use Rattle.um_measures.specs.declared.abbreviation.Abbreviation.{Abbreviation}
use Rattle.um_measures.specs.Faults.{and_then, unless_taken}
use Rattle.um_measures.specs.Known.{Known, nothing, is_taken, measure_unit}
use Rattle.um_measures.specs.UnitNames.{resolved_unit}
use Rattle.um_names.specs.Resolution.{with_base, with_short, with_record, with_function, resolved_record_decl, resolved_function, resolved_decl, resolved_decls, resolution}
use Rattle.um_names.proofs.FormedUnits.{in_more, resolved_unit_in}
use Rattle.um_names.proofs.FormedTypes.{then_found}
use Rattle.um_value.proofs.ValueFormed.{measures_closed}
use Rattle.um_run.specs.Calls.{AreClosedUnits}
use Rattle.um_run.specs.Laws.{AbbreviationsAreClosed}

abbrev IsClosedOver : ℕ → Abbreviation → Type 0
IsClosedOver n short = IsUnitIn n 0 short.unit

-- those that are known are over the base units that are known
abbrev IsClosed : Known → Type 0
IsClosed known = AreClosedUnits (length known.program.bases) known.shorts

closed_on : (known : Known) (d : DeclSyntax) (after : Known) → IsClosed known → resolved_decl known d ≡ Ok after → IsClosed after
closed_on known (base_syntax at x) after h e =
    let w = then_found (unless_taken (is_taken known x) at) (λ _. Ok (with_base known x)) after e in
    let same : with_base known x ≡ after = cc (w.2) in
    let longer = length-append known.program.bases (x ∷ []) in
    subst IsClosed same (λ k d below. in_more (length known.program.bases) 0 (length (known.program.bases ++ x ∷ [])) (get_or known.shorts k d).unit (omega (arith, longer)) (h k d below))
closed_on known (short_syntax at x u) after h e =
    let w = then_found (unless_taken (is_taken known x) at) (λ _. and_then (resolved_unit (measure_unit known) [] u) (λ v. Ok (with_short known x v))) after e in
    let v = then_found (resolved_unit (measure_unit known) [] u) (λ v. Ok (with_short known x v)) after w.2 in
    let same : with_short known x (v.0) ≡ after = cc (v.2) in
    let n = length known.program.bases in
    let unit : IsUnitIn n (length {A = List ℕ} []) v.0 = resolved_unit_in (measure_unit known) [] n (measures_closed known h) u v.0 v.1 in
    let short : Abbreviation = record { name = x; unit = v.0 } in
    subst IsClosed same (All-append (IsClosedOver n) known.shorts (short ∷ []) h (All-cons (IsClosedOver n) short [] unit (All-nil (IsClosedOver n))))
closed_on known (record_decl_syntax at x vs fs) after h e =
    let w = then_found (resolved_record_decl known at x vs fs) (λ d. Ok (with_record known d)) after e in
    let same : with_record known (w.0) ≡ after = cc (w.2) in
    subst IsClosed same h
closed_on known (function_syntax f) after h e =
    let w = then_found (resolved_function known f) (λ g. Ok (with_function known g)) after e in
    let same : with_function known (w.0) ≡ after = cc (w.2) in
    subst IsClosed same h

closed_all : (known : Known) (ds : List DeclSyntax) (after : Known) → IsClosed known → resolved_decls known ds ≡ Ok after → IsClosed after
closed_all known [] after h e = let same : known ≡ after = cc e in subst IsClosed same h
closed_all known (d ∷ ds) after h e =
    let w = then_found (resolved_decl known d) (λ k. resolved_decls k ds) after e in
    closed_all w.0 ds after (closed_on known d w.0 h w.1) w.2

pub abbreviations_are_closed : AbbreviationsAreClosed
abbreviations_are_closed ds p shorts program found =
    let w = then_found (resolution ds) (λ known. Ok known.program) p program in
    let v = then_found (resolution ds) (λ known. Ok known.shorts) shorts found in
    let one : Ok w.0 ≡ Ok v.0 = sym w.1 ∙ v.1 in
    let same : w.0 ≡ v.0 = cc one in
    let bases : (w.0).program ≡ p = cc (w.2) in
    let own : (v.0).shorts ≡ shorts = cc (v.2) in
    let closed : IsClosed v.0 = subst IsClosed same (closed_all nothing ds w.0 (All-nil (IsClosedOver 0)) w.1) in
    let there : (v.0).program ≡ p = subst (λ (known : Known). known.program ≡ p) same bases in
    subst (λ (q : ProgramTree). AreClosedUnits (length q.bases) shorts) there
    (subst (λ (ss : List Abbreviation). AreClosedUnits (length (v.0).program.bases) ss) own closed)
