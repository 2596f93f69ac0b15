use Rattle.std.proofs.Common.{◌≡◌, ℕ, ◌<◌, List, length, Some, None, slice_get, refl, sym, ap, ◌∙◌, arith}
use Rattle.std.specs.Prelude.{option_map}
use Rattle.std.proofs.lemmas.List.{length-map}
use Rattle.std.proofs.lemmas.Option.{slice_get_read}
use Rattle.um_measures.specs.declared.abbreviation.Abbreviation.{Abbreviation}
use Rattle.um_measures.specs.Known.{number_of, short_names, short_unit}
use Rattle.um_measures.proofs.NameLists.{unit_at, short_unit-number, number_of-below}
use Rattle.um_measures.proofs.measures.Measures.unit.Goals as goal

pub returns-in-None : goal.returns-in-None
returns-in-None c =
    let x = c.args.name.now in
    let ss = c.self.inside.units.items in
    let none : None ≡ number_of (short_names ss) x = c.in-None.ensures ∙ ap (λ (ns : List (List ℕ)). number_of ns x) c.self.invariant in
    ap (unit_at ss) none ∙ sym (short_unit-number x ss) ∙ ap (λ (es : List Abbreviation). short_unit es x) c.self.view_is

pub index-requires : goal.index-requires
index-requires c =
    let ss = c.self.inside.units.items in
    let numbered : number_of (short_names ss) c.args.name.now ≡ Some c.in-Some.k = sym (c.in-Some.ensures ∙ ap (λ (ns : List (List ℕ)). number_of ns c.args.name.now) c.self.invariant) in
    omega (arith, number_of-below c.args.name.now (short_names ss) c.in-Some.k numbered, length-map ss (λ s. s.name), c.self.inside.units.ok)

pub returns-in-Some : goal.returns-in-Some
returns-in-Some c =
    let x = c.args.name.now in
    let ss = c.self.inside.units.items in
    let numbered : number_of (short_names ss) x ≡ Some c.in-Some.k = sym (c.in-Some.ensures ∙ ap (λ (ns : List (List ℕ)). number_of ns x) c.self.invariant) in
    let below : c.in-Some.k < length ss = omega (arith, number_of-below x (short_names ss) c.in-Some.k numbered, length-map ss (λ s. s.name)) in
    let there : slice_get ss c.in-Some.k ≡ Some c.index.result.now = slice_get_read ss (length ss) c.in-Some.k c.index.result.now refl below c.index.ensures in
    let found : unit_at ss (Some c.in-Some.k) ≡ Some c.index.result.now.unit = ap (option_map (λ (s : Abbreviation). s.unit)) there in
    sym found ∙ ap (unit_at ss) (sym numbered) ∙ sym (short_unit-number x ss) ∙ ap (λ (es : List Abbreviation). short_unit es x) c.self.view_is
