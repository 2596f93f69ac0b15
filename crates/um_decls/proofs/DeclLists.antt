-- The heights of fields and parameters with one more at the end.
use Rattle.std.proofs.Common.{◌≡◌, ◌≤◌, max, Bool, true, false, if◌then◌else◌, List, [], ◌∷◌, ◌++◌, map, ap, ◌∙◌, arith}
use Rattle.std.proofs.lemmas.List.{map-append}
use Rattle.um_tree.specs.declared.raw.RawFieldDecl.{RawFieldDecl}
use Rattle.um_tree.specs.declared.raw.RawParam.{RawParam}
use Rattle.um_tree.specs.RawTree.{FieldDeclSyntax, ParamSyntax, type_syntax, field_decl_syntax, param_syntax}
use Rattle.um_types.specs.TypeHeights.{whole_height}
use Rattle.um_unit_texts.specs.UnitStops.{greatest_height}
use Rattle.um_decls.specs.DeclHeights.{fields_height, params_height}

pub fields_height_last : (fs : List FieldDeclSyntax) (f : FieldDeclSyntax) → fields_height (fs ++ f ∷ []) ≡ max (fields_height fs) (whole_height f.type)
fields_height_last [] f = omega arith
fields_height_last (g ∷ gs) f = let e = fields_height_last gs f in omega (arith, e)

pub params_height_last : (ps : List ParamSyntax) (p : ParamSyntax) → params_height (ps ++ p ∷ []) ≡ max (params_height ps) (whole_height p.type)
params_height_last [] p = omega arith
params_height_last (q ∷ qs) p = let e = params_height_last qs p in omega (arith, e)

-- one more, where there was memory for it
pub fields_pushed : (ok : Bool) (fs new : List RawFieldDecl) (f : RawFieldDecl) → new ≡ (if ok then fs ++ f ∷ [] else fs) → fields_height (map field_decl_syntax fs) ≤ greatest_height
    → whole_height (type_syntax f.ty) ≤ greatest_height → fields_height (map field_decl_syntax new) ≤ greatest_height
fields_pushed true fs new f e low high =
    let last = fields_height_last (map field_decl_syntax fs) (field_decl_syntax f) in
    omega (arith, low, high, last, ap fields_height (ap (map field_decl_syntax) e ∙ map-append field_decl_syntax fs (f ∷ [])))
fields_pushed false fs new f e low high = omega (arith, low, ap (λ w. fields_height (map field_decl_syntax w)) e)

pub params_pushed : (ok : Bool) (ps new : List RawParam) (p : RawParam) → new ≡ (if ok then ps ++ p ∷ [] else ps) → params_height (map param_syntax ps) ≤ greatest_height
    → whole_height (type_syntax p.ty) ≤ greatest_height → params_height (map param_syntax new) ≤ greatest_height
params_pushed true ps new p e low high =
    let last = params_height_last (map param_syntax ps) (param_syntax p) in
    omega (arith, low, high, last, ap params_height (ap (map param_syntax) e ∙ map-append param_syntax ps (p ∷ [])))
params_pushed false ps new p e low high = omega (arith, low, ap (λ w. params_height (map param_syntax w)) e)
