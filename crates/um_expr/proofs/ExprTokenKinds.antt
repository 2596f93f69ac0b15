-- Which tokens are a sign or word of expressions, and that no unit text goes on with what begins a declaration.
use Rattle.std.proofs.Common.{◌≡◌, Bool, true, false, refl}
use Rattle.um_syntax.specs.declared.token.Kind.{Kind}
use Rattle.um_syntax.specs.declared.token.Kind.TheVariants as kind
use Rattle.um_vocabulary.specs.declared.vocabulary.Keyword.TheVariants as keyword
use Rattle.um_vocabulary.specs.declared.vocabulary.Symbol.{Symbol}
use Rattle.um_vocabulary.specs.declared.vocabulary.Symbol.TheVariants as symbol
use Rattle.um_unit_texts.specs.UnitTokens.{unit_token}
use Rattle.um_unit_texts.specs.UnitMachine.{is_foreign}
use Rattle.um_forms.specs.declared.token.ExprToken.{ExprToken}
use Rattle.um_forms.specs.declared.token.ExprToken.TheVariants.{Word as word, Mark as mark}
use Rattle.um_forms.specs.ExprTokens.{expr_token, equal, greater}

pub mark_is : (k : Kind) (s : Symbol) → expr_token k ≡ mark s → k ≡ kind.Sign s
mark_is (kind.Sign symbol.Less) s e = cc
mark_is (kind.Word keyword.True) s e = cc
mark_is _ s e = cc

pub greater_is : (k : Kind) → expr_token k ≡ greater → k ≡ kind.Sign symbol.Greater
greater_is (kind.Sign symbol.Greater) e = refl
greater_is (kind.Word keyword.True) e = cc
greater_is _ e = cc

pub equal_is : (k : Kind) → expr_token k ≡ equal → k ≡ kind.Sign symbol.Equal
equal_is (kind.Sign symbol.Equal) e = refl
equal_is (kind.Word keyword.True) e = cc
equal_is _ e = cc

abbrev pub begins_decl : ExprToken → Bool
begins_decl (mark symbol.AttributeOpen) = true
begins_decl (word keyword.Type) = true
begins_decl (word keyword.Let) = true
begins_decl _ = false

pub decl_is_foreign : (k : Kind) → begins_decl (expr_token k) ≡ true → is_foreign (unit_token k) ≡ true
decl_is_foreign (kind.Sign symbol.AttributeOpen) h = refl
decl_is_foreign (kind.Word keyword.Type) h = refl
decl_is_foreign (kind.Word keyword.Let) h = refl
decl_is_foreign _ h = absurd cc
