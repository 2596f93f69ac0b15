-- What an expression spells is found, whatever follows; what is refused begins none; one expression per list of tokens.
use Rattle.std.proofs.Common.{◌≡◌, ◌≢◌, List, [], ◌++◌, Bool, true, false, Some, ap, ◌∙◌, arith}
use Rattle.std.proofs.lemmas.List.{append-nil}
use Rattle.um_syntax.specs.declared.token.Token.{Token}
use Rattle.um_tree.specs.RawTree.{ExprSyntax}
use Rattle.um_reader.specs.Machine.{runs}
use Rattle.um_operands.specs.ExprBegun.{Frame, Need, Refused, whole, finish}
use Rattle.um_expr.specs.ExprGrammar.{Spells, Fits, IsExpr}
use Rattle.um_expr.specs.ExprMachine.{step}
use Rattle.um_expr.proofs.ExprEnds.{opened, last_atom, rank_low, ends_whole}
use Rattle.um_expr.proofs.ExprAtEnd.{at_end}
use Rattle.um_expr.proofs.ExprReads.{complete}

end_on : (b : Bool) (frames : List Frame) (t : ExprSyntax) → at_end b frames t ≢ Refused
end_on false frames t e = cc
end_on true frames t e = cc

-- what an expression spells is read, to one of two states: its last token may be the number of a whole power
pub expr_reaches : (t : ExprSyntax) (tokens rest : List Token) → Spells t tokens rest → Fits t
    → (read : List Token) × (tokens ≡ read ++ rest) × (b : Bool) × (runs step (Need []) read ≡ at_end b (opened [] t) (last_atom t)) × (at_end b (opened [] t) (last_atom t) ≢ Refused)
expr_reaches t tokens rest s fits =
    let r = complete t [] tokens rest s fits (omega (arith, rank_low t)) in
    (r.yields.0, r.yields.1, r.power, r.yields.2, end_on r.power (opened [] t) (last_atom t))

-- and found
pub expr_finds : (b : Bool) (t : ExprSyntax) → Fits t → finish (at_end b (opened [] t) (last_atom t)) ≡ Some t
expr_finds false t fits = ap whole (ends_whole t [] fits (omega arith))
expr_finds true t fits = ap whole (ends_whole t [] fits (omega arith))

pub expr_is_found : (tokens : List Token) (t : ExprSyntax) → IsExpr tokens t → finish (runs step (Need []) tokens) ≡ Some t
expr_is_found tokens t p =
    let r = expr_reaches t tokens [] p.spelled p.fits in
    ap (λ w. finish (runs step (Need []) w)) (r.1 ∙ append-nil r.0) ∙ ap finish r.3 ∙ expr_finds r.2 t p.fits
