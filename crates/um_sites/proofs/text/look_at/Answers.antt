use Rattle.std.proofs.Common.{List, ℕ, refl, subst}
use Rattle.std.specs.Str.{IsUtf8}
use Rattle.um_sites.proofs.Words.{text_is, no_text}
use Rattle.um_sites.proofs.text.look_at.Goals as goal

pub returns-in-Ok : goal.returns-in-Ok
returns-in-Ok c = rw (text_is c.args.name.now (subst IsUtf8 c.as_slice.ensures c.in-Ok.ensures.cases.1)) c.look_at.ensures.looked

pub returns-in-Err : goal.returns-in-Err
returns-in-Err c = rw (no_text c.args.name.now (subst (λ (bytes : List ℕ). ¬ (IsUtf8 bytes)) c.as_slice.ensures c.in-Err.ensures.cases.0)) refl
