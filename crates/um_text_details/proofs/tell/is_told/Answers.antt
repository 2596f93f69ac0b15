use Rattle.std.proofs.Common.{subst, sym}
use Rattle.std.specs.Bool.{Decides}
use Rattle.std.specs.Result.{IfOk}
use Rattle.um_text_details.specs.declared.word.Word.TheVariants as word
use Rattle.um_text_details.specs.Expected.{IsExpected}
use Rattle.um_text_details.proofs.Told.{whole_is_told, one_is_told}
use Rattle.um_text_details.proofs.tell.is_told.Goals as goal

pub returns-in-Name : goal.returns-in-Name
returns-in-Name c =
    subst (λ w. IfOk c.takes_name.result (λ told. Decides told (IsExpected c.args.trial.now w))) (sym c.in-Name.is) c.takes_name.ensures

pub returns-in-Variable : goal.returns-in-Variable
returns-in-Variable c =
    subst (λ w. IfOk c.takes_variable.result (λ told. Decides told (IsExpected c.args.trial.now w))) (sym c.in-Variable.is) c.takes_variable.ensures

pub returns-in-Hole : goal.returns-in-Hole
returns-in-Hole c =
    subst (λ w. Decides c.takes.result (IsExpected c.args.trial.now w)) (sym c.in-Hole.is) c.takes.ensures

pub returns-in-Keyword : goal.returns-in-Keyword
returns-in-Keyword c =
    subst (λ w. Decides c.takes-in-Keyword.result (IsExpected c.args.trial.now w)) (sym c.in-Keyword.is) c.takes-in-Keyword.ensures

pub returns-in-Sign : goal.returns-in-Sign
returns-in-Sign c =
    subst (λ w. Decides c.is_sign_told.result (IsExpected c.args.trial.now w)) (sym c.in-Sign.is) c.is_sign_told.ensures

pub returns-in-End : goal.returns-in-End
returns-in-End c =
    subst (λ w. Decides c.is_whole.result (IsExpected c.args.trial.now w)) (sym c.in-End.is) c.is_whole.ensures

pub returns-in-Whole : goal.returns-in-Whole
returns-in-Whole c =
    let p = c.args.trial.now in
    subst (λ w. Decides c.is_whole_told.result (IsExpected p w)) (sym c.in-Whole.is)
    (subst (λ b. Decides b (IsExpected p word.Whole)) (sym c.is_whole_told.ensures) (whole_is_told p c.args.tried c.requires.tried))

pub returns-in-One : goal.returns-in-One
returns-in-One c =
    let p = c.args.trial.now in
    subst (λ w. Decides c.is_one_told.result (IsExpected p w)) (sym c.in-One.is)
    (subst (λ b. Decides b (IsExpected p word.One)) (sym c.is_one_told.ensures) (one_is_told p c.args.tried c.requires.tried))
