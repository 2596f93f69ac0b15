use Rattle.um_rows.proofs.JudgementLaws.{judged_schemes_are_principal, judged_untyped_have_none, judged_not_general_have_none}
use Rattle.um_rows.proofs.GeneralLaws.{general_without_parameters}
use Rattle.um_rows.proofs.laws.judgements.Goals as goal

pub returns : goal.returns
returns c = record { schemes = judged_schemes_are_principal; refusals = judged_untyped_have_none; not_general = judged_not_general_have_none; general = general_without_parameters }
