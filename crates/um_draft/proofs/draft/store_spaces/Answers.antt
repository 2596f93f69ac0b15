use Rattle.um_draft.proofs.Drafts.{stored_spaces}
use Rattle.um_draft.proofs.draft.store_spaces.Goals as goal

pub returns-clause-written : goal.returns-clause-written
returns-clause-written c = λ n few. stored_spaces c.args.buf.now c.args.at n c.requires few
