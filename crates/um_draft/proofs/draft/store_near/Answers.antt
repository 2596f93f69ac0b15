use Rattle.um_draft.proofs.Drafts.{stored_near}
use Rattle.um_draft.proofs.draft.store_near.Goals as goal

pub returns-clause-written : goal.returns-clause-written
returns-clause-written c = λ n few. stored_near c.args.buf.now c.args.bytes.now c.args.at c.args.from n c.requires.room c.requires.some few
