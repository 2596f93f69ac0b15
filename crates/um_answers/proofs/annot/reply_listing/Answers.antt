use Rattle.um_answers.proofs.annot.reply_listing.Goals as goal

pub listing_text-requires-clause-heads : goal.listing_text-requires-clause-heads
listing_text-requires-clause-heads c = c.in_ok-heads.ensures c.args.source.now.bytes.now
