mod Drafts
