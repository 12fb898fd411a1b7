use Rattle.watch_rewrite.proofs.watches.veil_list.Goals as goal

pub veil_texts-requires-clause-legal : goal.veil_texts-requires-clause-legal
veil_texts-requires-clause-legal c = rw c.as_slice.ensures (rw c.in-Some.is at c.requires.legal)
