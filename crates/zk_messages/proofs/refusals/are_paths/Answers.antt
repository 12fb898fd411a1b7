use Rattle.zk_messages.proofs.refusals.are_paths.Goals as goal

pub returns-in-Some : goal.returns-in-Some
returns-in-Some c = rw c.in-Some.is (rw c.as_slice.ensures at c.all_paths.ensures)
