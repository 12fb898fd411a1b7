use Rattle.tree_hall.proofs.hall.Hall.meet.Given as goal

abbrev pub ghosts-gather : goal.ghosts-gather
ghosts-gather g a = record { opened = λ past. g.S.StoreSide.stands a.board.now.key.value past }
