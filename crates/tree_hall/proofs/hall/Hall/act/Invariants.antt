use Rattle.tree_hall.proofs.hall.Hall.act.Given as goal

abbrev pub ghosts-take_turn : goal.ghosts-take_turn
ghosts-take_turn g a = record { opened = λ past. g.S.StoreSide.stands a.board.now.key.value past }
