use Rattle.std.proofs.Common.{FitsSigned, [], ◌∙◌, w64}
use Rattle.std.proofs.lemmas.Int.{to_z-of_z}
use Rattle.store_side.proofs.SoundCalls.{at_own}
use Rattle.tree_server.proofs.WholeFeeds.{stands_rest, whole_fed, whole_over}
use Rattle.tree_server.proofs.server.TreeServerStoreSide.feed.Goals as goal

pub returns-in-Ok-clause-fed : goal.returns-in-Ok-clause-fed
returns-in-Ok-clause-fed g c =
    let n : FitsSigned w64 c.args.now = c.ranges.now in
    λ past st admitted on.
    let h = c.in_ok-framer.ensures.open past st.both.lines_are admitted in
    whole_fed _ _ _ _ _ _ _ _ _ _ _ _ _ c.args.connection c.args.now c.in_ok-framer.framer.held c.args.piece.now past st admitted on h.1
    c.take_frames.new.framer.held
    ((simp to_z-of_z at c.in-Ok.ensures.taken) h.2 _ (stands_rest _ _ _ _ _ _ _ past st c.args.connection [] admitted h.4) (record { from = admitted.from; below = admitted.below }) h.0 (at_own c.args.connection [] past.rests))
    (λ p are inside goes part. c.put_framer.ensures p are inside goes (c.in-Ok.ensures.limit ∙ h.2) part)

pub returns-in-Err-clause-fed : goal.returns-in-Err-clause-fed
returns-in-Err-clause-fed g c =
    let n : FitsSigned w64 c.args.now = c.ranges.now in
    λ past st admitted on.
    let h = c.in_ok-framer.ensures.open past st.both.lines_are admitted in
    whole_over _ _ _ _ _ _ _ _ _ _ _ _ _ c.args.connection c.args.now c.in_ok-framer.framer.held c.args.piece.now past st admitted on h.1
    c.in-Err.ending
    ((simp to_z-of_z at c.in-Err.ensures.ends) h.2 _ (stands_rest _ _ _ _ _ _ _ past st c.args.connection [] admitted h.4) (record { from = admitted.from; below = admitted.below }) h.0 (at_own c.args.connection [] past.rests))
    (λ p are inside goes. c.end.ensures.ends p are inside goes)
