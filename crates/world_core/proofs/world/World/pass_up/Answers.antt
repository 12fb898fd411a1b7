use Rattle.std.proofs.Common.{ℤ, ◌∙◌, FitsSigned, refl, rules, subst, sym, w64}
use Rattle.std.proofs.lemmas.Int.{to_z-of_z}
use Rattle.world_core.specs.Steps.{GoesUp, spot_of}
use Rattle.world_core.proofs.SoundCalls.{sound_up}
use Rattle.world_core.proofs.KeptCalls.{Leads, call_cut, call_on, changes_one}
use Rattle.world_core.proofs.world.World.pass_up.Goals as goal

pub returns-in_ok-go_up : goal.returns-in_ok-go_up
returns-in_ok-go_up g c = λ k boot m st a.
    let ch = changes_one c.args.self.now.clients c.args.connection c.place.result c.in-Some.found.now c.go_up.new.connection c.place.ensures (c.in-Some.ensures.variant.0 refl) c.in-Some.ensures.value in
    let keeps = st.kept.each c.args.connection c.in-Some.found.now ch.sets.was in
    call_on _ (g.S.StoreSide.stands c.go_up.new.store) k boot m c.args.connection _ _ c.in-Some.found.now _ (GoesUp k boot c.args.connection m.now c.args.first c.args.second) st ch (sym c.was_cut.ensures ∙ c.if-not-was_cut.true)
    (λ s. sound_up k boot m c.args.connection c.args.first c.args.second s st.sound a)
    (let n : FitsSigned w64 c.milliseconds-now.result = search rules in
    subst (λ (z : ℤ). Leads (GoesUp k boot c.args.connection z c.args.first c.args.second (spot_of c.args.connection m)) (g.S.StoreSide.stands c.go_up.new.store) k boot c.args.connection c.go_up.new.connection)
    (c.milliseconds-now.ensures.same ∙ st.kept.now) ((simp to_z-of_z at c.in_ok-go_up.ensures) k boot (spot_of c.args.connection m) st.store_stands a keeps))

pub returns-else-not-was_cut : goal.returns-else-not-was_cut
returns-else-not-was_cut g c = λ k boot m st a.
    let ch = changes_one c.args.self.now.clients c.args.connection c.place.result c.in-Some.found.now c.in-Some.found.now c.place.ensures (c.in-Some.ensures.variant.0 refl) c.in-Some.ensures.value in
    call_cut _ k boot m c.args.connection _ _ c.in-Some.found.now _ st ch (sym c.was_cut.ensures ∙ c.if-not-was_cut.false)
