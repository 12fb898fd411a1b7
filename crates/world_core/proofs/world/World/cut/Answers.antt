use Rattle.std.proofs.Common.{◌∙◌, refl, sym}
use Rattle.world_core.specs.Steps.{Cuts, spot_of}
use Rattle.world_core.proofs.SoundCalls.{sound_cut}
use Rattle.world_core.proofs.KeptCalls.{call_cut, call_on, changes_one}
use Rattle.world_core.proofs.world.World.cut.Goals as goal

pub returns-then-not-was_cut : goal.returns-then-not-was_cut
returns-then-not-was_cut g c = λ k boot m st a.
    let ch = changes_one c.args.self.now.clients c.args.connection c.place.result c.in-Some.found.now c.cut.new.connection c.place.ensures (c.in-Some.ensures.variant.0 refl) c.in-Some.ensures.value in
    let keeps = st.kept.each c.args.connection c.in-Some.found.now ch.sets.was in
    call_on _ (g.S.StoreSide.stands c.cut.new.store) k boot m c.args.connection _ _ c.in-Some.found.now _ (Cuts c.args.connection) st ch (sym c.was_cut.ensures ∙ c.if-not-was_cut.true)
    (λ s. sound_cut k boot m c.args.connection s st.sound a)
    (c.cut.ensures k boot (spot_of c.args.connection m) st.store_stands a keeps)

pub returns-else-not-was_cut : goal.returns-else-not-was_cut
returns-else-not-was_cut g c = λ k boot m st a.
    let ch = changes_one c.args.self.now.clients c.args.connection c.place.result c.in-Some.found.now c.in-Some.found.now c.place.ensures (c.in-Some.ensures.variant.0 refl) c.in-Some.ensures.value in
    call_cut _ k boot m c.args.connection _ _ c.in-Some.found.now _ st ch (sym c.was_cut.ensures ∙ c.if-not-was_cut.false)
