use Rattle.std.proofs.Common.{◌∙◌, refl, sym}
use Rattle.world_core.specs.Steps.{Sends}
use Rattle.world_core.proofs.SoundCalls.{sound_send}
use Rattle.world_core.proofs.KeptCalls.{call_cut, call_on, changes_one, sends_spot}
use Rattle.world_core.proofs.world.World.send.Goals as goal

pub returns-in_ok-send : goal.returns-in_ok-send
returns-in_ok-send g c = λ k boot m st a.
    let ch = changes_one c.args.self.now.clients c.args.connection c.place.result c.in-Some.found.now c.send.new.self c.place.ensures (c.in-Some.ensures.variant.0 refl) c.in-Some.ensures.value in
    let keeps = st.kept.each c.args.connection c.in-Some.found.now ch.sets.was in
    call_on _ (g.S.StoreSide.stands c.args.self.now.store) k boot m c.args.connection _ _ c.in-Some.found.now _ (Sends c.args.bytes.now) st ch (sym c.was_cut.ensures ∙ c.if-not-was_cut.true)
    (λ s. sound_send k boot m c.args.connection c.args.bytes.now s st.sound a)
    (sends_spot _ _ _ _ _ _ _ st.store_stands (c.in_ok-send.ensures k boot c.args.connection _ _ keeps))

pub returns-else-not-was_cut : goal.returns-else-not-was_cut
returns-else-not-was_cut g c = λ k boot m st a.
    let ch = changes_one c.args.self.now.clients c.args.connection c.place.result c.in-Some.found.now c.in-Some.found.now c.place.ensures (c.in-Some.ensures.variant.0 refl) c.in-Some.ensures.value in
    call_cut _ k boot m c.args.connection _ _ c.in-Some.found.now _ st ch (sym c.was_cut.ensures ∙ c.if-not-was_cut.false)
