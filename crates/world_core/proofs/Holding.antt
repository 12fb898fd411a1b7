-- The law over sessions, at a sound moment.
use Rattle.session_law.specs.Law.{Headline}
use Rattle.session_law.proofs.Holds.{holds}
use Rattle.store_side.specs.Past.{password_of}
use Rattle.world_core.specs.Moments.{connection_of}
use Rattle.world_core.specs.Laws.{HoldsAtEach}

pub holds_at_each : HoldsAtEach
holds_at_each k boot m sound = record {
  items = λ c. (sound.each c).items;
  joined = λ c. (sound.each c).joined;
  sessions =
      holds k boot m.past.naming (password_of m.past.key) m.past (λ c. connection_of (m.links c)) (λ c. (sound.each c).items)
      (λ c. (m.links c).under_way) (λ c. (m.links c).unfed) sound.keys sound.some sound.names sound.past.follows (λ c. (sound.each c).joined) (λ c. (sound.each c).behind);
}
