-- How a hostile script is played, event by event.
use Rattle.std.specs.Prelude.{◌≡◌}
use Rattle.payload_seal.specs.declared.keys.EntryKeys.{EntryKeys}
use Rattle.entry_session.specs.Kept.{At}
use Rattle.entry_session.specs.Sides.{bytes_of}
use Rattle.replay_cli.specs.declared.hostile.Play.{Play}
use Rattle.replay_cli.specs.declared.hostile_script.HostileEvent.{HostileEvent}
use Rattle.replay_cli.specs.Hostile.{Scene, LeadsIf}

-- The session is that of connection 1 in boot 0 under these keys, and stands in this scene; what it gave is kept.
pub record IsAt (keys : EntryKeys) (scene : Scene) (play : Play) : Type 0 where
  pub keys_are : play.session.going.keys ≡ keys
  pub boot : play.session.going.ivs.boot ≡ 0
  pub connection : play.session.going.ivs.connection ≡ 1
  pub at : At play.session scene.heard scene.client_rest scene.store_rest scene.stand
  pub up : play.up.items ≡ bytes_of scene.stand.up
  pub down : play.down.items ≡ bytes_of scene.stand.down
  pub findings : play.findings.items ≡ scene.stand.findings

-- from each scene in which a session may stand, the event leads to one in which it stands then
abbrev pub Goes : Play → HostileEvent → Play → Type 0
Goes old event new = (keys : EntryKeys) (scene : Scene) → IsAt keys scene old → (next : Scene) × LeadsIf keys scene.stand.ending scene event next × IsAt keys next new
