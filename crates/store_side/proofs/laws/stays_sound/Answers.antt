use Rattle.store_side.proofs.SoundCalls.{sound_admitted, sound_pulled}
use Rattle.store_side.proofs.laws.stays_sound.Goals as goal

pub returns-clause-admitting : goal.returns-clause-admitting
returns-clause-admitting c = sound_admitted

pub returns-clause-pulling : goal.returns-clause-pulling
returns-clause-pulling c = sound_pulled
