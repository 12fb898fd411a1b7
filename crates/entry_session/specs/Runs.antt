-- Where what a session heard leads.
use Rattle.std.specs.Prelude.{◌≡◌, ◌⊎◌, ℕ, ℤ, pos, ◌≤◌, ◌<ℤ◌, List, [], ◌∷◌, length, Option, Some, None}
use Rattle.payload_seal.specs.declared.keys.EntryKeys.{EntryKeys}
use Rattle.zk_messages.specs.Sent.{client_limit}
use Rattle.entry_session.specs.Heard.{Heard, from_client, from_store, bad_client, bad_store, given}
use Rattle.entry_session.specs.Stands.{Stand, fresh, ends}
use Rattle.entry_session.specs.ClientTurns.{ClientTurn}
use Rattle.entry_session.specs.StoreTurns.{StoreTurn}
use Rattle.entry_session.specs.declared.ending.Ending.{Ending}
use Rattle.entry_session.specs.declared.ending.Ending.TheVariants.{ClientTooLong, StoreTooLong, ClientEnd, StoreEnd, ClientFault, StoreFault, Turns}

-- the most bytes of a frame for or from the store
abbrev pub store_limit : ℕ
store_limit = 134217728

-- no frame of the side has this length
abbrev pub IsBeyond : ℕ → ℤ → Type 0
IsBeyond limit z = (z <ℤ pos 0) ⊎ (pos limit <ℤ z)

-- an ending that a caller may give
unfoldable pub IsGivenEnding : Ending → Type 0
IsGivenEnding ClientEnd = Unit {0}
IsGivenEnding StoreEnd = Unit {0}
IsGivenEnding ClientFault = Unit {0}
IsGivenEnding StoreFault = Unit {0}
IsGivenEnding Turns = Unit {0}
IsGivenEnding e = ⊥

-- from where the session stood, what is heard leads here
unfoldable pub TurnOf : EntryKeys → ℕ → ℕ → Stand → Heard → Stand → Type 0
TurnOf k boot c old (from_client body) new = (length body ≤ client_limit) × ClientTurn k boot c old body new
TurnOf k boot c old (from_store body) new = (length body ≤ store_limit) × StoreTurn k c old body new old.items old.answered
TurnOf k boot c old (bad_client z) new = IsBeyond client_limit z × (new ≡ ends old (ClientTooLong z))
TurnOf k boot c old (bad_store z) new = IsBeyond store_limit z × (new ≡ ends old (StoreTooLong z))
TurnOf k boot c old (given e) new = IsGivenEnding e × (new ≡ ends old e)

-- a session that has ended hears nothing more
unfoldable pub TurnIf : EntryKeys → ℕ → ℕ → Option Ending → Stand → Heard → Stand → Type 0
TurnIf k boot c (Some e) old h new = ⊥
TurnIf k boot c None old h new = TurnOf k boot c old h new

-- What was heard, the last first, leads a session of connection c here: under these keys, in this boot.
unfoldable pub Ran : EntryKeys → ℕ → ℕ → List Heard → Stand → Type 0
Ran k boot c [] s = s ≡ fresh
Ran k boot c (h ∷ hs) s = (old : Stand) × Ran k boot c hs old × TurnIf k boot c old.ending old h s
