-- What holds of every session.
use Rattle.std.specs.Prelude.{◌≡◌, ◌≤◌, ◌<◌, ◌*◌, ◌^◌, ℕ, suc, List, [], ◌++◌, length, Option, Some}
use Rattle.std.specs.List.{AllZip}
use Rattle.path_seal.specs.Sealed.{AreKeys}
use Rattle.payload_seal.specs.Ivs.{payload_iv}
use Rattle.payload_seal.specs.declared.keys.EntryKeys.{EntryKeys}
use Rattle.zk_messages.specs.Sent.{Sent, client_limit}
use Rattle.zk_messages.specs.declared.request.Item.{Item}
use Rattle.entry_session.specs.Heard.{Heard, client_frames, store_frames, bad_of_client}
use Rattle.entry_session.specs.Sides.{IsSide, EndsAtClient}
use Rattle.entry_session.specs.Stands.{Stand}
use Rattle.entry_session.specs.ClientTurns.{greatest_epoch}
use Rattle.entry_session.specs.Runs.{Ran}
use Rattle.entry_session.specs.Veiled.{Veiled}
use Rattle.entry_session.specs.declared.ending.Ending.{Ending}
use Rattle.entry_session.specs.declared.ending.Ending.TheVariants.{StoreMalformed, WrongXid, NothingOpen, BadEvent, Memory}

-- what was heard leads to one stand
abbrev pub LeadsToOne : Type 0
LeadsToOne = (k : EntryKeys) (boot c : ℕ) (hs : List Heard) (s t : Stand) → AreKeys k.names → Ran k boot c hs s → Ran k boot c hs t → s ≡ t

-- what was handed up is what the client sent, veiled
abbrev pub HandsUpVeiled : Type 0
HandsUpVeiled = (k : EntryKeys) (boot c : ℕ) (hs : List Heard) (s : Stand) → Ran k boot c hs s → Veiled k boot c s.items s.up

-- the session ended at a frame of the store for which it handed nothing down
unfoldable pub IsStopped : Option Ending → Type 0
IsStopped (Some (StoreMalformed refusal)) = Unit {0}
IsStopped (Some (WrongXid expected got)) = Unit {0}
IsStopped (Some (NothingOpen xid)) = Unit {0}
IsStopped (Some (BadEvent flaw)) = Unit {0}
IsStopped ending = ⊥

-- for each frame of the store one frame was handed down, but for the one that ended the session
pub record HandsDown (hs : List Heard) (s : Stand) : Type 0 where
  pub stopped : IsStopped s.ending → suc (length s.down) ≡ length (store_frames hs)
  pub others : (IsStopped s.ending → ⊥) → length s.down ≡ length (store_frames hs)

abbrev pub HandsDownOneForOne : Type 0
HandsDownOneForOne = (k : EntryKeys) (boot c : ℕ) (hs : List Heard) (s : Stand) → Ran k boot c hs s → HandsDown hs s

-- a list that begins with another
pub record Continues {A : Type 0} (longer shorter : List A) : Type 0 where
  pub more : List A
  pub is : longer ≡ shorter ++ more

-- where a session stood before it heard more: all that it had come to stays, and what is new stands behind it
pub record StoodAt (k : EntryKeys) (boot c : ℕ) (hs : List Heard) (t : Stand) : Type 0 where
  pub s : Stand
  pub ran : Ran k boot c hs s
  pub items : Continues t.items s.items
  pub up : Continues t.up s.up
  pub down : Continues t.down s.down
  pub findings : Continues t.findings s.findings

-- where it heard more, it went on from there
abbrev pub GoesOn : Type 0
GoesOn = (k : EntryKeys) (boot c : ℕ) (more hs : List Heard) (t : Stand) → Ran k boot c (more ++ hs) t → StoodAt k boot c hs t

-- each body that was handed up has at most 30 times the bytes of the client's body for which it was
pub record IsThirtyfold (hs : List Heard) (s : Stand) : Type 0 where
  pub heard : List (List ℕ)
  pub others : List (List ℕ)
  pub first : client_frames hs ≡ heard ++ others
  pub each : AllZip (λ body out. length out ≤ 30 * length body) heard s.up

abbrev pub HandsUpThirtyfold : Type 0
HandsUpThirtyfold = (k : EntryKeys) (boot c : ℕ) (hs : List Heard) (s : Stand) → Ran k boot c hs s → IsThirtyfold hs s

-- no list of what was heard leads to want of memory
abbrev pub NeverWantsMemory : Type 0
NeverWantsMemory = (k : EntryKeys) (boot c : ℕ) (hs : List Heard) (s : Stand) → Ran k boot c hs s → s.ending ≡ Some Memory → ⊥

-- no two payloads of the sessions of one boot have one IV
abbrev pub HaveOwnIvs : Type 0
HaveOwnIvs = (k : EntryKeys) (boot : ℕ) (hs : ℕ → List Heard) (stand : ℕ → Stand) → ((c : ℕ) → Ran k boot c (hs c) (stand c))
    → (c d i j : ℕ) → c < 2 ^ 32 → d < 2 ^ 32 → i < (stand c).sealed → j < (stand d).sealed
    → payload_iv (greatest_epoch k) boot c i ≡ payload_iv (greatest_epoch k) boot d j → (c ≡ d) × (i ≡ j)

-- what a session kept are the first of these items, and all of them where nothing is under way to it and it did not end at a frame of its client
pub record TakesFirst (hs : List Heard) (s : Stand) (under_way : List ℕ) (items : List Item) : Type 0 where
  pub more : List Item
  pub first : items ≡ s.items ++ more
  pub all : (EndsAtClient s.ending hs → ⊥) → under_way ≡ [] → s.items ≡ items

-- so it is with the items that a client sent, of whose bytes the session took the first and others are under way
abbrev pub TakesWhatWasSent : Type 0
TakesWhatWasSent = (k : EntryKeys) (boot c : ℕ) (hs : List Heard) (s : Stand) (taken under_way : List ℕ) (items : List Item) → Ran k boot c hs s
    → IsSide client_limit (client_frames hs) (bad_of_client hs) (EndsAtClient s.ending hs) taken → Sent (taken ++ under_way) items → TakesFirst hs s under_way items
