-- The workload of `stress`: what its clients send, as the words of a generator choose it.
use Rattle.std.specs.Prelude.{◌≡◌, ℕ, zero, suc, ℤ, pos, negsuc, ◌+◌, ◌*◌, ◌%◌, ◌==◌, ◌<◌, ◌^◌, List, [], ◌∷◌, ◌++◌, length, replicate, codes, true, false, Some, None, if◌then◌else◌}
use Rattle.std.specs.Fmt.{decimal}
use Rattle.std.specs.Int.{w64, to_be_bytes}
use Rattle.rand_chacha.specs.ChaCha.{ChaCha, key_of, word_at}
use Rattle.jute_core.specs.Frames.{frame}
use Rattle.jute_core.specs.Jute.{int_bytes, long_bytes}
use Rattle.zk_records.specs.declared.create.CreateRequest.{CreateRequest}
use Rattle.zk_messages.specs.Refuses.{open_acl}
use Rattle.zk_messages.specs.Requests.{SpellsRequest}
use Rattle.zk_messages.specs.declared.request.Op.TheVariants as ops
use Rattle.zk_messages.specs.declared.request.Request.{Request}
use Rattle.zk_messages.specs.declared.request.Request.TheVariants as requests
use Rattle.replay_cli.specs.declared.script.Event.{Event}
use Rattle.replay_cli.specs.declared.script.Event.TheVariants.{Open, Send, Up, Down, Time, Drain}

-- ---- the words

-- ChaCha20 has this number as its seed: 8 big-endian bytes of it, and 24 zero bytes
abbrev pub key_of_seed : ℕ → List ℕ
key_of_seed seed = key_of (to_be_bytes w64 seed ++ replicate 24 0)

-- its words in order, from 0
abbrev pub word_of : ℕ → ℕ → ℕ
word_of seed i = word_at 10 (key_of_seed seed) 0 i

-- the next three, and the generator behind them
pub record DrawsThree (old new : ChaCha) (words : List ℕ) : Type 0 where
  pub words_are : words ≡ word_at 10 old.key old.stream old.word_pos ∷ word_at 10 old.key old.stream (old.word_pos + 1) ∷ word_at 10 old.key old.stream (old.word_pos + 2) ∷ []
  pub next : new ≡ record old { word_pos = old.word_pos + 3 }

-- ---- the requests

-- the node below which the others are made
abbrev pub parent : List ℕ
parent = codes "/w"

abbrev pub creation : List ℕ → List ℕ → ℤ → CreateRequest
creation path content flags = record { path = path; content = Some content; acls = Some (open_acl ∷ []); flags = flags }

-- A request of each kind, of a node of this path or of the parent, with this content where it has one.
pub data Asks (path content : List ℕ) : ℕ → Request → Type 0 where
  creates : Asks path content 0 (requests.Create (creation path content (pos 0)))
  deletes : Asks path content 1 (requests.Delete (record { path = path; version = negsuc 0 }))
  changes : Asks path content 2 (requests.SetContent (record { path = path; content = Some content; version = negsuc 0 }))
  reads : Asks path content 3 (requests.GetContent (record { path = path; watch = true }))
  looks : Asks path content 4 (requests.Exists (record { path = path; watch = true }))
  lists : Asks path content 5 (requests.GetChildren (record { path = parent; watch = true }))
  numbers : Asks path content 6 (requests.Create (creation (path ++ codes "/s-") content (pos 2)))
  checks : Asks path content 7 (requests.Multi (ops.Check (record { path = path; version = negsuc 0 })
      ∷ ops.SetContent (record { path = path; content = Some content; version = negsuc 0 }) ∷ []))
  lists_plainly : Asks path content 8 (requests.GetChildren2 (record { path = parent; watch = false }))
  pings : Asks path content 9 requests.Ping

-- the request that makes the parent, without a content
abbrev pub parent_creation : Request
parent_creation = requests.Create (record { path = parent; content = None; acls = Some (open_acl ∷ []); flags = pos 0 })

-- the path of the node with this digit
abbrev pub path_of : ℕ → List ℕ
path_of digit = codes "/w/p" ++ decimal digit

-- the xid of a request of this kind at a step: a ping has its own
abbrev pub xid_at : ℕ → ℕ → ℤ
xid_at kind step = if kind == 9 then negsuc 1 else pos (step + 2)

-- whatever spells the request is short enough for a frame
abbrev pub FitsFrame : ℤ → Request → Type 0
FitsFrame xid request = (body : List ℕ) → SpellsRequest xid request body → length body < 2 ^ 31

-- ---- the events

-- as many bytes as a script can name
abbrev pub everything : ℕ
everything = 4294967295

-- it is time s; the client of connection c sends these bytes, and all go up and come down
unfoldable pub exchange : ℕ → ℕ → List ℕ → List Event
exchange s c bytes = Time (pos s) ∷ Send c bytes ∷ Up c everything everything ∷ Down c everything ∷ []

-- Step s, over so many sessions: its three words choose the connection, the kind and the digit.
pub record IsStep (sessions s a b d : ℕ) (events : List Event) : Type 0 where
  pub request : Request
  pub asks : Asks (path_of (d % 8)) (to_be_bytes w64 s) (b % 10) request
  pub body : List ℕ
  pub spelled : SpellsRequest (xid_at (b % 10) s) request body
  pub are : events ≡ exchange s (1 + a % sessions) (frame body)

-- so many steps, one after another
unfoldable pub AreSteps : (ℕ → ℕ) → ℕ → ℕ → List Event → Type 0
AreSteps words sessions zero events = events ≡ []
AreSteps words sessions (suc s) events = (before step : List Event) × AreSteps words sessions s before
    × IsStep sessions s (words (3 * s)) (words (3 * s + 1)) (words (3 * s + 2)) step × (events ≡ before ++ step)

-- the frame of a connect request of protocol 0 that saw nothing and asks for 30,000 ms and no session
abbrev pub greeting : List ℕ
greeting = frame (int_bytes (pos 0) ++ long_bytes (pos 0) ++ int_bytes (pos 30000) ++ long_bytes (pos 0) ++ int_bytes (pos 16) ++ replicate 16 0 ++ 0 ∷ [])

-- each of so many clients sends it
unfoldable pub greetings : ℕ → List Event
greetings zero = []
greetings (suc c) = greetings c ++ Send (suc c) greeting ∷ []

-- At first all connect, and the first makes the parent without a content.
pub record IsStart (sessions : ℕ) (events : List Event) : Type 0 where
  pub body : List ℕ
  pub spelled : SpellsRequest (pos 1) parent_creation body
  pub are : events ≡ replicate sessions Open ++ greetings sessions ++ Send 1 (frame body) ∷ Drain ∷ []

-- The workload of so many sessions and steps.
pub record IsWorkload (words : ℕ → ℕ) (sessions steps : ℕ) (events : List Event) : Type 0 where
  pub start : List Event
  pub is_start : IsStart sessions start
  pub middle : List Event
  pub are_steps : AreSteps words sessions steps middle
  pub are : events ≡ start ++ middle ++ Drain ∷ []
