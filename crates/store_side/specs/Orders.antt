-- The orders in which a store may take what its connections send, lose and outlive.
--
-- That nothing of a connection comes before its Connect, or after its Lost, the Take of its closeSession, a Connect that was given
-- session 0, or the expiry of its session, is said by the session that each Take and each Lost needs, and by `ConnectsOnce`: after
-- each of these the connection has no session, and only its Connect could give it one.
use Rattle.std.specs.Prelude.{◌≡◌, ◌≢◌, ℕ, ℤ, pos, ◌+ℤ◌, ◌-ℤ◌, ◌≤ℤ◌, List, [], ◌∷◌, Option, Some, None, All}
use Rattle.jute_core.specs.Frames.{FitsFrame}
use Rattle.zk_records.specs.declared.connect.ConnectRequest.{ConnectRequest}
use Rattle.tree_state.specs.declared.message.Message.{Message}
use Rattle.tree_state.specs.declared.message.Message.TheVariants as messages
use Rattle.tree_state.specs.declared.message.Output.{Output}
use Rattle.tree_state.specs.declared.session.Given.{Given}
use Rattle.tree_state.specs.State.{State, Session, start, session_of, session_at}
use Rattle.tree_state.specs.Changes.{Naming}
use Rattle.tree_state.specs.Step.{Act, given_to, step}
use Rattle.store_side.specs.Messages.{SpellsMessage}
use Rattle.store_side.specs.Out.{outputs}
use Rattle.store_side.specs.Acts.{AreActs}
use Rattle.store_side.specs.declared.entry.Entry.{Entry}
use Rattle.store_side.specs.declared.entry.Entry.TheVariants.{Connect, Take, Lost, Expire}

-- the number of the session that is given next
abbrev pub next_session : State → ℤ
next_session s = s.greatest +ℤ pos 1

-- what a connect request is given in this state
abbrev pub given_in : (ℤ → List ℕ) → State → ConnectRequest → Given
given_in passwords s asked = given_to s.sessions asked (next_session s) (passwords (next_session s))

-- there is no such session, or it has no connection: a session moves only after the connection that had it was lost
unfoldable pub IsFree : Option Session → Type 0
IsFree None = Unit {0}
IsFree (Some one) = one.connection ≡ None

-- a connect request may come, and be given this
pub record MayConnect (passwords : ℤ → List ℕ) (s : State) (asked : ConnectRequest) (given : Given) : Type 0 where
  -- its client has seen no more than the last zxid
  pub seen : asked.seen ≤ℤ s.last
  -- it is given what the machine gives
  pub given_is : given ≡ given_in passwords s asked
  pub free : IsFree (session_at given.session s.sessions)

-- the connection has a live session
pub record HasSession (s : State) (c : ℕ) : Type 0 where
  pub session : ℤ
  pub live : session_of c s.sessions ≡ Some session

-- the session is live, and was last heard at least its timeout ago
pub record IsOver (s : State) (session now : ℤ) : Type 0 where
  pub one : Session
  pub live : session_at session s.sessions ≡ Some one
  pub up : one.timeout ≤ℤ (now -ℤ one.heard)

-- the entry may come in this state
unfoldable pub MayCome : (ℤ → List ℕ) → State → Entry → Type 0
MayCome passwords s (Connect c asked session timeout password zxid now) = MayConnect passwords s asked (record { session = session; timeout = timeout; password = password })
MayCome passwords s (Take c xid request zxid now) = HasSession s c
MayCome passwords s (Lost c) = HasSession s c
MayCome passwords s (Expire session zxid now) = IsOver s session now

-- the entry has this last zxid; the loss of a connection has none
unfoldable pub HasLast : Entry → ℤ → Type 0
HasLast (Connect c asked session timeout password zxid now) last = zxid ≡ last
HasLast (Take c xid request zxid now) last = zxid ≡ last
HasLast (Lost c) last = Unit {0}
HasLast (Expire session zxid now) last = zxid ≡ last

-- the entry, which is this act, comes next
pub record IsNext (naming : Naming) (passwords : ℤ → List ℕ) (s : State) (e : Entry) (act : Act) : Type 0 where
  pub may : MayCome passwords s e
  -- its zxid is the last one after it
  pub last_is : HasLast e (step naming s act).state.last

-- the entries, which are these acts, come one after another
unfoldable pub LegalFrom : Naming → (ℤ → List ℕ) → State → List Entry → List Act → Type 0
LegalFrom naming passwords s [] [] = Unit {0}
LegalFrom naming passwords s [] (act ∷ acts) = ⊥
LegalFrom naming passwords s (e ∷ es) [] = ⊥
LegalFrom naming passwords s (e ∷ es) (act ∷ acts) = IsNext naming passwords s e act × LegalFrom naming passwords (step naming s act).state es acts

-- no connect of the connection is among them
unfoldable pub HasNoConnect : ℕ → List Entry → Type 0
HasNoConnect c [] = Unit {0}
HasNoConnect c (Connect d asked session timeout password zxid now ∷ es) = (d ≢ c) × HasNoConnect c es
HasNoConnect c (Take d xid request zxid now ∷ es) = HasNoConnect c es
HasNoConnect c (Lost d ∷ es) = HasNoConnect c es
HasNoConnect c (Expire session zxid now ∷ es) = HasNoConnect c es

-- each connection connects once
unfoldable pub ConnectsOnce : List Entry → Type 0
ConnectsOnce [] = Unit {0}
ConnectsOnce (Connect c asked session timeout password zxid now ∷ es) = HasNoConnect c es × ConnectsOnce es
ConnectsOnce (Take c xid request zxid now ∷ es) = ConnectsOnce es
ConnectsOnce (Lost c ∷ es) = ConnectsOnce es
ConnectsOnce (Expire session zxid now ∷ es) = ConnectsOnce es

-- an answer has a body whose length is an int; an event answers nothing
unfoldable pub FitsAnswer : Message → Type 0
FitsAnswer (messages.Event e) = Unit {0}
FitsAnswer message = (body : List ℕ) × SpellsMessage message body × FitsFrame body

abbrev pub FitsOutput : Output → Type 0
FitsOutput o = FitsAnswer o.message

-- The order, whose entries are these acts, may be that of a store whose sequential nodes are named so, and whose sessions have
-- these passwords.
pub record Legal (naming : Naming) (passwords : ℤ → List ℕ) (order : List Entry) (acts : List Act) : Type 0 where
  pub are_acts : AreActs order acts
  -- from the start, each may come when it does
  pub steps : LegalFrom naming passwords start order acts
  pub once : ConnectsOnce order
  -- each answer can be sent
  pub answers_fit : All FitsOutput (outputs naming start acts)
