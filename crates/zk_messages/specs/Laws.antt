-- Laws of messages: a body is one message or none, and is spelled in one way, a body that is a message is not refused,
-- and a refusal has one place and one reason. What a body of at most 2 ^ 27 bytes spells has short parts.
use Rattle.std.specs.Prelude.{◌≡◌, ◌≤◌, ◌^◌, ℕ, ℤ, List, length}
use Rattle.jute_core.specs.declared.cursor.Reason.{Reason}
use Rattle.zk_messages.specs.Requests.{SpellsRequest, RefusedRequest}
use Rattle.zk_messages.specs.Short.{HasShortParts}
use Rattle.zk_messages.specs.Replies.{SpellsReply, RefusedReply, SpellsEvent, RefusedEvent}
use Rattle.zk_messages.specs.declared.request.Request.{Request}
use Rattle.zk_messages.specs.declared.reply.Reply.{Reply}
use Rattle.zk_messages.specs.declared.reply.Event.{Event}
use Rattle.zk_messages.specs.declared.reply.Shape.{Shape}

-- a body is one request
abbrev pub IsOneRequest : List ℕ → Type 0
IsOneRequest body = (x y : ℤ) (r s : Request) → SpellsRequest x r body → SpellsRequest y s body → (x ≡ y) × (r ≡ s)

-- which is spelled in one way
abbrev pub HasOneSpelling : ℤ → Request → Type 0
HasOneSpelling xid r = (a b : List ℕ) → SpellsRequest xid r a → SpellsRequest xid r b → a ≡ b

-- a body is read or refused, never both
abbrev pub IsRequestOrRefused : List ℕ → Type 0
IsRequestOrRefused body = (xid : ℤ) (r : Request) (place : ℕ) (reason : Reason) → SpellsRequest xid r body → RefusedRequest body place reason → ⊥

-- a refusal has one place and one reason
abbrev pub HasOneRefusal : List ℕ → Type 0
HasOneRefusal body = (p q : ℕ) (r s : Reason) → RefusedRequest body p r → RefusedRequest body q s → (p ≡ q) × (r ≡ s)

-- the same of replies
abbrev pub IsOneReply : Shape → List ℕ → Type 0
IsOneReply shape body = (r s : Reply) → SpellsReply shape r body → SpellsReply shape s body → r ≡ s

abbrev pub HasOneReplySpelling : Shape → Reply → Type 0
HasOneReplySpelling shape r = (a b : List ℕ) → SpellsReply shape r a → SpellsReply shape r b → a ≡ b

abbrev pub IsReplyOrRefused : Shape → List ℕ → Type 0
IsReplyOrRefused shape body = (r : Reply) (place : ℕ) (reason : Reason) → SpellsReply shape r body → RefusedReply shape body place reason → ⊥

abbrev pub HasOneReplyRefusal : Shape → List ℕ → Type 0
HasOneReplyRefusal shape body = (p q : ℕ) (r s : Reason) → RefusedReply shape body p r → RefusedReply shape body q s → (p ≡ q) × (r ≡ s)

-- and of events
abbrev pub IsOneEvent : List ℕ → Type 0
IsOneEvent body = (e f : Event) → SpellsEvent e body → SpellsEvent f body → e ≡ f

abbrev pub HasOneEventSpelling : Event → Type 0
HasOneEventSpelling e = (a b : List ℕ) → SpellsEvent e a → SpellsEvent e b → a ≡ b

abbrev pub IsEventOrRefused : List ℕ → Type 0
IsEventOrRefused body = (e : Event) (place : ℕ) (reason : Reason) → SpellsEvent e body → RefusedEvent body place reason → ⊥

abbrev pub HasOneEventRefusal : List ℕ → Type 0
HasOneEventRefusal body = (p q : ℕ) (r s : Reason) → RefusedEvent body p r → RefusedEvent body q s → (p ≡ q) × (r ≡ s)

-- the request that a body of at most 2 ^ 27 bytes spells has short parts
abbrev pub IsShortWhenRead : Type 0
IsShortWhenRead = (xid : ℤ) (r : Request) (body : List ℕ) → length body ≤ 2 ^ 27 → SpellsRequest xid r body → HasShortParts r
