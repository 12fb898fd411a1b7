-- What the plain machine sends, beside what a store's sends.
use Rattle.std.specs.Prelude.{◌≡◌, List, map, false, None}
use Rattle.path_seal.specs.Sealed.{Keys}
use Rattle.payload_seal.specs.declared.keys.EntryKeys.{EntryKeys}
use Rattle.request_queue.specs.declared.asked.Asked.{Asked}
use Rattle.zk_messages.specs.declared.reply.Outcome.{Outcome}
use Rattle.zk_messages.specs.declared.reply.Reply.{Reply}
use Rattle.zk_messages.specs.Replies.{HasShape}
use Rattle.reply_rewrite.specs.Admits.{Admits, AdmitsOutcome}
use Rattle.reply_rewrite.specs.Shapes.{shape_for}
use Rattle.reply_rewrite.specs.Results.{IsPlainResult, ArePlainResults}
use Rattle.watch_rewrite.specs.Events.{IsPlainEvent}
use Rattle.tree_state.specs.declared.message.Message.{Message}
use Rattle.tree_state.specs.declared.message.Message.TheVariants as messages
use Rattle.tree_state.specs.declared.message.Output.{Output}
use Rattle.tree_state.specs.Commands.{Change, Command}
use Rattle.tree_state.specs.Changes.{Effect, Effects}
use Rattle.tree_state.specs.Step.{Answer, Next, Noticed}
use Rattle.store_side.specs.Zips.{Zips}
use Rattle.store_side.specs.Follows.{Shows, ShowsReply}
use Rattle.sealed_machine.specs.Seals.{SealedWatch, IsSealedState}
use Rattle.sealed_machine.specs.Veils.{op_asked, asked_of}

-- what a store tells has the shape of an answer to what is asked, and a client is told the plain outcome
pub record IsOpenedTo (k : EntryKeys) (asked : Asked) (told plain : Outcome) : Type 0 where
  pub shaped : HasShape (shape_for asked) told
  pub admitted : AdmitsOutcome k asked told plain None

-- so it is with whatever a store tells of this answer
abbrev pub Opens : EntryKeys → Asked → Outcome → Outcome → Type 0
Opens k asked plain stored = (told : Outcome) → Shows stored told → IsOpenedTo k asked told plain

-- the event, and the store's, which opens to it
unfoldable pub OpensEvent : Keys → Message → Message → Type 0
OpensEvent k (messages.Event plain) (messages.Event stored) = IsPlainEvent k stored plain
OpensEvent k a b = ⊥

pub record OpensOutput (k : Keys) (o u : Output) : Type 0 where
  pub connection : o.connection ≡ u.connection
  pub event : OpensEvent k o.message u.message

pub record SealedEffect (k : EntryKeys) (c : Change) (e f : Effect) : Type 0 where
  pub state : IsSealedState k e.state f.state
  pub result : IsPlainResult k.names false (op_asked c) f.result e.result
  pub events : Zips (OpensOutput k.names) e.events f.events

pub record SealedEffects (k : EntryKeys) (cs : List Change) (e f : Effects) : Type 0 where
  pub state : IsSealedState k e.state f.state
  pub results : ArePlainResults k.names false (map op_asked cs) f.results e.results
  pub events : Zips (OpensOutput k.names) e.events f.events

pub record SealedNoticed (k : Keys) (x y : Noticed) : Type 0 where
  pub watches : Zips (SealedWatch k) x.kept y.kept
  pub events : Zips (OpensOutput k) x.events y.events

pub record SealedAnswer (k : EntryKeys) (c : Command) (a b : Answer) : Type 0 where
  pub state : IsSealedState k a.state b.state
  pub outcome : Opens k (asked_of c) a.outcome b.outcome
  pub events : Zips (OpensOutput k.names) a.events b.events

-- a message, and the store's, in a run where a reply answers this
unfoldable pub OpensMessage : EntryKeys → Asked → Message → Message → Type 0
OpensMessage k asked (messages.Event plain) (messages.Event stored) = IsPlainEvent k.names stored plain
OpensMessage k asked (messages.Reply plain) (messages.Reply stored) = (told : Reply) → ShowsReply stored told → Admits k asked told plain None
OpensMessage k asked (messages.Connected a) (messages.Connected b) = a ≡ b
OpensMessage k asked a b = ⊥

pub record Answers (k : EntryKeys) (asked : Asked) (o u : Output) : Type 0 where
  pub connection : o.connection ≡ u.connection
  pub message : OpensMessage k asked o.message u.message

pub record SealedNext (k : EntryKeys) (asked : Asked) (a b : Next) : Type 0 where
  pub state : IsSealedState k a.state b.state
  pub outputs : Zips (Answers k asked) a.outputs b.outputs
