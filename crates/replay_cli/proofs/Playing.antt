-- What a world's calls say of the events that they play.
use Rattle.std.proofs.Common.{◌≡◌, ℕ, ℤ, ◌+◌, List, sym, subst}
use Rattle.payload_seal.specs.declared.keys.EntryKeys.{EntryKeys}
use Rattle.store_side.specs.Past.{Past}
use Rattle.store_side.specs.Follows.{IsAdmitted}
use Rattle.world_core.specs.declared.amount.Amount.TheVariants.{AtMost}
use Rattle.world_core.specs.declared.clients.Clients.{Clients}
use Rattle.world_core.specs.Moments.{Moment}
use Rattle.world_core.specs.Standing.{Moves, MovesOf, Stands}
use Rattle.world_core.specs.Steps.{Cut as CutOff, Down as GoDown, Drains, Sent, Ticks, Up as GoUp, added, timed}
use Rattle.replay_cli.specs.Script.{IsOpen}
use Rattle.replay_cli.specs.Worlds.{Happens, MayHappen}
use Rattle.replay_cli.specs.declared.script.Event.{Event}
use Rattle.replay_cli.specs.declared.script.Event.TheVariants.{Open, Send, Up, Down, Cut, Time, Tick, Drain}

-- from each moment where the event may stand it leads to one
abbrev pub Plays : (Past → Type 0) → Clients → (Past → Type 0) → Clients → Event → Type 0
Plays before old after new event = (keys : EntryKeys) (m : Moment) → Stands before keys 0 old m → MayHappen m.past.admitted event → (n : Moment) × Happens keys event m n × Stands after keys 0 new n

admitted_of : (past : Past) (c : ℕ) → IsOpen past.admitted c → IsAdmitted past c
admitted_of past c is = record { from = is.0; below = is.1 }

pub as_event : (before : Past → Type 0) (old : Clients) (after : Past → Type 0) (new : Clients) (event same : Event) → event ≡ same → Plays before old after new same → Plays before old after new event
as_event before old after new event same is plays = subst (λ (e : Event). Plays before old after new e) (sym is) plays

pub open_plays : (before : Past → Type 0) (old : Clients) (after : Past → Type 0) (new : Clients) (c : ℕ)
    → Moves before old after new (λ k boot m n. (c ≡ m.past.admitted + 1) × (n ≡ added m)) → Plays before old after new Open
unfolding Happens
open_plays before old after new c moves = λ keys m stands may. let h = moves keys 0 m stands in (h.0, h.1.1, h.2)

pub send_plays : (before : Past → Type 0) (old : Clients) (after : Past → Type 0) (new : Clients) (c : ℕ) (bytes : List ℕ)
    → MovesOf c before old after new (λ k boot m n. Sent c bytes m n) → Plays before old after new (Send c bytes)
unfolding Happens
send_plays before old after new c bytes moves = λ keys m stands may. moves keys 0 m stands (admitted_of m.past c may)

pub up_plays : (before : Past → Type 0) (old : Clients) (after : Past → Type 0) (new : Clients) (c first second : ℕ)
    → MovesOf c before old after new (λ k boot m n. GoUp k boot c (AtMost first) (AtMost second) m n) → Plays before old after new (Up c first second)
unfolding Happens
up_plays before old after new c first second moves = λ keys m stands may. moves keys 0 m stands (admitted_of m.past c may)

pub down_plays : (before : Past → Type 0) (old : Clients) (after : Past → Type 0) (new : Clients) (c limit : ℕ)
    → MovesOf c before old after new (λ k boot m n. GoDown k boot c (AtMost limit) m n) → Plays before old after new (Down c limit)
unfolding Happens
down_plays before old after new c limit moves = λ keys m stands may. moves keys 0 m stands (admitted_of m.past c may)

pub cut_plays : (before : Past → Type 0) (old : Clients) (after : Past → Type 0) (new : Clients) (c : ℕ)
    → MovesOf c before old after new (λ k boot m n. CutOff c m n) → Plays before old after new (Cut c)
unfolding Happens
cut_plays before old after new c moves = λ keys m stands may. moves keys 0 m stands (admitted_of m.past c may)

pub time_plays : (before : Past → Type 0) (old : Clients) (after : Past → Type 0) (new : Clients) (now : ℤ)
    → Moves before old after new (λ k boot m n. n ≡ timed now m) → Plays before old after new (Time now)
unfolding Happens
time_plays before old after new now moves = λ keys m stands may. moves keys 0 m stands

pub tick_plays : (before : Past → Type 0) (old : Clients) (after : Past → Type 0) (new : Clients)
    → Moves before old after new (λ k boot m n. Ticks m n) → Plays before old after new Tick
unfolding Happens
tick_plays before old after new moves = λ keys m stands may. moves keys 0 m stands

pub drain_plays : (before : Past → Type 0) (old : Clients) (after : Past → Type 0) (new : Clients)
    → Moves before old after new (λ k boot m n. Drains k boot m n) → Plays before old after new Drain
unfolding Happens
drain_plays before old after new moves = λ keys m stands may. moves keys 0 m stands
