-- A piece of bytes, through the session and to the other side.
use Rattle.std.proofs.Common.{◌≡◌, ◌⊎◌, inl, inr, ℕ, List, [], ◌∷◌, ◌++◌, refl, sym, ap, subst, ◌∙◌}
use Rattle.std.specs.Prelude.{Option, Some, None, Result, Ok, Err}
use Rattle.jute_core.specs.Faults.{Rose, HasCause, Takes, Wrote, WroteFront}
use Rattle.reply_rewrite.specs.declared.finding.Finding.{Finding}
use Rattle.audit_board.specs.declared.Failed.{Failed}
use Rattle.entry_session.specs.Heard.{Heard, client_frames}
use Rattle.entry_session.specs.Stands.{Stand}
use Rattle.entry_session.specs.Sides.{bytes_of}
use Rattle.entry_session.specs.Kept.{Kept, IsOfOne, At}
use Rattle.entry_session.specs.Calls.{GoesUp as SessionGoesUp, TakesFromClient, TakesFromStore, WantsAtClient, answer_of}
use Rattle.entry_session.specs.declared.ending.Ending.{Ending}
use Rattle.entry_session.specs.declared.ending.Ending.TheVariants as endings
use Rattle.relay_io.specs.Sides.{Sides}
use Rattle.relay_io.specs.Scenes.{Line, Scene, HearsClient, HearsStore, HearsFirst}
use Rattle.relay_io.specs.Relayed.{TellsAll}
use Rattle.relay_io.specs.Turns.{IsAt, GainsUp, GainsDown, ToStore, ToStoreFront, ToClient, ToClientFront, StopsUp, up_ended, up_unwritten, up_in_part, GoesUp, WentUp, StopsDown, down_ended, down_unwritten, down_in_part, GoesDown, WentDown}
use Rattle.relay_io.proofs.Passing.{ran_on, ending_of_ok, ending_of_err, both_ways, some_is}
use Rattle.relay_io.proofs.Writing.{wrote_ok, wrote_front, rose_by, wrote_either, wrote_none}

-- What a call of a session with bytes of its client says, where nothing had been appended before it.
pub record CallsClient (old new : Kept) (piece up : List ℕ) (answer : Result (Unit {0}) Ending) : Type 0 where
  pub answered : answer ≡ answer_of new.ending
  pub takes : (new.ending ≡ Some endings.Memory → ⊥) → (hs : List Heard) (client_rest store_rest : List ℕ) (s : Stand) → At old hs client_rest store_rest s → s.ending ≡ None
      → TakesFromClient old new hs client_rest store_rest s piece [] up
  pub wants : new.ending ≡ Some endings.Memory → (hs : List Heard) (client_rest store_rest : List ℕ) (s : Stand) → At old hs client_rest store_rest s → s.ending ≡ None
      → WantsAtClient old.going hs client_rest s piece [] up
  pub same : IsOfOne old.going new.going

-- the session heard the piece, and these bytes are what it gained for the store
pub record TookUp (line : Line) (scene : Scene) (piece : List ℕ) (new : Kept) (up : List ℕ) : Type 0 where
  pub next : Scene
  pub gained : List (List ℕ)
  pub hears : HearsClient line scene piece next
  pub at : IsAt line next new
  pub gains : GainsUp scene next gained
  pub is : up ≡ bytes_of gained

pub took_up : (line : Line) (scene : Scene) (old new : Kept) (piece up : List ℕ) → IsAt line scene old → IsOfOne old.going new.going
    → TakesFromClient old new scene.heard scene.client_rest scene.store_rest scene.stand piece [] up → TookUp line scene piece new up
took_up line scene old new piece up is same t =
    let next : Scene = record { heard = t.more ++ scene.heard; client_rest = t.side.rest; store_rest = scene.store_rest; stand = t.t } in
    record {
      next = next;
      gained = t.goes_up.gained;
      hears = record {
        more = t.more;
        of_client = t.goes_up.of_client;
        heard = refl;
        ran = ran_on line old.going.keys old.going.ivs.boot old.going.ivs.connection (t.more ++ scene.heard) t.t is.keys is.boot is.connection t.goes_up.ran;
        side = t.side;
        client_rest = refl;
        store_rest = refl;
      };
      at = record { keys = same.keys ∙ is.keys; boot = same.boot ∙ is.boot; connection = same.connection ∙ is.connection; at = t.at };
      gains = record { up = t.goes_up.handed; down = t.goes_up.down; findings = t.goes_up.findings };
      is = t.goes_up.added;
    }

-- a write of what was gained
to_store : (old new : Sides) (up : List ℕ) (gained : List (List ℕ)) (r : Result (Unit {0}) Failed) → up ≡ bytes_of gained → Takes old.to_store new.to_store up r → HasCause old.store_faults new.store_faults r
    → ToStore old new gained ⊎ ToStoreFront old new gained
to_store old new up gained r is h k =
    elim (wrote_either old.to_store new.to_store (bytes_of gained) old.store_faults new.store_faults r (subst (λ (b : List ℕ). Takes old.to_store new.to_store b r) is h) k) [ inl w ↦ inl w | inr w ↦ inr (record { rose = w.0; front = w.1 }) ]

pub up_goes_on : (line : Line) (scene : Scene) (old new : Kept) (piece up : List ℕ) (answer : Result (Unit {0}) Ending) (before after : Sides) (written : Result (Unit {0}) Failed) (x : Unit {0})
    → CallsClient old new piece up answer → answer ≡ Ok record {} → Takes before.to_store after.to_store up written → written ≡ Ok x → IsAt line scene old → scene.stand.ending ≡ None
    → GoesUp line scene piece before after new
up_goes_on line scene old new piece up answer before after written x c ok w is at n =
    let none = ending_of_ok new.ending answer c.answered ok in
    let t = took_up line scene old new piece up at c.same (c.takes (λ m. both_ways new.ending endings.Memory m none) scene.heard scene.client_rest scene.store_rest scene.stand at.at n) in
    record {
      next = t.next;
      gained = t.gained;
      hears = t.hears;
      goes_on = sym t.at.at.ending ∙ none;
      at = t.at;
      gains = t.gains;
      written = wrote_ok before.to_store after.to_store (bytes_of t.gained) written x is (subst (λ (b : List ℕ). Takes before.to_store after.to_store b written) t.is w);
    }

pub up_fails : (line : Line) (scene : Scene) (old new : Kept) (piece up : List ℕ) (answer : Result (Unit {0}) Ending) (before after : Sides) (written : Result (Unit {0}) Failed) (f : Failed)
    → CallsClient old new piece up answer → answer ≡ Ok record {} → Takes before.to_store after.to_store up written → HasCause before.store_faults after.store_faults written → written ≡ Err f
    → IsAt line scene old → scene.stand.ending ≡ None → StopsUp line scene piece before after endings.StoreFault
up_fails line scene old new piece up answer before after written f c ok w k is at n =
    let none = ending_of_ok new.ending answer c.answered ok in
    let t = took_up line scene old new piece up at c.same (c.takes (λ m. both_ways new.ending endings.Memory m none) scene.heard scene.client_rest scene.store_rest scene.stand at.at n) in
    up_unwritten t.next t.gained t.hears (sym t.at.at.ending ∙ none) t.gains (record {
      rose = rose_by before.store_faults after.store_faults written f is k;
      front = wrote_front before.to_store after.to_store (bytes_of t.gained) written f is (subst (λ (b : List ℕ). Takes before.to_store after.to_store b written) t.is w);
    })

-- whether an ending is want of memory
pub is_memory : (e : Ending) → Dec (e ≡ endings.Memory)
is_memory endings.Memory = yes refl
is_memory endings.Closed = no (λ h. cc)
is_memory (endings.ClientMalformed r) = no (λ h. cc)
is_memory (endings.ClientTooLong z) = no (λ h. cc)
is_memory (endings.StoreMalformed r) = no (λ h. cc)
is_memory (endings.StoreTooLong z) = no (λ h. cc)
is_memory (endings.WrongXid a b) = no (λ h. cc)
is_memory (endings.NothingOpen z) = no (λ h. cc)
is_memory (endings.BadEvent f) = no (λ h. cc)
is_memory (endings.QueueFull w) = no (λ h. cc)
is_memory endings.IvSpent = no (λ h. cc)
is_memory endings.ClientEnd = no (λ h. cc)
is_memory endings.StoreEnd = no (λ h. cc)
is_memory endings.ClientFault = no (λ h. cc)
is_memory endings.StoreFault = no (λ h. cc)
is_memory endings.Turns = no (λ h. cc)

up_short : (line : Line) (scene : Scene) (old : Kept) (piece up : List ℕ) (before after : Sides) (written : Result (Unit {0}) Failed)
    → WantsAtClient old.going scene.heard scene.client_rest scene.stand piece [] up → Takes before.to_store after.to_store up written → HasCause before.store_faults after.store_faults written
    → IsAt line scene old → StopsUp line scene piece before after endings.Memory
up_short line scene old piece up before after written t w k is =
    let next : Scene = record { heard = t.more ++ scene.heard; client_rest = t.left; store_rest = scene.store_rest; stand = t.t } in
    up_in_part next t.goes_up.gained (record {
      more = t.more;
      of_client = t.goes_up.of_client;
      heard = refl;
      ran = ran_on line old.going.keys old.going.ivs.boot old.going.ivs.connection (t.more ++ scene.heard) t.t is.keys is.boot is.connection t.goes_up.ran;
      goes_on = t.goes_on;
      cut = t.cut;
      store_rest = refl;
    }) (record { up = t.goes_up.handed; down = t.goes_up.down; findings = t.goes_up.findings }) (to_store before after up t.goes_up.gained written t.goes_up.added w k)

pub up_stops : (line : Line) (scene : Scene) (old new : Kept) (piece up : List ℕ) (answer : Result (Unit {0}) Ending) (e : Ending) (before after : Sides) (written : Result (Unit {0}) Failed)
    → CallsClient old new piece up answer → answer ≡ Err e → Takes before.to_store after.to_store up written → HasCause before.store_faults after.store_faults written
    → IsAt line scene old → scene.stand.ending ≡ None → StopsUp line scene piece before after e
up_stops line scene old new piece up answer e before after written c err w k at n =
    let so = ending_of_err new.ending answer e c.answered err in
    elim (is_memory e) [
      | yes m ↦ subst (λ (e : Ending). StopsUp line scene piece before after e) (sym m)
          (up_short line scene old piece up before after written (c.wants (so ∙ ap Some m) scene.heard scene.client_rest scene.store_rest scene.stand at.at n) w k at)
      | no m ↦
          let t = took_up line scene old new piece up at c.same (c.takes (λ short. m (some_is new.ending e endings.Memory so short)) scene.heard scene.client_rest scene.store_rest scene.stand at.at n) in
          up_ended e t.next t.gained t.hears (sym t.at.at.ending ∙ so) t.gains (to_store before after up t.gained written t.is w k)
    ]

-- The same of bytes of the store.
pub record CallsStore (old new : Kept) (piece down : List ℕ) (findings : List Finding) (answer : Result (Unit {0}) Ending) : Type 0 where
  pub answered : answer ≡ answer_of new.ending
  pub takes : (new.ending ≡ Some endings.Memory → ⊥) → (hs : List Heard) (client_rest store_rest : List ℕ) (s : Stand) → At old hs client_rest store_rest s → s.ending ≡ None
      → TakesFromStore old new hs client_rest store_rest s piece [] down [] findings
  pub wants : new.ending ≡ Some endings.Memory → (hs : List Heard) (client_rest store_rest : List ℕ) (s : Stand) → At old hs client_rest store_rest s → s.ending ≡ None
      → (down ≡ []) × (findings ≡ [])
  pub same : IsOfOne old.going new.going

pub record TookDown (line : Line) (scene : Scene) (piece : List ℕ) (new : Kept) (down : List ℕ) (findings : List Finding) : Type 0 where
  pub next : Scene
  pub gained : List (List ℕ)
  pub hears : HearsStore line scene piece next
  pub at : IsAt line next new
  pub gains : GainsDown scene next gained findings
  pub is : down ≡ bytes_of gained

pub took_down : (line : Line) (scene : Scene) (old new : Kept) (piece down : List ℕ) (findings : List Finding) → IsAt line scene old → IsOfOne old.going new.going
    → TakesFromStore old new scene.heard scene.client_rest scene.store_rest scene.stand piece [] down [] findings → TookDown line scene piece new down findings
took_down line scene old new piece down findings is same t =
    let next : Scene = record { heard = t.more ++ scene.heard; client_rest = scene.client_rest; store_rest = t.side.rest; stand = t.t } in
    record {
      next = next;
      gained = t.goes_down.gained;
      hears = record {
        more = t.more;
        of_store = t.goes_down.of_store;
        heard = refl;
        ran = ran_on line old.going.keys old.going.ivs.boot old.going.ivs.connection (t.more ++ scene.heard) t.t is.keys is.boot is.connection t.goes_down.ran;
        side = t.side;
        client_rest = refl;
        store_rest = refl;
      };
      at = record { keys = same.keys ∙ is.keys; boot = same.boot ∙ is.boot; connection = same.connection ∙ is.connection; at = t.at };
      gains = record { up = t.goes_down.up; down = t.goes_down.handed; findings = t.goes_down.findings_are ∙ ap (λ (fs : List Finding). scene.stand.findings ++ fs) (sym t.goes_down.findings_added) };
      is = t.goes_down.added;
    }

to_client : (old new : Sides) (down : List ℕ) (gained : List (List ℕ)) (r : Result (Unit {0}) Failed) → down ≡ bytes_of gained → Takes old.to_client new.to_client down r → HasCause old.client_faults new.client_faults r
    → ToClient old new gained ⊎ ToClientFront old new gained
to_client old new down gained r is h k =
    elim (wrote_either old.to_client new.to_client (bytes_of gained) old.client_faults new.client_faults r (subst (λ (b : List ℕ). Takes old.to_client new.to_client b r) is h) k) [ inl w ↦ inl w | inr w ↦ inr (record { rose = w.0; front = w.1 }) ]

pub down_goes_on : {B : Type 0} (Told : B → Finding → B → Type 0) (start board : B) (line : Line) (scene : Scene) (old new : Kept) (piece down : List ℕ) (findings : List Finding) (answer : Result (Unit {0}) Ending) (before after : Sides)
    (written : Result (Unit {0}) Failed) (x : Unit {0})
    → CallsStore old new piece down findings answer → answer ≡ Ok record {} → Takes before.to_client after.to_client down written → written ≡ Ok x → TellsAll Told start findings board
    → IsAt line scene old → scene.stand.ending ≡ None → GoesDown line scene piece before after Told start board new
down_goes_on Told start board line scene old new piece down findings answer before after written x c ok w is told at n =
    let none = ending_of_ok new.ending answer c.answered ok in
    let t = took_down line scene old new piece down findings at c.same (c.takes (λ m. both_ways new.ending endings.Memory m none) scene.heard scene.client_rest scene.store_rest scene.stand at.at n) in
    record {
      next = t.next;
      gained = t.gained;
      found = findings;
      hears = t.hears;
      goes_on = sym t.at.at.ending ∙ none;
      at = t.at;
      gains = t.gains;
      written = wrote_ok before.to_client after.to_client (bytes_of t.gained) written x is (subst (λ (b : List ℕ). Takes before.to_client after.to_client b written) t.is w);
      told = told;
    }

pub down_fails : {B : Type 0} (Told : B → Finding → B → Type 0) (start board : B) (line : Line) (scene : Scene) (old new : Kept) (piece down : List ℕ) (findings : List Finding) (answer : Result (Unit {0}) Ending) (before after : Sides)
    (written : Result (Unit {0}) Failed) (f : Failed)
    → CallsStore old new piece down findings answer → answer ≡ Ok record {} → Takes before.to_client after.to_client down written → HasCause before.client_faults after.client_faults written → written ≡ Err f
    → TellsAll Told start findings board → IsAt line scene old → scene.stand.ending ≡ None → StopsDown line scene piece before after Told start board endings.ClientFault
down_fails Told start board line scene old new piece down findings answer before after written f c ok w k is told at n =
    let none = ending_of_ok new.ending answer c.answered ok in
    let t = took_down line scene old new piece down findings at c.same (c.takes (λ m. both_ways new.ending endings.Memory m none) scene.heard scene.client_rest scene.store_rest scene.stand at.at n) in
    down_unwritten t.next t.gained findings t.hears (sym t.at.at.ending ∙ none) t.gains (record {
      rose = rose_by before.client_faults after.client_faults written f is k;
      front = wrote_front before.to_client after.to_client (bytes_of t.gained) written f is (subst (λ (b : List ℕ). Takes before.to_client after.to_client b written) t.is w);
    }) told

pub down_stops : {B : Type 0} (Told : B → Finding → B → Type 0) (start board : B) (line : Line) (scene : Scene) (old new : Kept) (piece down : List ℕ) (findings : List Finding) (answer : Result (Unit {0}) Ending) (e : Ending)
    (before after : Sides) (written : Result (Unit {0}) Failed)
    → CallsStore old new piece down findings answer → answer ≡ Err e → Takes before.to_client after.to_client down written → HasCause before.client_faults after.client_faults written
    → TellsAll Told start findings board → IsAt line scene old → scene.stand.ending ≡ None → StopsDown line scene piece before after Told start board e
down_stops {B} Told start board line scene old new piece down findings answer e before after written c err w k told at n =
    let so = ending_of_err new.ending answer e c.answered err in
    elim (is_memory e) [
      | yes m ↦
          let nothing = c.wants (so ∙ ap Some m) scene.heard scene.client_rest scene.store_rest scene.stand at.at n in
          subst (λ (e : Ending). StopsDown line scene piece before after Told start board e) (sym m)
          (down_in_part (wrote_none before.to_client after.to_client written (subst (λ (b : List ℕ). Takes before.to_client after.to_client b written) nothing.0 w))
          (subst (λ (fs : List Finding). TellsAll Told start fs board) nothing.1 told))
      | no m ↦
          let t = took_down line scene old new piece down findings at c.same (c.takes (λ short. m (some_is new.ending e endings.Memory so short)) scene.heard scene.client_rest scene.store_rest scene.stand at.at n) in
          down_ended e t.next t.gained findings t.hears (sym t.at.at.ending ∙ so) t.gains (to_client before after down t.gained written t.is w k) told
    ]
