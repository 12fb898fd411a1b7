-- Of all that happens to a world only `open` admits a connection, and nothing changes the key of its store's passwords.
use Rattle.std.proofs.Common.{◌≡◌, ℕ, ◌+◌, List, [], ◌∷◌, refl, ap, ◌∙◌, arith}
use Rattle.payload_seal.specs.declared.keys.EntryKeys.{EntryKeys}
use Rattle.store_side.specs.Past.{Past}
use Rattle.store_side.specs.Calls.{after_loss, after_pull}
use Rattle.world_core.specs.Moments.{Moment}
use Rattle.replay_cli.specs.Script.{opened, opened_by}
use Rattle.replay_cli.specs.Worlds.{AllHappen, Happens}
use Rattle.replay_cli.specs.declared.script.Event.{Event}
use Rattle.replay_cli.specs.declared.script.Event.TheVariants.{Open, Send, Up, Down, Cut, Time, Tick, Drain}
use Rattle.replay_cli.proofs.Keeping.{IsKept, happens_keeps}

admitted_kept : IsKept (λ (p : Past). p.admitted)
unfolding after_loss after_pull
admitted_kept = record {
  fed = λ c now piece old new answer h. h.admitted;
  lost = λ c entries acts past. refl;
  pulled = λ c count past. refl;
  ticked = λ now old new all h. h.admitted;
}

key_kept : IsKept (λ (p : Past). p.key)
unfolding after_loss after_pull
key_kept = record {
  fed = λ c now piece old new answer h. h.later.key;
  lost = λ c entries acts past. refl;
  pulled = λ c count past. refl;
  ticked = λ now old new all h. h.later.key;
}

same_count : (m n : ℕ) → n ≡ m → n ≡ m + 0
same_count m n e = omega (arith, e)

keeps_count : (k : EntryKeys) (event : Event) (m n : Moment) → opened_by event ≡ 0 → Happens k event m n → n.past.admitted ≡ m.past.admitted + 0
keeps_count k event m n none h = same_count _ _ (happens_keeps (λ (p : Past). p.admitted) admitted_kept k event m n none h)

happens_admits : (k : EntryKeys) (event : Event) (m n : Moment) → Happens k event m n → n.past.admitted ≡ m.past.admitted + opened_by event
unfolding Happens
happens_admits k Open m n h = ap (λ (x : Moment). x.past.admitted) h
happens_admits k (Send c bytes) m n h = keeps_count k (Send c bytes) m n refl h
happens_admits k (Up c first second) m n h = keeps_count k (Up c first second) m n refl h
happens_admits k (Down c limit) m n h = keeps_count k (Down c limit) m n refl h
happens_admits k (Cut c) m n h = keeps_count k (Cut c) m n refl h
happens_admits k (Time now) m n h = keeps_count k (Time now) m n refl h
happens_admits k Tick m n h = keeps_count k Tick m n refl h
happens_admits k Drain m n h = keeps_count k Drain m n refl h

pub all_admit : (k : EntryKeys) (events : List Event) (m n : Moment) → AllHappen k events m n → n.past.admitted ≡ m.past.admitted + opened events
unfolding AllHappen
all_admit k [] m n h = same_count _ _ (ap (λ (x : Moment). x.past.admitted) h)
all_admit k (event ∷ events) m n h = let one = happens_admits k event m h.0 h.1 in let rest = all_admit k events h.0 n h.2 in omega (arith, one, rest)

keeps_key : (k : EntryKeys) (event : Event) (m n : Moment) → opened_by event ≡ 0 → Happens k event m n → n.past.key ≡ m.past.key
keeps_key k event m n none h = happens_keeps (λ (p : Past). p.key) key_kept k event m n none h

happens_key : (k : EntryKeys) (event : Event) (m n : Moment) → Happens k event m n → n.past.key ≡ m.past.key
unfolding Happens
happens_key k Open m n h = ap (λ (x : Moment). x.past.key) h
happens_key k (Send c bytes) m n h = keeps_key k (Send c bytes) m n refl h
happens_key k (Up c first second) m n h = keeps_key k (Up c first second) m n refl h
happens_key k (Down c limit) m n h = keeps_key k (Down c limit) m n refl h
happens_key k (Cut c) m n h = keeps_key k (Cut c) m n refl h
happens_key k (Time now) m n h = keeps_key k (Time now) m n refl h
happens_key k Tick m n h = keeps_key k Tick m n refl h
happens_key k Drain m n h = keeps_key k Drain m n refl h

pub all_key : (k : EntryKeys) (events : List Event) (m n : Moment) → AllHappen k events m n → n.past.key ≡ m.past.key
unfolding AllHappen
all_key k [] m n h = ap (λ (x : Moment). x.past.key) h
all_key k (event ∷ events) m n h = all_key k events h.0 n h.2 ∙ happens_key k event m h.0 h.1
