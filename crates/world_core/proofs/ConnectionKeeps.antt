-- What is kept of a connection, after each call of it.
use Rattle.std.proofs.Common.{◌≡◌, ℕ, ◌-◌, List, [], ◌∷◌, ◌++◌, length, append_assoc, drop, Option, Some, None, is_some, Bool, true, false, Result, Ok, Err, refl, sym, ap, subst, ◌∙◌}
use Rattle.std.specs.Prelude.{OnOk}
use Rattle.payload_seal.specs.declared.keys.EntryKeys.{EntryKeys}
use Rattle.reply_rewrite.specs.declared.finding.Finding.{Finding}
use Rattle.entry_session.specs.Heard.{Heard, given, client_frames, store_frames, bad_of_client, bad_of_store}
use Rattle.entry_session.specs.Stands.{Stand, fresh, ends}
use Rattle.entry_session.specs.Runs.{Ran}
use Rattle.entry_session.specs.Sides.{EndsAtClient, EndsAtStore, bytes_of}
use Rattle.entry_session.specs.Kept.{At, IsOfOne, Kept}
use Rattle.entry_session.specs.Calls.{TakesFromClient, TakesFromStore, answer_of}
use Rattle.entry_session.specs.declared.ending.Ending.{Ending}
use Rattle.entry_session.specs.declared.ending.Ending.TheVariants as endings
use Rattle.entry_session.proofs.Taking.{ran_along}
use Rattle.entry_session.proofs.Turns.{some_none}
use Rattle.zk_messages.specs.Sent.{client_limit}
use Rattle.entry_session.specs.Runs.{store_limit}
use Rattle.world_core.specs.declared.amount.Amount.{Amount}
use Rattle.world_core.specs.declared.connection.Connection.{Connection}
use Rattle.world_core.specs.Moments.{Link, fresh_link}
use Rattle.world_core.specs.Standing.{Keeps}
use Rattle.world_core.specs.Steps.{Comes, ComesIf, Hears, ended_by, first_of, left_of}
use Rattle.world_core.proofs.Amounts.{behind_first, both_parts, came_then}
use Rattle.world_core.proofs.ConnectionSides.{client_frames_more, store_frames_more, store_kept, client_kept, bad_client_more, bad_store_more, ends_client_more, ends_store_more, bytes_more, joins, side_more}

-- ---- before anything came

pub keeps_fresh : (k : EntryKeys) (boot c : ℕ) (x : Connection) → x.session.going.keys ≡ k → x.session.going.ivs.boot ≡ boot → x.session.going.ivs.connection ≡ c
    → At x.session [] [] [] fresh → x.sent.items ≡ [] → x.came ≡ 0 → x.handed.items ≡ [] → x.fed ≡ 0 → x.received.items ≡ [] → x.cut ≡ false
    → Keeps k boot c [] x fresh_link
unfolding client_frames store_frames
keeps_fresh k boot c x keys boot_is number at sent came handed fed received cut = record {
  keys = keys;
  boot_is = boot_is;
  number = number;
  client_rest = [];
  store_rest = [];
  at = at;
  client_cut = λ on. refl;
  store_cut = λ on. refl;
  sent = sent;
  came = came;
  handed = handed;
  split = refl;
  fed = fed;
  received = received;
  cut = cut;
}

-- ---- the client

came_not : (o : Option Ending) (k : EntryKeys) (boot c : ℕ) (amount : Amount) (l : Link) → is_some o ≡ true → ComesIf o k boot c amount l l
unfolding ComesIf
came_not (Some e) k boot c amount l h = refl
came_not None k boot c amount l h = absurd cc

pub hears_nothing : (k : EntryKeys) (boot c : ℕ) (amount : Amount) (pulled : List ℕ) (x : Connection) (l : Link) (o : Option Ending) → o ≡ x.session.ending → is_some o ≡ true
    → Keeps k boot c pulled x l → (new : Link) × ComesIf l.stand.ending k boot c amount l new × Keeps k boot c pulled x new
hears_nothing k boot c amount pulled x l o is over h =
    (l, came_not l.stand.ending k boot c amount l (ap is_some (sym h.at.ending ∙ sym is) ∙ over), h)

-- its session answered, and memory was not wanting
pub not_wanting : (answer : Result (Unit {0}) Ending) (o : Option Ending) → answer ≡ answer_of o → (answer ≡ Err endings.Memory → ⊥) → o ≡ Some endings.Memory → ⊥
unfolding answer_of
not_wanting answer o is never short = never (is ∙ ap answer_of short)

comes_if : (o : Option Ending) (k : EntryKeys) (boot c : ℕ) (amount : Amount) (old new : Link) → o ≡ None → Comes k boot c amount old new → ComesIf o k boot c amount old new
unfolding ComesIf
comes_if None k boot c amount old new on h = h
comes_if (Some e) k boot c amount old new on h = absurd cc

-- what was gained is behind what was handed over
gained_bytes : (old new : List ℕ) (from gained to : List (List ℕ)) → old ≡ bytes_of from → new ≡ old ++ bytes_of gained → to ≡ from ++ gained → new ≡ bytes_of to
gained_bytes old new from gained to is added handed =
    added ∙ ap (λ (l : List ℕ). l ++ bytes_of gained) is ∙ sym (bytes_more to from gained handed)

-- what no call of the session changes
pub record SameBeside (old new : Connection) : Type 0 where
  pub sent : new.sent.items ≡ old.sent.items
  pub fed : new.fed ≡ old.fed
  pub cut : new.cut ≡ old.cut

pub hears_client : (k : EntryKeys) (boot c : ℕ) (amount : Amount) (pulled : List ℕ) (old new : Connection) (l : Link) (all behind piece left : List ℕ) (size : ℕ) (o : Option Ending)
    → o ≡ old.session.ending → is_some o ≡ false → all ≡ old.sent.items → behind ≡ drop old.came all → piece ≡ first_of amount behind → left ≡ left_of amount behind
    → ((hs : List Heard) (client_rest store_rest : List ℕ) (s : Stand) → At old.session hs client_rest store_rest s → s.ending ≡ None
    → TakesFromClient old.session new.session hs client_rest store_rest s piece old.handed.items new.handed.items)
    → IsOfOne old.session.going new.session.going → SameBeside old new → size ≡ length old.sent.items → new.came ≡ size - length left → new.received.items ≡ old.received.items
    → Keeps k boot c pulled old l → (n : Link) × ComesIf l.stand.ending k boot c amount l n × Keeps k boot c pulled new n
hears_client k boot c amount pulled old new l all behind piece left size (Some e) is over all_is behind_is piece_is left_is takes same beside size_is came received h = absurd cc
hears_client k boot c amount pulled old new l all behind piece left size None is over all_is behind_is piece_is left_is takes same beside size_is came received h =
    let on : l.stand.ending ≡ None = sym h.at.ending ∙ sym is in
    let way : behind ≡ l.under_way = behind_first l.came l.under_way behind old.came all (all_is ∙ h.sent) h.came behind_is in
    let both : piece ++ left ≡ l.under_way = ap (λ (p : List ℕ). p ++ left) piece_is ∙ ap (λ (p : List ℕ). first_of amount behind ++ p) left_is ∙ both_parts amount behind ∙ way in
    let t = takes l.heard h.client_rest h.store_rest l.stand h.at on in
    let ran : Ran k boot c (t.more ++ l.heard) t.t = ran_along old.session.going.keys k old.session.going.ivs.boot boot old.session.going.ivs.connection c (t.more ++ l.heard) t.t (sym h.keys) (sym h.boot_is) (sym h.number) t.goes_up.ran in
    let before : Ran k boot c l.heard l.stand = ran_along old.session.going.keys k old.session.going.ivs.boot boot old.session.going.ivs.connection c l.heard l.stand (sym h.keys) (sym h.boot_is) (sym h.number) h.at.ran in
    let frames = client_frames_more t.more l.heard in
    let n : Link = record { came = l.came ++ piece; under_way = left; heard = t.more ++ l.heard; stand = t.t; fed = l.fed; unfed = l.unfed ++ bytes_of t.goes_up.gained; cut = l.cut } in (
      n,
      comes_if l.stand.ending k boot c amount l n on (record {
        came = ap (λ (p : List ℕ). l.came ++ p) (piece_is ∙ ap (first_of amount) way);
        under_way = left_is ∙ ap (left_of amount) way;
        more = t.more;
        of_client = t.goes_up.of_client;
        heard = refl;
        ran = ran;
        side = side_more client_limit (client_frames (t.more ++ l.heard)) (client_frames l.heard) (client_frames t.more) (bad_of_client (t.more ++ l.heard)) (bad_of_client t.more)
            (EndsAtClient t.t.ending t.more) (EndsAtClient t.t.ending (t.more ++ l.heard)) l.came h.client_rest piece (h.client_cut on) frames (bad_client_more k boot c t.more l.heard l.stand before on)
            (ends_client_more t.t.ending t.more l.heard) t.side;
        gained = t.goes_up.gained;
        handed = t.goes_up.handed;
        unfed = refl;
        fed = refl;
        down = t.goes_up.down;
        cut = refl;
      }),
      record {
        keys = same.keys ∙ h.keys;
        boot_is = same.boot ∙ h.boot_is;
        number = same.connection ∙ h.number;
        client_rest = t.side.rest;
        store_rest = h.store_rest;
        at = t.at;
        client_cut = λ goes. joins l.came h.client_rest piece t.side.rest (client_frames (t.more ++ l.heard)) (client_frames l.heard) (client_frames t.more) (h.client_cut on) frames t.side.whole;
        store_cut = λ goes. h.store_cut on ∙ sym (ap (λ (f : List (List ℕ)). bytes_of f ++ h.store_rest) (store_kept t.more l.heard t.goes_up.of_client));
        sent = beside.sent ∙ h.sent ∙ ap (λ (p : List ℕ). l.came ++ p) (sym both) ∙ sym (append_assoc l.came piece left);
        came = came ∙ ap (λ (m : ℕ). m - length left) (size_is ∙ ap length h.sent) ∙ came_then l.came piece left l.under_way both;
        handed = gained_bytes old.handed.items new.handed.items l.stand.up t.goes_up.gained t.t.up h.handed t.goes_up.added t.goes_up.handed;
        split = bytes_more t.t.up l.stand.up t.goes_up.gained t.goes_up.handed ∙ ap (λ (b : List ℕ). b ++ bytes_of t.goes_up.gained) h.split ∙ append_assoc l.fed l.unfed (bytes_of t.goes_up.gained);
        fed = beside.fed ∙ h.fed;
        received = received ∙ h.received ∙ ap bytes_of (sym t.goes_up.down);
        cut = beside.cut ∙ h.cut;
      },
    )

-- ---- the store

pub hears_store : {T X : Type 0} (r : Result T X) (answer : Result (Unit {0}) Ending) (old new : Connection) (piece : List ℕ) → answer ≡ answer_of new.session.ending
    → ((new.session.ending ≡ Some endings.Memory → ⊥) → (hs : List Heard) (client_rest store_rest : List ℕ) (s : Stand) → At old.session hs client_rest store_rest s → s.ending ≡ None
    → TakesFromStore old.session new.session hs client_rest store_rest s piece old.received.items new.received.items old.findings.items new.findings.items)
    → IsOfOne old.session.going new.session.going → SameBeside old new → new.came ≡ old.came → new.handed.items ≡ old.handed.items → OnOk r (answer ≡ Err endings.Memory → ⊥)
    → OnOk r ((k : EntryKeys) (boot c : ℕ) (pulled : List ℕ) (l : Link) → Keeps k boot c pulled old l → l.stand.ending ≡ None
    → (n : Link) × Hears k boot c (pulled ++ piece) l n × Keeps k boot c (pulled ++ piece) new n)
hears_store (Err e) answer old new piece is takes same beside came handed never = tt
hears_store (Ok x) answer old new piece is takes same beside came handed never = λ k boot c pulled l h on.
    let t = takes (not_wanting answer new.session.ending is never) l.heard h.client_rest h.store_rest l.stand h.at on in
    let ran : Ran k boot c (t.more ++ l.heard) t.t = ran_along old.session.going.keys k old.session.going.ivs.boot boot old.session.going.ivs.connection c (t.more ++ l.heard) t.t (sym h.keys) (sym h.boot_is) (sym h.number) t.goes_down.ran in
    let before : Ran k boot c l.heard l.stand = ran_along old.session.going.keys k old.session.going.ivs.boot boot old.session.going.ivs.connection c l.heard l.stand (sym h.keys) (sym h.boot_is) (sym h.number) h.at.ran in
    let frames = store_frames_more t.more l.heard in
    let n : Link = record l { heard = t.more ++ l.heard; stand = t.t } in (
      n,
      record {
        more = t.more;
        of_store = t.goes_down.of_store;
        heard = refl;
        ran = ran;
        side = side_more store_limit (store_frames (t.more ++ l.heard)) (store_frames l.heard) (store_frames t.more) (bad_of_store (t.more ++ l.heard)) (bad_of_store t.more)
            (EndsAtStore t.t.ending t.more) (EndsAtStore t.t.ending (t.more ++ l.heard)) pulled h.store_rest piece (h.store_cut on) frames (bad_store_more k boot c t.more l.heard l.stand before on)
            (ends_store_more t.t.ending t.more l.heard) t.side;
        gained = t.goes_down.gained;
        handed = t.goes_down.handed;
        up = t.goes_down.up;
        came = refl;
        under_way = refl;
        fed = refl;
        unfed = refl;
        cut = refl;
      },
      record {
        keys = same.keys ∙ h.keys;
        boot_is = same.boot ∙ h.boot_is;
        number = same.connection ∙ h.number;
        client_rest = h.client_rest;
        store_rest = t.side.rest;
        at = t.at;
        client_cut = λ goes. h.client_cut on ∙ sym (ap (λ (f : List (List ℕ)). bytes_of f ++ h.client_rest) (client_kept t.more l.heard t.goes_down.of_store));
        store_cut = λ goes. joins pulled h.store_rest piece t.side.rest (store_frames (t.more ++ l.heard)) (store_frames l.heard) (store_frames t.more) (h.store_cut on) frames t.side.whole;
        sent = beside.sent ∙ h.sent;
        came = came ∙ h.came;
        handed = handed ∙ h.handed ∙ ap bytes_of (sym t.goes_down.up);
        split = ap bytes_of t.goes_down.up ∙ h.split;
        fed = beside.fed ∙ h.fed;
        received = gained_bytes old.received.items new.received.items l.stand.down t.goes_down.gained t.t.down h.received t.goes_down.added t.goes_down.handed;
        cut = beside.cut ∙ h.cut;
      },
    )

-- ---- an end

pub ends_or_stays : (k : EntryKeys) (boot c : ℕ) (pulled : List ℕ) (old new : Connection) (e : Ending) (l : Link) (o : Option Ending) → o ≡ l.stand.ending
    → ((hs : List Heard) (client_rest store_rest : List ℕ) (s : Stand) → At old.session hs client_rest store_rest s → s.ending ≡ None → At new.session (given e ∷ hs) client_rest store_rest (ends s e))
    → ((f : Ending) → old.session.ending ≡ Some f → new.session ≡ old.session)
    → IsOfOne old.session.going new.session.going → SameBeside old new → new.came ≡ old.came → new.handed.items ≡ old.handed.items → new.received.items ≡ old.received.items
    → Keeps k boot c pulled old l → Keeps k boot c pulled new (ended_by o e l)
unfolding ended_by client_frames store_frames
ends_or_stays k boot c pulled old new e l (Some f) is ending stays same beside came handed received h = record {
  keys = same.keys ∙ h.keys;
  boot_is = same.boot ∙ h.boot_is;
  number = same.connection ∙ h.number;
  client_rest = h.client_rest;
  store_rest = h.store_rest;
  at = subst (λ (s : Kept). At s l.heard h.client_rest h.store_rest l.stand) (sym (stays f (h.at.ending ∙ sym is))) h.at;
  client_cut = h.client_cut;
  store_cut = h.store_cut;
  sent = beside.sent ∙ h.sent;
  came = came ∙ h.came;
  handed = handed ∙ h.handed;
  split = h.split;
  fed = beside.fed ∙ h.fed;
  received = received ∙ h.received;
  cut = beside.cut ∙ h.cut;
}
ends_or_stays k boot c pulled old new e l None is ending stays same beside came handed received h = record {
  keys = same.keys ∙ h.keys;
  boot_is = same.boot ∙ h.boot_is;
  number = same.connection ∙ h.number;
  client_rest = h.client_rest;
  store_rest = h.store_rest;
  at = ending l.heard h.client_rest h.store_rest l.stand h.at (sym is);
  client_cut = λ goes. absurd (some_none e goes);
  store_cut = λ goes. absurd (some_none e goes);
  sent = beside.sent ∙ h.sent;
  came = came ∙ h.came;
  handed = handed ∙ h.handed;
  split = h.split;
  fed = beside.fed ∙ h.fed;
  received = received ∙ h.received;
  cut = beside.cut ∙ h.cut;
}
