-- One more event of a hostile script.
use Rattle.std.proofs.Common.{◌≡◌, ℕ, List, [], ◌∷◌, ◌++◌, refl, sym, ap, subst, ◌∙◌}
use Rattle.std.specs.Prelude.{Option, Some, None, Result, Ok, Err, IfOk}
use Rattle.std.proofs.lemmas.Grind.{flat_map-append}
use Rattle.jute_core.specs.Frames.{frame}
use Rattle.payload_seal.specs.declared.keys.EntryKeys.{EntryKeys}
use Rattle.reply_rewrite.specs.declared.finding.Finding.{Finding}
use Rattle.entry_session.specs.Heard.{Heard, given}
use Rattle.entry_session.specs.Stands.{Stand, ends}
use Rattle.entry_session.specs.Runs.{Ran}
use Rattle.entry_session.specs.Sides.{bytes_of}
use Rattle.entry_session.specs.Kept.{Kept, IsOfOne, At}
use Rattle.entry_session.specs.Calls.{TakesFromClient, TakesFromStore, answer_of}
use Rattle.entry_session.specs.declared.ending.Ending.{Ending}
use Rattle.entry_session.specs.declared.ending.Ending.TheVariants as endings
use Rattle.replay_cli.specs.declared.hostile.Play.{Play}
use Rattle.replay_cli.specs.declared.hostile_script.HostileEvent.{HostileEvent}
use Rattle.replay_cli.specs.declared.hostile_script.HostileEvent.TheVariants.{Client, Store, ClientEnd, StoreEnd}
use Rattle.replay_cli.specs.Hostile.{Scene, opening, Leads, LeadsIf, Plays, ended, outcome_text, PrintsHostile}
use Rattle.replay_cli.specs.Playing.{IsAt, Goes}

pub plays_more : (keys : EntryKeys) (old mid new : Scene) (events : List HostileEvent) (event : HostileEvent) → Plays keys old events mid → LeadsIf keys mid.stand.ending mid event new → Plays keys old (events ++ event ∷ []) new
plays_more keys old mid new [] event p l = (new, subst (λ (s : Scene). LeadsIf keys s.stand.ending s event new) p l, refl)
plays_more keys old mid new (e ∷ es) event p l = (p.0, p.1, plays_more keys p.0 mid new es event p.2 l)

-- the session of a play is that of connection 1 in boot 0
ran_here : (k keys : EntryKeys) (b c : ℕ) (hs : List Heard) (s : Stand) → k ≡ keys → b ≡ 0 → c ≡ 1 → Ran k b c hs s → Ran keys 0 1 hs s
ran_here k keys b c hs s p q r ran =
    subst (λ (n : ℕ). Ran keys 0 n hs s) r (subst (λ (n : ℕ). Ran keys n c hs s) q (subst (λ (ks : EntryKeys). Ran ks b c hs s) p ran))

-- what was gained is added to what was handed over
gained_bytes : (old new : List ℕ) (from gained to : List (List ℕ)) → old ≡ bytes_of from → new ≡ old ++ bytes_of gained → to ≡ from ++ gained → new ≡ bytes_of to
gained_bytes old new from gained to is added handed =
    added ∙ ap (λ (l : List ℕ). l ++ bytes_of gained) is ∙ sym (ap bytes_of handed ∙ flat_map-append frame from gained)

-- the session that was there, with what it gave
same_play : (keys : EntryKeys) (scene : Scene) (old new : Play) → IsAt keys scene old → new.session ≡ old.session → new.up.items ≡ old.up.items → new.down.items ≡ old.down.items → new.findings.items ≡ old.findings.items
    → IsAt keys scene new
same_play keys scene old new is session up down findings = record {
  keys_are = ap (λ (k : Kept). k.going.keys) session ∙ is.keys_are;
  boot = ap (λ (k : Kept). k.going.ivs.boot) session ∙ is.boot;
  connection = ap (λ (k : Kept). k.going.ivs.connection) session ∙ is.connection;
  at = subst (λ (k : Kept). At k scene.heard scene.client_rest scene.store_rest scene.stand) (sym session) is.at;
  up = up ∙ is.up;
  down = down ∙ is.down;
  findings = findings ∙ is.findings;
}

pub client_goes : (keys : EntryKeys) (scene : Scene) (old new : Play) (piece : List ℕ) (o : Option Ending) → scene.stand.ending ≡ o
    → ((hs : List Heard) (client_rest store_rest : List ℕ) (s : Stand) → At old.session hs client_rest store_rest s → s.ending ≡ None
    → TakesFromClient old.session new.session hs client_rest store_rest s piece old.up.items new.up.items)
    → ((e : Ending) → old.session.ending ≡ Some e → (new.session ≡ old.session) × (new.up.items ≡ old.up.items))
    → IsOfOne old.session.going new.session.going → new.down.items ≡ old.down.items → new.findings.items ≡ old.findings.items → IsAt keys scene old
    → (next : Scene) × LeadsIf keys o scene (Client piece) next × IsAt keys next new
client_goes keys scene old new piece (Some e) at_end takes over same down findings is =
    let stays = over e (is.at.ending ∙ at_end) in
    (scene, refl, same_play keys scene old new is stays.0 stays.1 down findings)
client_goes keys scene old new piece None goes_on takes over same down findings is =
    let t = takes scene.heard scene.client_rest scene.store_rest scene.stand is.at goes_on in
    let next : Scene = record { heard = t.more ++ scene.heard; client_rest = t.side.rest; store_rest = scene.store_rest; stand = t.t } in (
      next,
      record {
        more = t.more;
        of_client = t.goes_up.of_client;
        heard = refl;
        ran = ran_here old.session.going.keys keys old.session.going.ivs.boot old.session.going.ivs.connection (t.more ++ scene.heard) t.t is.keys_are is.boot is.connection t.goes_up.ran;
        side = t.side;
        client_rest = refl;
        store_rest = refl;
      },
      record {
        keys_are = same.keys ∙ is.keys_are;
        boot = same.boot ∙ is.boot;
        connection = same.connection ∙ is.connection;
        at = t.at;
        up = gained_bytes old.up.items new.up.items scene.stand.up t.goes_up.gained t.t.up is.up t.goes_up.added t.goes_up.handed;
        down = down ∙ is.down ∙ ap bytes_of (sym t.goes_up.down);
        findings = findings ∙ is.findings ∙ sym t.goes_up.findings;
      },
    )

pub store_goes : (keys : EntryKeys) (scene : Scene) (old new : Play) (piece : List ℕ) (o : Option Ending) → scene.stand.ending ≡ o
    → ((hs : List Heard) (client_rest store_rest : List ℕ) (s : Stand) → At old.session hs client_rest store_rest s → s.ending ≡ None
    → TakesFromStore old.session new.session hs client_rest store_rest s piece old.down.items new.down.items old.findings.items new.findings.items)
    → ((e : Ending) → old.session.ending ≡ Some e → (new.session ≡ old.session) × (new.down.items ≡ old.down.items) × (new.findings.items ≡ old.findings.items))
    → IsOfOne old.session.going new.session.going → new.up.items ≡ old.up.items → IsAt keys scene old
    → (next : Scene) × LeadsIf keys o scene (Store piece) next × IsAt keys next new
store_goes keys scene old new piece (Some e) at_end takes over same up is =
    let stays = over e (is.at.ending ∙ at_end) in
    (scene, refl, same_play keys scene old new is stays.0 up stays.1 stays.2)
store_goes keys scene old new piece None goes_on takes over same up is =
    let t = takes scene.heard scene.client_rest scene.store_rest scene.stand is.at goes_on in
    let next : Scene = record { heard = t.more ++ scene.heard; client_rest = scene.client_rest; store_rest = t.side.rest; stand = t.t } in (
      next,
      record {
        more = t.more;
        of_store = t.goes_down.of_store;
        heard = refl;
        ran = ran_here old.session.going.keys keys old.session.going.ivs.boot old.session.going.ivs.connection (t.more ++ scene.heard) t.t is.keys_are is.boot is.connection t.goes_down.ran;
        side = t.side;
        client_rest = refl;
        store_rest = refl;
      },
      record {
        keys_are = same.keys ∙ is.keys_are;
        boot = same.boot ∙ is.boot;
        connection = same.connection ∙ is.connection;
        at = t.at;
        up = up ∙ is.up ∙ ap bytes_of (sym t.goes_down.up);
        down = gained_bytes old.down.items new.down.items scene.stand.down t.goes_down.gained t.t.down is.down t.goes_down.added t.goes_down.handed;
        findings = t.goes_down.findings_added ∙ ap (λ (l : List Finding). l ++ t.goes_down.found) is.findings ∙ sym t.goes_down.findings_are;
      },
    )

-- an event by which the script ends the session
pub end_goes : (keys : EntryKeys) (scene : Scene) (old new : Play) (by : Ending) (event : HostileEvent) (o : Option Ending) → scene.stand.ending ≡ o → Leads keys scene event (ended scene by)
    → ((hs : List Heard) (client_rest store_rest : List ℕ) (s : Stand) → At old.session hs client_rest store_rest s → s.ending ≡ None → At new.session (given by ∷ hs) client_rest store_rest (ends s by))
    → ((e : Ending) → old.session.ending ≡ Some e → new.session ≡ old.session)
    → IsOfOne old.session.going new.session.going → new.up.items ≡ old.up.items → new.down.items ≡ old.down.items → new.findings.items ≡ old.findings.items → IsAt keys scene old
    → (next : Scene) × LeadsIf keys o scene event next × IsAt keys next new
end_goes keys scene old new by event (Some e) at_end leads given_end over same up down findings is = (scene, refl, same_play keys scene old new is (over e (is.at.ending ∙ at_end)) up down findings)
end_goes keys scene old new by event None goes_on leads given_end over same up down findings is = (
  ended scene by,
  leads,
  record {
    keys_are = same.keys ∙ is.keys_are;
    boot = same.boot ∙ is.boot;
    connection = same.connection ∙ is.connection;
    at = given_end scene.heard scene.client_rest scene.store_rest scene.stand is.at goes_on;
    up = up ∙ is.up;
    down = down ∙ is.down;
    findings = findings ∙ is.findings;
  },
)

-- the session was ended for this reason, unless it had ended
pub record Ended (old new : Play) (by : Ending) : Type 0 where
  pub leads : (hs : List Heard) (client_rest store_rest : List ℕ) (s : Stand) → At old.session hs client_rest store_rest s → s.ending ≡ None → At new.session (given by ∷ hs) client_rest store_rest (ends s by)
  pub over : (e : Ending) → old.session.ending ≡ Some e → new.session ≡ old.session
  pub same : IsOfOne old.session.going new.session.going
  pub up : new.up.items ≡ old.up.items
  pub down : new.down.items ≡ old.down.items
  pub findings : new.findings.items ≡ old.findings.items

-- A call of the session, unless memory was wanting

pub client_heard : {T X : Type 0} (r : Result T X) (answer : Result (Unit {0}) Ending) (old new : Play) (piece : List ℕ) → answer ≡ answer_of new.session.ending
    → ((new.session.ending ≡ Some endings.Memory → ⊥) → (hs : List Heard) (client_rest store_rest : List ℕ) (s : Stand) → At old.session hs client_rest store_rest s → s.ending ≡ None
    → TakesFromClient old.session new.session hs client_rest store_rest s piece old.up.items new.up.items)
    → ((e : Ending) → old.session.ending ≡ Some e → (new.session ≡ old.session) × (new.up.items ≡ old.up.items))
    → IsOfOne old.session.going new.session.going → new.down.items ≡ old.down.items → new.findings.items ≡ old.findings.items
    → IfOk r (λ x. answer ≡ Err endings.Memory → ⊥) → IfOk r (λ x. Goes old (Client piece) new)
unfolding answer_of
client_heard (Err e) answer old new piece is takes over same down findings never = tt
client_heard (Ok x) answer old new piece is takes over same down findings never = λ keys scene at.
    client_goes keys scene old new piece scene.stand.ending refl (takes (λ short. never (is ∙ ap answer_of short))) over same down findings at

pub store_heard : {T X : Type 0} (r : Result T X) (answer : Result (Unit {0}) Ending) (old new : Play) (piece : List ℕ) → answer ≡ answer_of new.session.ending
    → ((new.session.ending ≡ Some endings.Memory → ⊥) → (hs : List Heard) (client_rest store_rest : List ℕ) (s : Stand) → At old.session hs client_rest store_rest s → s.ending ≡ None
    → TakesFromStore old.session new.session hs client_rest store_rest s piece old.down.items new.down.items old.findings.items new.findings.items)
    → ((e : Ending) → old.session.ending ≡ Some e → (new.session ≡ old.session) × (new.down.items ≡ old.down.items) × (new.findings.items ≡ old.findings.items))
    → IsOfOne old.session.going new.session.going → new.up.items ≡ old.up.items
    → IfOk r (λ x. answer ≡ Err endings.Memory → ⊥) → IfOk r (λ x. Goes old (Store piece) new)
unfolding answer_of
store_heard (Err e) answer old new piece is takes over same up never = tt
store_heard (Ok x) answer old new piece is takes over same up never = λ keys scene at.
    store_goes keys scene old new piece scene.stand.ending refl (takes (λ short. never (is ∙ ap answer_of short))) over same up at

-- by the event that was heard
pub heard_as : {T X : Type 0} (r : Result T X) (old new : Play) (event other : HostileEvent) → other ≡ event → IfOk r (λ x. Goes old event new) → IfOk r (λ x. Goes old other new)
heard_as r old new event other e h = subst (λ (v : HostileEvent). IfOk r (λ x. Goes old v new)) (sym e) h

pub client_end_heard : (old new : Play) → Ended old new endings.ClientEnd → Goes old ClientEnd new
client_end_heard old new h = λ keys scene at. end_goes keys scene old new endings.ClientEnd ClientEnd scene.stand.ending refl refl h.leads h.over h.same h.up h.down h.findings at

pub store_end_heard : (old new : Play) → Ended old new endings.StoreEnd → Goes old StoreEnd new
store_end_heard old new h = λ keys scene at. end_goes keys scene old new endings.StoreEnd StoreEnd scene.stand.ending refl refl h.leads h.over h.same h.up h.down h.findings at

-- What is printed

outcome_same : (e f : Option Ending) (received r handed h : List ℕ) (findings g : List Finding) → e ≡ f → received ≡ r → handed ≡ h → findings ≡ g → outcome_text e received handed findings ≡ outcome_text f r h g
outcome_same e f received r handed h findings g p q s t =
    subst (λ (x : Option Ending). outcome_text e received handed findings ≡ outcome_text x r h g) p
    (subst (λ (x : List ℕ). outcome_text e received handed findings ≡ outcome_text e x h g) q
    (subst (λ (x : List ℕ). outcome_text e received handed findings ≡ outcome_text e received x g) s
    (ap (λ (x : List Finding). outcome_text e received handed x) t)))

pub printed_is : (keys : EntryKeys) (events : List HostileEvent) (scene : Scene) (play : Play) (text : List ℕ) (ending : Option Ending) → Plays keys opening events scene → IsAt keys scene play → ending ≡ play.session.ending
    → text ≡ outcome_text ending play.down.items play.up.items play.findings.items → PrintsHostile keys events text
printed_is keys events scene play text ending plays at same is = record {
  scene = scene;
  plays = plays;
  text_is = is ∙ outcome_same ending scene.stand.ending play.down.items (bytes_of scene.stand.down) play.up.items (bytes_of scene.stand.up) play.findings.items scene.stand.findings (same ∙ at.at.ending) at.down at.up at.findings;
}
