-- Causes of a stop.
use Rattle.std.proofs.Common.{◌≡◌, ◌∙◌, ◌++◌, inl, inr, ℕ, List, length, Option, None, Some, Result, Ok, Err, sym, ap, subst, arith}
use Rattle.std.proofs.Math.Seq.{take-length}
use Rattle.jute_core.specs.Faults.{Takes, HasCause}
use Rattle.std.specs.Prelude.{IfErr}
use Rattle.replay_cli.specs.declared.stops.Stop.{Stop}
use Rattle.replay_cli.specs.declared.stops.Stop.TheVariants.{BadWords, Unread, TooLong, KeyMalformed, ScriptMalformed, Memory, HostFault, NumbersUsed}
use Rattle.replay_cli.specs.Told.{Told}
use Rattle.replay_cli.specs.Sinks.{ReportsFault, fault_line}
use Rattle.replay_cli.specs.Words.{Words, word, IsReplay, IsHostile, IsShow, IsSomeStress, IsKeyed, ReadsFiles, Fits}
use Rattle.replay_cli.specs.Script.{IsFirstBadLine}
use Rattle.replay_cli.specs.HostileScript.{IsFirstBadHostileLine}
use Rattle.replay_cli.specs.Run.{MayHold, MayBe, Prints, IsKey, IsBadKey, IsBadScript, IsLongOf, HasLong, HasBadKey, HasBadLine, StopsAtFile}
use Rattle.replay_cli.specs.Stops.{Because, BecauseOfScript, IsUnreadOf, IsUnread}

-- Where a key was loaded, the causes of its script

script_stop : (stop : Stop) (unread long : List ℕ → Type 0) (bad : ℕ → Type 0) (IsFirstBad : List ℕ → ℕ → Type 0) (key script : Told) (bytes : List ℕ) → MayBe key IsKey → MayHold script bytes
    → BecauseOfScript stop (IsFirstBad bytes) → Because stop ⊥ unread long bad (IsBadScript IsFirstBad key script)
script_stop BadWords unread long bad f key script bytes k held h = h
script_stop (Unread name) unread long bad f key script bytes k held h = absurd h
script_stop (TooLong name) unread long bad f key script bytes k held h = absurd h
script_stop (KeyMalformed size) unread long bad f key script bytes k held h = absurd h
script_stop (ScriptMalformed number) unread long bad f key script bytes k held h = (k, (bytes, held, h))
script_stop Memory unread long bad f key script bytes k held h = tt
script_stop HostFault unread long bad f key script bytes k held h = absurd h
script_stop NumbersUsed unread long bad f key script bytes k held h = absurd h

pub script_stops : {T : Type 0} (r : Result T Stop) (unread long : List ℕ → Type 0) (bad : ℕ → Type 0) (IsFirstBad : List ℕ → ℕ → Type 0) (key script : Told) (bytes : List ℕ)
    → MayBe key IsKey → MayHold script bytes → IfErr r (λ stop. BecauseOfScript stop (IsFirstBad bytes)) → IfErr r (λ stop. Because stop ⊥ unread long bad (IsBadScript IsFirstBad key script))
script_stops (Ok x) unread long bad f key script bytes k held h = tt
script_stops (Err stop) unread long bad f key script bytes k held h = script_stop stop unread long bad f key script bytes k held h

-- a key that was loaded may be one
pub may_be : (key : Told) (P : List ℕ → Type 0) → MayBe key (λ bytes. IsKey bytes × P bytes) → MayBe key IsKey
may_be key P h = (h.0, h.1, h.2.0)

-- A command line

-- a key and a script are named by the second word and the third
pub record AreNamed (words : Words) (key script : List ℕ) : Type 0 where
  pub key_is : key ≡ word words 1
  pub script_is : script ≡ word words 2

either_name : (name key script : List ℕ) (words : Words) (read : ℕ) (failed : Option ℕ) → AreNamed words key script → IsUnreadOf key script read failed name → IsUnreadOf (word words 1) (word words 2) read failed name
either_name name key script words read failed n h = elim h [ inl e ↦ inl (e.0 ∙ n.key_is, e.1) | inr e ↦ inr (e.0 ∙ n.script_is, e.1) ]

-- what is told of them, by either name
renamed : (words : Words) (key script : List ℕ) (P : List ℕ → List ℕ → Type 0) → AreNamed words key script → P key script → P (word words 1) (word words 2)
renamed words key script P n h = subst (λ (s : List ℕ). P (word words 1) s) n.script_is (subst (λ (k : List ℕ). P k script) n.key_is h)

replay_stop : (stop : Stop) (words : Words) (key script : List ℕ) (told : List ℕ → Told) (read : ℕ) (failed : Option ℕ) (R : Type 0) → IsReplay words → AreNamed words key script
    → Because stop ⊥ (λ name. IsUnreadOf key script read failed name × R) (IsLongOf told key script) (IsBadKey (told key)) (IsBadScript IsFirstBadLine (told key) (told script))
    → Because stop (Fits words → ⊥) (λ name. IsUnread words read failed name × R) (HasLong words told) (HasBadKey words told) (HasBadLine words told)
replay_stop BadWords words key script told read failed R is n h = absurd h
replay_stop (Unread name) words key script told read failed R is n h = (inl (inl is, either_name name.now key script words read failed n h.0), h.1)
replay_stop (TooLong name) words key script told read failed R is n h = inl (inl is, renamed words key script (λ k s. IsLongOf told k s name.now) n h)
replay_stop (KeyMalformed size) words key script told read failed R is n h = (inl is, renamed words key script (λ k s. IsBadKey (told k) size) n h)
replay_stop (ScriptMalformed number) words key script told read failed R is n h = inl (is, renamed words key script (λ k s. IsBadScript IsFirstBadLine (told k) (told s) number) n h)
replay_stop Memory words key script told read failed R is n h = tt
replay_stop HostFault words key script told read failed R is n h = absurd h
replay_stop NumbersUsed words key script told read failed R is n h = absurd h

-- the causes of a replay, in the words of its command line
pub replay_stops : {T : Type 0} (r : Result T Stop) (words : Words) (key script : List ℕ) (told : List ℕ → Told) (read : ℕ) (failed : Option ℕ) (R : Type 0) → IsReplay words → key ≡ word words 1 → script ≡ word words 2
    → IfErr r (λ stop. Because stop ⊥ (λ name. IsUnreadOf key script read failed name × R) (IsLongOf told key script) (IsBadKey (told key)) (IsBadScript IsFirstBadLine (told key) (told script)))
    → IfErr r (λ stop. Because stop (Fits words → ⊥) (λ name. IsUnread words read failed name × R) (HasLong words told) (HasBadKey words told) (HasBadLine words told))
replay_stops (Ok x) words key script told read failed R is k s h = tt
replay_stops (Err stop) words key script told read failed R is k s h = replay_stop stop words key script told read failed R is (record { key_is = k; script_is = s }) h

session_stop : (stop : Stop) (words : Words) (key script : List ℕ) (told : List ℕ → Told) (read : ℕ) (failed : Option ℕ) (R : Type 0) → IsHostile words → AreNamed words key script
    → Because stop ⊥ (λ name. IsUnreadOf key script read failed name × R) (IsLongOf told key script) (IsBadKey (told key)) (IsBadScript IsFirstBadHostileLine (told key) (told script))
    → Because stop (Fits words → ⊥) (λ name. IsUnread words read failed name × R) (HasLong words told) (HasBadKey words told) (HasBadLine words told)
session_stop BadWords words key script told read failed R is n h = absurd h
session_stop (Unread name) words key script told read failed R is n h = (inl (inr is, either_name name.now key script words read failed n h.0), h.1)
session_stop (TooLong name) words key script told read failed R is n h = inl (inr is, renamed words key script (λ k s. IsLongOf told k s name.now) n h)
session_stop (KeyMalformed size) words key script told read failed R is n h = (inr is, renamed words key script (λ k s. IsBadKey (told k) size) n h)
session_stop (ScriptMalformed number) words key script told read failed R is n h = inr (is, renamed words key script (λ k s. IsBadScript IsFirstBadHostileLine (told k) (told s) number) n h)
session_stop Memory words key script told read failed R is n h = tt
session_stop HostFault words key script told read failed R is n h = absurd h
session_stop NumbersUsed words key script told read failed R is n h = absurd h

-- the causes of a session over a hostile script, in the words of its command line
pub session_stops : {T : Type 0} (r : Result T Stop) (words : Words) (key script : List ℕ) (told : List ℕ → Told) (read : ℕ) (failed : Option ℕ) (R : Type 0) → IsHostile words → key ≡ word words 1 → script ≡ word words 2
    → IfErr r (λ stop. Because stop ⊥ (λ name. IsUnreadOf key script read failed name × R) (IsLongOf told key script) (IsBadKey (told key)) (IsBadScript IsFirstBadHostileLine (told key) (told script)))
    → IfErr r (λ stop. Because stop (Fits words → ⊥) (λ name. IsUnread words read failed name × R) (HasLong words told) (HasBadKey words told) (HasBadLine words told))
session_stops (Ok x) words key script told read failed R is k s h = tt
session_stops (Err stop) words key script told read failed R is k s h = session_stop stop words key script told read failed R is (record { key_is = k; script_is = s }) h

-- the words of the two commands with three words differ
pub one_of_three : (words : Words) → IsReplay words → IsHostile words → ⊥
one_of_three words replay hostile = omega (arith, ap length (sym replay.1 ∙ hostile.1))

keyed_size : (words : Words) → IsKeyed words → length words ≡ 3
keyed_size words (inl replay) = replay.0
keyed_size words (inr hostile) = hostile.0

-- a command that reads files is no workload
pub no_stress : (words : Words) → ReadsFiles words → IsSomeStress words → ⊥
no_stress words (inl keyed) stress = let size = stress.3.0 in omega (arith, keyed_size words keyed, size.0)
no_stress words (inr show) stress = let size = stress.3.0 in omega (arith, show.0, size.0)

pub one_reading : (words : Words) → IsKeyed words → IsShow words → ⊥
one_reading words keyed show = omega (arith, keyed_size words keyed, show.0)

-- where a command stops at a file, its words fit, it prints nothing, and its files are not malformed

pub stops_fit : (words : Words) (told : List ℕ → Told) → StopsAtFile words told → (Fits words → ⊥) → ⊥
stops_fit words told (inl first) never = never (inl first.0)
stops_fit words told (inr script) never = never (inl (inl script.0))

pub stops_printing : (words : Words) (told : List ℕ → Told) (text : List ℕ) → StopsAtFile words told → Prints words told text → ⊥
stops_printing words told text (inl first) (inl replay) = first.1 replay.1.key_bytes replay.1.key_held
stops_printing words told text (inl first) (inr (inl hostile)) = first.1 hostile.1.key_bytes hostile.1.key_held
stops_printing words told text (inl first) (inr (inr (inl show))) = first.1 show.1.bytes show.1.held
stops_printing words told text (inl first) (inr (inr (inr stress))) = no_stress words first.0 (stress.0, stress.1, stress.2, stress.3)
stops_printing words told text (inr script) (inl replay) = script.2 replay.1.script_bytes replay.1.script_held
stops_printing words told text (inr script) (inr (inl hostile)) = script.2 hostile.1.script_bytes hostile.1.script_held
stops_printing words told text (inr script) (inr (inr (inl show))) = one_reading words script.0 show.0
stops_printing words told text (inr script) (inr (inr (inr stress))) = no_stress words (inl script.0) (stress.0, stress.1, stress.2, stress.3)

pub stops_at_key : (words : Words) (told : List ℕ → Told) (size : ℕ) → StopsAtFile words told → HasBadKey words told size → ⊥
stops_at_key words told size (inl first) bad = first.1 bad.1.0 bad.1.1
stops_at_key words told size (inr script) bad = script.1 (bad.1.0, bad.1.1, bad.1.2.0)

bad_script : (words : Words) (told : List ℕ → Told) (number : ℕ) → HasBadLine words told number → (P : Type 0) → ((bytes : List ℕ) → MayHold (told (word words 1)) bytes → (more : List ℕ) → MayHold (told (word words 2)) more → P) → P
bad_script words told number (inl bad) P f = f bad.1.0.0 bad.1.0.1 bad.1.1.0 bad.1.1.1
bad_script words told number (inr bad) P f = f bad.1.0.0 bad.1.0.1 bad.1.1.0 bad.1.1.1

pub stops_at_line : (words : Words) (told : List ℕ → Told) (number : ℕ) → StopsAtFile words told → HasBadLine words told number → ⊥
stops_at_line words told number (inl first) bad = bad_script words told number bad ⊥ (λ key held script more. first.1 key held)
stops_at_line words told number (inr stop) bad = bad_script words told number bad ⊥ (λ key held script more. stop.2 script more)

pub ruleset stops = (stops_fit, stops_printing, stops_at_key, stops_at_line)

-- what a write of the line took of it
pub reports_fault : {T E : Type 0} (r : Result T E) (faults later : ℕ) (taken after : Option (List ℕ)) → Takes taken after fault_line r → HasCause faults later r → ReportsFault faults later taken after
reports_fault (Ok x) faults later None after took cause = record { front = tt; whole = λ never. tt }
reports_fault (Ok x) faults later (Some before) after took cause = record {
  front = (length fault_line, took ∙ ap (λ (text : List ℕ). Some (before ++ text)) (sym (take-length fault_line)));
  whole = λ never. took;
}
reports_fault (Err e) faults later None after took cause = record { front = tt; whole = λ never. tt }
reports_fault (Err e) faults later (Some before) after took cause = record { front = took; whole = λ never. absurd (never cause.failed) }

pub ruleset reports = (reports_fault)
