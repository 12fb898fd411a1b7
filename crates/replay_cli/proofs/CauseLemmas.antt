-- Keys that can only be malformed, and scripts that can only be outside their grammar.
use Rattle.std.proofs.Common.{◌≡◌, ◌∙◌, inl, inr, ◌⊎◌, ℕ, List, refl, subst}
use Rattle.replay_cli.specs.declared.stops.Stop.{Stop}
use Rattle.replay_cli.specs.declared.stops.Stop.TheVariants as stops
use Rattle.replay_cli.specs.declared.stops.Status.{Status}
use Rattle.replay_cli.specs.declared.stops.Status.TheVariants.{ReadFault, KeyMalformed, ScriptMalformed, WriteFault, Memory}
use Rattle.replay_cli.specs.Told.{Told}
use Rattle.replay_cli.specs.Words.{Words, word, IsKeyed, Fits}
use Rattle.replay_cli.specs.Run.{IsTooLong, Prints, HasLong, HasBadKey, HasBadLine, StopsAtKey, StopsAtLine}
use Rattle.replay_cli.specs.Stops.{Because, status_of}
use Rattle.replay_cli.proofs.RunLemmas.{one_of_three, one_reading, no_stress}

-- a stop of one status, of a read that failed or of want of memory
ends_as : (result s good : Status) → (s ≡ good) ⊎ (s ≡ ReadFault) ⊎ (s ≡ Memory) → (result ≡ s) ⊎ (result ≡ Memory) ⊎ (result ≡ WriteFault)
    → (result ≡ good) ⊎ (result ≡ ReadFault) ⊎ (result ≡ WriteFault) ⊎ (result ≡ Memory)
ends_as result s good (inl e) (inl r) = inl (r ∙ e)
ends_as result s good (inr (inl e)) (inl r) = inr (inl (r ∙ e))
ends_as result s good (inr (inr e)) (inl r) = inr (inr (inr (r ∙ e)))
ends_as result s good which (inr (inl m)) = inr (inr (inr m))
ends_as result s good which (inr (inr w)) = inr (inr (inl w))

-- Keys

key_fits : (words : Words) (told : List ℕ → Told) → StopsAtKey words told → (Fits words → ⊥) → ⊥
key_fits words told stop never = never (inl (inl stop.0))

pub key_prints : (words : Words) (told : List ℕ → Told) (text : List ℕ) → StopsAtKey words told → Prints words told text → ⊥
key_prints words told text stop (inl replay) = stop.1.0 (replay.1.key_bytes, replay.1.key_held, replay.1.is_key)
key_prints words told text stop (inr (inl hostile)) = stop.1.0 (hostile.1.key_bytes, hostile.1.key_held, hostile.1.is_key)
key_prints words told text stop (inr (inr (inl show))) = one_reading words stop.0 show.0
key_prints words told text stop (inr (inr (inr stress))) = no_stress words (inl stop.0) (stress.0, stress.1, stress.2, stress.3)

key_long : (words : Words) (told : List ℕ → Told) (name : List ℕ) → StopsAtKey words told → HasLong words told name → ⊥
key_long words told name stop (inl (keyed, (inl key, long))) = stop.1.1 (subst (λ (n : List ℕ). IsTooLong (told n)) key long)
key_long words told name stop (inl (keyed, (inr script, long))) = stop.1.0 script.1
key_long words told name stop (inr show) = one_reading words stop.0 show.0

key_line : (words : Words) (told : List ℕ → Told) (number : ℕ) → StopsAtKey words told → HasBadLine words told number → ⊥
key_line words told number stop (inl bad) = stop.1.0 bad.1.0
key_line words told number stop (inr bad) = stop.1.0 bad.1.0

-- why a run stops where its key can only be malformed
pub key_ends : (stop : Stop) (words : Words) (told : List ℕ → Told) (unread : List ℕ → Type 0) (result : Status)
    → Because stop (Fits words → ⊥) unread (HasLong words told) (HasBadKey words told) (HasBadLine words told)
    → (result ≡ status_of stop) ⊎ (result ≡ Memory) ⊎ (result ≡ WriteFault) → StopsAtKey words told
    → (result ≡ KeyMalformed) ⊎ (result ≡ ReadFault) ⊎ (result ≡ WriteFault) ⊎ (result ≡ Memory)
key_ends stops.BadWords words told unread result why status at = absurd (key_fits words told at why)
key_ends (stops.Unread name) words told unread result why status at = ends_as result ReadFault KeyMalformed (inr (inl refl)) status
key_ends (stops.TooLong name) words told unread result why status at = absurd (key_long words told name.now at why)
key_ends (stops.KeyMalformed size) words told unread result why status at = ends_as result KeyMalformed KeyMalformed (inl refl) status
key_ends (stops.ScriptMalformed number) words told unread result why status at = absurd (key_line words told number at why)
key_ends stops.Memory words told unread result why status at = ends_as result Memory KeyMalformed (inr (inr refl)) status
key_ends stops.HostFault words told unread result why status at = absurd why
key_ends stops.NumbersUsed words told unread result why status at = absurd why

-- Scripts

line_keyed : (words : Words) (told : List ℕ → Told) → StopsAtLine words told → IsKeyed words
line_keyed words told (key, inl replay) = inl replay.0
line_keyed words told (key, inr hostile) = inr hostile.0

line_fits : (words : Words) (told : List ℕ → Told) → StopsAtLine words told → (Fits words → ⊥) → ⊥
line_fits words told stop never = never (inl (inl (line_keyed words told stop)))

pub line_prints : (words : Words) (told : List ℕ → Told) (text : List ℕ) → StopsAtLine words told → Prints words told text → ⊥
line_prints words told text (key, inl stop) (inl replay) = stop.1.0 (replay.1.script_bytes, replay.1.script_held, (replay.1.events, replay.1.is_script))
line_prints words told text (key, inl stop) (inr (inl hostile)) = one_of_three words stop.0 hostile.0
line_prints words told text (key, inr stop) (inl replay) = one_of_three words replay.0 stop.0
line_prints words told text (key, inr stop) (inr (inl hostile)) = stop.1.0 (hostile.1.script_bytes, hostile.1.script_held, (hostile.1.events, hostile.1.is_script))
line_prints words told text stop (inr (inr (inl show))) = one_reading words (line_keyed words told stop) show.0
line_prints words told text stop (inr (inr (inr stress))) = no_stress words (inl (line_keyed words told stop)) (stress.0, stress.1, stress.2, stress.3)

script_short : (words : Words) (told : List ℕ → Told) → StopsAtLine words told → IsTooLong (told (word words 2)) → ⊥
script_short words told (key, inl stop) long = stop.1.1 long
script_short words told (key, inr stop) long = stop.1.1 long

line_long : (words : Words) (told : List ℕ → Told) (name : List ℕ) → StopsAtLine words told → HasLong words told name → ⊥
line_long words told name stop (inl (keyed, (inl key, long))) = stop.0.1 (subst (λ (n : List ℕ). IsTooLong (told n)) key long)
line_long words told name stop (inl (keyed, (inr script, long))) = script_short words told stop (subst (λ (n : List ℕ). IsTooLong (told n)) script.0 long)
line_long words told name stop (inr show) = one_reading words (line_keyed words told stop) show.0

line_key : (words : Words) (told : List ℕ → Told) (size : ℕ) → StopsAtLine words told → HasBadKey words told size → ⊥
line_key words told size stop bad = stop.0.0 (bad.1.0, bad.1.1, bad.1.2.0)

-- why a run stops where its script can only be outside its grammar
pub line_ends : (stop : Stop) (words : Words) (told : List ℕ → Told) (unread : List ℕ → Type 0) (result : Status)
    → Because stop (Fits words → ⊥) unread (HasLong words told) (HasBadKey words told) (HasBadLine words told)
    → (result ≡ status_of stop) ⊎ (result ≡ Memory) ⊎ (result ≡ WriteFault) → StopsAtLine words told
    → (result ≡ ScriptMalformed) ⊎ (result ≡ ReadFault) ⊎ (result ≡ WriteFault) ⊎ (result ≡ Memory)
line_ends stops.BadWords words told unread result why status at = absurd (line_fits words told at why)
line_ends (stops.Unread name) words told unread result why status at = ends_as result ReadFault ScriptMalformed (inr (inl refl)) status
line_ends (stops.TooLong name) words told unread result why status at = absurd (line_long words told name.now at why)
line_ends (stops.KeyMalformed size) words told unread result why status at = absurd (line_key words told size at why)
line_ends (stops.ScriptMalformed number) words told unread result why status at = ends_as result ScriptMalformed ScriptMalformed (inl refl) status
line_ends stops.Memory words told unread result why status at = ends_as result Memory ScriptMalformed (inr (inr refl)) status
line_ends stops.HostFault words told unread result why status at = absurd why
line_ends stops.NumbersUsed words told unread result why status at = absurd why
