-- Causes of an end of serving, and what was said up to it.
use Rattle.std.proofs.Common.{◌≡◌, ◌⊎◌, inl, inr, ℕ, List, length, refl, sym, ap, subst, ◌∙◌}
use Rattle.std.specs.Prelude.{Option, ◌^◌, ◌<◌}
use Rattle.std.specs.Fmt.{decimal}
use Rattle.jute_core.specs.Faults.{Rose, Wrote}
use Rattle.replay_cli.specs.Run.{IsKey, IsTooLong, MayBe}
use Rattle.replay_cli.specs.Stops.{Because, BecauseOfFile}
use Rattle.replay_cli.specs.Told.{Told}
use Rattle.replay_cli.specs.Words.{Words, word}
use Rattle.replay_cli.specs.declared.stops.Stop.{Stop}
use Rattle.replay_cli.specs.declared.stops.Stop.TheVariants as stops
use Rattle.serve_cli.specs.Causes.{IsCounterKey, HoldsOther, HasBadKey, HasKey, StopsAtKey, Ends, EndsUnder, EndsFor, SaidLine, SaidBefore, Said}
use Rattle.serve_cli.specs.Ends.{EndsSo}
use Rattle.serve_cli.specs.Words.{Fits, IsProxy, IsStore, IsServedLine, proxy_line, store_line}
use Rattle.serve_cli.specs.declared.closing.Close.{Close}
use Rattle.serve_cli.specs.declared.closing.Close.TheVariants as closes
use Rattle.serve_cli.specs.declared.ending.End.{End}
use Rattle.serve_cli.specs.declared.ending.End.TheVariants as ends

-- Key files

-- a file that was not read, or is too long
pub of_file : (IsKind : List ℕ → Type 0) (key : List ℕ) (file : Told) (before now : ℕ) (stop : Stop) (unread : List ℕ → Type 0)
    → BecauseOfFile stop (λ name. (name ≡ key) × unread name × Rose before now) (λ name. (name ≡ key) × IsTooLong file) → StopsAtKey IsKind key file before now stop
of_file IsKind key file before now stops.BadWords unread h = absurd h
of_file IsKind key file before now (stops.Unread name) unread h = (h.0, h.2)
of_file IsKind key file before now (stops.TooLong name) unread h = h
of_file IsKind key file before now (stops.KeyMalformed size) unread h = absurd h
of_file IsKind key file before now (stops.ScriptMalformed number) unread h = absurd h
of_file IsKind key file before now stops.Memory unread h = tt
of_file IsKind key file before now stops.HostFault unread h = absurd h
of_file IsKind key file before now stops.NumbersUsed unread h = absurd h

pub at_key : (IsKind : List ℕ → Type 0) (key : List ℕ) (file : Told) (before now : ℕ) (stop : Stop) → StopsAtKey IsKind key file before now stop → EndsUnder IsKind key file before now (ends.Stopped stop)
at_key IsKind key file before now stops.BadWords h = absurd h
at_key IsKind key file before now (stops.Unread name) h = h
at_key IsKind key file before now (stops.TooLong name) h = h
at_key IsKind key file before now (stops.KeyMalformed size) h = h
at_key IsKind key file before now (stops.ScriptMalformed number) h = absurd h
at_key IsKind key file before now stops.Memory h = tt
at_key IsKind key file before now stops.HostFault h = absurd h
at_key IsKind key file before now stops.NumbersUsed h = absurd h

-- nothing was said before
pub quiet_at_key : (IsKind : List ℕ → Type 0) (key : List ℕ) (file : Told) (before now : ℕ) (stop : Stop) (IsLine : List ℕ → Type 0) (text : Option (List ℕ)) (b n : ℕ)
    → StopsAtKey IsKind key file before now stop → Said IsLine (ends.Stopped stop) text text b n
quiet_at_key IsKind key file before now stops.BadWords IsLine text b n h = absurd h
quiet_at_key IsKind key file before now (stops.Unread name) IsLine text b n h = refl
quiet_at_key IsKind key file before now (stops.TooLong name) IsLine text b n h = refl
quiet_at_key IsKind key file before now (stops.KeyMalformed size) IsLine text b n h = refl
quiet_at_key IsKind key file before now (stops.ScriptMalformed number) IsLine text b n h = absurd h
quiet_at_key IsKind key file before now stops.Memory IsLine text b n h = inl refl
quiet_at_key IsKind key file before now stops.HostFault IsLine text b n h = absurd h
quiet_at_key IsKind key file before now stops.NumbersUsed IsLine text b n h = absurd h

-- Where no more clients are taken

pub at_close : (IsKind : List ℕ → Type 0) (key : List ℕ) (file : Told) (before now : ℕ) (close : Close) (e : End) → EndsSo close e → MayBe file IsKind → EndsUnder IsKind key file before now e
at_close IsKind key file before now closes.NoMore e h k = subst (λ (e : End). EndsUnder IsKind key file before now e) (sym h) k
at_close IsKind key file before now closes.NumbersUsed e h k = subst (λ (e : End). EndsUnder IsKind key file before now e) (sym h) k
at_close IsKind key file before now closes.HostFault e h k = subst (λ (e : End). EndsUnder IsKind key file before now e) (sym h) k
at_close IsKind key file before now closes.Memory e h k = subst (λ (e : End). EndsUnder IsKind key file before now e) (sym h) tt

pub said_at_close : (line : List ℕ) (close : Close) (e : End) (old new : Option (List ℕ)) (before now : ℕ) → EndsSo close e → Wrote old new line → Said (λ text. text ≡ line) e old new before now
said_at_close line closes.NoMore e old new before now h w = subst (λ (e : End). Said (λ text. text ≡ line) e old new before now) (sym h) (line, refl, w)
said_at_close line closes.NumbersUsed e old new before now h w = subst (λ (e : End). Said (λ text. text ≡ line) e old new before now) (sym h) (line, refl, w)
said_at_close line closes.HostFault e old new before now h w = subst (λ (e : End). Said (λ text. text ≡ line) e old new before now) (sym h) (inr (line, refl, w))
said_at_close line closes.Memory e old new before now h w = subst (λ (e : End). Said (λ text. text ≡ line) e old new before now) (sym h) (inr (line, refl, w))

-- Where the host did not listen, or nothing could be said

pub at_opening : (IsKind : List ℕ → Type 0) (key : List ℕ) (file : Told) (before now : ℕ) (e : End) → (e ≡ ends.Unsaid) ⊎ (e ≡ ends.Stopped stops.HostFault) → MayBe file IsKind → EndsUnder IsKind key file before now e
at_opening IsKind key file before now e h k = elim h [
  | inl is ↦ subst (λ (e : End). EndsUnder IsKind key file before now e) (sym is) k
  | inr is ↦ subst (λ (e : End). EndsUnder IsKind key file before now e) (sym is) k
]

pub said_at_opening : (IsLine : List ℕ → Type 0) (e : End) (old new : Option (List ℕ)) (before now : ℕ) → (e ≡ ends.Unsaid) ⊎ (e ≡ ends.Stopped stops.HostFault)
    → (e ≡ ends.Unsaid → Rose before now) → (e ≡ ends.Stopped stops.HostFault → new ≡ old) → Said IsLine e old new before now
said_at_opening IsLine e old new before now h rose quiet = elim h [
  | inl is ↦ subst (λ (e : End). Said IsLine e old new before now) (sym is) (rose is)
  | inr is ↦ subst (λ (e : End). Said IsLine e old new before now) (sym is) (inl (quiet is))
]

-- The command that the words name

-- a stop of a command that fits, whose key file is named by the second word
of_command : (IsKind : List ℕ → Type 0) (words : Words) (key : List ℕ) (told : List ℕ → Told) (before now : ℕ) (e : End) → Fits words → key ≡ word words 1
    → ((file : Told) (size : ℕ) → HoldsOther IsKind file size → HasBadKey words file size) → ((file : Told) → MayBe file IsKind → HasKey words file) → EndsUnder IsKind key (told key) before now e → EndsFor words told before now e
of_command IsKind words key told before now ends.Done fits is bad keyed h = keyed (told (word words 1)) (subst (λ (k : List ℕ). MayBe (told k) IsKind) is h)
of_command IsKind words key told before now ends.Unsaid fits is bad keyed h = keyed (told (word words 1)) (subst (λ (k : List ℕ). MayBe (told k) IsKind) is h)
of_command IsKind words key told before now (ends.Stopped stops.BadWords) fits is bad keyed h = absurd h
of_command IsKind words key told before now (ends.Stopped (stops.Unread name)) fits is bad keyed h = (fits, h.0 ∙ is, h.1)
of_command IsKind words key told before now (ends.Stopped (stops.TooLong name)) fits is bad keyed h = (fits, h.0 ∙ is, subst (λ (k : List ℕ). IsTooLong (told k)) is h.1)
of_command IsKind words key told before now (ends.Stopped (stops.KeyMalformed size)) fits is bad keyed h = bad (told (word words 1)) size (subst (λ (k : List ℕ). HoldsOther IsKind (told k) size) is h)
of_command IsKind words key told before now (ends.Stopped (stops.ScriptMalformed number)) fits is bad keyed h = h
of_command IsKind words key told before now (ends.Stopped stops.Memory) fits is bad keyed h = tt
of_command IsKind words key told before now (ends.Stopped stops.HostFault) fits is bad keyed h = keyed (told (word words 1)) (subst (λ (k : List ℕ). MayBe (told k) IsKind) is h)
of_command IsKind words key told before now (ends.Stopped stops.NumbersUsed) fits is bad keyed h = keyed (told (word words 1)) (subst (λ (k : List ℕ). MayBe (told k) IsKind) is h)

pub of_proxy : (words : Words) (boot : ℕ) (key : List ℕ) (told : List ℕ → Told) (before now : ℕ) (e : End) → IsProxy words boot → key ≡ word words 1
    → EndsUnder IsKey key (told key) before now e → EndsFor words told before now e
of_proxy words boot key told before now e p is h = of_command IsKey words key told before now e (inl (boot, p)) is (λ file size bad. inl ((boot, p), bad)) (λ file k. inl ((boot, p), k)) h

pub of_store : (words : Words) (key : List ℕ) (told : List ℕ → Told) (before now : ℕ) (e : End) → IsStore words → key ≡ word words 1
    → EndsUnder IsCounterKey key (told key) before now e → EndsFor words told before now e
of_store words key told before now e p is h = of_command IsCounterKey words key told before now e (inr p) is (λ file size bad. inr (p, bad)) (λ file k. inr (p, k)) h

-- a line of one kind is a line of another
line_of : (A B : List ℕ → Type 0) (old new : Option (List ℕ)) → ((text : List ℕ) → A text → B text) → SaidLine A old new → SaidLine B old new
line_of A B old new f h = (h.0, f h.0 h.1, h.2)

before_of : (A B : List ℕ → Type 0) (stop : Stop) (old new : Option (List ℕ)) → ((text : List ℕ) → A text → B text) → SaidBefore A stop old new → SaidBefore B stop old new
before_of A B stops.BadWords old new f h = h
before_of A B (stops.Unread name) old new f h = h
before_of A B (stops.TooLong name) old new f h = h
before_of A B (stops.KeyMalformed size) old new f h = h
before_of A B (stops.ScriptMalformed number) old new f h = h
before_of A B stops.Memory old new f h = elim h [ inl is ↦ inl is | inr s ↦ inr (line_of A B old new f s) ]
before_of A B stops.HostFault old new f h = elim h [ inl is ↦ inl is | inr s ↦ inr (line_of A B old new f s) ]
before_of A B stops.NumbersUsed old new f h = line_of A B old new f h

said_of : (A B : List ℕ → Type 0) (e : End) (old new : Option (List ℕ)) (before now : ℕ) → ((text : List ℕ) → A text → B text) → Said A e old new before now → Said B e old new before now
said_of A B ends.Done old new before now f h = line_of A B old new f h
said_of A B (ends.Stopped stop) old new before now f h = before_of A B stop old new f h
said_of A B ends.Unsaid old new before now f h = h

pub said_of_proxy : (words : Words) (boot : ℕ) (listen store : List ℕ) (e : End) (old new : Option (List ℕ)) (before now : ℕ) → IsProxy words boot → listen ≡ word words 3 → store ≡ word words 4
    → Said (λ text. text ≡ proxy_line listen store (decimal boot)) e old new before now → Said (IsServedLine words) e old new before now
said_of_proxy words boot listen store e old new before now p at to h = said_of (λ text. text ≡ proxy_line listen store (decimal boot)) (IsServedLine words) e old new before now
    (λ text is. inl ((boot, p), is ∙ ap (λ l. proxy_line l store (decimal boot)) at ∙ ap (λ s. proxy_line (word words 3) s (decimal boot)) to ∙ ap (λ b. proxy_line (word words 3) (word words 4) b) (sym p.2))) h

pub said_of_store : (words : Words) (listen : List ℕ) (e : End) (old new : Option (List ℕ)) (before now : ℕ) → IsStore words → listen ≡ word words 2
    → Said (λ text. text ≡ store_line listen) e old new before now → Said (IsServedLine words) e old new before now
said_of_store words listen e old new before now p at h = said_of (λ text. text ≡ store_line listen) (IsServedLine words) e old new before now
    (λ text is. inr (p, is ∙ ap store_line at)) h
