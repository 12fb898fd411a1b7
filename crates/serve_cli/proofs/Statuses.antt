-- How an end of serving is told.
use Rattle.std.proofs.Common.{◌≡◌, ◌⊎◌, inl, inr, ℕ, ◌+◌, ◌-◌, ◌^◌, ◌≤◌, ◌<◌, List, [], ◌++◌, refl, sym, ap, subst, ◌∙◌, arith}
use Rattle.std.specs.Prelude.{Option, Some, None, codes, min, true}
use Rattle.jute_core.specs.Faults.{Rose, Wrote}
use Rattle.relay_io.proofs.Writing.{wrote_both}
use Rattle.replay_cli.specs.Printed.{line}
use Rattle.replay_cli.specs.Stops.{status_of, complaint_of, unread_line, too_long_line}
use Rattle.replay_cli.specs.Told.{Told}
use Rattle.replay_cli.specs.Words.{Words, word}
use Rattle.replay_cli.specs.declared.stops.Status.{Status}
use Rattle.replay_cli.specs.declared.stops.Status.TheVariants as statuses
use Rattle.replay_cli.specs.declared.stops.Stop.{Stop}
use Rattle.replay_cli.specs.declared.stops.Stop.TheVariants as stops
use Rattle.serve_cli.specs.Causes.{EndsFor, SaidLine, SaidBefore, Said, Complained, Ended, Says, Scene, Serves}
use Rattle.serve_cli.specs.Ends.{HostThen, HostStopped}
use Rattle.serve_cli.specs.Hosts.{HostTold}
use Rattle.serve_cli.specs.Serving.{Joined, numbers}
use Rattle.serve_cli.specs.Words.{Fits, IsServedLine}
use Rattle.serve_cli.specs.declared.ending.End.{End}
use Rattle.serve_cli.specs.declared.ending.End.TheVariants as ends

rose_from : (a b c : ℕ) → a ≤ b → Rose b c → Rose a c
rose_from a b c le h = omega (arith, le, h)

rose_to : (a b c : ℕ) → Rose a b → b ≤ c → Rose a c
rose_to a b c h le = omega (arith, h, le)

wrote_from : (old mid new : Option (List ℕ)) (text : List ℕ) → mid ≡ old → Wrote mid new text → Wrote old new text
wrote_from old mid new text is w = subst (λ (o : Option (List ℕ)). Wrote o new text) is w

wrote_to : (old mid new : Option (List ℕ)) (text : List ℕ) → new ≡ mid → Wrote old mid text → Wrote old new text
wrote_to old mid new text is w = subst (λ (o : Option (List ℕ)). Wrote old o text) (sym is) w

-- What was said before a stop, if anything
first_said : (P : List ℕ → Type 0) (stop : Stop) (old mid : Option (List ℕ)) → SaidBefore P stop old mid → (mid ≡ old) ⊎ SaidLine P old mid
first_said P stops.BadWords old mid h = inl h
first_said P (stops.Unread name) old mid h = inl h
first_said P (stops.TooLong name) old mid h = inl h
first_said P (stops.KeyMalformed size) old mid h = inl h
first_said P (stops.ScriptMalformed number) old mid h = inl h
first_said P stops.Memory old mid h = h
first_said P stops.HostFault old mid h = h
first_said P stops.NumbersUsed old mid h = inr h

says : (words : Words) (old mid new : Option (List ℕ)) (last : List ℕ) → (mid ≡ old) ⊎ SaidLine (IsServedLine words) old mid → Wrote mid new last → Says words old new last
says words old mid new last h w = elim h [
  | inl is ↦ ([], inl refl, wrote_from old mid new last is w)
  | inr s ↦ (s.0, inr s.1, wrote_both old mid new s.0 last s.2 w)
]

-- a stop that was told as the line of its status
told_so : (s : Scene) (stop : Stop) (mid : Option (List ℕ)) → EndsFor s.words s.told s.files_before s.files_now (ends.Stopped stop) → HostStopped stop s.host_before s.host_now
    → SaidBefore (IsServedLine s.words) stop s.err_before mid → Wrote mid s.err_now (complaint_of stop) → Serves s (status_of stop)
told_so s stops.BadWords mid e h d w = (e, wrote_from s.err_before mid s.err_now _ d w)
told_so s (stops.Unread name) mid e h d w = (e.0, e.2, subst (λ (n : List ℕ). Wrote s.err_before s.err_now (unread_line n)) e.1 (wrote_from s.err_before mid s.err_now _ d w))
told_so s (stops.TooLong name) mid e h d w = (e.0, e.2, subst (λ (n : List ℕ). Wrote s.err_before s.err_now (too_long_line n)) e.1 (wrote_from s.err_before mid s.err_now _ d w))
told_so s (stops.KeyMalformed size) mid e h d w = (size, e, wrote_from s.err_before mid s.err_now _ d w)
told_so s (stops.ScriptMalformed number) mid e h d w = e
told_so s stops.Memory mid e h d w = says s.words s.err_before mid s.err_now _ d w
told_so s stops.HostFault mid e h d w = (h.1.by.2, e, says s.words s.err_before mid s.err_now _ d w)
told_so s stops.NumbersUsed mid e h d w = (h.1.joined.accepted ∙ ap (λ (n : ℕ). s.host_before.accepted + n) h.1.by.0, e, says s.words s.err_before mid s.err_now _ (inr d) w)

told_stop : (s : Scene) (stop : Stop) (mid : Option (List ℕ)) (faults : ℕ) (r : Status) → EndsFor s.words s.told s.files_before s.files_now (ends.Stopped stop) → HostStopped stop s.host_before s.host_now
    → SaidBefore (IsServedLine s.words) stop s.err_before mid → s.faults_before ≤ faults → Complained stop mid s.err_now faults s.faults_now r → Serves s r
told_stop s stop mid faults r e h d le c = elim c.is [
  | inl is ↦ subst (λ (r : Status). Serves s r) (sym is) (told_so s stop mid e h d (c.stopped is))
  | inr (inl is) ↦ subst (λ (r : Status). Serves s r) (sym is) (says s.words s.err_before mid s.err_now _ (first_said (IsServedLine s.words) stop s.err_before mid d) (c.memory is))
  | inr (inr is) ↦ subst (λ (r : Status). Serves s r) (sym is) (rose_from s.faults_before faults s.faults_now le (c.fault is))
]

pub serves : (s : Scene) (e : End) (mid : Option (List ℕ)) (faults : ℕ) (r : Status) → EndsFor s.words s.told s.files_before s.files_now e → HostThen e s.host_before s.host_now
    → Said (IsServedLine s.words) e s.err_before mid s.faults_before faults → s.faults_before ≤ faults → Ended e mid s.err_now faults s.faults_now r → Serves s r
serves s ends.Done mid faults r e h d le t = subst (λ (r : Status). Serves s r) (sym t.0) (h.1.by.1, e, (d.0, d.1, wrote_to s.err_before mid s.err_now d.0 t.1 d.2))
serves s (ends.Stopped stop) mid faults r e h d le t = told_stop s stop mid faults r e h d le t
serves s ends.Unsaid mid faults r e h d le t = subst (λ (r : Status). Serves s r) (sym t.0) (rose_to s.faults_before faults s.faults_now d t.1)

-- the same of the status that it is
pub serves_as : (words : Words) (told : List ℕ → Told) (fb fn : ℕ) (h0 h1 : HostTold) (e0 mid e1 : Option (List ℕ)) (b faults n : ℕ) (e : End) (r want : Status)
    → EndsFor words told fb fn e → HostThen e h0 h1 → Said (IsServedLine words) e e0 mid b faults → b ≤ faults → Ended e mid e1 faults n r → r ≡ want
    → Serves (record { words = words; told = told; files_before = fb; files_now = fn; host_before = h0; host_now = h1; err_before = e0; err_now = e1; faults_before = b; faults_now = n }) want
serves_as words told fb fn h0 h1 e0 mid e1 b faults n e r want cause host said le ended is =
    subst (λ (r : Status). Serves (record { words = words; told = told; files_before = fb; files_now = fn; host_before = h0; host_now = h1; err_before = e0; err_now = e1; faults_before = b; faults_now = n }) r) is
    (serves (record { words = words; told = told; files_before = fb; files_now = fn; host_before = h0; host_now = h1; err_before = e0; err_now = e1; faults_before = b; faults_now = n }) e mid faults r cause host said le ended)

-- Where all numbers were given

other_count : (a b n : ℕ) → b ≡ a + n → n < numbers → b ≡ a + numbers → ⊥
other_count a b n is below all = absurd (omega (arith, is, below, all))

same_count : (a b : ℕ) → b ≡ a → b ≡ a + numbers → ⊥
same_count a b is all = absurd (omega (arith, is, all))

stops_so : (stop : Stop) (old new : HostTold) → HostStopped stop old new → new.accepted ≡ old.accepted + numbers → stop ≡ stops.NumbersUsed
stops_so stops.BadWords old new h all = absurd (same_count old.accepted new.accepted h.accepted_is all)
stops_so (stops.Unread name) old new h all = absurd (same_count old.accepted new.accepted h.accepted_is all)
stops_so (stops.TooLong name) old new h all = absurd (same_count old.accepted new.accepted h.accepted_is all)
stops_so (stops.KeyMalformed size) old new h all = absurd (same_count old.accepted new.accepted h.accepted_is all)
stops_so (stops.ScriptMalformed number) old new h all = absurd (same_count old.accepted new.accepted h.accepted_is all)
stops_so stops.Memory old new h all = absurd (other_count old.accepted new.accepted h.0 h.1.joined.accepted h.1.by.0 all)
stops_so stops.HostFault old new h all = absurd (other_count old.accepted new.accepted h.0 h.1.joined.accepted h.1.by.0 all)
stops_so stops.NumbersUsed old new h all = refl

pub all_numbers : (e : End) (old new : HostTold) (a b : Option (List ℕ)) (before now : ℕ) (r : Status) → HostThen e old new → Ended e a b before now r → new.accepted ≡ old.accepted + numbers
    → (r ≡ statuses.NumbersUsed) ⊎ (r ≡ statuses.WriteFault) ⊎ (r ≡ statuses.Memory)
all_numbers ends.Done old new a b before now r h t all = absurd (other_count old.accepted new.accepted h.0 h.1.joined.accepted h.1.by.0 all)
all_numbers (ends.Stopped stop) old new a b before now r h t all = elim t.is [
  | inl is ↦ inl (is ∙ ap status_of (stops_so stop old new h all))
  | inr (inl is) ↦ inr (inr is)
  | inr (inr is) ↦ inr (inl is)
]
all_numbers ends.Unsaid old new a b before now r h t all = absurd (same_count old.accepted new.accepted h.accepted_is all)

-- where no row of the table fits
pub no_row : (e : End) (a b : Option (List ℕ)) (before now : ℕ) (r : Status) → e ≡ ends.Stopped stops.BadWords → Ended e a b before now r
    → (r ≡ statuses.BadWords) ⊎ (r ≡ statuses.WriteFault) ⊎ (r ≡ statuses.Memory)
no_row e a b before now r is t =
    let c = subst (λ (e : End). Ended e a b before now r) is t in
    elim c.is [
      | inl q ↦ inl q
      | inr (inl q) ↦ inr (inr q)
      | inr (inr q) ↦ inr (inl q)
    ]
