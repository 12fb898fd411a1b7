-- Duos in memory: what is left out, and what a failure counts.
use Rattle.std.proofs.Common.{◌≡◌, ◌≤◌, ℕ, List, true, refl, sym, ap, subst, ◌∙◌, arith}
use Rattle.std.specs.List.{list_all, filter}
use Rattle.std.proofs.lemmas.List.Elements.{filter_passes}
use Rattle.std.proofs.lemmas.List.Sums.{list_all-from_AllPass}
use Rattle.jute_core.specs.Faults.{Rose}
use Rattle.relay_io.specs.declared.duo.DuoEvent.{DuoEvent}
use Rattle.relay_io.specs.declared.duo.Heard.{Heard}
use Rattle.relay_io.specs.declared.duo.Heard.TheVariants as answers
use Rattle.relay_io.specs.Sides.{Counts, HasRisen}
use Rattle.relay_io.specs.MemoryDuos.{DuoState, told_of, has_bytes, filled, one_more, Fails}

pub all_filled : (events : List DuoEvent) → list_all has_bytes (filled events) ≡ true
all_filled events = list_all-from_AllPass has_bytes (filled events) (filter_passes has_bytes events)

rose_by_one : (old mid new : ℕ) → mid ≡ old → mid ≤ new → new ≡ one_more mid → HasRisen old new
rose_by_one old mid new same later is = record { later = omega (arith, same, later); rose = grind (arith, same, is) }

-- where the counts were as before, a failure counts as it should
pub counts_fail : (old mid new : DuoState) (answer : Heard) → Fails mid new answer → mid.client_faults ≡ old.client_faults → mid.store_faults ≡ old.store_faults → mid.client_faults ≤ new.client_faults → mid.store_faults ≤ new.store_faults
    → Counts answer (told_of old) (told_of new)
counts_fail old mid new answers.ClientFailed f c s lc ls =
    (rose_by_one old.client_faults mid.client_faults new.client_faults c lc (ap (λ (d : DuoState). d.client_faults) f.1), ap (λ (d : DuoState). d.store_faults) f.1 ∙ s)
counts_fail old mid new answers.StoreFailed f c s lc ls =
    (ap (λ (d : DuoState). d.client_faults) f.1 ∙ c, rose_by_one old.store_faults mid.store_faults new.store_faults s ls (ap (λ (d : DuoState). d.store_faults) f.1))
counts_fail old mid new (answers.Client n) f c s lc ls = absurd f
counts_fail old mid new (answers.Store n) f c s lc ls = absurd f
counts_fail old mid new answers.ClientEnd f c s lc ls = absurd f
counts_fail old mid new answers.StoreEnd f c s lc ls = absurd f
counts_fail old mid new answers.Idle f c s lc ls = absurd f
