-- What is counted and hashed of a world, connection by connection.
use Rattle.std.proofs.Common.{◌≡◌, ℕ, zero, suc, ◌+◌, ◌≤◌, ◌<◌, List, [], ◌++◌, length, refl, sym, ap, subst, ◌∙◌, arith}
use Rattle.sha2.specs.Sha256.{sha256}
use Rattle.jute_core.specs.Frames.{Stream}
use Rattle.payload_seal.specs.declared.keys.EntryKeys.{EntryKeys}
use Rattle.world_core.specs.Moments.{Moment}
use Rattle.replay_cli.specs.Hostile.{IsKeysOf}
use Rattle.replay_cli.specs.Summary.{AreTallied, PrintsStress, received_at, received_by, stress_key, summary_text, with_received}
use Rattle.replay_cli.specs.Workload.{IsWorkload, word_of}
use Rattle.replay_cli.specs.Worlds.{Replayed}
use Rattle.replay_cli.specs.declared.script.Event.{Event}
use Rattle.replay_cli.specs.declared.tally.Tally.{Tally}
use Rattle.replay_cli.proofs.WorkloadLemmas.{workload_opens}

pub no_tally : (m : Moment) (t : Tally) → t ≡ record { events = 0; replies = 0; errors = 0 } → AreTallied m 0 t
unfolding AreTallied
no_tally m t is = is

-- one more connection is counted
pub one_tally : (m : Moment) (c : ℕ) (before after : Tally) (received : List ℕ) → AreTallied m c before → received ≡ received_at m (c + 1)
    → (bodies : List (List ℕ)) × (rest : List ℕ) × Stream bodies rest received × (after ≡ with_received before bodies) → AreTallied m (c + 1) after
unfolding AreTallied
one_tally m c before after received so is h =
    let next : suc c ≡ c + 1 = omega arith in
    let here : received ≡ received_at m (suc c) = is ∙ ap (received_at m) (sym next) in
    subst (λ (n : ℕ). AreTallied m n after) next (before, so, h.0, h.1, subst (λ (l : List ℕ). Stream h.0 h.1 l) here h.2, h.3)

pub all_tallied : (m : Moment) (n count : ℕ) (t : Tally) → AreTallied m n t → n ≤ count → count ≤ n → count ≡ m.past.admitted → AreTallied m m.past.admitted t
all_tallied m n count t so within not all = let same : n ≡ m.past.admitted = omega (arith, within, not, all) in subst (λ (k : ℕ). AreTallied m k t) same so

-- and hashed
pub more_received : (m : Moment) (c : ℕ) (received : List ℕ) → received ≡ received_at m (c + 1) → received_by m c ++ received ≡ received_by m (c + 1)
unfolding received_by
more_received m c received is =
    let next : suc c ≡ c + 1 = omega arith in
    ap (λ (l : List ℕ). received_by m c ++ l) (is ∙ ap (received_at m) (sym next)) ∙ ap (received_by m) next

pub all_received : (m : Moment) (n count : ℕ) → n ≤ count → count ≤ n → count ≡ m.past.admitted → sha256 (received_by m n) ≡ sha256 (received_by m m.past.admitted)
all_received m n count within not all = let same : n ≡ m.past.admitted = omega (arith, within, not, all) in ap (λ (k : ℕ). sha256 (received_by m k)) same

-- what a run prints
pub prints : (seed sessions steps : ℕ) (events same : List Event) (keys : EntryKeys) (m : Moment) (entries : ℕ) (t : Tally) (digest text : List ℕ) → IsKeysOf stress_key keys → 0 < sessions → steps ≤ 100000
    → IsWorkload (word_of seed) sessions steps events → same ≡ events → Replayed keys same m → AreTallied m m.past.admitted t → digest ≡ sha256 (received_by m m.past.admitted)
    → entries ≡ length m.past.order → text ≡ summary_text sessions steps entries t digest → PrintsStress seed sessions steps text
prints seed sessions steps events same keys m entries t digest text are some few work is replayed tallied hashed count printed =
    let here = subst (λ (es : List Event). Replayed keys es m) is replayed in
    let opens : m.past.admitted ≡ sessions = here.admitted ∙ workload_opens (word_of seed) sessions steps events some few work in
    record {
      keys = keys;
      are_keys = are;
      events = events;
      workload = work;
      moment = m;
      replayed = here;
      tally = t;
      tallied = subst (λ (n : ℕ). AreTallied m n t) opens tallied;
      text_is = printed ∙ (λ i. summary_text sessions steps (count i) t ((hashed ∙ ap (λ (n : ℕ). sha256 (received_by m n)) opens) i));
    }
