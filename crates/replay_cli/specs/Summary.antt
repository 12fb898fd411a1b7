-- What `stress` prints.
use Rattle.std.specs.Prelude.{◌≡◌, ℕ, zero, suc, pos, negsuc, ◌+◌, ◌==◌, List, [], ◌∷◌, ◌++◌, length, drop, codes, Bool, true, false, not, if◌then◌else◌}
use Rattle.std.specs.Fmt.{decimal}
use Rattle.std.specs.List.{starts_with}
use Rattle.hex.specs.Hex.{encode_lower}
use Rattle.sha2.specs.Sha256.{sha256}
use Rattle.jute_core.specs.Frames.{Stream}
use Rattle.jute_core.specs.Jute.{int_bytes}
use Rattle.payload_seal.specs.declared.keys.EntryKeys.{EntryKeys}
use Rattle.entry_session.specs.Sides.{bytes_of}
use Rattle.world_core.specs.Moments.{Moment}
use Rattle.audit_board.specs.Counts.{next}
use Rattle.replay_cli.specs.Hostile.{IsKeysOf}
use Rattle.replay_cli.specs.Printed.{line}
use Rattle.replay_cli.specs.Workload.{IsWorkload, word_of}
use Rattle.replay_cli.specs.Worlds.{Replayed}
use Rattle.replay_cli.specs.declared.script.Event.{Event}
use Rattle.replay_cli.specs.declared.tally.Tally.{Tally}

-- ---- what was received

-- A reply and an event begin with an xid, a zxid and the code of an error, in 4, 8 and 4 bytes (ReplyHeader of zookeeper.jute). An event has xid -1.
abbrev pub is_event : List ℕ → Bool
is_event body = starts_with ◌==◌ body (int_bytes (negsuc 0))

abbrev pub has_error : List ℕ → Bool
has_error body = not (starts_with ◌==◌ (drop 12 body) (int_bytes (pos 0)))

-- one more where this holds; a count stands still at the last value of a u64
abbrev pub next_where : Bool → ℕ → ℕ
next_where holds n = if holds then next n else n

-- a reply or an event is counted
unfoldable pub with_body : Tally → List ℕ → Tally
with_body t body = record {
  events = next_where (is_event body) t.events;
  replies = next_where (not (is_event body)) t.replies;
  errors = next_where (has_error body) t.errors;
}

unfoldable pub with_bodies : Tally → List (List ℕ) → Tally
with_bodies t [] = t
with_bodies t (body ∷ bodies) = with_bodies (with_body t body) bodies

-- the first frame that a client received answers its connect request and is not counted
unfoldable pub with_received : Tally → List (List ℕ) → Tally
with_received t [] = t
with_received t (connected ∷ bodies) = with_bodies t bodies

abbrev pub received_at : Moment → ℕ → List ℕ
received_at m c = bytes_of (m.links c).stand.down

-- the whole frames that the clients of so many connections received come to this
unfoldable pub AreTallied : Moment → ℕ → Tally → Type 0
AreTallied m zero t = t ≡ record { events = 0; replies = 0; errors = 0 }
AreTallied m (suc c) t = (before : Tally) × AreTallied m c before × (bodies : List (List ℕ)) × (rest : List ℕ) × Stream bodies rest (received_at m (suc c))
    × (t ≡ with_received before bodies)

-- all that they received, one after another
unfoldable pub received_by : Moment → ℕ → List ℕ
received_by m zero = []
received_by m (suc c) = received_by m c ++ received_at m (suc c)

-- ---- what is printed

abbrev pub summary_text : ℕ → ℕ → ℕ → Tally → List ℕ → List ℕ
summary_text sessions steps entries t digest =
    line (codes "sessions ") (decimal sessions)
    ++ line (codes "steps ") (decimal steps)
    ++ line (codes "entries ") (decimal entries)
    ++ line (codes "events ") (decimal t.events)
    ++ line (codes "replies ") (decimal t.replies)
    ++ line (codes "errors ") (decimal t.errors)
    ++ line (codes "digest ") (encode_lower digest)

-- the key file of `stress`: 64 bytes, counted up from 0
abbrev pub stress_key : List ℕ
stress_key =
    0 ∷ 1 ∷ 2 ∷ 3 ∷ 4 ∷ 5 ∷ 6 ∷ 7 ∷ 8 ∷ 9 ∷ 10 ∷ 11 ∷ 12 ∷ 13 ∷ 14 ∷ 15
    ∷ 16 ∷ 17 ∷ 18 ∷ 19 ∷ 20 ∷ 21 ∷ 22 ∷ 23 ∷ 24 ∷ 25 ∷ 26 ∷ 27 ∷ 28 ∷ 29 ∷ 30 ∷ 31
    ∷ 32 ∷ 33 ∷ 34 ∷ 35 ∷ 36 ∷ 37 ∷ 38 ∷ 39 ∷ 40 ∷ 41 ∷ 42 ∷ 43 ∷ 44 ∷ 45 ∷ 46 ∷ 47
    ∷ 48 ∷ 49 ∷ 50 ∷ 51 ∷ 52 ∷ 53 ∷ 54 ∷ 55 ∷ 56 ∷ 57 ∷ 58 ∷ 59 ∷ 60 ∷ 61 ∷ 62 ∷ 63 ∷ []

-- The text is what the workload of this seed, so many sessions and so many steps prints. It is a replay, of which the headline holds: its
-- order has so many entries, and its clients received so much.
pub record PrintsStress (seed sessions steps : ℕ) (text : List ℕ) : Type 0 where
  pub keys : EntryKeys
  pub are_keys : IsKeysOf stress_key keys
  pub events : List Event
  pub workload : IsWorkload (word_of seed) sessions steps events
  pub moment : Moment
  pub replayed : Replayed keys events moment
  pub tally : Tally
  pub tallied : AreTallied moment sessions tally
  pub text_is : text ≡ summary_text sessions steps (length moment.past.order) tally (sha256 (received_by moment sessions))
