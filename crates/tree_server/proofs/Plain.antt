-- What was told is what the machine sends.
use Rattle.std.proofs.Common.{◌≡◌, ℕ, ℤ, List, [], ◌++◌, refl, sym, ap, ◌∙◌, append-nil}
use Rattle.tree_state.specs.declared.message.Message.{Message}
use Rattle.tree_state.specs.declared.message.Output.{Output}
use Rattle.tree_state.specs.State.{State, start}
use Rattle.tree_state.specs.Step.{Act}
use Rattle.store_side.specs.declared.ending.StoreEnding.{StoreEnding}
use Rattle.store_side.specs.Out.{out, outputs, to_connection}
use Rattle.store_side.specs.Past.{Past, Later, state_of}
use Rattle.store_side.proofs.Sound.{out_grown}
use Rattle.tree_server.specs.Servers.{EndsAt, by_frame, by_length, for_memory, EndsBy, taken, refused, wants, wants_first, Gained}

-- as ServerStands says it
abbrev pub IsPlain : Past → Type 0
IsPlain past = (c : ℕ) → past.told c ≡ out past.naming past.acts c

-- more acts, and what is sent for them
pub out_more : (past : Past) (acts : List Act) (c : ℕ)
    → out past.naming (past.acts ++ acts) c ≡ out past.naming past.acts c ++ to_connection c (outputs past.naming (state_of past) acts)
unfolding state_of
out_more past acts c = out_grown past.naming past.acts acts c

pub plain_sent : (past : Past) (acts : List Act) (sent : List Output) → IsPlain past → sent ≡ outputs past.naming (state_of past) acts
    → (c : ℕ) → past.told c ++ to_connection c sent ≡ out past.naming (past.acts ++ acts) c
plain_sent past acts sent plain e c =
    (λ i. plain c i ++ to_connection c (e i)) ∙ sym (out_more past acts c)

pub plain_more : (old new : Past) (later : Later old new)
    → ((c : ℕ) → later.more_told c ≡ to_connection c (outputs old.naming (state_of old) later.more_acts)) → IsPlain old → IsPlain new
plain_more old new later tells plain c =
    later.told c ∙ (λ i. plain c i ++ tells c i) ∙ sym (out_more old later.more_acts c)
    ∙ (λ i. out (sym later.naming i) (sym later.acts i) c)

-- acts for which nothing is sent
pub plain_quiet : (past : Past) (acts : List Act) → IsPlain past → [] ≡ outputs past.naming (state_of past) acts
    → (c : ℕ) → past.told c ≡ out past.naming (past.acts ++ acts) c
unfolding to_connection
plain_quiet past acts plain none c = sym (append-nil (past.told c)) ∙ plain_sent past acts [] plain none c

-- ---- where a connection ends

plain_by : (c : ℕ) (now : ℤ) (body : List ℕ) (old new : Past) (e : StoreEnding) → EndsBy c now body old new e → IsPlain old → IsPlain new
plain_by c now body old new e (taken x n moved frames g fin written) plain = plain_more old new g.later g.tells plain
plain_by c now body old new e (refused x r written) plain = plain
plain_by c now body old new e (wants n moved frames g) plain = plain_more old new g.later g.tells plain
plain_by c now body old new e wants_first plain = plain

pub plain_at : (c : ℕ) (now : ℤ) (old : Past) (left : List ℕ) (new : Past) (e : StoreEnding) → EndsAt c now old left new e → IsPlain old → IsPlain new
plain_at c now old left new e (by_frame n x body more begins short h) plain = plain_by c now body old new e h plain
plain_at c now old left new e (by_length z h written) plain = plain
plain_at c now old left new e for_memory plain = plain
