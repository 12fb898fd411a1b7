-- A copy of the sessions keeps what they keep.
use Rattle.std.proofs.Common.{◌≡◌, ℕ, ℤ, List, [], ◌∷◌, string_bytes, map, Option, int_cmp, nat_cmp, All, refl, sym, ap, ap₂, subst, ◌∙◌}
use Rattle.std.specs.BTreeMap.{insert_entry, is_at}
use Rattle.std.specs.Cmp.{int_cmp_total}
use Rattle.std.specs.List.{AllZip}
use Rattle.std.specs.List.Sorted.{IsStrictlySortedBy}
use Rattle.std.specs.Map.{keys_of, lookup}
use Rattle.std.proofs.lemmas.List.Elements.{All-nil, All-cons, All-head, All-tail}
use Rattle.zk_path.specs.Paths.{IsTextOf}
use Rattle.tree_state.specs.declared.session.Session as code
use Rattle.tree_state.specs.declared.session.Sessions.{Sessions}
use Rattle.tree_state.specs.State.{Session}
use Rattle.tree_state.specs.Sessions.{Keeps, Owning, OwnsPaths, OwnTexts, IsCopy, session_at_key}
use Rattle.tree_state.proofs.CopiedMaps.{AreAlike, IsCopiedUpTo, entry_copied, same_texts}

pub session_copied : (x y : code.Session) → y.timeout ≡ x.timeout → y.password ≡ x.password → y.heard ≡ x.heard → y.connection ≡ x.connection
    → AllZip (λ s t. string_bytes t ≡ string_bytes s) x.ephemerals.items y.ephemerals.items → IsCopy x y
unfolding session_at_key
session_copied x y timeout password heard connection texts = record {
  same = λ session.
      ap (λ (z : ℤ). record { number = session; timeout = z; password = y.password; heard = y.heard; connection = y.connection }) timeout
      ∙ ap (λ (z : List ℕ). record { number = session; timeout = x.timeout; password = z; heard = y.heard; connection = y.connection }) password
      ∙ ap (λ (z : ℤ). record { number = session; timeout = x.timeout; password = x.password; heard = z; connection = y.connection }) heard
      ∙ ap (λ (z : Option ℕ). record { number = session; timeout = x.timeout; password = x.password; heard = x.heard; connection = z }) connection;
  texts = same_texts x.ephemerals.items y.ephemerals.items texts;
}

abbrev pub Entry : Type 0
Entry = ℤ × code.Session

-- a copy of the session under the same number
pub record IsSessionCopy (e f : Entry) : Type 0 where
  pub number : f.0 ≡ e.0
  pub session : IsCopy e.1 f.1

alike_numbers : AreAlike int_cmp IsSessionCopy
alike_numbers e f c k = (ap (λ (x : ℤ). int_cmp x k) c.number, ap (λ (x : ℤ). int_cmp k x) c.number)

-- one more entry
pub entry_kept : (made after left rest all : List Entry) (e : Entry) (k : ℤ) (x : code.Session) → IsStrictlySortedBy int_cmp (keys_of all) → left ≡ e ∷ rest
    → k ≡ e.0 → IsCopy e.1 x → after ≡ insert_entry int_cmp made k x → IsCopiedUpTo IsSessionCopy made left all → IsCopiedUpTo IsSessionCopy after rest all
entry_kept made after left rest all e k x sorted next number session more so_far =
    entry_copied int_cmp IsSessionCopy int_cmp_total alike_numbers made after left rest all e (k, x) sorted next (record { number = number; session = session }) more so_far

same_sessions : (es fs : List Entry) → AllZip IsSessionCopy es fs → map session_at_key fs ≡ map session_at_key es
same_sessions [] [] h = refl
same_sessions [] (f ∷ fs) h = absurd h
same_sessions (e ∷ es) [] h = absurd h
same_sessions (e ∷ es) (f ∷ fs) h =
    ap₂ (λ (x : Session) (xs : List Session). x ∷ xs) (h.0.session.same f.0 ∙ ap (λ (z : ℤ). session_at_key (z, e.1)) h.0.number) (same_sessions es fs h.1)

owns_over : (owned : Owning) (e f : Entry) → IsSessionCopy e f → OwnsPaths owned e → OwnsPaths owned f
unfolding OwnTexts
owns_over owned e f c h =
    subst (λ (z : ℤ). AllZip IsTextOf (map string_bytes f.1.ephemerals.items) (owned z)) (sym c.number)
    (subst (λ (xs : List (List ℕ)). AllZip IsTextOf xs (owned e.0)) (sym c.session.texts) h)

all_own : (owned : Owning) (es fs : List Entry) → AllZip IsSessionCopy es fs → All (OwnsPaths owned) es → All (OwnsPaths owned) fs
all_own owned [] [] h a = All-nil (OwnsPaths owned)
all_own owned [] (f ∷ fs) h a = absurd h
all_own owned (e ∷ es) [] h a = absurd h
all_own owned (e ∷ es) (f ∷ fs) h a =
    All-cons (OwnsPaths owned) f fs (owns_over owned e f h.0 (All-head (OwnsPaths owned) e es a)) (all_own owned es fs h.1 (All-tail (OwnsPaths owned) e es a))

same_connections : (es fs : List (ℕ × ℤ)) → AllZip (λ p q. (q.0 ≡ p.0) × (q.1 ≡ p.1)) es fs → fs ≡ es
same_connections [] [] h = refl
same_connections [] (f ∷ fs) h = absurd h
same_connections (e ∷ es) [] h = absurd h
same_connections (e ∷ es) (f ∷ fs) h =
    ap₂ (λ (x : ℕ × ℤ) (xs : List (ℕ × ℤ)). x ∷ xs) (ap₂ (λ (c : ℕ) (k : ℤ). (c, k)) h.0.0 h.0.1) (same_connections es fs h.1)

pub copy_keeps : (t u : Sessions) → AllZip IsSessionCopy t.live.entries u.live.entries
    → AllZip (λ p q. (q.0 ≡ p.0) × (q.1 ≡ p.1)) t.connections.entries u.connections.entries
    → (xs : List Session) (owned : Owning) → Keeps t xs owned → Keeps u xs owned
copy_keeps t u c d xs owned h = record {
  sessions = same_sessions t.live.entries u.live.entries c ∙ h.sessions;
  connections = λ k. ap (λ (es : List (ℕ × ℤ)). lookup (is_at (nat_cmp k)) es) (same_connections t.connections.entries u.connections.entries d) ∙ h.connections k;
  one = h.one;
  owns = all_own owned t.live.entries u.live.entries c h.owns;
}
