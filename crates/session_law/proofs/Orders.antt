-- Orders on both sides: what the entries ask, and which may come next.
use Rattle.std.proofs.Common.{◌≡◌, ℕ, ℤ, pos, ◌+ℤ◌, List, [], ◌∷◌, Some, None, inl, inr, refl, sym, ap, subst, ◌∙◌}
use Rattle.std.specs.Prelude.{◌≤ℤ◌}
use Rattle.path_seal.specs.Sealed.{AreKeys}
use Rattle.payload_seal.specs.declared.keys.EntryKeys.{EntryKeys}
use Rattle.zk_records.specs.declared.connect.ConnectRequest.{ConnectRequest}
use Rattle.zk_messages.specs.declared.request.Request.{Request}
use Rattle.request_rewrite.specs.Veil.{Veil}
use Rattle.counter_enclave.specs.Enclave.{IsSealedName}
use Rattle.tree_state.specs.declared.session.Given.{Given}
use Rattle.tree_state.specs.State.{State, Session, session_of, session_at}
use Rattle.tree_state.specs.Trees.{IsNaming}
use Rattle.tree_state.specs.Plain.{plain}
use Rattle.tree_state.specs.Changes.{Naming}
use Rattle.tree_state.specs.Commands.{Command, IsCommand}
use Rattle.tree_state.specs.Step.{Act, connects, asks as asking, loses, expires, given_to}
use Rattle.tree_state.proofs.OneCommand.{one_command}
unfoldable pub use Rattle.store_side.specs.Acts.{IsAct}
unfoldable pub use Rattle.store_side.specs.Orders.{IsFree, MayCome, HasLast, LegalFrom, HasNoConnect, ConnectsOnce}
unfoldable pub use Rattle.session_law.specs.Law.{VeilsEntry}
pub use Rattle.store_side.specs.declared.entry.Entry.{Entry}
pub use Rattle.store_side.specs.declared.entry.Entry.TheVariants.{Connect, Take, Lost, Expire}
pub use Rattle.store_side.specs.Acts.{IsAsked}
pub use Rattle.store_side.specs.Orders.{MayConnect, HasSession, IsOver, IsNext, given_in, next_session}
pub use Rattle.session_law.specs.Law.{IsVeiled}
use Rattle.store_side.proofs.Zipping.{Zips}
use Rattle.sealed_machine.proofs.SealedStates.{IsSealedState}
use Rattle.sealed_machine.proofs.SealedRequests.{veiled_command}
use Rattle.sealed_machine.proofs.SealedSteps.{VeilsAct, step_sealed}

-- a request whose veiled form is a request is one command
some_command : (k : EntryKeys) (ivs : List (List ℕ)) (r v : Request) → Veil k ivs r v → (command : Command) × IsCommand r command
unfolding Veil
some_command k ivs r v (inl (code, h, e, none)) = (one_command r).some (Some code) h
some_command k ivs r v (inr (ok, h)) = (one_command r).some None ok

-- the act of the plain entry
pub record PlainAct (k : EntryKeys) (e : Entry) (g : Act) : Type 0 where
  pub act : Act
  pub is : IsAct e act
  pub veils : VeilsAct k act g

same_act : (k : EntryKeys) (e : Entry) (f g : Act) → f ≡ g → IsAct e f → VeilsAct k f f → PlainAct k e g
same_act k e f g i a v = record { act = f; is = a; veils = subst (λ (x : Act). VeilsAct k f x) i v }

take_act : (k : EntryKeys) → AreKeys k.names → (c d : ℕ) (xid other : ℤ) (r v : Request) (zxid now at then_ : ℤ) (g : Act) → c ≡ d → xid ≡ other → IsVeiled k r v → now ≡ then_ → IsAsked d other v then_ g → PlainAct k (Take c xid r zxid now) g
unfolding IsAct VeilsAct
take_act k w c d xid other r v zxid now at then_ g ec ex h en a =
    let p = some_command k h.ivs r v h.veil in
    record {
      act = asking c xid p.0 now;
      is = record { command = p.0; is_command = p.1; is = refl };
      veils = subst (λ (x : Act). VeilsAct k (asking c xid p.0 now) x) (sym a.is) (ec, ex, veiled_command k w h.ivs r v p.0 a.command h.are_ivs h.veil p.1 a.is_command, en);
    }

pub plain_act : (k : EntryKeys) → AreKeys k.names → (e f : Entry) (g : Act) → VeilsEntry k e f → IsAct f g → PlainAct k e g
unfolding VeilsEntry IsAct VeilsAct
plain_act k w (Take c xid r zxid now) (Take d other v at then_) g h a = take_act k w c d xid other r v zxid now at then_ g h.0 h.1 h.2 h.4 a
plain_act k w (Take c xid r zxid now) f g h a = absurd h
plain_act k w (Connect c asked session timeout password zxid now) f g h a = record { act = g; is = subst (λ (x : Entry). IsAct x g) (sym h) a; veils = self g (subst (λ (x : Entry). IsAct x g) (sym h) a) }
  where
    self : (g : Act) → g ≡ connects c asked (record { session = session; timeout = timeout; password = password }) now → VeilsAct k g g
    self g e = subst (λ (x : Act). VeilsAct k x x) (sym e) refl
plain_act k w (Lost c) f g h a = record { act = g; is = subst (λ (x : Entry). IsAct x g) (sym h) a; veils = self g (subst (λ (x : Entry). IsAct x g) (sym h) a) }
  where
    self : (g : Act) → g ≡ loses c → VeilsAct k g g
    self g e = subst (λ (x : Act). VeilsAct k x x) (sym e) refl
plain_act k w (Expire session zxid now) f g h a = record { act = g; is = subst (λ (x : Entry). IsAct x g) (sym h) a; veils = self g (subst (λ (x : Entry). IsAct x g) (sym h) a) }
  where
    self : (g : Act) → g ≡ expires session now → VeilsAct k g g
    self g e = subst (λ (x : Act). VeilsAct k x x) (sym e) refl

pub record PlainActs (k : EntryKeys) (es : List Entry) (gs : List Act) : Type 0 where
  pub acts : List Act
  pub are : Zips IsAct es acts
  pub veil : Zips (VeilsAct k) acts gs

pub plain_acts : (k : EntryKeys) → AreKeys k.names → (es fs : List Entry) (gs : List Act) → Zips (VeilsEntry k) es fs → Zips IsAct fs gs → PlainActs k es gs
unfolding Zips
plain_acts k w [] [] [] h a = record { acts = []; are = tt; veil = tt }
plain_acts k w [] [] (g ∷ gs) h a = absurd a
plain_acts k w [] (f ∷ fs) gs h a = absurd h
plain_acts k w (e ∷ es) [] gs h a = absurd h
plain_acts k w (e ∷ es) (f ∷ fs) [] h a = absurd a
plain_acts k w (e ∷ es) (f ∷ fs) (g ∷ gs) h a =
    let one = plain_act k w e f g h.0 a.0 in
    let more = plain_acts k w es fs gs h.1 a.1 in
    record { acts = one.act ∷ more.acts; are = (one.is, more.are); veil = (one.veils, more.veil) }

-- ---- which may come

may_connect : (k : EntryKeys) (passwords : ℤ → List ℕ) (s t : State) (asked : ConnectRequest) (given : Given) → IsSealedState k s t → MayConnect passwords t asked given → MayConnect passwords s asked given
may_connect k passwords s t asked given h m = record {
  seen = subst (λ (z : ℤ). asked.seen ≤ℤ z) (sym h.last) m.seen;
  given_is = m.given_is ∙ (λ i. given_to (sym h.sessions i) asked (sym h.greatest i +ℤ pos 1) (passwords (sym h.greatest i +ℤ pos 1)));
  free = subst (λ (xs : List Session). IsFree (session_at given.session xs)) (sym h.sessions) m.free;
}

has_session : (k : EntryKeys) (s t : State) (c : ℕ) → IsSealedState k s t → HasSession t c → HasSession s c
has_session k s t c h m = record { session = m.session; live = ap (session_of c) h.sessions ∙ m.live }

is_over : (k : EntryKeys) (s t : State) (session now : ℤ) → IsSealedState k s t → IsOver t session now → IsOver s session now
is_over k s t session now h m = record { one = m.one; live = ap (session_at session) h.sessions ∙ m.live; up = m.up }

same_may : (k : EntryKeys) (passwords : ℤ → List ℕ) (s t : State) (e : Entry) → IsSealedState k s t → MayCome passwords t e → MayCome passwords s e
unfolding MayCome
same_may k passwords s t (Connect c asked session timeout password zxid now) h m = may_connect k passwords s t asked _ h m
same_may k passwords s t (Take c xid r zxid now) h m = has_session k s t c h m
same_may k passwords s t (Lost c) h m = has_session k s t c h m
same_may k passwords s t (Expire session zxid now) h m = is_over k s t session now h m

may_come : (k : EntryKeys) (passwords : ℤ → List ℕ) (s t : State) (e f : Entry) → IsSealedState k s t → VeilsEntry k e f → MayCome passwords t f → MayCome passwords s e
unfolding VeilsEntry MayCome
may_come k passwords s t (Take c xid r zxid now) (Take d other v at then_) h i m = has_session k s t c h (subst (HasSession t) (sym i.0) m)
may_come k passwords s t (Take c xid r zxid now) f h i m = absurd i
may_come k passwords s t (Connect c asked session timeout password zxid now) f h i m = same_may k passwords s t (Connect c asked session timeout password zxid now) h (subst (λ (x : Entry). MayCome passwords t x) (sym i) m)
may_come k passwords s t (Lost c) f h i m = same_may k passwords s t (Lost c) h (subst (λ (x : Entry). MayCome passwords t x) (sym i) m)
may_come k passwords s t (Expire session zxid now) f h i m = same_may k passwords s t (Expire session zxid now) h (subst (λ (x : Entry). MayCome passwords t x) (sym i) m)

same_last : (k : EntryKeys) (e f : Entry) (last : ℤ) → VeilsEntry k e f → HasLast f last → HasLast e last
unfolding VeilsEntry HasLast
same_last k (Take c xid r zxid now) (Take d other v at then_) last i l = i.3 ∙ l
same_last k (Take c xid r zxid now) f last i l = absurd i
same_last k (Connect c asked session timeout password zxid now) f last i l = subst (λ (x : Entry). HasLast x last) (sym i) l
same_last k (Lost c) f last i l = tt
same_last k (Expire session zxid now) f last i l = subst (λ (x : Entry). HasLast x last) (sym i) l

-- the filled order may come where the store's does
pub legal_filled : (k : EntryKeys) (w : AreKeys k.names) (naming : Naming) (names : IsNaming (IsSealedName k.names) naming) (passwords : ℤ → List ℕ) (es fs : List Entry) (as_ gs : List Act) (s t : State)
    → Zips (VeilsEntry k) es fs → Zips (VeilsAct k) as_ gs → IsSealedState k s t → LegalFrom naming passwords t fs gs → LegalFrom plain passwords s es as_
unfolding LegalFrom Zips
legal_filled k w naming names passwords [] [] [] [] s t i v h l = tt
legal_filled k w naming names passwords [] [] [] (g ∷ gs) s t i v h l = absurd v
legal_filled k w naming names passwords [] [] (a ∷ as_) [] s t i v h l = absurd v
legal_filled k w naming names passwords [] [] (a ∷ as_) (g ∷ gs) s t i v h l = absurd l
legal_filled k w naming names passwords [] (f ∷ fs) as_ gs s t i v h l = absurd i
legal_filled k w naming names passwords (e ∷ es) [] as_ gs s t i v h l = absurd i
legal_filled k w naming names passwords (e ∷ es) (f ∷ fs) [] [] s t i v h l = absurd l
legal_filled k w naming names passwords (e ∷ es) (f ∷ fs) [] (g ∷ gs) s t i v h l = absurd v
legal_filled k w naming names passwords (e ∷ es) (f ∷ fs) (a ∷ as_) [] s t i v h l = absurd v
legal_filled k w naming names passwords (e ∷ es) (f ∷ fs) (a ∷ as_) (g ∷ gs) s t i v h l =
    let n = step_sealed k w naming names s t a g v.0 h in (
      record { may = may_come k passwords s t e f h i.0 l.0.may; last_is = subst (HasLast e) (sym n.state.last) (same_last k e f _ i.0 l.0.last_is) },
      legal_filled k w naming names passwords es fs as_ gs _ _ i.1 v.1 n.state l.1,
    )

-- ---- each connection connects once

no_connect : (k : EntryKeys) (c : ℕ) (es fs : List Entry) → Zips (VeilsEntry k) es fs → HasNoConnect c fs → HasNoConnect c es
unfolding Zips VeilsEntry HasNoConnect
no_connect k c [] [] i h = tt
no_connect k c [] (f ∷ fs) i h = absurd i
no_connect k c (e ∷ es) [] i h = absurd i
no_connect k c (Take d xid r zxid now ∷ es) (Take d' x' v' z' n' ∷ fs) i h = no_connect k c es fs i.1 h
no_connect k c (Take d xid r zxid now ∷ es) (f ∷ fs) i h = absurd i.0
no_connect k c (Connect d asked session timeout password zxid now ∷ es) (f ∷ fs) i h = let j = subst (λ (x : Entry). HasNoConnect c (x ∷ fs)) (sym i.0) h in (j.0, no_connect k c es fs i.1 j.1)
no_connect k c (Lost d ∷ es) (f ∷ fs) i h = let j = subst (λ (x : Entry). HasNoConnect c (x ∷ fs)) (sym i.0) h in no_connect k c es fs i.1 j
no_connect k c (Expire session zxid now ∷ es) (f ∷ fs) i h = let j = subst (λ (x : Entry). HasNoConnect c (x ∷ fs)) (sym i.0) h in no_connect k c es fs i.1 j

pub connects_once : (k : EntryKeys) (es fs : List Entry) → Zips (VeilsEntry k) es fs → ConnectsOnce fs → ConnectsOnce es
unfolding Zips VeilsEntry ConnectsOnce
connects_once k [] [] i h = tt
connects_once k [] (f ∷ fs) i h = absurd i
connects_once k (e ∷ es) [] i h = absurd i
connects_once k (Take d xid r zxid now ∷ es) (Take d' x' v' z' n' ∷ fs) i h = connects_once k es fs i.1 h
connects_once k (Take d xid r zxid now ∷ es) (f ∷ fs) i h = absurd i.0
connects_once k (Connect d asked session timeout password zxid now ∷ es) (f ∷ fs) i h = let j = subst (λ (x : Entry). ConnectsOnce (x ∷ fs)) (sym i.0) h in (no_connect k d es fs i.1 j.0, connects_once k es fs i.1 j.1)
connects_once k (Lost d ∷ es) (f ∷ fs) i h = let j = subst (λ (x : Entry). ConnectsOnce (x ∷ fs)) (sym i.0) h in connects_once k es fs i.1 j
connects_once k (Expire session zxid now ∷ es) (f ∷ fs) i h = let j = subst (λ (x : Entry). ConnectsOnce (x ∷ fs)) (sym i.0) h in connects_once k es fs i.1 j
