-- What a change comes to can be sent, and its result has at most five times the bytes of the operation that asks for it.
use Rattle.std.proofs.Common.{◌≡◌, ◌≢◌, ℕ, ℤ, pos, ◌+◌, ◌*◌, ◌≤◌, Bool, true, false, List, ◌∷◌, length, Option, Some, None, refl, ap, sym, arith}
use Rattle.std.proofs.lemmas.List.Elements.{All-nil}
use Rattle.jute_core.specs.Jute.{buffer}
use Rattle.zk_path.specs.Paths.{text_of, IsTextOf, IsNamed}
use Rattle.zk_records.specs.declared.create.CreateRequest.{CreateRequest}
use Rattle.zk_messages.specs.Sending.{IsShortOutcome}
use Rattle.zk_messages.specs.declared.request.Op.{Op}
use Rattle.zk_messages.specs.declared.request.Op.TheVariants as ops
use Rattle.zk_messages.proofs.Sizes.{size, op_size}
use Rattle.tree_state.specs.declared.node.Moment.{Moment}
use Rattle.tree_state.specs.Nodes.{Path, Node, find}
use Rattle.tree_state.specs.State.{State}
use Rattle.tree_state.specs.Commands.{Change, create, delete, set_content, check, IsCreate, IsChange}
use Rattle.tree_state.specs.Changes.{Trial, failed, done, need, refuse, Naming, Effect, perform, name_for, created, creation_result, deleted, updated}
use Rattle.tree_state.specs.Step.{outcome_of}
use Rattle.store_side.specs.Fitting.{AllCanBeSent, IsShortNaming, frame_limit}
use Rattle.store_side.proofs.RefusedCodes.{below_zero}
use Rattle.store_side.proofs.ReplyLengths.{result_size}
use Rattle.store_side.proofs.ShortEvents.{IsShortPath, OutputCanBeSent, creation_sent, deletion_sent, content_sent}

-- ---- checks in order

-- it failed with a code that is not 0, or what was done is so
abbrev pub ComesTo : {A : Type 0} → (A → Type 0) → Trial ℤ A → Type 0
ComesTo P (failed code) = code ≢ pos 0
ComesTo P (done a) = P a

pub need_comes : {A B : Type 0} (P : B → Type 0) (o : Option A) (code : ℤ) (next : A → Trial ℤ B) → code ≢ pos 0
    → ((a : A) → o ≡ Some a → ComesTo P (next a)) → ComesTo P (need o code next)
unfolding need
need_comes P None code next h k = h
need_comes P (Some a) code next h k = k a refl

pub refuse_comes : {B : Type 0} (P : B → Type 0) (b : Bool) (code : ℤ) (next : Trial ℤ B) → code ≢ pos 0 → ComesTo P next
    → ComesTo P (refuse b code next)
unfolding refuse
refuse_comes P true code next h k = h
refuse_comes P false code next h k = k

-- ---- what changes come to

-- of a change whose operation has n bytes
pub record IsShortEffect (n : ℕ) (e : Effect) : Type 0 where
  pub short : IsShortOutcome (outcome_of e.result)
  pub small : result_size e.result ≤ 5 * n
  pub told : AllCanBeSent e.events

-- the operation is no longer than in a frame of its own
abbrev pub IsShortChange : ℕ → Type 0
IsShortChange n = n ≤ frame_limit + 8

created_short : (at : Moment) (p : Path) (m : List ℕ) (node : Node) (stat : Bool) (s : State) (n : ℕ) → IsShortPath (m ∷ p)
    → length (text_of (m ∷ p)) + 81 ≤ 5 * n → IsShortEffect n (created at p m node stat s)
unfolding created creation_result outcome_of
created_short at p m node true s n h k = record { short = omega (arith, h); small = k; told = creation_sent p m s.watches h }
created_short at p m node false s n h k = record {
  short = omega (arith, h);
  small = omega (arith, k);
  told = creation_sent p m s.watches h;
}

-- the text of the new node is at most 20 bytes longer than the text that was asked for
named_short : (naming : Naming) (p : Path) (n m text : List ℕ) (sequential : Bool) (up : Node) → IsShortNaming naming
    → IsNamed sequential text (n ∷ p) → name_for naming p n sequential up ≡ Some m → length (text_of (m ∷ p)) ≤ length text + 20
unfolding name_for IsNamed
named_short naming p n m text true up h k e =
    let bound = h n p up.numbers.creations m k.0 e in
    let same = ap length k.1 in
    omega arith
named_short naming p n m text false up h k e =
    let name : n ≡ m = cc in
    let same = ap length k.spelled in
    let moved = ap (λ (x : List ℕ). length (text_of (x ∷ p))) name in
    omega arith

content_size : (content : Option (List ℕ)) → 4 ≤ size buffer content
content_size None = omega arith
content_size (Some bytes) = omega arith

create_short : (naming : Naming) (at : Moment) (s : State) (r : CreateRequest) (p : Path) (m : List ℕ) (content : Option (List ℕ))
    (sequential ephemeral stat : Bool) (n : ℕ)
    → IsShortNaming naming → IsCreate r p m content sequential ephemeral → length r.path + 21 ≤ n → IsShortChange n
    → ComesTo (IsShortEffect n) (perform naming at s (create p m content sequential ephemeral stat))
unfolding perform
create_short naming at s r p m content sequential ephemeral stat n naming_short is enough short =
    need_comes (IsShortEffect n) (find s.nodes p) _ _ (below_zero 100) λ up found.
    refuse_comes (IsShortEffect n) _ _ _ (below_zero 107) (
    refuse_comes (IsShortEffect n) _ _ _ (below_zero 0) (
    need_comes (IsShortEffect n) (name_for naming p m sequential up) _ _ (below_zero 7) λ name named.
    let bound = named_short naming p m name r.path sequential up naming_short is.named named in
    refuse_comes (IsShortEffect n) _ _ _ (below_zero 109) (
    created_short at p name _ stat s n (omega arith) (omega arith))))

text_size : (text : List ℕ) (p : Path) → IsTextOf text p → length (text_of p) ≡ length text
text_size text p h = ap length (sym h.spelled)

delete_short : (naming : Naming) (at : Moment) (s : State) (p : Path) (version : ℤ) (n : ℕ) → IsShortPath p → 2 ≤ n
    → ComesTo (IsShortEffect n) (perform naming at s (delete p version))
unfolding perform deleted outcome_of
delete_short naming at s p version n short enough =
    need_comes (IsShortEffect n) (find s.nodes p) _ _ (below_zero 100) λ node found.
    refuse_comes (IsShortEffect n) _ _ _ (below_zero 102) (
    refuse_comes (IsShortEffect n) _ _ _ (below_zero 110) (
    record { short = tt; small = omega arith; told = deletion_sent p s.watches short }))

update_short : (naming : Naming) (at : Moment) (s : State) (p : Path) (content : Option (List ℕ)) (version : ℤ) (n : ℕ) → IsShortPath p
    → 16 ≤ n → ComesTo (IsShortEffect n) (perform naming at s (set_content p content version))
unfolding perform updated outcome_of
update_short naming at s p content version n short enough =
    need_comes (IsShortEffect n) (find s.nodes p) _ _ (below_zero 100) λ node found.
    refuse_comes (IsShortEffect n) _ _ _ (below_zero 102) (
    refuse_comes (IsShortEffect n) _ _ _ (below_zero 0) (
    record { short = tt; small = omega arith; told = content_sent p s.watches short }))

check_short : (naming : Naming) (at : Moment) (s : State) (p : Path) (version : ℤ) (n : ℕ) → 2 ≤ n
    → ComesTo (IsShortEffect n) (perform naming at s (check p version))
unfolding perform outcome_of
check_short naming at s p version n enough =
    need_comes (IsShortEffect n) (find s.nodes p) _ _ (below_zero 100) λ node found.
    refuse_comes (IsShortEffect n) _ _ _ (below_zero 102) (
    record { short = tt; small = omega arith; told = All-nil OutputCanBeSent })

pub change_short : (naming : Naming) (at : Moment) (s : State) (op : Op) (c : Change) → IsShortNaming naming → IsChange op c
    → IsShortChange (op_size op) → ComesTo (IsShortEffect (op_size op)) (perform naming at s c)
unfolding IsChange
change_short naming at s (ops.Create r) (create p n content sequential ephemeral stat) h is short =
    create_short naming at s r p n content sequential ephemeral stat _ h is.0 (omega (arith, content_size r.content)) short
change_short naming at s (ops.Create2 r) (create p n content sequential ephemeral stat) h is short =
    create_short naming at s r p n content sequential ephemeral stat _ h is.0 (omega (arith, content_size r.content)) short
change_short naming at s (ops.Delete r) (delete p version) h is short =
    let same = text_size r.path p is.0 in
    delete_short naming at s p version _ (omega arith) (omega arith)
change_short naming at s (ops.SetContent r) (set_content p content version) h is short =
    let same = text_size r.path p is.0 in
    update_short naming at s p content version _ (omega arith) (omega (arith, content_size r.content))
change_short naming at s (ops.Check r) (check p version) h is short = check_short naming at s p version _ (omega arith)
change_short naming at s op c h is short = absurd is
