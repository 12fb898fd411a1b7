-- The code of a refusal can stand in a reply: it is an int, and not 0.
use Rattle.std.proofs.Common.{◌≡◌, ◌≢◌, ◌<◌, ℕ, ℤ, pos, negsuc, Bool, true, false, List, [], ◌∷◌, ◌++◌, Option, Some, None, inl, inr, sym, subst, arith}
use Rattle.std.proofs.lemmas.Int.{ints}
use Rattle.std.specs.Int.{w32}
use Rattle.std.specs.Int.RustNames.{FitsSigned}
use Rattle.zk_records.specs.declared.create.CreateRequest.{CreateRequest}
use Rattle.zk_messages.specs.Refuses.{Rule, IsAllowed, RefusesPath, RefusesNode, RefusesCreate, RefusesOp, RefusesOps, Refuses}
use Rattle.zk_messages.specs.declared.request.Op.{Op}
use Rattle.zk_messages.specs.declared.request.Op.TheVariants as ops
use Rattle.zk_messages.specs.declared.request.Request.{Request}
use Rattle.zk_messages.specs.declared.request.Request.TheVariants as requests
use Rattle.tree_state.specs.State.{State, session_of}
use Rattle.tree_state.specs.Commands.{Change, create, delete, set_content, check, Command, refused, single, multi, set_acl, stat_at, get_content, get_acl, get_children, sync, ping, set_watches, close, Asks, IsCommand}
use Rattle.tree_state.specs.Plain.{plain}
use Rattle.tree_state.specs.Step.{Act, step}
use Rattle.store_side.specs.Acts.{IsAct}
use Rattle.store_side.specs.Zips.{Zips}
use Rattle.store_side.specs.declared.entry.Entry.{Entry}
use Rattle.store_side.specs.declared.entry.Entry.TheVariants.{Connect, Take, Lost, Expire}
use Rattle.sealed_machine.specs.Veils.{change_asked, asked_of}
use Rattle.sealed_machine.specs.Runs.{Question, IsAnswerable, AreAnswerable, asked_if, asked_with, asked_in, all_asked}

record IsCode (code : ℤ) : Type 0 where
  other : code ≢ pos 0
  fits : FitsSigned w32 code

-- each code with which these rules refuse
HasCodes : (Option ℤ → Type 0) → Type 0
HasCodes Refused = (code : ℤ) → Refused (Some code) → IsCode code

below_zero : (n : ℕ) → n < 1000 → IsCode (negsuc n)
below_zero n l = record { other = λ e. cc; fits = omega (arith, ints) }

same_code : (a b : ℤ) → Some a ≡ Some b → IsCode b → IsCode a
same_code a b e h = let same : b ≡ a = cc in subst IsCode same h

allowed_codes : HasCodes IsAllowed
unfolding HasCodes
allowed_codes code h = absurd cc

rule_codes : (Holds : Type 0) (n : ℕ) (Next : Option ℤ → Type 0) → n < 1000 → HasCodes Next → HasCodes (Rule Holds (negsuc n) Next)
unfolding HasCodes Rule
rule_codes Holds n Next l next code (inl h) = same_code code (negsuc n) h.1 (below_zero n l)
rule_codes Holds n Next l next code (inr h) = next code h.1

path_codes : (path : List ℕ) → HasCodes (RefusesPath path)
path_codes path = rule_codes _ 7 IsAllowed (omega arith) allowed_codes

node_codes : (path : List ℕ) → HasCodes (RefusesNode path)
node_codes path = rule_codes _ 7 _ (omega arith) (rule_codes _ 7 IsAllowed (omega arith) allowed_codes)

create_codes : (r : CreateRequest) → HasCodes (RefusesCreate r)
create_codes r = rule_codes _ 7 _ (omega arith) (rule_codes _ 7 _ (omega arith) (rule_codes _ 7 _ (omega arith) (rule_codes _ 113 IsAllowed (omega arith) allowed_codes)))

op_codes : (op : Op) → HasCodes (RefusesOp op)
op_codes (ops.Create r) = create_codes r
op_codes (ops.Create2 r) = create_codes r
op_codes (ops.Delete r) = node_codes r.path
op_codes (ops.SetContent r) = node_codes r.path
op_codes (ops.Check r) = path_codes r.path

ops_codes : (list : List Op) → HasCodes (RefusesOps list)
unfolding HasCodes RefusesOps
ops_codes [] code h = absurd cc
ops_codes (op ∷ list) code (inl h) = same_code code h.0 h.2 (op_codes op h.0 h.1)
ops_codes (op ∷ list) code (inr h) = ops_codes list code h.1

request_codes : (r : Request) → HasCodes (Refuses r)
unfolding HasCodes Refuses
request_codes (requests.Unknown kind body) code h = same_code code (negsuc 5) h (below_zero 5 (omega arith))
request_codes (requests.Auth body) code h = same_code code (negsuc 114) h (below_zero 114 (omega arith))
request_codes (requests.Create r) code h = create_codes r code h
request_codes (requests.Create2 r) code h = create_codes r code h
request_codes (requests.Delete r) code h = node_codes r.path code h
request_codes (requests.Exists r) code h = path_codes r.path code h
request_codes (requests.GetContent r) code h = node_codes r.path code h
request_codes (requests.SetContent r) code h = node_codes r.path code h
request_codes (requests.GetAcl r) code h = path_codes r.path code h
request_codes (requests.SetAcl r) code h = rule_codes _ 7 _ (omega arith) (rule_codes _ 113 IsAllowed (omega arith) allowed_codes) code h
request_codes (requests.GetChildren r) code h = path_codes r.path code h
request_codes (requests.GetChildren2 r) code h = path_codes r.path code h
request_codes (requests.Sync r) code h = path_codes r.path code h
request_codes requests.Ping code h = absurd cc
request_codes (requests.Multi list) code h = ops_codes list code h
request_codes (requests.SetWatches r) code h = rule_codes _ 7 _ (omega arith) (rule_codes _ 7 _ (omega arith) (rule_codes _ 7 IsAllowed (omega arith) allowed_codes)) code h
request_codes requests.Close code h = absurd cc

-- ---- commands

never_refused : (r : Request) (code : ℤ) → Asks r (refused code) → ⊥
unfolding Asks
never_refused (requests.Unknown kind body) code h = h
never_refused (requests.Auth body) code h = h
never_refused (requests.Create r) code h = h
never_refused (requests.Create2 r) code h = h
never_refused (requests.Delete r) code h = h
never_refused (requests.Exists r) code h = h
never_refused (requests.GetContent r) code h = h
never_refused (requests.SetContent r) code h = h
never_refused (requests.GetAcl r) code h = h
never_refused (requests.SetAcl r) code h = h
never_refused (requests.GetChildren r) code h = h
never_refused (requests.GetChildren2 r) code h = h
never_refused (requests.Sync r) code h = h
never_refused requests.Ping code h = h
never_refused (requests.Multi list) code h = h
never_refused (requests.SetWatches r) code h = h
never_refused requests.Close code h = h

change_answerable : (c : Change) → IsAnswerable (change_asked c)
unfolding IsAnswerable change_asked
change_answerable (create p n d q e false) = tt
change_answerable (create p n d q e true) = tt
change_answerable (delete p v) = tt
change_answerable (set_content p d v) = tt
change_answerable (check p v) = tt

asked_answerable : (r : Request) (a : Command) → Asks r a → IsAnswerable (asked_of a)
unfolding IsAnswerable asked_of
asked_answerable r (refused code) h = absurd (never_refused r code h)
asked_answerable r (single c) h = change_answerable c
asked_answerable r (multi cs) h = tt
asked_answerable r (set_acl p v) h = tt
asked_answerable r (stat_at p b) h = tt
asked_answerable r (get_content p b) h = tt
asked_answerable r (get_acl p) h = tt
asked_answerable r (get_children p b false) h = tt
asked_answerable r (get_children p b true) h = tt
asked_answerable r (sync p) h = tt
asked_answerable r ping h = tt
asked_answerable r (set_watches seen a b d) h = tt
asked_answerable r close h = tt

refused_answerable : (code : ℤ) → IsCode code → IsAnswerable (asked_of (refused code))
unfolding IsAnswerable asked_of
refused_answerable code h = (h.other, h.fits)

pub command_answerable : (r : Request) (a : Command) → IsCommand r a → IsAnswerable (asked_of a)
unfolding IsCommand HasCodes
command_answerable r a (inl (code, h, e)) = subst (λ (c : Command). IsAnswerable (asked_of c)) (sym e) (refused_answerable code (request_codes r code h))
command_answerable r a (inr h) = asked_answerable r a h.1

-- ---- runs

if_answerable : (b : Bool) (q : Question) → IsAnswerable q.asked → AreAnswerable (asked_if b q)
unfolding asked_if AreAnswerable
if_answerable true q h = (h, tt)
if_answerable false q h = tt

with_answerable : (c d : ℕ) (q : Question) (o : Option ℤ) → IsAnswerable q.asked → AreAnswerable (asked_with c d q o)
unfolding asked_with AreAnswerable
with_answerable c d q None h = tt
with_answerable c d q (Some session) h = if_answerable _ q h

answerable-append : (a b : List Question) → AreAnswerable a → AreAnswerable b → AreAnswerable (a ++ b)
unfolding AreAnswerable
answerable-append [] b h j = j
answerable-append (q ∷ a) b h j = (h.0, answerable-append a b h.1 j)

act_answerable : (c : ℕ) (s : State) (e : Entry) (f : Act) → IsAct e f → AreAnswerable (asked_in c s f)
unfolding IsAct asked_in AreAnswerable
act_answerable c s (Connect d asked session timeout password zxid now) f h = subst (λ (x : Act). AreAnswerable (asked_in c s x)) (sym h) tt
act_answerable c s (Take d xid r zxid now) f h =
    subst (λ (x : Act). AreAnswerable (asked_in c s x)) (sym h.is)
    (with_answerable c d (record { xid = xid; asked = asked_of h.command }) (session_of d s.sessions) (command_answerable r h.command h.is_command))
act_answerable c s (Lost d) f h = subst (λ (x : Act). AreAnswerable (asked_in c s x)) (sym h) tt
act_answerable c s (Expire session zxid now) f h = subst (λ (x : Act). AreAnswerable (asked_in c s x)) (sym h) tt

-- all that a connection asks in an order
pub all_answerable : (c : ℕ) (s : State) (order : List Entry) (acts : List Act) → Zips IsAct order acts → AreAnswerable (all_asked c s acts)
unfolding Zips all_asked AreAnswerable
all_answerable c s [] [] h = tt
all_answerable c s [] (f ∷ fs) h = absurd h
all_answerable c s (e ∷ es) [] h = absurd h
all_answerable c s (e ∷ es) (f ∷ fs) h = answerable-append _ _ (act_answerable c s e f h.0) (all_answerable c (step plain s f).state es fs h.1)
