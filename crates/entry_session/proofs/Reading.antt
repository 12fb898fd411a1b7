-- What the bytes of a store's frame say: how they begin, and what they are read as.
use Rattle.std.proofs.Common.{◌≡◌, ℕ, ℤ, pos, negsuc, ◌<◌, Bool, true, false, List, ◌++◌, Option, Some, None, length, refl, sym, ap, subst, ◌∙◌, arith, length-append, append_assoc}
use Rattle.jute_core.specs.Jute.{Spells, int}
use Rattle.jute_core.proofs.OneSpelling.{one_spelling}
use Rattle.jute_core.proofs.WholeLemmas.{whole_or_refused, one_whole_refusal}
use Rattle.jute_core.specs.declared.cursor.Reason.{Reason}
use Rattle.zk_records.specs.Connect.{SpellsConnected, RefusedConnected, older_response, newer_response, older_response_fields, response_form, response_fields}
use Rattle.zk_records.specs.Headers.{reply_header}
use Rattle.zk_records.specs.declared.connect.ConnectResponse.{ConnectResponse}
use Rattle.zk_messages.specs.Replies.{HasShape, SpellsOutcome, SpellsReply, IsReply, SpellsEvent, BeginsWithInt}
use Rattle.zk_messages.specs.declared.reply.Event.{Event}
use Rattle.zk_messages.specs.declared.reply.Outcome.{Outcome}
use Rattle.zk_messages.specs.declared.reply.Outcome.TheVariants as outcomes
use Rattle.zk_messages.specs.declared.reply.Reply.{Reply}
use Rattle.zk_messages.specs.declared.reply.Shape.{Shape}
use Rattle.zk_messages.specs.declared.reply.Shape.TheVariants as shapes
use Rattle.entry_session.specs.StoreTurns.{is_none}

int_size : (z : ℤ) (b : List ℕ) → Spells int z b → length b ≡ 4
unfolding Spells
int_size z b h = ap length h.1

pub long_enough : (body : List ℕ) (z : ℤ) → BeginsWithInt body z → length body < 4 → ⊥
long_enough body z h short = omega (arith, short, ap length h.cut, length-append h.first h.more, int_size z h.first h.spelled)

pub one_int : (body : List ℕ) (y z : ℤ) → BeginsWithInt body y → BeginsWithInt body z → y ≡ z
one_int body y z h j = (one_spelling int y z h.first j.first h.more j.more h.spelled j.spelled (sym h.cut ∙ j.cut)).0

-- a pair begins with its first half
pair_begins : (z : ℤ) (body : List ℕ) (x y : List ℕ) (rest : List ℕ) → Spells int z x → body ≡ (x ++ y) ++ rest → BeginsWithInt body z
pair_begins z body x y rest h e = record { first = x; more = y ++ rest; spelled = h; cut = e ∙ append_assoc x y rest }

header_begins : (xid zxid err : ℤ) (header body rest : List ℕ) → Spells reply_header (xid, (zxid, err)) header → body ≡ header ++ rest → BeginsWithInt body xid
unfolding Spells
header_begins xid zxid err header body rest (x, y, h, t, cut) e = pair_begins xid body x y rest h (e ∙ ap (λ (l : List ℕ). l ++ rest) cut)

pub reply_begins : (shape : Shape) (r : Reply) (body : List ℕ) → SpellsReply shape r body → BeginsWithInt body r.xid
reply_begins shape r body h = header_begins r.xid r.zxid _ h.header body h.rest h.head h.cut

pub event_begins : (e : Event) (body : List ℕ) → SpellsEvent e body → BeginsWithInt body (negsuc 0)
unfolding Spells
event_begins e body (x, y, h, t, cut) = header_begins (negsuc 0) (negsuc 0) (pos 0) x body y h cut

-- a reply is spelled alike in each shape that it has
same_outcome : (shape other : Shape) (o : Outcome) (b : List ℕ) → HasShape shape o → HasShape other o → SpellsOutcome shape o b → SpellsOutcome other o b
unfolding SpellsOutcome
same_outcome shape other (outcomes.Error code) b f g h = h
same_outcome shapes.Empty shapes.Empty outcomes.Empty b f g h = h
same_outcome shapes.Empty other outcomes.Empty b f g h = absurd g
same_outcome shape other outcomes.Empty b f g h = absurd f
same_outcome shapes.Path shapes.Path (outcomes.Path p) b f g h = h
same_outcome shapes.Path other (outcomes.Path p) b f g h = absurd g
same_outcome shape other (outcomes.Path p) b f g h = absurd f
same_outcome shapes.Stat shapes.Stat (outcomes.Stat p) b f g h = h
same_outcome shapes.Stat other (outcomes.Stat p) b f g h = absurd g
same_outcome shape other (outcomes.Stat p) b f g h = absurd f
same_outcome shapes.Content shapes.Content (outcomes.Content d p) b f g h = h
same_outcome shapes.Content other (outcomes.Content d p) b f g h = absurd g
same_outcome shape other (outcomes.Content d p) b f g h = absurd f
same_outcome shapes.Acls shapes.Acls (outcomes.Acls d p) b f g h = h
same_outcome shapes.Acls other (outcomes.Acls d p) b f g h = absurd g
same_outcome shape other (outcomes.Acls d p) b f g h = absurd f
same_outcome shapes.Children shapes.Children (outcomes.Children d) b f g h = h
same_outcome shapes.Children other (outcomes.Children d) b f g h = absurd g
same_outcome shape other (outcomes.Children d) b f g h = absurd f
same_outcome shapes.Children2 shapes.Children2 (outcomes.Children2 d p) b f g h = h
same_outcome shapes.Children2 other (outcomes.Children2 d p) b f g h = absurd g
same_outcome shape other (outcomes.Children2 d p) b f g h = absurd f
same_outcome shapes.Multi shapes.Multi (outcomes.Multi d) b f g h = h
same_outcome shapes.Multi other (outcomes.Multi d) b f g h = absurd g
same_outcome shape other (outcomes.Multi d) b f g h = absurd f
same_outcome shapes.Created2 shapes.Created2 (outcomes.Created2 d p) b f g h = h
same_outcome shapes.Created2 other (outcomes.Created2 d p) b f g h = absurd g
same_outcome shape other (outcomes.Created2 d p) b f g h = absurd f

pub is_reply : (shape : Shape) (r : Reply) (body : List ℕ) → HasShape shape r.outcome → SpellsReply shape r body → IsReply r body
is_reply shape r body f h other g = record { header = h.header; rest = h.rest; head = h.head; tail = same_outcome shape other r.outcome h.rest f g h.tail; cut = h.cut }

older : (r : ConnectResponse) (body : List ℕ) → r.read_only ≡ None → SpellsConnected r body → Spells older_response (older_response_fields r) body
older r body e h = subst (λ (x : Option Bool). Spells (response_form x) (response_fields x r) body) e h

newer : (r : ConnectResponse) (b : Bool) (body : List ℕ) → r.read_only ≡ Some b → SpellsConnected r body → Spells newer_response (older_response_fields r, b) body
newer r b body e h = subst (λ (x : Option Bool). Spells (response_form x) (response_fields x r) body) e h

at_form : (r : ConnectResponse) (body : List ℕ) (place : ℕ) (reason : Reason) (x : Option Bool) → r.read_only ≡ x → SpellsConnected r body → RefusedConnected (is_none x) body place reason → ⊥
unfolding is_none
at_form r body place reason None i h f = whole_or_refused older_response (older_response_fields r) body place reason (older r body i h) f
at_form r body place reason (Some b) i h f = whole_or_refused newer_response (older_response_fields r, b) body place reason (newer r b body i h) f

-- a response of the form that is asked for is not refused
pub connected_or_refused : (r : ConnectResponse) (o : Option Bool) (body : List ℕ) (place : ℕ) (reason : Reason) → SpellsConnected r body → is_none r.read_only ≡ is_none o → RefusedConnected (is_none o) body place reason → ⊥
connected_or_refused r o body place reason h e f = at_form r body place reason r.read_only refl h (subst (λ (b : Bool). RefusedConnected b body place reason) (sym e) f)

-- and a refusal has one place and one reason
pub one_connected_refusal : (older : Bool) (body : List ℕ) (p q : ℕ) (r s : Reason) → RefusedConnected older body p r → RefusedConnected older body q s → (p ≡ q) × (r ≡ s)
one_connected_refusal true body p q r s f g = one_whole_refusal older_response body p q r s f g
one_connected_refusal false body p q r s f g = one_whole_refusal newer_response body p q r s f g
