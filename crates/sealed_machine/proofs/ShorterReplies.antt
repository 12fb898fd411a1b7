-- The plain messages can be written where the store's can, each in a frame that is no longer.
use Rattle.std.proofs.Common.{◌≡◌, ◌≢◌, ◌≤◌, ◌+◌, ℕ, ℤ, pos, negsuc, Bool, true, false, List, [], ◌∷◌, ◌++◌, None, length, inl, inr, refl, sym, ap, subst, arith, length-append}
use Rattle.std.proofs.lemmas.Int.{ints}
use Rattle.std.specs.Int.{w32}
use Rattle.std.specs.Int.RustNames.{FitsSigned}
use Rattle.jute_core.specs.Frames.{frame, FitsFrame}
use Rattle.jute_core.specs.Jute.{Jute, Value, Spells, Each, int, long, buffer, ustring, pair, vector, int_bytes}
use Rattle.jute_core.specs.Position.{Adds}
use Rattle.path_seal.specs.Sealed.{Keys, AreKeys}
use Rattle.payload_seal.specs.declared.keys.EntryKeys.{EntryKeys}
use Rattle.request_queue.specs.declared.asked.Asked.{Asked}
use Rattle.request_queue.specs.declared.asked.Asked.TheVariants as asks
use Rattle.request_queue.specs.declared.asked.AskedOp.{AskedOp}
use Rattle.request_queue.specs.declared.asked.AskedOp.TheVariants as ops
use Rattle.zk_records.specs.Headers.{reply_header}
use Rattle.zk_records.specs.Stats.{stat, stat_fields}
use Rattle.zk_records.specs.Acls.{acls, acls_fields}
use Rattle.zk_messages.specs.Forms.{SpellsForm}
use Rattle.zk_messages.specs.Multi.{multi_header, SpellsResult, SpellsResults}
use Rattle.zk_messages.specs.Sending.{AddsBytes}
use Rattle.zk_messages.specs.Replies.{SpellsOutcome, IsOutcome, IsReply, SpellsEvent, err_of, event_record, event_fields}
use Rattle.zk_messages.specs.declared.reply.Event.{Event}
use Rattle.zk_messages.specs.declared.reply.OpResult.{OpResult}
use Rattle.zk_messages.specs.declared.reply.OpResult.TheVariants as results
use Rattle.zk_messages.specs.declared.reply.Outcome.{Outcome}
use Rattle.zk_messages.specs.declared.reply.Outcome.TheVariants as outcomes
use Rattle.zk_messages.specs.declared.reply.Reply.{Reply}
use Rattle.zk_messages.proofs.Replies.{error_added, empty_added, path_added, stat_added, content_added, acls_added, children_added, children2_added, results_added, created2_added}
use Rattle.reply_rewrite.specs.Admits.{IsPlain, AdmitsStored, AdmitsOutcome, Admits}
use Rattle.reply_rewrite.specs.Names.{IsCreated}
use Rattle.reply_rewrite.specs.Results.{is_failed, IsPlainResult, ArePlainResults}
use Rattle.reply_rewrite.specs.Shapes.{shape_for}
use Rattle.watch_rewrite.specs.Events.{IsPlainEvent}
use Rattle.tree_state.specs.declared.message.Message.{Message}
use Rattle.tree_state.specs.declared.message.Message.TheVariants as messages
use Rattle.tree_state.specs.Nodes.{Path}
use Rattle.store_side.specs.Messages.{SpellsMessage, Messages}
use Rattle.sealed_machine.specs.Runs.{Question, IsAnswerable, AreAnswerable, Talks, silent, told_event, told_reply, told_session}
use Rattle.sealed_machine.proofs.ShorterValues.{IsWritten, Shrinks, shrinks_same, shrinks_pair, shrinks_path, shrinks_stat, shrinks_node}
use Rattle.sealed_machine.proofs.ShorterNames.{shrinks_list}

-- what is written from the empty list on
from_nothing : (t : Jute) (v : Value t) (b : List ℕ) → Spells t v b → Adds [] b t v
from_nothing t v b h = record { bytes = b; spelled = h; added = refl }

-- ---- the results of a multi

-- whatever spells the first result, the second one is spelled by no more
unfoldable ShrinksResult : OpResult → OpResult → Type 0
ShrinksResult s p = (b : List ℕ) → SpellsResult s b → IsWritten (SpellsResult p) (length b)

shrinks_created : (k : Keys) (path : Path) (q : Bool) (text plain : List ℕ) → IsCreated k path q text plain → Shrinks ustring text plain
shrinks_created k path q text plain h = shrinks_path k text plain h.path h.opened.0 h.opened.1 h.spelled

shrinks_result : (k : Keys) (failed : Bool) (op : AskedOp) (s p : OpResult) → IsPlainResult k failed op s p → ShrinksResult s p
unfolding IsPlainResult ShrinksResult SpellsResult Shrinks
shrinks_result k true op (results.Error code) p h = subst (λ (x : OpResult). ShrinksResult (results.Error code) x) (sym h) (λ b s. record { bytes = b; is = s; within = omega arith })
shrinks_result k true op s p h = absurd h
shrinks_result k false (ops.Create path q) (results.Created text) (results.Created plain) h =
    λ b s. shrinks_pair multi_header ustring (pos 1, (false, pos 0)) (pos 1, (false, pos 0)) text plain (shrinks_same multi_header (pos 1, (false, pos 0))) (shrinks_created k path q text plain h) b s
shrinks_result k false (ops.Create2 path q) (results.Created2 text a) (results.Created2 plain c) h =
    λ b s. shrinks_pair multi_header (pair ustring stat) (pos 15, (false, pos 0)) (pos 15, (false, pos 0)) (text, stat_fields a) (plain, stat_fields c) (shrinks_same multi_header (pos 15, (false, pos 0)))
    (shrinks_pair ustring stat text plain (stat_fields a) (stat_fields c) (shrinks_created k path q text plain h.0) (shrinks_stat path a c h.1)) b s
shrinks_result k false ops.Delete results.Deleted results.Deleted h = λ b s. record { bytes = b; is = s; within = omega arith }
shrinks_result k false (ops.SetContent path) (results.Changed a) (results.Changed c) h =
    λ b s. shrinks_pair multi_header stat (pos 5, (false, pos 0)) (pos 5, (false, pos 0)) (stat_fields a) (stat_fields c) (shrinks_same multi_header (pos 5, (false, pos 0))) (shrinks_stat path a c h) b s
shrinks_result k false ops.Check results.Checked results.Checked h = λ b s. record { bytes = b; is = s; within = omega arith }
shrinks_result k false op s p h = absurd h

shrinks_each : (k : Keys) (failed : Bool) (asked : List AskedOp) (stored plain : List OpResult) → ArePlainResults k failed asked stored plain
    → (b : List ℕ) → Each SpellsResult stored b → IsWritten (Each SpellsResult plain) (length b)
unfolding ArePlainResults ShrinksResult
shrinks_each k failed [] [] [] h b e = record { bytes = b; is = e; within = omega arith }
shrinks_each k failed [] [] (p ∷ plain) h b e = absurd h
shrinks_each k failed [] (s ∷ stored) plain h b e = absurd h
shrinks_each k failed (op ∷ asked) [] plain h b e = absurd h
shrinks_each k failed (op ∷ asked) (s ∷ stored) [] h b e = absurd h
shrinks_each k failed (op ∷ asked) (s ∷ stored) (p ∷ plain) h b (x, y, one, more, cut) =
    let a = shrinks_result k failed op s p h.0 x one in
    let c = shrinks_each k failed asked stored plain h.1 y more in
    record { bytes = a.bytes ++ c.bytes; is = (a.bytes, c.bytes, a.is, c.is, refl); within = omega (arith, a.within, c.within, ap length cut, length-append x y, length-append a.bytes c.bytes) }

shrinks_results : (k : Keys) (failed : Bool) (asked : List AskedOp) (stored plain : List OpResult) → ArePlainResults k failed asked stored plain
    → (b : List ℕ) → SpellsResults stored b → IsWritten (SpellsResults plain) (length b)
shrinks_results k failed asked stored plain h b s =
    let e = shrinks_each k failed asked stored plain h s.items s.each in
    record {
      bytes = e.bytes ++ s.last;
      is = record { items = e.bytes; last = s.last; each = e.is; ended = s.ended; cut = refl };
      within = omega (arith, e.within, ap length s.cut, length-append s.items s.last, length-append e.bytes s.last);
    }

-- ---- outcomes

-- the outcome can be written in no more bytes, and its code in the header
record IsToldIn (told : Outcome) (limit : ℕ) : Type 0 where
  outcome : IsWritten (IsOutcome told) limit
  code : FitsSigned w32 (err_of told)

no_error : FitsSigned w32 (pos 0)
no_error = omega (arith, ints)

told_in : (o : Outcome) (b : List ℕ) (limit : ℕ) → AddsBytes [] b (IsOutcome o) → FitsSigned w32 (err_of o) → length b ≤ limit → IsToldIn o limit
told_in o b limit a fits l = record { outcome = record { bytes = a.bytes; is = a.is; within = omega (arith, ap length a.added, l) }; code = fits }

plain_outcome : (k : EntryKeys) → AreKeys k.names → (asked : Asked) (stored told : Outcome) → IsPlain k asked stored told → (b : List ℕ)
    → SpellsOutcome (shape_for asked) stored b → IsToldIn told (length b)
unfolding IsPlain SpellsOutcome SpellsForm Shrinks
plain_outcome k w asks.Empty outcomes.Empty outcomes.Empty h b s = told_in outcomes.Empty [] (length b) (empty_added []) no_error (omega arith)
plain_outcome k w asks.Close outcomes.Empty outcomes.Empty h b s = told_in outcomes.Empty [] (length b) (empty_added []) no_error (omega arith)
plain_outcome k w (asks.Create path q) (outcomes.Path text) (outcomes.Path plain) h b s =
    let r = shrinks_created k.names path q text plain h b s in
    told_in _ r.bytes (length b) (path_added plain [] r.bytes (from_nothing ustring plain r.bytes r.is)) no_error r.within
plain_outcome k w (asks.Create2 path q) (outcomes.Created2 text a) (outcomes.Created2 plain c) h b s =
    let r = shrinks_pair ustring stat text plain (stat_fields a) (stat_fields c) (shrinks_created k.names path q text plain h.0) (shrinks_stat path a c h.1) b s in
    told_in _ r.bytes (length b) (created2_added plain c [] r.bytes (from_nothing (pair ustring stat) (plain, stat_fields c) r.bytes r.is)) no_error r.within
plain_outcome k w (asks.StatOf path) (outcomes.Stat a) (outcomes.Stat c) h b s =
    let r = shrinks_stat path a c h b s in
    told_in _ r.bytes (length b) (stat_added c [] r.bytes (from_nothing stat (stat_fields c) r.bytes r.is)) no_error r.within
plain_outcome k w (asks.Content path) (outcomes.Content y a) (outcomes.Content d c) h b s =
    let r = shrinks_node k.payloads path y d a c h b s in
    told_in _ r.bytes (length b) (content_added d c [] r.bytes (from_nothing (pair buffer stat) (d, stat_fields c) r.bytes r.is)) no_error r.within
plain_outcome k w (asks.AclOf path) (outcomes.Acls list a) (outcomes.Acls same c) h b s =
    let r = shrinks_pair acls stat (acls_fields list) (acls_fields list) (stat_fields a) (stat_fields c) (shrinks_same acls (acls_fields list)) (shrinks_stat path a c h.2) b s in
    let is = subst (λ x. Spells (pair acls stat) (acls_fields x, stat_fields c) r.bytes) (sym h.1) r.is in
    told_in _ r.bytes (length b) (acls_added same c [] r.bytes (from_nothing (pair acls stat) (acls_fields same, stat_fields c) r.bytes is)) no_error r.within
plain_outcome k w (asks.Children path) (outcomes.Children list) (outcomes.Children names) h b s =
    let r = shrinks_list k.names w path list names h b s in
    told_in _ r.bytes (length b) (children_added names [] r.bytes (from_nothing (vector ustring) names r.bytes r.is)) no_error r.within
plain_outcome k w (asks.Children2 path) (outcomes.Children2 list a) (outcomes.Children2 names c) h b s =
    let r = shrinks_pair (vector ustring) stat list names (stat_fields a) (stat_fields c) (shrinks_list k.names w path list names h.0) (shrinks_stat path a c h.1) b s in
    told_in _ r.bytes (length b) (children2_added names c [] r.bytes (from_nothing (pair (vector ustring) stat) (names, stat_fields c) r.bytes r.is)) no_error r.within
plain_outcome k w (asks.SyncOf path) (outcomes.Path text) (outcomes.Path plain) h b s =
    let r = shrinks_path k.names text plain path h.opened.0 h.opened.1 h.spelled b s in
    told_in _ r.bytes (length b) (path_added plain [] r.bytes (from_nothing ustring plain r.bytes r.is)) no_error r.within
plain_outcome k w (asks.Multi asked) (outcomes.Multi stored) (outcomes.Multi plain) h b s =
    let r = shrinks_results k.names (is_failed stored) asked stored plain h b s in
    told_in _ r.bytes (length b) (results_added plain [] r.bytes (record { bytes = r.bytes; is = r.is; added = refl })) no_error r.within
plain_outcome k w asked stored told h b s = absurd h

error_outcome : (told : Outcome) (code : ℤ) (limit : ℕ) → told ≡ outcomes.Error code → code ≢ pos 0 → FitsSigned w32 code → IsToldIn told limit
error_outcome told code limit e other fits = subst (λ (o : Outcome). IsToldIn o limit) (sym e) (told_in (outcomes.Error code) [] limit (error_added code [] other) fits (omega arith))

stored_outcome : (k : EntryKeys) → AreKeys k.names → (asked : Asked) (stored told : Outcome) → AdmitsStored k asked stored told None → FitsSigned w32 (err_of stored)
    → (b : List ℕ) → SpellsOutcome (shape_for asked) stored b → IsToldIn told (length b)
unfolding AdmitsStored SpellsOutcome
stored_outcome k w asked (outcomes.Error code) told h fits b s = error_outcome told code (length b) h.0 s.0 fits
stored_outcome k w asked stored told (inl h) fits b s = plain_outcome k w asked stored told h.1 b s
stored_outcome k w asked stored told (inr h) fits b s = let e = h.1 in absurd cc

told_outcome : (k : EntryKeys) → AreKeys k.names → (asked : Asked) (stored told : Outcome) → IsAnswerable asked → AdmitsOutcome k asked stored told None
    → FitsSigned w32 (err_of stored) → (b : List ℕ) → SpellsOutcome (shape_for asked) stored b → IsToldIn told (length b)
unfolding IsAnswerable AdmitsOutcome
told_outcome k w (asks.Refused code) stored told a h fits b s = error_outcome told code (length b) h.0 a.0 a.1
told_outcome k w asked stored told a h fits b s = stored_outcome k w asked stored told h fits b s

-- ---- messages

int_fits : (z : ℤ) (b : List ℕ) → Spells int z b → FitsSigned w32 z
unfolding Spells
int_fits z b h = h.0

code_fits : (xid zxid err : ℤ) (b : List ℕ) → Spells reply_header (xid, (zxid, err)) b → FitsSigned w32 err
unfolding Spells
code_fits xid zxid err b (x, y, first, (z, a, second, third, cut), whole) = int_fits err a third

shrinks_code : (a b : ℤ) → FitsSigned w32 b → Shrinks int a b
unfolding Shrinks Spells
shrinks_code a b fits bytes h = record { bytes = int_bytes b; is = (fits, refl); within = omega (arith, ap length h.1, old, new) }
  where
    old : length (int_bytes a) ≡ 4
    old = refl

    new : length (int_bytes b) ≡ 4
    new = refl

header_told : (xid zxid a b : ℤ) → FitsSigned w32 b → Shrinks reply_header (xid, (zxid, a)) (xid, (zxid, b))
header_told xid zxid a b fits =
    shrinks_pair int (pair long int) xid xid (zxid, a) (zxid, b) (shrinks_same int xid) (shrinks_pair long int zxid zxid a b (shrinks_same long zxid) (shrinks_code a b fits))

reply_told : (k : EntryKeys) → AreKeys k.names → (asked : Asked) (stored told : Reply) (body : List ℕ) → IsAnswerable asked → Admits k asked stored told None
    → IsReply stored body → IsWritten (IsReply told) (length body)
unfolding Shrinks
reply_told k w asked stored told body a h s =
    let old = s (shape_for asked) h.shaped in
    let o = told_outcome k w asked stored.outcome told.outcome a h.outcome (code_fits stored.xid stored.zxid (err_of stored.outcome) old.header old.head) old.rest old.tail in
    let head = header_told stored.xid stored.zxid (err_of stored.outcome) (err_of told.outcome) o.code old.header old.head in
    let at : Spells reply_header (told.xid, (told.zxid, err_of told.outcome)) head.bytes =
    subst (λ (z : ℤ). Spells reply_header (z, (told.zxid, err_of told.outcome)) head.bytes) (sym h.same_xid)
    (subst (λ (z : ℤ). Spells reply_header (stored.xid, (z, err_of told.outcome)) head.bytes) (sym h.same_zxid) head.is) in
    record {
      bytes = head.bytes ++ o.outcome.bytes;
      is = λ shape has. record { header = head.bytes; rest = o.outcome.bytes; head = at; tail = o.outcome.is shape has; cut = refl };
      within = omega (arith, head.within, o.outcome.within, ap length old.cut, length-append old.header old.rest, length-append head.bytes o.outcome.bytes);
    }

event_told : (k : Keys) (e f : Event) (body : List ℕ) → IsPlainEvent k f e → SpellsEvent f body → IsWritten (SpellsEvent e) (length body)
unfolding Shrinks
event_told k e f body h s =
    let r = shrinks_pair reply_header event_record (negsuc 0, (negsuc 0, pos 0)) (negsuc 0, (negsuc 0, pos 0)) (event_fields f) (f.kind, (f.state, e.path)) (shrinks_same reply_header (negsuc 0, (negsuc 0, pos 0)))
    (shrinks_pair int (pair int ustring) f.kind f.kind (f.state, f.path) (f.state, e.path) (shrinks_same int f.kind)
    (shrinks_pair int ustring f.state f.state f.path e.path (shrinks_same int f.state) (shrinks_path k f.path e.path h.path h.opened.0 h.opened.1 h.spelled))) body s in
    record {
      bytes = r.bytes;
      is = subst (λ (z : ℤ). Spells (pair reply_header event_record) ((negsuc 0, (negsuc 0, pos 0)), (z, (e.state, e.path))) r.bytes) (sym h.same_kind)
          (subst (λ (z : ℤ). Spells (pair reply_header event_record) ((negsuc 0, (negsuc 0, pos 0)), (f.kind, (z, e.path))) r.bytes) (sym h.same_state) r.is);
      within = r.within;
    }

frame_size : (body : List ℕ) → length (frame body) ≡ length body + 4
unfolding frame
frame_size body = omega (arith, four, length-append (int_bytes (pos (length body))) body)
  where
    four : length (int_bytes (pos (length body))) ≡ 4
    four = refl

-- the plain messages in frames of their own, no longer than these bytes
record AreWritten (ms : List Message) (limit : ℕ) : Type 0 where
  bytes : List ℕ
  spelled : Messages ms bytes
  within : length bytes ≤ limit

one_more : (m : Message) (ms : List Message) (body more bytes : List ℕ) → FitsFrame body → bytes ≡ frame body ++ more → IsWritten (SpellsMessage m) (length body)
    → AreWritten ms (length more) → AreWritten (m ∷ ms) (length bytes)
unfolding Messages
one_more m ms body more bytes fits cut a b = record {
  bytes = frame a.bytes ++ b.bytes;
  spelled = (a.bytes, b.bytes, a.is, omega (arith, fits, a.within), refl, b.spelled);
  within = omega (arith, a.within, b.within, ap length cut, frame_size a.bytes, frame_size body, length-append (frame a.bytes) b.bytes, length-append (frame body) more);
}

all_written : (k : EntryKeys) → AreKeys k.names → (asked : List Question) (ms told : List Message) (bytes : List ℕ) → AreAnswerable asked → Talks k asked ms told
    → Messages told bytes → AreWritten ms (length bytes)
unfolding AreAnswerable Messages SpellsMessage
all_written k w asked ms told bytes a silent s = record { bytes = []; spelled = refl; within = omega arith }
all_written k w asked ms told bytes a (told_event e f asked' ms' ns' i h) (body, more, one, fits, cut, rest) =
    one_more (messages.Event e) ms' body more bytes fits cut (event_told k.names e f body i one) (all_written k w asked' ms' ns' more a h rest)
all_written k w asked ms told bytes a (told_reply q r f asked' ms' ns' x i h) (body, more, one, fits, cut, rest) =
    one_more (messages.Reply r) ms' body more bytes fits cut (reply_told k w q.asked f r body a.0 i one) (all_written k w asked' ms' ns' more a.1 h rest)
all_written k w asked ms told bytes a (told_session r asked' ms' ns' h) (body, more, one, fits, cut, rest) =
    one_more (messages.Connected r) ms' body more bytes fits cut (record { bytes = body; is = one; within = omega arith }) (all_written k w asked' ms' ns' more a h rest)

pub fits_plain : (k : EntryKeys) (asked : List Question) (ms told : List Message) (bytes : List ℕ) → AreKeys k.names → AreAnswerable asked → Talks k asked ms told
    → Messages told bytes → (plain_bytes : List ℕ) × Messages ms plain_bytes × (length plain_bytes ≤ length bytes)
fits_plain k asked ms told bytes w a h s = let r = all_written k w asked ms told bytes a h s in (r.bytes, r.spelled, r.within)
