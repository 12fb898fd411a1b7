-- How many bytes spell a message, by its parts.
use Rattle.std.proofs.Common.{◌≡◌, ◌≢◌, ◌≤◌, ◌+◌, ◌-◌, ◌^◌, ℕ, ℤ, pos, negsuc, List, [], length, min, take, Bool, true, false, Option, Some, None, refl, subst, sym, rules, arith, w32, w64}
use Rattle.std.specs.Int.RustNames.{FitsSigned}
use Rattle.jute_core.specs.Jute.{Jute, Value, Spells, Each, int, long, boolean, buffer, ustring, pair, vector}
use Rattle.jute_core.specs.Position.{Adds}
use Rattle.zk_records.specs.Acls.{acl, acl_fields, acls, acls_fields}
use Rattle.zk_records.specs.declared.acl.Acl.{Acl}
use Rattle.zk_records.specs.Connect.{SpellsConnected, older_response, older_response_fields, response_form, response_fields}
use Rattle.zk_records.specs.declared.connect.ConnectResponse.{ConnectResponse}
use Rattle.zk_records.specs.Headers.{reply_header}
use Rattle.zk_records.specs.Stats.{stat, stat_fields}
use Rattle.zk_records.specs.declared.stat.Stat.{Stat}
use Rattle.zk_messages.specs.Multi.{multi_header, IsEnd, SpellsResult, SpellsResults}
use Rattle.zk_messages.specs.Replies.{IsOutcome, IsReply, SpellsEvent, err_of, event_record, event_fields}
use Rattle.zk_messages.specs.Sending.{AddsBytes}
use Rattle.zk_messages.specs.declared.reply.Event.{Event}
use Rattle.zk_messages.specs.declared.reply.OpResult.{OpResult}
use Rattle.zk_messages.specs.declared.reply.OpResult.TheVariants as results
use Rattle.zk_messages.specs.declared.reply.Outcome.TheVariants as outcomes
use Rattle.zk_messages.specs.declared.reply.Reply.{Reply}
use Rattle.zk_messages.proofs.Replies.{error_added, empty_added, path_added, stat_added, content_added, acls_added, children_added, children2_added, results_added, created2_added}
use Rattle.tree_state.specs.declared.message.Message.{Message}
use Rattle.store_side.specs.Counted.{IsCounted}
use Rattle.store_side.specs.Fitting.{CanBeSent}
use Rattle.store_side.specs.Messages.{SpellsMessage}
use Rattle.store_side.proofs.Counted.{count_as, count_both, count_pair, count_int, count_long, count_boolean, int_before, long_before, count_all}

-- ---- a Stat, an ACL, and a header of a multi

pub record FitsStat (s : Stat) : Type 0 where
  pub czxid : FitsSigned w64 s.czxid
  pub mzxid : FitsSigned w64 s.mzxid
  pub ctime : FitsSigned w64 s.ctime
  pub mtime : FitsSigned w64 s.mtime
  pub version : FitsSigned w32 s.version
  pub cversion : FitsSigned w32 s.cversion
  pub aversion : FitsSigned w32 s.aversion
  pub owner : FitsSigned w64 s.owner
  pub length : FitsSigned w32 s.length
  pub children : FitsSigned w32 s.children
  pub pzxid : FitsSigned w64 s.pzxid

pub count_stat : (s : Stat) (k : ℕ) → FitsStat s → k ≡ 68 → IsCounted (Spells stat (stat_fields s)) k
count_stat s k f sum =
    let from_children = int_before long s.children s.pzxid 8 12 f.children (count_long s.pzxid f.pzxid) refl in
    let from_length = int_before _ s.length _ 12 16 f.length from_children refl in
    let from_owner = long_before _ s.owner _ 16 24 f.owner from_length refl in
    let from_aversion = int_before _ s.aversion _ 24 28 f.aversion from_owner refl in
    let from_cversion = int_before _ s.cversion _ 28 32 f.cversion from_aversion refl in
    let from_version = int_before _ s.version _ 32 36 f.version from_cversion refl in
    let from_mtime = long_before _ s.mtime _ 36 44 f.mtime from_version refl in
    let from_ctime = long_before _ s.ctime _ 44 52 f.ctime from_mtime refl in
    let from_mzxid = long_before _ s.mzxid _ 52 60 f.mzxid from_ctime refl in
    long_before _ s.czxid _ 60 k f.czxid from_mzxid sum

pub count_acl : (a : Acl) (m n k l : ℕ) → FitsSigned w32 a.perms → IsCounted (Spells ustring a.scheme) m
    → IsCounted (Spells ustring a.id) n → k ≡ min (m + n) (2 ^ 64 - 1) → l ≡ min (k + 4) (2 ^ 64 - 1)
    → IsCounted (Spells acl (acl_fields a)) l
count_acl a m n k l f p q texts sum =
    int_before (pair ustring ustring) a.perms (a.scheme, a.id) k l f (count_pair ustring ustring a.scheme a.id m n k p q texts) sum

count_header : (kind : ℤ) (done : Bool) (err : ℤ) → FitsSigned w32 kind → FitsSigned w32 err
    → IsCounted (Spells multi_header (kind, (done, err))) 9
count_header kind done err f g =
    let from_done = count_pair boolean int done err 1 4 5 (count_boolean done) (count_int err g) refl in
    int_before (pair boolean int) kind (done, err) 5 9 f from_done refl

done_header : (kind : ℤ) → FitsSigned w32 kind → IsCounted (Spells multi_header (kind, (false, pos 0))) 9
done_header kind f = count_header kind false (pos 0) f (search rules)

-- ---- results of a multi

pub count_created : (path : List ℕ) (n k : ℕ) → IsCounted (Spells ustring path) n → k ≡ min (n + 9) (2 ^ 64 - 1)
    → IsCounted (SpellsResult (results.Created path)) k
unfolding SpellsResult
count_created path n k p sum = count_pair multi_header ustring _ path 9 n k (done_header (pos 1) (search rules)) p (omega (arith, sum))

pub count_deleted : IsCounted (SpellsResult results.Deleted) 9
unfolding SpellsResult
count_deleted = done_header (pos 2) (search rules)

pub count_changed : (s : Stat) (n k : ℕ) → IsCounted (Spells stat (stat_fields s)) n → k ≡ min (n + 9) (2 ^ 64 - 1)
    → IsCounted (SpellsResult (results.Changed s)) k
unfolding SpellsResult
count_changed s n k p sum =
    count_pair multi_header stat _ (stat_fields s) 9 n k (done_header (pos 5) (search rules)) p (omega (arith, sum))

pub count_checked : IsCounted (SpellsResult results.Checked) 9
unfolding SpellsResult
count_checked = done_header (pos 13) (search rules)

pub count_error : (code : ℤ) (k : ℕ) → FitsSigned w32 code → k ≡ 13 → IsCounted (SpellsResult (results.Error code)) k
unfolding SpellsResult
count_error code k f sum =
    count_pair multi_header int _ code 9 4 k (count_header (negsuc 0) false code (search rules) f) (count_int code f) sum

pub count_created2 : (path : List ℕ) (s : Stat) (m n k l : ℕ) → IsCounted (Spells ustring path) m
    → IsCounted (Spells stat (stat_fields s)) n → k ≡ min (m + n) (2 ^ 64 - 1) → l ≡ min (k + 9) (2 ^ 64 - 1)
    → IsCounted (SpellsResult (results.Created2 path s)) l
unfolding SpellsResult
count_created2 path s m n k l p q both sum =
    count_pair multi_header (pair ustring stat) _ (path, stat_fields s) 9 k l (done_header (pos 15) (search rules))
    (count_pair ustring stat path (stat_fields s) m n k p q both) (omega (arith, sum))

pub count_results : (list : List OpResult) (i n k : ℕ) → IsCounted (Each SpellsResult (take i list)) n → length list ≤ i
    → k ≡ min (n + 9) (2 ^ 64 - 1) → IsCounted (SpellsResults list) k
count_results list i n k p all sum =
    count_both (Each SpellsResult list) IsEnd (SpellsResults list) n 9 k
    (λ x y e r. record { items = x; last = y; each = e; ended = r; cut = refl })
    (count_all SpellsResult list i n p all) (count_header (negsuc 0) true (negsuc 0) (search rules) (search rules)) sum

-- ---- what a request came to

-- bytes that were added to nothing
is_all : (Is : List ℕ → Type 0) (b : List ℕ) → AddsBytes [] b Is → Is b
is_all Is b p = subst Is (sym p.added) p.is

alone : (t : Jute) (v : Value t) (b : List ℕ) → Spells t v b → Adds [] b t v
alone t v b h = record { bytes = b; spelled = h; added = refl }

pub count_no_outcome : (code : ℤ) → code ≢ pos 0 → IsCounted (IsOutcome (outcomes.Error code)) 0
count_no_outcome code other = record { bytes = []; is = is_all _ [] (error_added code [] other); number = refl }

pub count_empty : IsCounted (IsOutcome outcomes.Empty) 0
count_empty = record { bytes = []; is = is_all _ [] (empty_added []); number = refl }

pub count_path : (path : List ℕ) (n : ℕ) → IsCounted (Spells ustring path) n → IsCounted (IsOutcome (outcomes.Path path)) n
count_path path n p = count_as _ _ n (λ b h. is_all _ b (path_added path [] b (alone _ _ b h))) p

pub count_node : (s : Stat) (n : ℕ) → IsCounted (Spells stat (stat_fields s)) n → IsCounted (IsOutcome (outcomes.Stat s)) n
count_node s n p = count_as _ _ n (λ b h. is_all _ b (stat_added s [] b (alone _ _ b h))) p

pub count_content : (content : Option (List ℕ)) (s : Stat) (m n k : ℕ) → IsCounted (Spells buffer content) m
    → IsCounted (Spells stat (stat_fields s)) n → k ≡ min (m + n) (2 ^ 64 - 1) → IsCounted (IsOutcome (outcomes.Content content s)) k
count_content content s m n k p q sum =
    count_as _ _ k (λ b h. is_all _ b (content_added content s [] b (alone _ _ b h)))
    (count_pair buffer stat content (stat_fields s) m n k p q sum)

pub count_access : (list : Option (List Acl)) (s : Stat) (m n k : ℕ) → IsCounted (Spells acls (acls_fields list)) m
    → IsCounted (Spells stat (stat_fields s)) n → k ≡ min (m + n) (2 ^ 64 - 1) → IsCounted (IsOutcome (outcomes.Acls list s)) k
count_access list s m n k p q sum =
    count_as _ _ k (λ b h. is_all _ b (acls_added list s [] b (alone _ _ b h)))
    (count_pair acls stat (acls_fields list) (stat_fields s) m n k p q sum)

pub count_children : (names : Option (List (List ℕ))) (n : ℕ) → IsCounted (Spells (vector ustring) names) n
    → IsCounted (IsOutcome (outcomes.Children names)) n
count_children names n p = count_as _ _ n (λ b h. is_all _ b (children_added names [] b (alone _ _ b h))) p

pub count_children2 : (names : Option (List (List ℕ))) (s : Stat) (m n k : ℕ) → IsCounted (Spells (vector ustring) names) m
    → IsCounted (Spells stat (stat_fields s)) n → k ≡ min (m + n) (2 ^ 64 - 1) → IsCounted (IsOutcome (outcomes.Children2 names s)) k
count_children2 names s m n k p q sum =
    count_as _ _ k (λ b h. is_all _ b (children2_added names s [] b (alone _ _ b h)))
    (count_pair (vector ustring) stat names (stat_fields s) m n k p q sum)

pub count_multi : (list : List OpResult) (n : ℕ) → IsCounted (SpellsResults list) n → IsCounted (IsOutcome (outcomes.Multi list)) n
count_multi list n p =
    count_as _ _ n (λ b h. is_all _ b (results_added list [] b (record { bytes = b; is = h; added = refl }))) p

pub count_made : (path : List ℕ) (s : Stat) (m n k : ℕ) → IsCounted (Spells ustring path) m → IsCounted (Spells stat (stat_fields s)) n
    → k ≡ min (m + n) (2 ^ 64 - 1) → IsCounted (IsOutcome (outcomes.Created2 path s)) k
count_made path s m n k p q sum =
    count_as _ _ k (λ b h. is_all _ b (created2_added path s [] b (alone _ _ b h)))
    (count_pair ustring stat path (stat_fields s) m n k p q sum)

-- ---- messages

reply_header_counted : (xid zxid err : ℤ) → FitsSigned w32 xid → FitsSigned w64 zxid → FitsSigned w32 err
    → IsCounted (Spells reply_header (xid, (zxid, err))) 16
reply_header_counted xid zxid err f g h =
    int_before (pair long int) xid (zxid, err) 12 16 f (long_before int zxid err 4 12 g (count_int err h) refl) refl

pub count_reply : (r : Reply) (n k : ℕ) → FitsSigned w32 r.xid → FitsSigned w64 r.zxid → FitsSigned w32 (err_of r.outcome)
    → IsCounted (IsOutcome r.outcome) n → k ≡ min (n + 16) (2 ^ 64 - 1) → IsCounted (IsReply r) k
count_reply r n k f g h p sum =
    count_both (Spells reply_header (r.xid, (r.zxid, err_of r.outcome))) (IsOutcome r.outcome) (IsReply r) 16 n k
    (λ x y head tail. λ shape has. record { header = x; rest = y; head = head; tail = tail shape has; cut = refl })
    (reply_header_counted r.xid r.zxid (err_of r.outcome) f g h) p (omega (arith, sum))

pub count_event : (e : Event) (n k : ℕ) → FitsSigned w32 e.kind → FitsSigned w32 e.state → IsCounted (Spells ustring e.path) n
    → k ≡ min (n + 24) (2 ^ 64 - 1) → IsCounted (SpellsEvent e) k
count_event e n k f g p sum =
    let from_state = int_before ustring e.state e.path n (min (n + 4) (2 ^ 64 - 1)) g p refl in
    let fields = int_before _ e.kind _ _ (min (n + 8) (2 ^ 64 - 1)) f from_state (omega arith) in
    count_pair reply_header event_record _ (event_fields e) 16 _ k
    (reply_header_counted (negsuc 0) (negsuc 0) (pos 0) (search rules) (search rules) (search rules)) fields (omega (arith, sum))

pub record FitsConnected (r : ConnectResponse) : Type 0 where
  pub protocol : FitsSigned w32 r.protocol
  pub timeout : FitsSigned w32 r.timeout
  pub session : FitsSigned w64 r.session

count_older : (r : ConnectResponse) (n k : ℕ) → FitsConnected r → IsCounted (Spells buffer r.password) n
    → k ≡ min (n + 16) (2 ^ 64 - 1) → IsCounted (Spells older_response (older_response_fields r)) k
count_older r n k f p sum =
    let from_session = long_before buffer r.session r.password n (min (n + 8) (2 ^ 64 - 1)) f.session p refl in
    let from_timeout = int_before _ r.timeout _ _ (min (n + 12) (2 ^ 64 - 1)) f.timeout from_session (omega arith) in
    int_before _ r.protocol _ _ k f.protocol from_timeout (omega (arith, sum))

pub count_older_connected : (r : ConnectResponse) (n k : ℕ) → FitsConnected r → r.read_only ≡ None → IsCounted (Spells buffer r.password) n
    → k ≡ min (n + 16) (2 ^ 64 - 1) → IsCounted (SpellsConnected r) k
count_older_connected r n k f none p sum =
    subst (λ (o : Option Bool). IsCounted (Spells (response_form o) (response_fields o r)) k) (sym none) (count_older r n k f p sum)

pub count_connected : (r : ConnectResponse) (b : Bool) (n k l : ℕ) → FitsConnected r → r.read_only ≡ Some b
    → IsCounted (Spells buffer r.password) n → k ≡ min (n + 16) (2 ^ 64 - 1) → l ≡ min (k + 1) (2 ^ 64 - 1)
    → IsCounted (SpellsConnected r) l
count_connected r b n k l f some p older sum =
    subst (λ (o : Option Bool). IsCounted (Spells (response_form o) (response_fields o r)) l) (sym some)
    (count_pair older_response boolean (older_response_fields r) b k 1 l (count_older r n k f p older) (count_boolean b) sum)

-- a message that can be sent is shorter than the last usize
pub counted_message : (m : Message) (n : ℕ) → CanBeSent m → IsCounted (SpellsMessage m) n
    → (body : List ℕ) × SpellsMessage m body × (n ≡ length body)
counted_message m n h p = (p.bytes, p.is, omega (arith, p.number, h.fits p.bytes p.is))
