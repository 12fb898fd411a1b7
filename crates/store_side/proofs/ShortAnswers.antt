-- What a request comes to can be sent where it came in a frame, and its child list is not too long.
use Rattle.std.proofs.Common.{◌≡◌, ◌≢◌, ℕ, ℤ, pos, ◌+◌, ◌*◌, ◌<◌, ◌≤◌, ◌^◌, Bool, true, false, List, [], ◌∷◌, length, Option, Some, None, ap, arith}
use Rattle.std.specs.Prelude.{All, IfSome, map, sum_by}
use Rattle.std.specs.List.{AllZip}
use Rattle.std.specs.Option.{option_map_or}
use Rattle.std.proofs.lemmas.List.Elements.{All-nil, All-cons}
use Rattle.std.proofs.lemmas.List.Sums.{sum_by-cons}
use Rattle.jute_core.specs.Jute.{buffer, ustring, vector}
use Rattle.jute_core.specs.Lists.{AreShort}
use Rattle.zk_path.specs.Paths.{IsTextOf}
use Rattle.zk_records.specs.Acls.{IsShortAcl, AreShortAcls}
use Rattle.zk_messages.specs.Refuses.{open_acl}
use Rattle.zk_messages.specs.Sending.{IsShortOutcome, IsShortResult}
use Rattle.zk_messages.specs.declared.reply.OpResult.{OpResult}
use Rattle.zk_messages.specs.declared.reply.OpResult.TheVariants as results
use Rattle.zk_messages.specs.declared.reply.Outcome.{Outcome}
use Rattle.zk_messages.specs.declared.request.Op.TheVariants as ops
use Rattle.zk_messages.specs.declared.request.Request.{Request}
use Rattle.zk_messages.specs.declared.request.Request.TheVariants as requests
use Rattle.zk_messages.proofs.Sizes.{size, request_size}
use Rattle.tree_state.specs.declared.node.Moment.{Moment}
use Rattle.tree_state.specs.Nodes.{Path, Node, find, child_names, ephemerals, size_of}
use Rattle.tree_state.specs.State.{State, on_data, on_children}
use Rattle.tree_state.specs.Places.{text_limit, content_limit, names_length}
use Rattle.tree_state.specs.Commands.{Change, create, delete, set_content, Command, single, multi, set_acl, stat_at, get_content, get_acl, get_children, sync, ping, set_watches, close, AreTextsOf, IsChange, Asks}
use Rattle.tree_state.specs.Changes.{Trial, failed, done, Naming, Effect, Effects, perform, perform_all}
use Rattle.tree_state.specs.Step.{Answer, with_error, told_only, or_error, outcome_of, answer_single, answer_multi, names_with, content_notice, exist_notice, child_notice, with_noticed, answer}
use Rattle.store_side.specs.Fitting.{AllCanBeSent, IsShortState, IsShortNaming, frame_limit, list_length, answer_length}
use Rattle.store_side.proofs.RefusedCodes.{below_zero}
use Rattle.store_side.proofs.ReplyLengths.{result_size, outcome_size}
use Rattle.store_side.proofs.ShortEvents.{IsShortPath, OutputCanBeSent, all_deleted_sent, all_noticed_sent, ephemerals_short}
use Rattle.store_side.proofs.ShortChanges.{ComesTo, need_comes, refuse_comes, IsShortEffect, change_short}
use Rattle.store_side.proofs.ShortMultis.{EachComesTo, changes_short}

-- its outcome is short, and spelled by so few bytes that they fit in a frame
pub record IsShortAnswer (a : Answer) : Type 0 where
  pub short : IsShortOutcome a.outcome
  pub small : outcome_size a.outcome + 16 < 2 ^ 31
  pub told : AllCanBeSent a.events

-- ---- answers without events, and errors

pub error_short : (s : State) (code : ℤ) → code ≢ pos 0 → IsShortAnswer (with_error s code)
unfolding with_error
error_short s code h = record { short = h; small = omega arith; told = All-nil OutputCanBeSent }

told_short : (s : State) (o : Outcome) → IsShortOutcome o → outcome_size o + 16 < 2 ^ 31 → IsShortAnswer (told_only s o)
unfolding told_only
told_short s o h k = record { short = h; small = k; told = All-nil OutputCanBeSent }

or_error_short : (s : State) (t : Trial ℤ Answer) → ComesTo IsShortAnswer t → IsShortAnswer (or_error s t)
unfolding or_error
or_error_short s (failed code) h = error_short s code h
or_error_short s (done a) h = h

-- ---- changes

no_longer : (r : OpResult) → outcome_size (outcome_of r) ≤ result_size r
unfolding outcome_of
no_longer (results.Created path) = omega arith
no_longer results.Deleted = omega arith
no_longer (results.Changed s) = omega arith
no_longer results.Checked = omega arith
no_longer (results.Error code) = omega arith
no_longer (results.Created2 path s) = omega arith

single_short : (s : State) (n : ℕ) (t : Trial ℤ Effect) → n ≤ frame_limit + 8 → ComesTo (IsShortEffect n) t
    → IsShortAnswer (answer_single s t)
unfolding answer_single
single_short s n (failed code) small h = error_short s code h
single_short s n (done e) small h = record { short = h.short; small = omega (arith, h.small, no_longer e.result); told = h.told }

codes_short : (codes : List ℤ) → All IsShortResult (map results.Error codes)
codes_short [] = All-nil IsShortResult
codes_short (code ∷ codes) = All-cons IsShortResult (results.Error code) (map results.Error codes) tt (codes_short codes)

codes_size : (codes : List ℤ) → sum_by result_size (map results.Error codes) ≡ 13 * length codes
codes_size [] = omega arith
codes_size (code ∷ codes) = omega (arith, sum_by-cons result_size (results.Error code) (map results.Error codes), codes_size codes)

multi_short : (s : State) (n : ℕ) (t : Trial (List ℤ) Effects) → n ≤ frame_limit → EachComesTo n t → IsShortAnswer (answer_multi s t)
unfolding answer_multi
multi_short s n (failed codes) small h = told_short s _ (codes_short codes) (omega (arith, h, codes_size codes))
multi_short s n (done e) small h = record { short = h.short; small = omega (arith, h.small); told = h.told }

-- ---- child lists

names_size : (names : List (List ℕ)) → sum_by (size ustring) names ≡ names_length names
names_size [] = omega arith
names_size (name ∷ names) = omega (arith, sum_by-cons (size ustring) name names, names_size names)

few_names : (names : List (List ℕ)) → length names ≤ names_length names
few_names [] = omega arith
few_names (name ∷ names) = omega (arith, few_names names)

each_name : (names : List (List ℕ)) → names_length names < 2 ^ 31 → All (λ t. length t < 2 ^ 31) names
each_name [] h = All-nil (λ t. length t < 2 ^ 31)
each_name (name ∷ names) h = All-cons (λ t. length t < 2 ^ 31) name names (omega (arith, h)) (each_name names (omega (arith, h)))

names_short : (names : List (List ℕ)) → names_length names < 2 ^ 31 → AreShort names
names_short names h = record { few = omega (arith, h, few_names names); each = each_name names h }

list_short : (s t : State) (p : Path) (stat : Bool) (n : Node) → list_length s p stat < 2 ^ 31
    → IsShortAnswer (told_only t (names_with stat s.nodes p n))
unfolding list_length names_with
list_short s t p true n h =
    let small = names_size (child_names p s.nodes) in
    told_short t _ (names_short (child_names p s.nodes) (omega (arith, h))) (omega (arith, h))
list_short s t p false n h =
    let small = names_size (child_names p s.nodes) in
    told_short t _ (names_short (child_names p s.nodes) (omega (arith, h))) (omega (arith, h))

found_length : (s : State) (p : Path) (stat : Bool) (o : Option Node) (n : Node) → o ≡ Some n
    → option_map_or (λ node. list_length s p stat) o 0 < 2 ^ 31 → list_length s p stat < 2 ^ 31
found_length s p stat None n e h = absurd cc
found_length s p stat (Some m) n e h = h

-- ---- contents and lists of who may do what

content_fits : (content : Option (List ℕ)) → size_of content ≤ content_limit → IfSome content (λ b. length b < 2 ^ 31)
unfolding size_of
content_fits None h = tt
content_fits (Some bytes) h = omega (arith, h)

content_size : (content : Option (List ℕ)) → size_of content ≤ content_limit → size buffer content ≤ content_limit + 4
unfolding size_of
content_size None h = omega arith
content_size (Some bytes) h = omega (arith, h)

open_short : AreShortAcls (open_acl ∷ [])
open_short = record {
  few = omega arith;
  each = All-cons IsShortAcl open_acl [] (record { scheme = omega arith; id = omega arith }) (All-nil IsShortAcl);
}

-- ---- paths

path_short : (text : List ℕ) (p : Path) → IsTextOf text p → length text ≤ text_limit → IsShortPath p
path_short text p h small = let same = ap length h.spelled in omega arith

each_path_short : (texts : List (List ℕ)) (ps : List Path) → AllZip IsTextOf texts ps → sum_by (size ustring) texts ≤ text_limit
    → All IsShortPath ps
each_path_short [] [] h small = All-nil IsShortPath
each_path_short [] (p ∷ ps) h small = absurd h
each_path_short (text ∷ texts) [] h small = absurd h
each_path_short (text ∷ texts) (p ∷ ps) h small =
    let sum = sum_by-cons (size ustring) text texts in
    All-cons IsShortPath p ps (path_short text p h.0 (omega arith)) (each_path_short texts ps h.1 (omega arith))

paths_short : (list : Option (List (List ℕ))) (ps : List Path) → AreTextsOf list ps → size (vector ustring) list ≤ text_limit
    → All IsShortPath ps
unfolding AreTextsOf
paths_short None [] h small = All-nil IsShortPath
paths_short None (p ∷ ps) h small = absurd cc
paths_short (Some texts) ps h small = each_path_short texts ps h (omega (arith, small))

-- ---- each command

one_change : (naming : Naming) (at : Moment) (c : ℕ) (s : State) (change : Change) (n : ℕ) → n ≤ frame_limit + 8
    → ComesTo (IsShortEffect n) (perform naming at s change) → IsShortAnswer (answer naming at c s (single change))
unfolding answer
one_change naming at c s change n small h = single_short s n _ small h

several_changes : (naming : Naming) (at : Moment) (c : ℕ) (s : State) (changes : List Change) (n : ℕ) → n ≤ frame_limit
    → EachComesTo n (perform_all naming at s changes) → IsShortAnswer (answer naming at c s (multi changes))
unfolding answer
several_changes naming at c s changes n small h = multi_short s n _ small h

set_acl_short : (naming : Naming) (at : Moment) (c : ℕ) (s : State) (p : Path) (version : ℤ)
    → IsShortAnswer (answer naming at c s (set_acl p version))
unfolding answer
set_acl_short naming at c s p version =
    or_error_short s _ (
    need_comes IsShortAnswer (find s.nodes p) _ _ (below_zero 100) λ node found.
    refuse_comes IsShortAnswer _ _ _ (below_zero 102) (
    refuse_comes IsShortAnswer _ _ _ (below_zero 0) (
    told_short _ _ tt (omega arith))))

stat_short : (naming : Naming) (at : Moment) (c : ℕ) (s : State) (p : Path) (watch : Bool)
    → IsShortAnswer (answer naming at c s (stat_at p watch))
unfolding answer
stat_short naming at c s p watch =
    or_error_short _ _ (
    need_comes IsShortAnswer (find s.nodes p) _ _ (below_zero 100) λ node found.
    told_short _ _ tt (omega arith))

content_short : (naming : Naming) (at : Moment) (c : ℕ) (s : State) (p : Path) (watch : Bool) → IsShortState s
    → IsShortAnswer (answer naming at c s (get_content p watch))
unfolding answer
content_short naming at c s p watch h =
    or_error_short s _ (
    need_comes IsShortAnswer (find s.nodes p) _ _ (below_zero 100) λ node found.
    let few = h.contents p node found in
    told_short _ _ (content_fits node.content few) (omega (arith, content_size node.content few)))

acl_short : (naming : Naming) (at : Moment) (c : ℕ) (s : State) (p : Path) → IsShortAnswer (answer naming at c s (get_acl p))
unfolding answer
acl_short naming at c s p =
    or_error_short s _ (
    need_comes IsShortAnswer (find s.nodes p) _ _ (below_zero 100) λ node found.
    told_short s _ open_short (omega arith))

children_short : (naming : Naming) (at : Moment) (c : ℕ) (s : State) (p : Path) (watch stat : Bool)
    → answer_length s (get_children p watch stat) < 2 ^ 31 → IsShortAnswer (answer naming at c s (get_children p watch stat))
unfolding answer answer_length
children_short naming at c s p watch stat h =
    or_error_short s _ (
    need_comes IsShortAnswer (find s.nodes p) _ _ (below_zero 100) λ node found.
    list_short s _ p stat node (found_length s p stat (find s.nodes p) node found h))

sync_short : (naming : Naming) (at : Moment) (c : ℕ) (s : State) (p : Path) → IsShortPath p → IsShortAnswer (answer naming at c s (sync p))
unfolding answer
sync_short naming at c s p h = told_short s _ (omega (arith, h)) (omega (arith, h))

ping_short : (naming : Naming) (at : Moment) (c : ℕ) (s : State) → IsShortAnswer (answer naming at c s ping)
unfolding answer
ping_short naming at c s = told_short s _ tt (omega arith)

watches_short : (naming : Naming) (at : Moment) (c : ℕ) (s : State) (seen : ℤ) (contents exist childs : List Path)
    → All IsShortPath contents → All IsShortPath exist
    → All IsShortPath childs → IsShortAnswer (answer naming at c s (set_watches seen contents exist childs))
unfolding answer with_noticed
watches_short naming at c s seen contents exist childs h k l = record {
  short = tt;
  small = omega arith;
  told =
      all_noticed_sent (child_notice seen) on_children s.nodes c childs _ l (
      all_noticed_sent exist_notice on_data s.nodes c exist _ k (
      all_noticed_sent (content_notice seen) on_data s.nodes c contents _ h (All-nil OutputCanBeSent)));
}

close_short : (naming : Naming) (at : Moment) (c : ℕ) (s : State) → IsShortState s → IsShortAnswer (answer naming at c s close)
unfolding answer
close_short naming at c s h = record {
  short = tt;
  small = omega arith;
  told = all_deleted_sent at.zxid (ephemerals at.session s.nodes) s (ephemerals_short at.session s.nodes h.paths);
}

-- a request that is not refused
pub asked_short : (naming : Naming) (at : Moment) (c : ℕ) (s : State) (r : Request) (command : Command) → IsShortNaming naming
    → IsShortState s
    → request_size r + 8 ≤ frame_limit → Asks r command → answer_length s command < 2 ^ 31 → IsShortAnswer (answer naming at c s command)
unfolding Asks IsChange
asked_short naming at c s (requests.Create r) (single (create p n content q e stat)) h k small asked room =
    one_change naming at c s _ _ (omega arith)
    (change_short naming at s (ops.Create r) (create p n content q e stat) h asked (omega arith))
asked_short naming at c s (requests.Create2 r) (single (create p n content q e stat)) h k small asked room =
    one_change naming at c s _ _ (omega arith)
    (change_short naming at s (ops.Create2 r) (create p n content q e stat) h asked (omega arith))
asked_short naming at c s (requests.Delete r) (single (delete p version)) h k small asked room =
    one_change naming at c s _ _ (omega arith)
    (change_short naming at s (ops.Delete r) (delete p version) h asked (omega arith))
asked_short naming at c s (requests.Exists r) (stat_at p watch) h k small asked room = stat_short naming at c s p watch
asked_short naming at c s (requests.GetContent r) (get_content p watch) h k small asked room = content_short naming at c s p watch k
asked_short naming at c s (requests.SetContent r) (single (set_content p content version)) h k small asked room =
    one_change naming at c s _ _ (omega arith)
    (change_short naming at s (ops.SetContent r) (set_content p content version) h asked (omega arith))
asked_short naming at c s (requests.GetAcl r) (get_acl p) h k small asked room = acl_short naming at c s p
asked_short naming at c s (requests.SetAcl r) (set_acl p version) h k small asked room = set_acl_short naming at c s p version
asked_short naming at c s (requests.GetChildren r) (get_children p watch stat) h k small asked room =
    children_short naming at c s p watch stat room
asked_short naming at c s (requests.GetChildren2 r) (get_children p watch stat) h k small asked room =
    children_short naming at c s p watch stat room
asked_short naming at c s (requests.Sync r) (sync p) h k small asked room =
    sync_short naming at c s p (path_short r.path p asked (omega arith))
asked_short naming at c s requests.Ping ping h k small asked room = ping_short naming at c s
asked_short naming at c s (requests.Multi list) (multi changes) h k small asked room =
    several_changes naming at c s changes _ (omega arith) (changes_short naming at s list changes h asked (omega arith))
asked_short naming at c s (requests.SetWatches r) (set_watches seen contents exist childs) h k small asked room =
    watches_short naming at c s seen contents exist childs (paths_short r.content_paths contents asked.1 (omega arith))
    (paths_short r.exist_paths exist asked.2 (omega arith))
    (paths_short r.child_paths childs asked.3 (omega arith))
asked_short naming at c s requests.Close close h k small asked room = close_short naming at c s k
asked_short naming at c s r command h k small asked room = absurd asked
