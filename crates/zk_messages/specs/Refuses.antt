-- Requests that are refused before the store sees them, each with the code of its error: this project's own profile of the
-- Programmer's Guide ("Data Model", "ACLs"), with the codes of KeeperException in the Java sources of ZooKeeper 3.4.
use Rattle.std.specs.Prelude.{◌≡◌, ◌⊎◌, ℕ, ℤ, pos, negsuc, ◌<◌, ◌^◌, List, [], ◌∷◌, length, codes, Option, Some, None, IfSome, All}
use Rattle.zk_path.specs.Paths.{IsPathText, IsStemText}
use Rattle.zk_records.specs.declared.acl.Acl.{Acl}
use Rattle.zk_records.specs.declared.create.CreateRequest.{CreateRequest}
use Rattle.zk_records.specs.declared.set_acl.SetAclRequest.{SetAclRequest}
use Rattle.zk_records.specs.declared.set_watches.SetWatches.{SetWatches}
use Rattle.zk_messages.specs.declared.request.Op.{Op}
use Rattle.zk_messages.specs.declared.request.Op.TheVariants as ops
use Rattle.zk_messages.specs.declared.request.Request.{Request}
use Rattle.zk_messages.specs.declared.request.Request.TheVariants as requests

abbrev pub unimplemented : ℤ
unimplemented = negsuc 5

abbrev pub bad_arguments : ℤ
bad_arguments = negsuc 7

abbrev pub invalid_acl : ℤ
invalid_acl = negsuc 113

abbrev pub auth_failed : ℤ
auth_failed = negsuc 114

-- the first of the rules that fits: where this holds, the code, and else what the next ones say
unfoldable pub Rule : Type 0 → ℤ → (Option ℤ → Type 0) → Option ℤ → Type 0
Rule Holds code Next outcome = (Holds × (outcome ≡ Some code)) ⊎ ((Holds → ⊥) × Next outcome)

-- no rule fits
abbrev pub IsAllowed : Option ℤ → Type 0
IsAllowed outcome = outcome ≡ None

abbrev pub IsRootText : List ℕ → Type 0
IsRootText text = text ≡ codes "/"

abbrev pub IsSequential : ℤ → Type 0
IsSequential flags = (flags ≡ pos 2) ⊎ (flags ≡ pos 3)

-- the text of a create: a stem where a number will follow
abbrev pub IsNameFor : ℤ → List ℕ → Type 0
IsNameFor flags text = (IsSequential flags × IsStemText text) ⊎ ((IsSequential flags → ⊥) × IsPathText text)

-- flags that a create may have
abbrev pub AreFlags : ℤ → Type 0
AreFlags flags = (flags ≡ pos 0) ⊎ (flags ≡ pos 1) ⊎ IsSequential flags

-- anyone may do anything
abbrev pub open_acl : Acl
open_acl = record { perms = pos 31; scheme = codes "world"; id = codes "anyone" }

abbrev pub IsOpen : Option (List Acl) → Type 0
IsOpen list = list ≡ Some (open_acl ∷ [])

-- every path is legal; a null list has none
abbrev pub ArePaths : Option (List (List ℕ)) → Type 0
ArePaths list = IfSome list (All IsPathText)

-- an illegal path
abbrev pub RefusesPath : List ℕ → Option ℤ → Type 0
RefusesPath path outcome = Rule (IsPathText path → ⊥) bad_arguments IsAllowed outcome

-- and the root, whose content is not kept and which stays
abbrev pub RefusesNode : List ℕ → Option ℤ → Type 0
RefusesNode path outcome = Rule (IsPathText path → ⊥) bad_arguments (Rule (IsRootText path) bad_arguments IsAllowed) outcome

abbrev pub RefusesCreate : CreateRequest → Option ℤ → Type 0
RefusesCreate r outcome =
    Rule (IsNameFor r.flags r.path → ⊥) bad_arguments
    (Rule (IsRootText r.path × (IsSequential r.flags → ⊥)) bad_arguments
    (Rule (AreFlags r.flags → ⊥) bad_arguments
    (Rule (IsOpen r.acls → ⊥) invalid_acl IsAllowed)))
    outcome

abbrev pub RefusesSetAcl : SetAclRequest → Option ℤ → Type 0
RefusesSetAcl r outcome = Rule (IsPathText r.path → ⊥) bad_arguments (Rule (IsOpen r.acls → ⊥) invalid_acl IsAllowed) outcome

abbrev pub RefusesWatches : SetWatches → Option ℤ → Type 0
RefusesWatches r outcome =
    Rule (ArePaths r.content_paths → ⊥) bad_arguments
    (Rule (ArePaths r.exist_paths → ⊥) bad_arguments
    (Rule (ArePaths r.child_paths → ⊥) bad_arguments IsAllowed))
    outcome

abbrev pub RefusesOp : Op → Option ℤ → Type 0
RefusesOp (ops.Create r) outcome = RefusesCreate r outcome
RefusesOp (ops.Delete r) outcome = RefusesNode r.path outcome
RefusesOp (ops.SetContent r) outcome = RefusesNode r.path outcome
RefusesOp (ops.Check r) outcome = RefusesPath r.path outcome
RefusesOp (ops.Create2 r) outcome = RefusesCreate r outcome

-- a multi has the refusal of its first operation that has one
unfoldable pub RefusesOps : List Op → Option ℤ → Type 0
RefusesOps [] outcome = IsAllowed outcome
RefusesOps (op ∷ list) outcome = ((code : ℤ) × RefusesOp op (Some code) × (outcome ≡ Some code))
    ⊎ (RefusesOp op None × RefusesOps list outcome)

-- the code with which a request is refused, or none
unfoldable pub Refuses : Request → Option ℤ → Type 0
Refuses (requests.Unknown kind body) outcome = outcome ≡ Some unimplemented
Refuses (requests.Auth body) outcome = outcome ≡ Some auth_failed
Refuses (requests.Create r) outcome = RefusesCreate r outcome
Refuses (requests.Delete r) outcome = RefusesNode r.path outcome
Refuses (requests.Exists r) outcome = RefusesPath r.path outcome
Refuses (requests.GetContent r) outcome = RefusesNode r.path outcome
Refuses (requests.SetContent r) outcome = RefusesNode r.path outcome
Refuses (requests.GetAcl r) outcome = RefusesPath r.path outcome
Refuses (requests.SetAcl r) outcome = RefusesSetAcl r outcome
Refuses (requests.GetChildren r) outcome = RefusesPath r.path outcome
Refuses (requests.GetChildren2 r) outcome = RefusesPath r.path outcome
Refuses (requests.Sync r) outcome = RefusesPath r.path outcome
Refuses requests.Ping outcome = IsAllowed outcome
Refuses (requests.Multi list) outcome = RefusesOps list outcome
Refuses (requests.SetWatches r) outcome = RefusesWatches r outcome
Refuses requests.Close outcome = IsAllowed outcome
Refuses (requests.Create2 r) outcome = RefusesCreate r outcome

-- Texts that can be judged: the place of a fault in one is a u32.
abbrev pub IsShortText : List ℕ → Type 0
IsShortText text = length text < 2 ^ 32

abbrev pub AreShortTexts : Option (List (List ℕ)) → Type 0
AreShortTexts list = IfSome list (All IsShortText)

abbrev pub HasShortPath : Op → Type 0
HasShortPath (ops.Create r) = IsShortText r.path
HasShortPath (ops.Delete r) = IsShortText r.path
HasShortPath (ops.SetContent r) = IsShortText r.path
HasShortPath (ops.Check r) = IsShortText r.path
HasShortPath (ops.Create2 r) = IsShortText r.path

abbrev pub HasShortPaths : Request → Type 0
HasShortPaths (requests.Unknown kind body) = Unit {0}
HasShortPaths (requests.Auth body) = Unit {0}
HasShortPaths (requests.Create r) = IsShortText r.path
HasShortPaths (requests.Delete r) = IsShortText r.path
HasShortPaths (requests.Exists r) = IsShortText r.path
HasShortPaths (requests.GetContent r) = IsShortText r.path
HasShortPaths (requests.SetContent r) = IsShortText r.path
HasShortPaths (requests.GetAcl r) = IsShortText r.path
HasShortPaths (requests.SetAcl r) = IsShortText r.path
HasShortPaths (requests.GetChildren r) = IsShortText r.path
HasShortPaths (requests.GetChildren2 r) = IsShortText r.path
HasShortPaths (requests.Sync r) = IsShortText r.path
HasShortPaths requests.Ping = Unit {0}
HasShortPaths (requests.Multi list) = All HasShortPath list
HasShortPaths (requests.SetWatches r) = AreShortTexts r.content_paths × AreShortTexts r.exist_paths × AreShortTexts r.child_paths
HasShortPaths requests.Close = Unit {0}
HasShortPaths (requests.Create2 r) = IsShortText r.path

-- a request has one refusal, or none
abbrev pub HasOneOutcome : Request → Type 0
HasOneOutcome r = (x y : Option ℤ) → Refuses r x → Refuses r y → x ≡ y
