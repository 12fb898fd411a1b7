-- The parts of a reply are no longer than its body.
use Rattle.std.proofs.Common.{◌≡◌, ◌<◌, ◌≤◌, ◌^◌, ◌+◌, ℕ, ℤ, pos, negsuc, Bool, false, List, [], ◌∷◌, length, Option, Some, None, ap, arith, length-append}
use Rattle.std.specs.Prelude.{All, IfSome}
use Rattle.std.proofs.lemmas.List.Elements.{All-nil, All-cons}
use Rattle.jute_core.specs.Jute.{Jute, Value, Spells, Each, IsSized, buffer, ustring, pair, vector}
use Rattle.zk_messages.specs.Forms.{SpellsForm}
use Rattle.zk_messages.specs.Multi.{SpellsResult, SpellsResults, IsHeader}
use Rattle.zk_records.specs.Stats.{stat, stat_fields}
use Rattle.zk_messages.specs.Replies.{HasShape, SpellsOutcome}
use Rattle.zk_messages.specs.declared.reply.OpResult.{OpResult}
use Rattle.zk_messages.specs.declared.reply.OpResult.TheVariants as op_results
use Rattle.zk_messages.specs.declared.reply.Outcome.{Outcome}
use Rattle.zk_messages.specs.declared.reply.Outcome.TheVariants as outcomes
use Rattle.zk_messages.specs.declared.reply.Shape.{Shape}
use Rattle.zk_messages.specs.declared.reply.Shape.TheVariants as shapes
use Rattle.reply_rewrite.specs.Laws.{IsShortWhenRead}
use Rattle.zk_messages.specs.Short.{IsShort}
use Rattle.reply_rewrite.specs.Short.{AreShortNames, IsShortResult, HasShortParts}

sized_within : (bytes b : List ℕ) → IsSized bytes b → length bytes ≤ length b
sized_within bytes b h = omega (arith, ap length h.2, length-append h.0 bytes)

-- a length is spelled in four bytes
sized_long : (bytes b : List ℕ) → IsSized bytes b → 0 < length b
sized_long bytes b h =
    let head : length h.0 ≡ 4 = ap length h.1.1 in
    omega (arith, head, ap length h.2, length-append h.0 bytes)

text_within : (text b : List ℕ) → Spells ustring text b → length text ≤ length b
unfolding Spells
text_within text b h = sized_within text b h.0

text_long : (text b : List ℕ) → Spells ustring text b → 0 < length b
unfolding Spells
text_long text b h = sized_long text b h.0

each_within : {V : Type 0} (R : V → List ℕ → Type 0) (P : V → Type 0) → ((v : V) (x : List ℕ) → R v x → length x ≤ 2 ^ 27 → P v) → (vs : List V) (b : List ℕ) → Each R vs b → length b ≤ 2 ^ 27 → All P vs
each_within {V} R P one [] b h l = All-nil P
each_within {V} R P one (v ∷ vs) b h l =
    let cut : length b ≡ length h.0 + length h.1 = omega (arith, ap length h.4, length-append h.0 h.1) in
    All-cons P v vs (one v h.0 h.2 (omega (arith, cut, l))) (each_within R P one vs h.1 h.3 (omega (arith, cut, l)))

each_counted : {V : Type 0} (R : V → List ℕ → Type 0) → ((v : V) (x : List ℕ) → R v x → 0 < length x) → (vs : List V) (b : List ℕ) → Each R vs b → length vs ≤ length b
each_counted {V} R one [] b h = omega arith
each_counted {V} R one (v ∷ vs) b h =
    omega (arith, one v h.0 h.2, each_counted R one vs h.1 h.3, ap length h.4, length-append h.0 h.1)

names_within : (list : Option (List (List ℕ))) (b : List ℕ) → Spells (vector ustring) list b → length b ≤ 2 ^ 27 → AreShortNames list
unfolding Spells
names_within None b h l = tt
names_within (Some names) b h l = (omega (arith, h.2.0), each_within (Spells ustring) IsShort (λ t x s k. omega (arith, text_within t x s, k)) names h.1 h.3 (omega (arith, ap length h.4, length-append h.0 h.1, l)))

buffer_within : (bytes : Option (List ℕ)) (b : List ℕ) → Spells buffer bytes b → length b ≤ 2 ^ 27 → IfSome bytes IsShort
unfolding Spells
buffer_within None b h l = tt
buffer_within (Some bytes) b h l = omega (arith, sized_within bytes b h, l)

result_within : (r : OpResult) (b : List ℕ) → SpellsResult r b → length b ≤ 2 ^ 27 → IsShortResult r
unfolding SpellsResult Spells IsShortResult
result_within (op_results.Created text) b h l = omega (arith, sized_within text h.1 h.3.0, ap length h.4, length-append h.0 h.1, l)
result_within (op_results.Created2 text s) b h l =
    omega (arith, sized_within text h.3.0 h.3.2.0, ap length h.3.4, length-append h.3.0 h.3.1, ap length h.4, length-append h.0 h.1, l)
result_within op_results.Deleted b h l = tt
result_within (op_results.Changed s) b h l = tt
result_within op_results.Checked b h l = tt
result_within (op_results.Error code) b h l = tt

any_header : (kind : ℤ) (done : Bool) (err : ℤ) (b : List ℕ) → IsHeader kind done err b → 0 < length b
unfolding Spells
any_header kind done err b h = let first : length h.0 ≡ 4 = ap length h.2.1 in omega (arith, first, ap length h.4, length-append h.0 h.1)

result_long : (r : OpResult) (b : List ℕ) → SpellsResult r b → 0 < length b
unfolding SpellsResult Spells
result_long (op_results.Created text) b h = omega (arith, any_header (pos 1) false (pos 0) h.0 h.2, ap length h.4, length-append h.0 h.1)
result_long (op_results.Created2 text s) b h = omega (arith, any_header (pos 15) false (pos 0) h.0 h.2, ap length h.4, length-append h.0 h.1)
result_long op_results.Deleted b h = any_header (pos 2) false (pos 0) b h
result_long (op_results.Changed s) b h = omega (arith, any_header (pos 5) false (pos 0) h.0 h.2, ap length h.4, length-append h.0 h.1)
result_long op_results.Checked b h = any_header (pos 13) false (pos 0) b h
result_long (op_results.Error code) b h = omega (arith, any_header (negsuc 0) false code h.0 h.2, ap length h.4, length-append h.0 h.1)

results_within : (list : List OpResult) (b : List ℕ) → SpellsResults list b → length b ≤ 2 ^ 27 → (length list < 2 ^ 32) × All IsShortResult list
results_within list b h l =
    let cut : length h.items ≤ length b = omega (arith, ap length h.cut, length-append h.items h.last) in
    (omega (arith, each_counted SpellsResult result_long list h.items h.each, cut, l), each_within SpellsResult IsShortResult result_within list h.items h.each (omega (arith, cut, l)))

pair_first : (s t : Jute) (v : Value (pair s t)) (b : List ℕ) → Spells (pair s t) v b → length b ≤ 2 ^ 27 → (x : List ℕ) × Spells s v.0 x × (length x ≤ 2 ^ 27)
unfolding Spells
pair_first s t v b h l = (h.0, h.2, omega (arith, ap length h.4, length-append h.0 h.1, l))

pair_content : (content : Option (List ℕ)) (v : Value stat) (b : List ℕ) → Spells (pair buffer stat) (content, v) b → length b ≤ 2 ^ 27 → IfSome content IsShort
pair_content content v b h l = let first = pair_first buffer stat (content, v) b h l in buffer_within content first.0 first.1 first.2

pair_text : (text : List ℕ) (v : Value stat) (b : List ℕ) → Spells (pair ustring stat) (text, v) b → length b ≤ 2 ^ 27 → IsShort text
pair_text text v b h l = let first = pair_first ustring stat (text, v) b h l in omega (arith, text_within text first.0 first.1, first.2)

pair_names : (names : Option (List (List ℕ))) (v : Value stat) (b : List ℕ) → Spells (pair (vector ustring) stat) (names, v) b → length b ≤ 2 ^ 27 → AreShortNames names
pair_names names v b h l = let first = pair_first (vector ustring) stat (names, v) b h l in names_within names first.0 first.1 first.2

outcome_within : (shape : Shape) (outcome : Outcome) (b : List ℕ) → SpellsOutcome shape outcome b → length b ≤ 2 ^ 27 → HasShape shape outcome × HasShortParts outcome
unfolding SpellsOutcome SpellsForm HasShortParts
outcome_within shape (outcomes.Error code) b h l = (tt, tt)
outcome_within shapes.Empty outcomes.Empty b h l = (tt, tt)
outcome_within shapes.Path (outcomes.Path text) b h l = (tt, omega (arith, text_within text b h, l))
outcome_within shapes.Created2 (outcomes.Created2 text s) b h l = (tt, pair_text text (stat_fields s) b h l)
outcome_within shapes.Stat (outcomes.Stat s) b h l = (tt, tt)
outcome_within shapes.Content (outcomes.Content content s) b h l = (tt, pair_content content (stat_fields s) b h l)
outcome_within shapes.Acls (outcomes.Acls list s) b h l = (tt, tt)
outcome_within shapes.Children (outcomes.Children names) b h l = (tt, names_within names b h l)
outcome_within shapes.Children2 (outcomes.Children2 names s) b h l = (tt, pair_names names (stat_fields s) b h l)
outcome_within shapes.Multi (outcomes.Multi list) b h l = (tt, results_within list b h l)
outcome_within shape outcome b h l = absurd h

pub short_when_read : IsShortWhenRead
short_when_read shape r body l h = outcome_within shape r.outcome h.rest h.tail (omega (arith, l, ap length h.cut, length-append h.header h.rest))
