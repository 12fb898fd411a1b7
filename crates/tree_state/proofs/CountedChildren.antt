-- A value of the map that is written back with one child more, or one less.
use Rattle.std.proofs.Common.{◌≡◌, ℕ, ℤ, ◌<◌, ◌+◌, min, List, Some, Result, Ok, Err, OnErr, String, Global, sym, ap, subst, ◌∙◌, arith}
use Rattle.std.specs.BTreeSet.{BTreeSet, insert_key}
use Rattle.std.specs.Map.{lookup, set_value}
use Rattle.std.specs.Set.{remove_key}
use Rattle.std.specs.String.{string_cmp}
use Rattle.std.proofs.lemmas.Map.Steps.{set_value_same}
use Rattle.tree_state.specs.declared.node.Node as code
use Rattle.tree_state.specs.Nodes.{greatest_int}
use Rattle.tree_state.specs.Places.{Entry}
use Rattle.tree_state.specs.Counts.{is_at_text, with_child, without_child, IsCountedIn, IsCountedOut}

same_set : (x y : BTreeSet (String Global)) → x.keys ≡ y.keys → x ≡ y
same_set x y e = ap (λ (k : List (String Global)). record { keys = k }) e

-- after a failure
pub on_err : {T E : Type 0} (r : Result T E) (P : Type 0) → P → OnErr r P
on_err (Ok x) P h = tt
on_err (Err e) P h = h

-- no name was put in
pub not_counted : (text : List ℕ) (es fs : List Entry) (v : code.Node) (names : BTreeSet (String Global)) → Some v ≡ lookup (is_at_text text) es
    → names.keys ≡ v.names.keys → fs ≡ set_value (is_at_text text) es (record v { names = names }) → fs ≡ es
not_counted text es fs v names l e h =
    let same = ap (λ (x : BTreeSet (String Global)). record v { names = x }) (same_set names v.names e) in
    h ∙ ap (set_value (is_at_text text) es) same ∙ set_value_same (is_at_text text) es v (sym l)

pub counted_in : (text : List ℕ) (name : String Global) (z : ℤ) (es fs : List Entry) (v w : code.Node) (c : ℕ) (names : BTreeSet (String Global)) → Some v ≡ lookup (is_at_text text) es
    → c ≡ min (v.numbers.creations + 1) 4294967295 → names.keys ≡ insert_key string_cmp v.names.keys name
    → fs ≡ set_value (is_at_text text) es w → w ≡ record { content = v.content; numbers = record v.numbers { creations = c; pzxid = z }; names = names }
    → IsCountedIn text name z es fs
unfolding with_child
counted_in text name z es fs v w c names l e k h same_value = λ n f small.
    let same : v ≡ n = let g = l ∙ f in cc in
    let low : v.numbers.creations < greatest_int = subst (λ (x : code.Node). x.numbers.creations < greatest_int) (sym same) small in
    let count : c ≡ v.numbers.creations + 1 = omega arith in
    let set = same_set names (record { keys = insert_key string_cmp v.names.keys name }) k in
    h ∙ ap (set_value (is_at_text text) es) same_value ∙ ap (λ (x : ℕ). set_value (is_at_text text) es (record { content = v.content; numbers = record v.numbers { creations = x; pzxid = z }; names = names })) count
    ∙ ap (λ (x : BTreeSet (String Global)). set_value (is_at_text text) es (record { content = v.content; numbers = record v.numbers { creations = v.numbers.creations + 1; pzxid = z }; names = x })) set
    ∙ ap (λ (x : code.Node). set_value (is_at_text text) es (with_child name z x)) same

pub counted_out : (text name : List ℕ) (z : ℤ) (es fs : List Entry) (v w : code.Node) (c : ℕ) (names : BTreeSet (String Global)) → Some v ≡ lookup (is_at_text text) es
    → c ≡ min (v.numbers.deletions + 1) 4294967295 → names.keys ≡ remove_key (is_at_text name) v.names.keys
    → fs ≡ set_value (is_at_text text) es w → w ≡ record { content = v.content; numbers = record v.numbers { deletions = c; pzxid = z }; names = names }
    → IsCountedOut text name z es fs
unfolding without_child
counted_out text name z es fs v w c names l e k h same_value = λ n f small.
    let same : v ≡ n = let g = l ∙ f in cc in
    let low : v.numbers.deletions < greatest_int = subst (λ (x : code.Node). x.numbers.deletions < greatest_int) (sym same) small in
    let count : c ≡ v.numbers.deletions + 1 = omega arith in
    let set = same_set names (record { keys = remove_key (is_at_text name) v.names.keys }) k in
    h ∙ ap (set_value (is_at_text text) es) same_value ∙ ap (λ (x : ℕ). set_value (is_at_text text) es (record { content = v.content; numbers = record v.numbers { deletions = x; pzxid = z }; names = names })) count
    ∙ ap (λ (x : BTreeSet (String Global)). set_value (is_at_text text) es (record { content = v.content; numbers = record v.numbers { deletions = v.numbers.deletions + 1; pzxid = z }; names = x })) set
    ∙ ap (λ (x : code.Node). set_value (is_at_text text) es (without_child name z x)) same
