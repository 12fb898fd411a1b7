-- A copy of the nodes holds what they hold.
use Rattle.std.proofs.Common.{◌≡◌, ℕ, List, [], ◌∷◌, String, Global, string_bytes, string_cmp, nat_cmp, map, All, refl, sym, ap, ap₂, subst, ◌∙◌}
use Rattle.std.specs.BTreeMap.{insert_entry}
use Rattle.std.specs.Cmp.Lexicographic.{slice_cmp}
use Rattle.std.specs.List.{AllZip}
use Rattle.std.specs.List.Sorted.{IsStrictlySortedBy}
use Rattle.std.specs.Map.{keys_of}
use Rattle.std.specs.String.{string_cmp_total}
use Rattle.std.proofs.lemmas.List.Elements.{All-nil, All-cons, All-head, All-tail}
use Rattle.zk_path.specs.Paths.{IsTextOf}
use Rattle.tree_state.specs.declared.node.Node as code
use Rattle.tree_state.specs.declared.places.Places.{Places}
use Rattle.tree_state.specs.Nodes.{Node, Place, child_names}
use Rattle.tree_state.specs.Places.{path_of, Entry, node_of, place_of, HasText, HasNames, Holds}
use Rattle.tree_state.specs.Shuffles.{Shuffles}
use Rattle.tree_state.proofs.CopiedMaps.{AreAlike, IsCopiedUpTo, entry_copied}

-- the same node under the same text
pub record IsEntryCopy (e f : Entry) : Type 0 where
  pub text : string_bytes f.0 ≡ string_bytes e.0
  pub node : node_of f.1 ≡ node_of e.1
  pub names : map string_bytes f.1.names.keys ≡ map string_bytes e.1.names.keys

alike_texts : AreAlike string_cmp IsEntryCopy
alike_texts e f c k = (ap (λ (x : List ℕ). slice_cmp nat_cmp x (string_bytes k)) c.text, ap (λ (x : List ℕ). slice_cmp nat_cmp (string_bytes k) x) c.text)

-- one more entry
pub place_copied : (made after left rest all : List Entry) (e : Entry) (k : String Global) (n : code.Node) → IsStrictlySortedBy string_cmp (keys_of all) → left ≡ e ∷ rest
    → string_bytes k ≡ string_bytes e.0 → node_of n ≡ node_of e.1 → map string_bytes n.names.keys ≡ map string_bytes e.1.names.keys
    → after ≡ insert_entry string_cmp made k n → IsCopiedUpTo IsEntryCopy made left all → IsCopiedUpTo IsEntryCopy after rest all
place_copied made after left rest all e k n sorted next text node names more so_far =
    entry_copied string_cmp IsEntryCopy string_cmp_total alike_texts made after left rest all e (k, n) sorted next (record { text = text; node = node; names = names }) more so_far

same_places : (es fs : List Entry) → AllZip IsEntryCopy es fs → map place_of fs ≡ map place_of es
unfolding place_of
same_places [] [] h = refl
same_places [] (f ∷ fs) h = absurd h
same_places (e ∷ es) [] h = absurd h
same_places (e ∷ es) (f ∷ fs) h =
    ap₂ (λ (p : Place) (ps : List Place). p ∷ ps) (ap₂ (λ (x : List ℕ) (n : Node). record { path = path_of x; node = n }) h.0.text h.0.node) (same_places es fs h.1)

-- what holds of each entry holds of its copy
all_copies : (P : Entry → Type 0) → ((e f : Entry) → IsEntryCopy e f → P e → P f) → (es fs : List Entry) → AllZip IsEntryCopy es fs → All P es → All P fs
all_copies P over [] [] h a = All-nil P
all_copies P over [] (f ∷ fs) h a = absurd h
all_copies P over (e ∷ es) [] h a = absurd h
all_copies P over (e ∷ es) (f ∷ fs) h a = All-cons P f fs (over e f h.0 (All-head P e es a)) (all_copies P over es fs h.1 (All-tail P e es a))

text_over : (e f : Entry) → IsEntryCopy e f → HasText e → HasText f
text_over e f c h = subst (λ (x : List ℕ). IsTextOf x (path_of x)) (sym c.text) h

names_over : (ps : List Place) (e f : Entry) → IsEntryCopy e f → HasNames ps e → HasNames ps f
names_over ps e f c h = c.names ∙ h ∙ ap (λ (x : List ℕ). child_names (path_of x) ps) (sym c.text)

pub copy_holds : (t u : Places) → AllZip IsEntryCopy t.nodes.entries u.nodes.entries → (es : List Place) → Holds t es → Holds u es
copy_holds t u c es h = record {
  places = subst (λ (xs : List Place). Shuffles xs es) (sym (same_places t.nodes.entries u.nodes.entries c)) h.places;
  apart = h.apart;
  texts = all_copies HasText text_over t.nodes.entries u.nodes.entries c h.texts;
  names = all_copies (HasNames es) (names_over es) t.nodes.entries u.nodes.entries c h.names;
  rooted = h.rooted;
  steady = h.steady;
  short = h.short;
}
