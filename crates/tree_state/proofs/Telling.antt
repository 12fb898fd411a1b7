-- What watches are told, event by event.
use Rattle.std.proofs.Common.{◌≡◌, ℕ, ℤ, pos, ◌==◌, ◌||◌, not, Bool, true, false, cond, List, [], ◌∷◌, ◌++◌, filter, Option, Some, None, Bor, BTreeSet, nat_cmp, is_eq, refl, sym, ap, ap₂, ◌∙◌, append_assoc, append-nil}
use Rattle.std.specs.BTreeSet.{contains_by}
use Rattle.std.specs.Cmp.{unsigned_tied}
use Rattle.std.proofs.lemmas.Cmp.{nat_eq_equiv}
use Rattle.std.specs.List.{list_any}
use Rattle.std.specs.Option.{option_copied}
use Rattle.zk_path.specs.Paths.{IsTextOf}
use Rattle.tree_state.specs.declared.events.EventKind.TheVariants as kinds
use Rattle.tree_state.specs.declared.message.Message.TheVariants as messages
use Rattle.tree_state.specs.declared.message.Output.{Output}
use Rattle.tree_state.specs.Nodes.{Path}
use Rattle.tree_state.specs.Changes.{event_to, events_to, is_not_in}
use Rattle.tree_state.specs.Watches.{members, number_of}

-- an event as the code makes it
pub event_so : (k number : ℤ) (path text : List ℕ) (p : Path) (c : ℕ) → number ≡ k → text ≡ path → IsTextOf path p
    → record { connection = c; message = messages.Event (record { kind = number; state = pos 3; path = text }) } ≡ event_to k p c
unfolding event_to
event_so k number path text p c same copied is =
    ap (λ (z : ℤ). record { connection = c; message = messages.Event (record { kind = z; state = pos 3; path = text }) }) same
    ∙ ap (λ (t : List ℕ). record { connection = c; message = messages.Event (record { kind = k; state = pos 3; path = t }) }) (copied ∙ is.spelled)

-- one connection more is told
pub told_more : (sent all : List Output) (k : ℤ) (p : Path) (left rest : List ℕ) (c : ℕ) (o : Output) → sent ++ events_to k p left ≡ all → left ≡ c ∷ rest → o ≡ event_to k p c
    → (sent ++ o ∷ []) ++ events_to k p rest ≡ all
unfolding events_to
told_more sent all k p left rest c o so_far next is =
    append_assoc sent (o ∷ []) (events_to k p rest)
    ∙ ap (λ (e : Output). sent ++ e ∷ events_to k p rest) is
    ∙ sym (ap (λ (cs : List ℕ). sent ++ events_to k p cs) next)
    ∙ so_far

-- all are told
pub all_told : (sent all : List Output) (k : ℤ) (p : Path) (left : List ℕ) → sent ++ events_to k p left ≡ all → left ≡ [] → sent ≡ all
unfolding events_to
all_told sent all k p left so_far none = sym (append-nil sent) ∙ sym (ap (λ (cs : List ℕ). sent ++ events_to k p cs) none) ∙ so_far

-- no connections are told
pub none_told : (sent : List Output) (k : ℤ) (p : Path) (to : Option (Bor (BTreeSet ℕ))) → to ≡ None → sent ≡ sent ++ events_to k p (members (option_copied to))
unfolding events_to members
none_told sent k p to none = sym (append-nil sent) ∙ sym (ap (λ (cs : Option (Bor (BTreeSet ℕ))). sent ++ events_to k p (members (option_copied cs))) none)

-- the connections of a set are those that it gives
pub members_are : (to : Option (Bor (BTreeSet ℕ))) (cs : Bor (BTreeSet ℕ)) (given : List ℕ) → to ≡ Some cs → given ≡ cs.now.keys → given ≡ members (option_copied to)
unfolding members
members_are to cs given is gives = gives ∙ sym (ap (λ (o : Option (Bor (BTreeSet ℕ))). members (option_copied o)) is)

-- ---- which connections were just told

none_among : (c : ℕ) → true ≡ is_not_in [] c
unfolding is_not_in
none_among c = refl

pub not_among : (c : ℕ) (to : Option (Bor (BTreeSet ℕ))) → to ≡ None → true ≡ is_not_in (members (option_copied to)) c
unfolding members
not_among c to none = none_among c ∙ sym (ap (λ (o : Option (Bor (BTreeSet ℕ))). is_not_in (members (option_copied o)) c) none)

found_is : (c : ℕ) (cs : List ℕ) → list_any (λ (d : ℕ). is_eq (nat_cmp c d)) cs ≡ list_any (λ (d : ℕ). d == c) cs
found_is c [] = refl
found_is c (d ∷ cs) = ap₂ (λ (a b : Bool). a || b) (unsigned_tied c d ∙ nat_eq_equiv.symm c d) (found_is c cs)

among_keys : (c : ℕ) (cs : List ℕ) → not (list_any (λ (d : ℕ). is_eq (nat_cmp c d)) cs) ≡ is_not_in cs c
unfolding is_not_in
among_keys c cs = ap not (found_is c cs)

pub among : (c : ℕ) (b : Bool) (to : Option (Bor (BTreeSet ℕ))) (cs : Bor (BTreeSet ℕ)) → to ≡ Some cs → b ≡ contains_by (nat_cmp c) cs.now → not b ≡ is_not_in (members (option_copied to)) c
unfolding members
among c b to cs is found = ap not found ∙ among_keys c cs.now.keys ∙ sym (ap (λ (o : Option (Bor (BTreeSet ℕ))). is_not_in (members (option_copied o)) c) is)

-- ---- the others are told

taken : (told : List ℕ) (c : ℕ) (cs : List ℕ) → is_not_in told c ≡ true → filter (is_not_in told) (c ∷ cs) ≡ c ∷ filter (is_not_in told) cs
taken told c cs new = ap (λ (b : Bool). cond b (c ∷ filter (is_not_in told) cs) (filter (is_not_in told) cs)) new

passed : (told : List ℕ) (c : ℕ) (cs : List ℕ) → is_not_in told c ≡ false → filter (is_not_in told) (c ∷ cs) ≡ filter (is_not_in told) cs
passed told c cs old = ap (λ (b : Bool). cond b (c ∷ filter (is_not_in told) cs) (filter (is_not_in told) cs)) old

pub other_told : (sent all : List Output) (k : ℤ) (p : Path) (told left rest : List ℕ) (c : ℕ) (o : Output) (b : Bool) → sent ++ events_to k p (filter (is_not_in told) left) ≡ all → left ≡ c ∷ rest
    → not b ≡ is_not_in told c → b ≡ false → o ≡ event_to k p c → (sent ++ o ∷ []) ++ events_to k p (filter (is_not_in told) rest) ≡ all
other_told sent all k p told left rest c o b so_far next tests new is =
    told_more sent all k p (filter (is_not_in told) left) (filter (is_not_in told) rest) c o so_far
    (ap (filter (is_not_in told)) next ∙ taken told c rest (sym tests ∙ ap not new)) is

pub other_passed : (sent all : List Output) (k : ℤ) (p : Path) (told left rest : List ℕ) (c : ℕ) (b : Bool) → sent ++ events_to k p (filter (is_not_in told) left) ≡ all → left ≡ c ∷ rest
    → not b ≡ is_not_in told c → b ≡ true → sent ++ events_to k p (filter (is_not_in told) rest) ≡ all
other_passed sent all k p told left rest c b so_far next tests old =
    ap (λ (cs : List ℕ). sent ++ events_to k p cs) (sym (ap (filter (is_not_in told)) next ∙ passed told c rest (sym tests ∙ ap not old))) ∙ so_far

pub others_told : (sent all : List Output) (k : ℤ) (p : Path) (told left : List ℕ) → sent ++ events_to k p (filter (is_not_in told) left) ≡ all → left ≡ [] → sent ≡ all
others_told sent all k p told left so_far none = all_told sent all k p (filter (is_not_in told) left) so_far (ap (filter (is_not_in told)) none)

pub no_others_told : (sent : List Output) (k : ℤ) (p : Path) (told : List ℕ) (to : Option (Bor (BTreeSet ℕ))) → to ≡ None → sent ≡ sent ++ events_to k p (filter (is_not_in told) (members (option_copied to)))
unfolding events_to members
no_others_told sent k p told to none = sym (append-nil sent) ∙ sym (ap (λ (cs : Option (Bor (BTreeSet ℕ))). sent ++ events_to k p (filter (is_not_in told) (members (option_copied cs)))) none)

pub of_end : (o : Output) (p : Path) (c : ℕ) → o ≡ event_to (number_of kinds.Deleted) p c → o ≡ event_to (pos 2) p c
unfolding number_of
of_end o p c h = h
