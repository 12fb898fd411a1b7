-- Pasts that are the same to the machine, or to the lines.
use Rattle.std.proofs.Common.{◌≡◌, ℕ, List, sym, subst, ◌∙◌}
use Rattle.tree_state.specs.declared.held.Held.{Held}
use Rattle.tree_state.specs.Changes.{Naming}
use Rattle.tree_state.specs.Step.{Act}
use Rattle.store_side.specs.declared.entry.Entry.{Entry}
use Rattle.store_side.specs.Past.{Past, state_of}
use Rattle.store_side.specs.Follows.{IsAdmitted}
use Rattle.tree_server.specs.declared.books.Books.{Books}
use Rattle.tree_server.specs.declared.lines.Lines.{Lines}
use Rattle.tree_server.specs.Machines.{Stands}
use Rattle.tree_server.specs.Connections.{AreLines}

-- what the machine knows of a past
pub record SameToMachine (p q : Past) : Type 0 where
  pub naming : q.naming ≡ p.naming
  pub key : q.key ≡ p.key
  pub limit : q.limit ≡ p.limit
  pub order : q.order ≡ p.order
  pub acts : q.acts ≡ p.acts

-- the past of these alone
abbrev pub machine_part : Past → Naming → List ℕ → ℕ → List Entry → List Act → Past
machine_part p naming key limit order acts = record p { naming = naming; key = key; limit = limit; order = order; acts = acts }

at_part : (named : List ℕ → ℕ → List ℕ → Type 0) (keeps : List Entry → Type 0) (room : ℕ) (held : Held) (books : Books) (p q : Past)
    → Stands named keeps room held books p → Stands named keeps room held books (machine_part q p.naming p.key p.limit p.order p.acts)
unfolding state_of
at_part named keeps room held books p q h = record {
  naming = h.naming;
  means = h.means;
  are_acts = h.are_acts;
  steps = h.steps;
  once = h.once;
  quiet = h.quiet;
  kept = h.kept;
  roomy = h.roomy;
  key = h.key;
  limit = h.limit;
  small = h.small;
  counted = h.counted;
  owes = h.owes;
  within = h.within;
  greatest = h.greatest;
  given = h.given;
  drawn = h.drawn;
  dues = h.dues;
  timely = h.timely;
  distinct = h.distinct;
}

-- the machine stands at each past that is the same to it
pub stands_same : (named : List ℕ → ℕ → List ℕ → Type 0) (keeps : List Entry → Type 0) (room : ℕ) (held : Held) (books : Books) (p q : Past)
    → SameToMachine p q → Stands named keeps room held books p → Stands named keeps room held books q
stands_same named keeps room held books p q same h =
    let whole : machine_part q p.naming p.key p.limit p.order p.acts ≡ q = λ i. machine_part q (sym same.naming i) (sym same.key i) (sym same.limit i) (sym same.order i) (sym same.acts i) in
    subst (λ (x : Past). Stands named keeps room held books x) whole (at_part named keeps room held books p q h)

-- what the lines know of a past
pub record SameToLines (p q : Past) : Type 0 where
  pub admitted : q.admitted ≡ p.admitted
  pub waiting : (c : ℕ) → q.waiting c ≡ p.waiting c
  pub rests : (c : ℕ) → q.rests c ≡ p.rests c
  pub endings : (c : ℕ) → q.endings c ≡ p.endings c
  pub written : q.written ≡ p.written

not_there : (p q : Past) (c : ℕ) → q.admitted ≡ p.admitted → (IsAdmitted q c → ⊥) → IsAdmitted p c → ⊥
not_there p q c same apart inside = apart (record { from = inside.from; below = rw same inside.below })

-- the lines are those of each past that is the same to them
pub lines_same : (ls : Lines) (p q : Past) → SameToLines p q → AreLines ls p → AreLines ls q
lines_same ls p q same h = record {
  admitted = same.admitted ∙ h.admitted;
  few = rw same.admitted h.few;
  behind = h.behind;
  messages = h.messages;
  waiting = λ c. same.waiting c ∙ h.waiting c;
  none = λ c apart. h.none c (not_there p q c same.admitted apart);
  written = λ w. h.written (sym same.written ∙ w);
  rests = λ c. same.rests c ∙ h.rests c;
  endings = λ c. same.endings c ∙ h.endings c;
  parts = h.parts;
  held = h.held;
}
