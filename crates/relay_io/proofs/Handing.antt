-- Acts of a pass one after another, and pulls of which all is written.
use Rattle.std.proofs.Common.{◌≡◌, ℕ, ◌+◌, ◌<◌, ◌≤◌, List, [], ◌∷◌, ◌++◌, length, refl, sym, ap, subst, ◌∙◌, arith}
use Rattle.std.specs.Prelude.{Option, Result, Ok, Err, true, false, Bool}
use Rattle.std.proofs.lemmas.List.{append_assoc, append-nil}
use Rattle.atomic_table.specs.Seated.{TableId}
use Rattle.jute_core.specs.Faults.{Rose, HasCause, Takes, Wrote, WroteFront}
use Rattle.store_side.specs.declared.ending.StoreEnding.TheVariants as stores
use Rattle.tree_hall.specs.declared.act.Act.TheVariants.{Pull}
use Rattle.tree_hall.specs.declared.view.Item.{Item}
use Rattle.tree_hall.specs.declared.pass.Pass.{Pass}
use Rattle.tree_hall.specs.Histories.{item}
use Rattle.tree_hall.specs.Passes.{IsPassOf, number_of, calls_of}
use Rattle.relay_io.specs.declared.pulling.Cut.{Cut}
use Rattle.relay_io.specs.declared.pulling.Cut.TheVariants.{Unwritten, NoMemory}
use Rattle.relay_io.specs.Lines.{LineTold}
use Rattle.relay_io.specs.Served.{pull_of, none_yet, one_more, up_to_last, up_to_unwritten, up_to_refused}
use Rattle.relay_io.specs.Serving.{Did, Handed, Handing}
use Rattle.relay_io.proofs.Writing.{wrote_nothing, wrote_both, front_behind, wrote_ok, wrote_front, rose_by, rose_later}

pub did_none : (table : TableId) (p : Pass) → IsPassOf table p → Did table p p []
did_none table p h = record { is_pass = h; number = refl; called = sym (append-nil (calls_of p)); knows = λ c k. k }

pub did_both : (table : TableId) (a b c : Pass) (xs ys : List Item) → Did table a b xs → Did table b c ys → Did table a c (xs ++ ys)
did_both table a b c xs ys h k = record {
  is_pass = k.is_pass;
  number = k.number ∙ h.number;
  called = k.called ∙ ap (λ (zs : List Item). zs ++ ys) h.called ∙ append_assoc (calls_of a) xs ys;
  knows = λ n s. k.knows n (h.knows n s);
}

pub begins : (table : TableId) (c : ℕ) (p : Pass) (l : LineTold) → IsPassOf table p → Handing table c p p l l
begins table c p l h = record {
  calls = [];
  given = [];
  did = did_none table p h;
  pulls = none_yet;
  wrote = wrote_nothing l.written;
  heard = refl;
  later = omega arith;
}

-- one more call of a pass whose number is that of the first one
called_behind : (table : TableId) (old mid new : Pass) (calls : List Item) (call : ℕ → Item) → Did table old mid calls → Did table mid new (call (number_of mid) ∷ [])
    → Did table old new (calls ++ call (number_of old) ∷ [])
called_behind table old mid new calls call h k =
    did_both table old mid new calls (call (number_of old) ∷ []) h (subst (λ (n : ℕ). Did table mid new (call n ∷ [])) h.number k)

-- a full pull, all of which was written
pub goes_on : (table : TableId) (c : ℕ) (old mid new : Pass) (before now after : LineTold) (bytes : List ℕ) → Handing table c old mid before now
    → Did table mid new (pull_of (number_of mid) c 65536 bytes ∷ []) → Wrote now.written after.written bytes → after.events ≡ now.events → now.faults ≤ after.faults
    → 65536 ≤ length bytes → Handing table c old new before after
goes_on table c old mid new before now after bytes h did wrote heard later full = record {
  calls = h.calls ++ pull_of (number_of old) c 65536 bytes ∷ [];
  given = h.given ++ bytes;
  did = called_behind table old mid new h.calls (λ n. pull_of n c 65536 bytes) h.did did;
  pulls = one_more 65536 bytes h.given h.calls (omega arith) full h.pulls;
  wrote = wrote_both before.written now.written after.written h.given bytes h.wrote wrote;
  heard = heard ∙ h.heard;
  later = let l = h.later in omega (arith, l, later);
}

-- the last pull, all of which was written
pub ends_all : {T : Type 0} (table : TableId) (c : ℕ) (old mid new : Pass) (before now after : LineTold) (bytes : List ℕ) (x : T) → Handing table c old mid before now
    → Did table mid new (pull_of (number_of mid) c 65536 bytes ∷ []) → Wrote now.written after.written bytes → after.events ≡ now.events → now.faults ≤ after.faults
    → length bytes < 65536 → Handed {T = T} table c old new before after (Ok x)
ends_all table c old mid new before now after bytes x h did wrote heard later short = record {
  calls = h.calls ++ pull_of (number_of old) c 65536 bytes ∷ [];
  given = h.given ++ bytes;
  did = called_behind table old mid new h.calls (λ n. pull_of n c 65536 bytes) h.did did;
  pulls = up_to_last 65536 bytes h.given h.calls short h.pulls;
  took = wrote_both before.written now.written after.written h.given bytes h.wrote wrote;
  heard = heard ∙ h.heard;
  later = let l = h.later in omega (arith, l, later);
}

-- a pull that could not be written
pub ends_unwritten : {T : Type 0} (table : TableId) (c : ℕ) (old mid new : Pass) (before now after : LineTold) (bytes : List ℕ) → Handing table c old mid before now
    → Did table mid new (pull_of (number_of mid) c 65536 bytes ∷ []) → WroteFront now.written after.written bytes → Rose now.faults after.faults → after.events ≡ now.events
    → now.faults ≤ after.faults → Handed {T = T} table c old new before after (Err Unwritten)
ends_unwritten table c old mid new before now after bytes h did front rose heard later = record {
  calls = h.calls ++ pull_of (number_of old) c 65536 bytes ∷ [];
  given = h.given ++ bytes;
  did = called_behind table old mid new h.calls (λ n. pull_of n c 65536 bytes) h.did did;
  pulls = up_to_unwritten 65536 bytes h.given h.calls (omega arith) h.pulls;
  took = (rose_later before.faults now.faults after.faults h.later rose, front_behind before.written now.written after.written h.given bytes h.wrote front);
  heard = heard ∙ h.heard;
  later = let l = h.later in omega (arith, l, later);
}

-- a pull that found no memory
pub ends_refused : {T : Type 0} (table : TableId) (c : ℕ) (old mid new : Pass) (before now : LineTold) → Handing table c old mid before now
    → Did table mid new (item (number_of mid) (Pull c 65536) (Err stores.Memory) ∷ []) → Handed {T = T} table c old new before now (Err NoMemory)
ends_refused table c old mid new before now h did = record {
  calls = h.calls ++ item (number_of old) (Pull c 65536) (Err stores.Memory) ∷ [];
  given = h.given;
  did = called_behind table old mid new h.calls (λ n. item n (Pull c 65536) (Err stores.Memory)) h.did did;
  pulls = up_to_refused 65536 h.given h.calls (omega arith) h.pulls;
  took = h.wrote;
  heard = h.heard;
  later = h.later;
}
