-- What a reader passes, and where it stops, for bytes that are said by a relation.
use Rattle.std.specs.Prelude.{◌≡◌, ℕ, ◌+◌, List, ◌++◌, length}
use Rattle.jute_core.specs.Jute.{Each}
use Rattle.jute_core.specs.Position.{Position}
use Rattle.jute_core.specs.Records.{IfRefused}
use Rattle.jute_core.specs.declared.cursor.Reason.{Reason}
use Rattle.jute_core.specs.declared.not_read.NotRead.{NotRead}

-- the bytes from the one place to the other are so
pub record Reaches (old new : Position) (Is : List ℕ → Type 0) : Type 0 where
  pub bytes : List ℕ
  pub is : Is bytes
  pub cut : old.left ≡ bytes ++ new.left
  pub moved : new.place ≡ old.place + length bytes

-- why the bytes that are left were not read; after want of memory nothing is said
pub record FailsAt (old : Position) (Is : ℕ → List ℕ → ℕ → Reason → Type 0) (e : NotRead) : Type 0 where
  pub refused : IfRefused e (λ refusal. Is old.place old.left refusal.place refusal.reason)

-- why a whole body was not read
pub record FailsBody (body : List ℕ) (Is : List ℕ → ℕ → Reason → Type 0) (e : NotRead) : Type 0 where
  pub refused : IfRefused e (λ refusal. Is body refusal.place refusal.reason)

-- values one after another, and then an end
pub record Ended {V : Type 0} (R : V → List ℕ → Type 0) (IsEnd : List ℕ → Type 0) (vs : List V) (b : List ℕ) : Type 0 where
  pub items : List ℕ
  pub last : List ℕ
  pub each : Each R vs items
  pub ended : IsEnd last
  pub cut : b ≡ items ++ last

-- some values, and then bytes that are neither a further one nor the end
pub record RefusedAmong {V : Type 0} (R : V → List ℕ → Type 0) (F : ℕ → List ℕ → ℕ → Reason → Type 0) (at : ℕ) (b : List ℕ) (place : ℕ) (reason : Reason) : Type 0 where
  pub before : List V
  pub items : List ℕ
  pub left : List ℕ
  pub each : Each R before items
  pub cut : b ≡ items ++ left
  pub next : F (at + length items) left place reason
