-- What members that stay noted.
use Rattle.std.proofs.Common.{◌≡◌, ◌⊎◌, inl, inr, refl, sym, subst, ap, ◌∙◌, ℕ, List, [], ◌∷◌, ◌++◌, Option, Some, None, Result, Ok, Err, append_assoc}
use Rattle.std.proofs.lemmas.List.{append-nil}
use Rattle.reply_rewrite.specs.declared.finding.Finding.{Finding}
use Rattle.jute_core.specs.Faults.{Rose, HasCause}
use Rattle.audit_board.specs.declared.board.Seat.{Seat}
use Rattle.audit_board.specs.declared.sinks.Failed.{Failed}
use Rattle.audit_board.specs.Observers.{TakesFinding}
use Rattle.audit_board.specs.Telling.{IsNoted, IsTold, Told}
use Rattle.audit_board.specs.Growing.{GrewBy, HasGrown, HaveGrown, ToldEach, StayingMembersGrow}

-- a note in which the count did not rise
grew_by_one : (list list_after : Option (List Finding)) (faults faults_after : ℕ) (finding : Finding) (answer : Result (Unit {0}) Failed)
    → TakesFinding list list_after finding answer → HasCause faults faults_after answer → (Rose faults faults_after → ⊥) → GrewBy (finding ∷ []) list list_after
grew_by_one None list_after faults faults_after finding answer takes cause still = takes
grew_by_one (Some before) list_after faults faults_after finding (Ok done) takes cause still = takes
grew_by_one (Some before) list_after faults faults_after finding (Err failed) takes cause still = absurd (still cause.failed)

grew_both : (one two : List Finding) (a b c : Option (List Finding)) → GrewBy one a b → GrewBy two b c → GrewBy (one ++ two) a c
grew_both one two None b c first second = subst (λ (l : Option (List Finding)). GrewBy two l c) first second
grew_both one two (Some before) b c first second =
    let then = subst (λ (l : Option (List Finding)). GrewBy two l c) first second in
    then ∙ ap (λ (l : List Finding). Some l) (append_assoc before one two)

grew_not : (list : Option (List Finding)) → GrewBy [] list list
grew_not None = refl
grew_not (Some before) = ap (λ (l : List Finding). Some l) (sym (append-nil before))

module _ {X : Type 0} {H : X → Type 0} where
  -- those that stay after one finding
  one_grew : (lists : Seat X H → Option (List Finding)) (faults : Seat X H → ℕ) (finding : Finding) (old new : List (Seat X H))
      → Told lists faults old finding new → HaveGrown lists (finding ∷ []) old new
  one_grew lists faults finding [] new told = told
  one_grew lists faults finding (seat ∷ seats) new (after, rest, this, others, inl (rose, is)) =
      inl (subst (λ (l : List (Seat X H)). HaveGrown lists (finding ∷ []) seats l) (sym is) (one_grew lists faults finding seats rest others))
  one_grew lists faults finding (seat ∷ seats) new (after, rest, this, others, inr (still, is)) =
      inr (
        after,
        rest,
        record {
          number = this.number;
          same = this.same;
          grew = grew_by_one (lists seat) (lists after) (faults seat) (faults after) finding this.noted.answer this.noted.takes this.noted.cause still;
        },
        one_grew lists faults finding seats rest others,
        is,
      )

  none_grew : (lists : Seat X H → Option (List Finding)) (seats : List (Seat X H)) → HaveGrown lists [] seats seats
  none_grew lists [] = refl
  none_grew lists (seat ∷ seats) =
      inr (seat, seats, record { number = refl; same = refl; grew = grew_not (lists seat) }, none_grew lists seats, refl)

  has_both : (lists : Seat X H → Option (List Finding)) (one two : List Finding) (a b c : Seat X H)
      → HasGrown lists one a b → HasGrown lists two b c → HasGrown lists (one ++ two) a c
  has_both lists one two a b c first second = record {
    number = second.number ∙ first.number;
    same = second.same ∙ first.same;
    grew = grew_both one two (lists a) (lists b) (lists c) first.grew second.grew;
  }

  -- one member, where those behind it grew by both
  then_grew : (lists : Seat X H → Option (List Finding)) (one two : List Finding) (seat : Seat X H) (seats : List (Seat X H)) (after : Seat X H)
      (rest new : List (Seat X H)) → HasGrown lists one seat after
      → ((l : List (Seat X H)) → HaveGrown lists two rest l → HaveGrown lists (one ++ two) seats l)
      → HaveGrown lists two (after ∷ rest) new → HaveGrown lists (one ++ two) (seat ∷ seats) new
  then_grew lists one two seat seats after rest new this both (inl gone) = inl (both new gone)
  then_grew lists one two seat seats after rest new this both (inr (last, more, that, those, is)) =
      inr (last, more, has_both lists one two seat after last this that, both more those, is)

  both_grew : (lists : Seat X H → Option (List Finding)) (one two : List Finding) (old between new : List (Seat X H))
      → HaveGrown lists one old between → HaveGrown lists two between new → HaveGrown lists (one ++ two) old new
  both_grew lists one two [] between new first second = subst (λ (l : List (Seat X H)). HaveGrown lists two l new) first second
  both_grew lists one two (seat ∷ seats) between new (inl gone) second = inl (both_grew lists one two seats between new gone second)
  both_grew lists one two (seat ∷ seats) between new (inr (after, rest, this, others, is)) second =
      then_grew lists one two seat seats after rest new this (λ l h. both_grew lists one two seats rest l others h)
      (subst (λ (l : List (Seat X H)). HaveGrown lists two l new) is second)

  pub staying_members_grow : (lists : Seat X H → Option (List Finding)) (faults : Seat X H → ℕ) → StayingMembersGrow lists faults
  staying_members_grow lists faults old new [] told = subst (λ (l : List (Seat X H)). HaveGrown lists [] old l) (sym told) (none_grew lists old)
  staying_members_grow lists faults old new (finding ∷ findings) (between, this, others) =
      both_grew lists (finding ∷ []) findings old between new (one_grew lists faults finding old between this)
      (staying_members_grow lists faults between new findings others)
