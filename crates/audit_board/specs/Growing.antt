-- What members noted over several findings.
use Rattle.std.specs.Prelude.{◌≡◌, ◌⊎◌, ℕ, List, [], ◌∷◌, ◌++◌, Option, Some, None}
use Rattle.reply_rewrite.specs.declared.finding.Finding.{Finding}
use Rattle.audit_board.specs.Telling.{Told}
use Rattle.audit_board.specs.declared.board.Seat.{Seat}

-- A list that is told grew by exactly these findings, in their order.
abbrev pub GrewBy : List Finding → Option (List Finding) → Option (List Finding) → Type 0
GrewBy findings None after = after ≡ None
GrewBy findings (Some before) after = after ≡ Some (before ++ findings)

module _ {X : Type 0} {H : X → Type 0} where
  -- It is the same member, and what it noted grew by exactly these findings.
  pub record HasGrown (lists : Seat X H → Option (List Finding)) (findings : List Finding) (seat after : Seat X H) : Type 0 where
    pub number : after.number ≡ seat.number
    pub same : after.member.vtable ≡ seat.member.vtable
    pub grew : GrewBy findings (lists seat) (lists after)

  -- The new members are some of the old ones, in their order, and what each of them noted grew by exactly these findings.
  abbrev pub HaveGrown : (Seat X H → Option (List Finding)) → List Finding → List (Seat X H) → List (Seat X H) → Type 0
  HaveGrown lists findings [] new = new ≡ []
  HaveGrown lists findings (seat ∷ seats) new = HaveGrown lists findings seats new
      ⊎ ((after : Seat X H) × (rest : List (Seat X H)) × HasGrown lists findings seat after × HaveGrown lists findings seats rest × (new ≡ after ∷ rest))

  -- the members after these findings were told, one after another
  abbrev pub ToldEach : (Seat X H → Option (List Finding)) → (Seat X H → ℕ) → List (Seat X H) → List Finding → List (Seat X H) → Type 0
  ToldEach lists faults old [] new = new ≡ old
  ToldEach lists faults old (finding ∷ findings) new = (between : List (Seat X H)) × Told lists faults old finding between
      × ToldEach lists faults between findings new

  -- Findings that are told one after another stand in the list of each member that stays and tells one, in their order, and nothing else new does.
  abbrev pub StayingMembersGrow : (Seat X H → Option (List Finding)) → (Seat X H → ℕ) → Type 0
  StayingMembersGrow lists faults = (old new : List (Seat X H)) (findings : List Finding) → ToldEach lists faults old findings new
      → HaveGrown lists findings old new
