-- What a reader gave, part by part.
use Rattle.std.proofs.Common.{◌∙◌, ◌++◌, ℕ, List, length, Option, None, Some, sym, ap, arith}
use Rattle.std.proofs.lemmas.List.{length-append, append-nil, append_assoc}
use Rattle.std.specs.Io.KnownBytes.{Consumes, IsAtEnd}
use Rattle.replay_cli.specs.Told.{Agrees}
use Rattle.replay_cli.specs.Files.{IsSeen, GivesPart, told_left}
use Rattle.replay_cli.specs.declared.files.Part.TheVariants.{More}

-- the bytes so far, and one more part
pub one_more_part : (left mid more : Option (List ℕ)) (bytes new : List ℕ) → Consumes left mid bytes → GivesPart More bytes new mid more → Consumes left more new
one_more_part None mid more bytes new so part = tt
one_more_part (Some xs) None more bytes new so part = absurd so
one_more_part (Some xs) (Some ys) None bytes new so part = absurd part.2
one_more_part (Some xs) (Some ys) (Some zs) bytes new so part =
    so ∙ ap (λ (tail : List ℕ). bytes ++ tail) part.2 ∙ sym (append_assoc bytes part.0 zs) ∙ ap (λ (head : List ℕ). head ++ zs) (sym part.1)

-- at the end the bytes are all that there was
pub all_parts : (left mid : Option (List ℕ)) (bytes : List ℕ) → Consumes left mid bytes → IsAtEnd mid → Agrees (told_left left) bytes
all_parts None mid bytes so end = tt
all_parts (Some xs) None bytes so end = absurd so
all_parts (Some xs) (Some ys) bytes so end = so ∙ ap (λ (tail : List ℕ). bytes ++ tail) end ∙ append-nil bytes

-- they are never more than there was
pub parts_seen : (left more : Option (List ℕ)) (bytes : List ℕ) → Consumes left more bytes → IsSeen (told_left left) (length bytes)
parts_seen None more bytes so = tt
parts_seen (Some xs) None bytes so = absurd so
parts_seen (Some xs) (Some ys) bytes so = omega (arith, ap length so, length-append bytes ys)
