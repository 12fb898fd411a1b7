use Rattle.std.proofs.Common.{length, string_bytes}
use denote.Text.{Utf8}
use denote.Shadow.{shadow}
use Rattle.path_seal.proofs.Walk.{IsSealedTo}
use Rattle.path_seal.proofs.sealing.seal_path.Given as goal

abbrev pub invariant-loop-name : goal.invariant-loop-name
invariant-loop-name l = shadow (Utf8 l.rest) × IsSealedTo l.keys l.path l.rest (string_bytes l.sealed) l.under

abbrev pub decreases-loop-name : goal.decreases-loop-name
decreases-loop-name l = length l.rest
