use Rattle.std.proofs.Common.{length, string_bytes}
use denote.Text.{Utf8}
use denote.Shadow.{shadow}
use Rattle.path_seal.proofs.Steps.{IsOpenedTo}
use Rattle.path_seal.proofs.opening.opened_text.Given as goal

abbrev pub invariant-loop-sealed : goal.invariant-loop-sealed
invariant-loop-sealed l = shadow (Utf8 l.rest) × IsOpenedTo l.keys l.text l.rest (string_bytes l.plain) l.under

abbrev pub decreases-loop-sealed : goal.decreases-loop-sealed
decreases-loop-sealed l = length l.rest
