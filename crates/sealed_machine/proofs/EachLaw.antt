-- The laws, each from the lemma that proves it.
use Rattle.std.proofs.Common.{subst, sym}
use Rattle.request_queue.specs.declared.asked.Asked.{Asked}
use Rattle.request_rewrite.specs.Asks as kept
use Rattle.sealed_machine.specs.Laws.{VeilsWhatIsAsked, KeepsWhatIsAsked, StaysInStep}
use Rattle.sealed_machine.proofs.SealedSteps.{run_sealed, start_sealed}
use Rattle.sealed_machine.proofs.Connections.{all_match, all_told}
use Rattle.sealed_machine.proofs.SealedRequests.{veiled_command}
use Rattle.sealed_machine.proofs.KeptRequests.{asked_is, command_kept}

pub veils_what_is_asked : VeilsWhatIsAsked
veils_what_is_asked k ivs r v a b w good t ca cb = veiled_command k w ivs r v a b good t ca cb

pub keeps_what_is_asked : KeepsWhatIsAsked
keeps_what_is_asked r a asked c = (λ h. asked_is r asked a h c, λ e. subst (λ (x : Asked). kept.Asks r x) (sym e) (command_kept r a c))

pub stays_in_step : StaysInStep
stays_in_step = record {
  states = λ k naming acts sealed_acts w names v. run_sealed k w naming names acts sealed_acts _ _ v (start_sealed k);
  messages = λ k naming acts sealed_acts c told w names v s. all_told k _ _ _ told (all_match k w naming names c acts sealed_acts v) s;
}
