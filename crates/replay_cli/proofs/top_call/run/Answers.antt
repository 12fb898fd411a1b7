use Rattle.replay_cli.proofs.CauseLemmas.{key_prints, key_ends, line_prints, line_ends}
use Rattle.replay_cli.proofs.EndLemmas.{complains, reports_line, completes, serves_nobody}
use Rattle.replay_cli.proofs.top_call.run.Goals as goal

pub returns-in-Ok-clause-bad_key : goal.returns-in-Ok-clause-bad_key
returns-in-Ok-clause-bad_key g c = λ at. absurd (key_prints c.args.words.now (g.F.Files.told c.args.files.now) _ at c.in-Ok.ensures.ok)

pub returns-in-Err-clause-bad_key : goal.returns-in-Err-clause-bad_key
returns-in-Err-clause-bad_key g c = key_ends _ c.args.words.now (g.F.Files.told c.args.files.now) _ _ c.in-Err.ensures.err c.complain.ensures.status

pub returns-in-Ok-clause-bad_script : goal.returns-in-Ok-clause-bad_script
returns-in-Ok-clause-bad_script g c = λ at. absurd (line_prints c.args.words.now (g.F.Files.told c.args.files.now) _ at c.in-Ok.ensures.ok)

pub returns-in-Err-clause-bad_script : goal.returns-in-Err-clause-bad_script
returns-in-Err-clause-bad_script g c = line_ends _ c.args.words.now (g.F.Files.told c.args.files.now) _ _ c.in-Err.ensures.err c.complain.ensures.status

pub returns-in-Err-clause-reports : goal.returns-in-Err-clause-reports
returns-in-Err-clause-reports g c = λ failed. reports_line _ c.args.words.now (g.F.Files.told c.args.files.now) _ _ _ _ _ _ _ c.in-Err.ensures.err (c.complain.ensures.reports failed)

pub returns-in-Err-clause-complains : goal.returns-in-Err-clause-complains
returns-in-Err-clause-complains g c = complains _ c.args.words.now (g.F.Files.told c.args.files.now) _ _ _ _ _ _ c.in-Err.ensures.err c.complain.ensures.status c.complain.ensures.stopped c.complain.ensures.memory

pub returns-in-Err-clause-complete : goal.returns-in-Err-clause-complete
returns-in-Err-clause-complete g c = λ reads long key script read_well out_well err_well.
    completes _ c.args.words.now (g.F.Files.told c.args.files.now) _ _ _ _ _ c.in-Err.ensures.err c.complain.ensures.status c.complain.ensures.fault reads long key script read_well err_well

pub returns-in-Err-clause-own : goal.returns-in-Err-clause-own
returns-in-Err-clause-own g c = serves_nobody _ _ _ _ _ _ _ c.in-Err.ensures.err c.complain.ensures.status
