use Rattle.std.proofs.Common.{ℤ, rules, w32, FitsSigned, refl, sym, subst}
use Rattle.std.proofs.lemmas.Int.{to_z-of_z}
use Rattle.entry_session.specs.Kept.{AreShort}
use Rattle.entry_session.specs.StoreSteps.{EndsReply}
use Rattle.entry_session.proofs.StoreReplies.{reply_ends, reply_told, answer_short, answer_fits, answer_along, finding_added, popped, rest_short, stops_with, never_wants}
use Rattle.entry_session.proofs.StoreSide.{answered_by, goes_on}
use Rattle.entry_session.proofs.progress.Progress.hear_reply.Goals as goal

pub returns-in_err-answer-clause-hears : goal.returns-in_err-answer-clause-hears
returns-in_err-answer-clause-hears c =
    let own : FitsSigned w32 c.args.xid = search rules in
    let ends = subst (λ (z : ℤ). EndsReply c.args.self.now.queue z c.args.body.now c.in_err-answer.field-0.0) (to_z-of_z w32 c.args.xid own) c.in_err-answer.ensures.ends in
    answered_by _ c.in_err-answer.field-0.0 _ _ _ _ _ _ c.args.findings.now.items _ c.from_residual.ensures.1
    (reply_ends _ c.args.xid _ _ c.args.findings.now.items c.in_err-answer.field-0.0 c.requires.begins c.requires.reply ends)

pub tell-requires-clause-short : goal.tell-requires-clause-short
tell-requires-clause-short c = answer_short _ _ _ _ c.in_ok-answer.answer c.in_ok-answer.ensures.answer

pub tell-requires-clause-fits : goal.tell-requires-clause-fits
tell-requires-clause-fits c = answer_fits _ _ _ _ c.in_ok-answer.answer c.requires.short c.in_ok-answer.ensures.answer

pub invariant_of-self : goal.invariant_of-self
invariant_of-self c =
    let h = answer_along _ _ _ _ c.args.body.now c.in_ok-answer.answer c.self.view_is refl c.in_ok-answer.ensures.answer in
    let left = popped c.pop.result c.self.inside.queue c.pop.new.self h.left h.pending h.waited c.pop.ensures.first c.pop.ensures.none in
    (c.self.invariant.0, c.self.invariant.1, subst AreShort (sym left) (rest_short c.self.inside.queue h.left h.pending h.waited c.self.invariant.2))

pub returns-in-None-clause-hears : goal.returns-in-None-clause-hears
returns-in-None-clause-hears c = rw (← c.self.view_is) (
    let own : FitsSigned w32 c.args.xid = search rules in
    let same = to_z-of_z w32 c.args.xid own in
    let h = answer_along _ _ _ c.args.xid c.args.body.now c.in_ok-answer.answer c.self.view_is same c.in_ok-answer.ensures.answer in
    let left = popped c.pop.result c.self.inside.queue c.pop.new.self h.left h.pending h.waited c.pop.ensures.first c.pop.ensures.none in
    reply_told _ c.pop.new.self c.saturating_add-self-inside.result c.args.xid c.args.body.now _ _ c.args.findings.now.items _ c.in_ok-answer.answer _ c.requires.begins c.requires.reply h left c.saturating_add-self-inside.ensures c.in_ok-tell.ensures.told
    (finding_added c.args.findings.now.items _ c.finding_of-finding.result _ _ _ _ c.args.xid c.in_ok-answer.answer.cause c.in_ok-tell.ensures.found c.finding_of-finding.ensures c.self.invariant.1 same)
    (goes_on c.in_ok-answer.answer.ending c.in-None.is))

pub invariant_of-self-2 : goal.invariant_of-self-2
invariant_of-self-2 c =
    let h = answer_along _ _ _ _ c.args.body.now c.in_ok-answer.answer c.self.view_is refl c.in_ok-answer.ensures.answer in
    let left = popped c.pop.result c.self.inside.queue c.pop.new.self h.left h.pending h.waited c.pop.ensures.first c.pop.ensures.none in
    (c.self.invariant.0, c.self.invariant.1, subst AreShort (sym left) (rest_short c.self.inside.queue h.left h.pending h.waited c.self.invariant.2))

pub returns-clause-hears : goal.returns-clause-hears
returns-clause-hears c = rw (← c.self.view_is) (
    let own : FitsSigned w32 c.args.xid = search rules in
    let same = to_z-of_z w32 c.args.xid own in
    let h = answer_along _ _ _ c.args.xid c.args.body.now c.in_ok-answer.answer c.self.view_is same c.in_ok-answer.ensures.answer in
    let left = popped c.pop.result c.self.inside.queue c.pop.new.self h.left h.pending h.waited c.pop.ensures.first c.pop.ensures.none in
    reply_told _ c.pop.new.self c.saturating_add-self-inside.result c.args.xid c.args.body.now _ _ c.args.findings.now.items _ c.in_ok-answer.answer _ c.requires.begins c.requires.reply h left c.saturating_add-self-inside.ensures c.in_ok-tell.ensures.told
    (finding_added c.args.findings.now.items _ c.finding_of-finding.result _ _ _ _ c.args.xid c.in_ok-answer.answer.cause c.in_ok-tell.ensures.found c.finding_of-finding.ensures c.self.invariant.1 same)
    (stops_with c.in_ok-answer.answer.ending c.in-Some.ending c.in-Some.is))

pub returns-clause-wants : goal.returns-clause-wants
returns-clause-wants c = λ e.
    absurd (never_wants c.in_ok-answer.ensures.answer.pending.asked c.in_ok-answer.answer.ending _ c.in_ok-answer.ensures.answer.ending_is (stops_with c.in_ok-answer.answer.ending c.in-Some.ending c.in-Some.is) e)
