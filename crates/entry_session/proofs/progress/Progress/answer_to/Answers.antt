use Rattle.std.proofs.Common.{rules, w32, of_z, FitsSigned, ap, subst, sym}
use Rattle.std.proofs.lemmas.Int.{to_z-of_z}
use Rattle.zk_messages.specs.Replies.{SpellsReply, RefusedReply}
use Rattle.zk_messages.specs.declared.reply.Shape.{Shape}
use Rattle.entry_session.specs.StoreSteps.{IsRefusedBy}
use Rattle.entry_session.specs.declared.ending.Ending.TheVariants.{Memory}
use Rattle.entry_session.proofs.StoreReplies.{front_is, nothing_waits, other_waits, reply_refused, memory_ends, front_short, if_err, same_int, reply_shaped, reply_parts}
use Rattle.entry_session.proofs.StoreSide.{not_read, of_body, is_read}
use Rattle.entry_session.proofs.progress.Progress.answer_to.Goals as goal

pub returns-in_default-clause-ends : goal.returns-in_default-clause-ends
returns-in_default-clause-ends c = rw (← c.self.view_is) (
    let own : FitsSigned w32 c.args.xid = search rules in
    nothing_waits _ _ _ c.args.xid _ c.in_default.is c.front.ensures.none (to_z-of_z w32 c.args.xid own))

pub returns-then-pending-xid-clause-ends : goal.returns-then-pending-xid-clause-ends
returns-then-pending-xid-clause-ends c = rw (← c.self.view_is) (
    let front = front_is c.front.result c.in-Some.pending c.self.inside.queue c.in-Some.is c.front.ensures.first in
    let own : FitsSigned w32 c.args.xid = search rules in
    let fits : FitsSigned w32 c.in-Some.pending.now.xid = search rules in
    other_waits _ front.0 c.in-Some.pending.now _ _ c.args.xid _ front.1 (to_z-of_z w32 c.in-Some.pending.now.xid fits) (to_z-of_z w32 c.args.xid own) (λ e. c.if-pending-xid.true (ap (of_z w32) (sym e))))

pub returns-in_err-stored-clause-ends : goal.returns-in_err-stored-clause-ends
returns-in_err-stored-clause-ends c = rw (← c.self.view_is) (
    let front = front_is c.front.result c.in-Some.pending c.self.inside.queue c.in-Some.is c.front.ensures.first in
    let own : FitsSigned w32 c.args.xid = search rules in
    let fits : FitsSigned w32 c.in-Some.pending.now.xid = search rules in
    let same = same_int c.args.xid c.in-Some.pending.now.xid own fits (sym c.if-pending-xid.false) in
    let refused = not_read _ _ c.in_err-stored.field-0.0 _ (of_body _ c.args.body.now (RefusedReply c.shape_of.result) c.read_reply.ensures.refused) c.map_err.ensures.cases c.in_err-stored.was in
    if_err _ c.in_err-stored.field-0.0 _ c.from_residual.ensures.1
    (reply_refused _ front.0 c.in-Some.pending.now c.args.xid c.args.body.now c.in_err-stored.field-0.0 front.1 same
    (subst (λ (shape : Shape). IsRefusedBy (RefusedReply shape c.args.body.now) c.in_err-stored.field-0.0) c.shape_of.ensures refused)))

pub unveil_reply-requires-clause-shape : goal.unveil_reply-requires-clause-shape
unveil_reply-requires-clause-shape c =
    let read = is_read (λ r. SpellsReply c.shape_of.result r c.args.body.now) _ _ _ c.read_reply.ensures.read c.map_err.ensures.cases c.in_ok-stored.was in
    reply_shaped _ c.in_ok-stored.stored c.args.body.now c.requires (subst (λ (shape : Shape). SpellsReply shape c.in_ok-stored.stored c.args.body.now) c.shape_of.ensures read)

pub unveil_reply-requires-clause-path : goal.unveil_reply-requires-clause-path
unveil_reply-requires-clause-path c =
    let front = front_is c.front.result c.in-Some.pending c.self.inside.queue c.in-Some.is c.front.ensures.first in
    front_short c.self.inside.queue front.0 c.in-Some.pending.now front.1 c.self.invariant.2

pub unveil_reply-requires-clause-short : goal.unveil_reply-requires-clause-short
unveil_reply-requires-clause-short c =
    let read = is_read (λ r. SpellsReply c.shape_of.result r c.args.body.now) _ _ _ c.read_reply.ensures.read c.map_err.ensures.cases c.in_ok-stored.was in
    reply_parts _ c.in_ok-stored.stored c.args.body.now c.requires read

pub returns-in_err-told-clause-ends : goal.returns-in_err-told-clause-ends
returns-in_err-told-clause-ends c = if_err _ Memory _ c.from_residual-in_err-told.ensures.1 (memory_ends c.args.self.now.queue c.args.xid c.args.body.now)

pub returns-clause-answer : goal.returns-clause-answer
returns-clause-answer c = rw (← c.self.view_is) (
    let front = front_is c.front.result c.in-Some.pending c.self.inside.queue c.in-Some.is c.front.ensures.first in
    let own : FitsSigned w32 c.args.xid = search rules in
    let fits : FitsSigned w32 c.in-Some.pending.now.xid = search rules in
    let read = is_read (λ r. SpellsReply c.shape_of.result r c.args.body.now) _ _ _ c.read_reply.ensures.read c.map_err.ensures.cases c.in_ok-stored.was in
    record {
      pending = c.in-Some.pending.now;
      left = front.0;
      waited = front.1;
      asked = c.in-Some.ensures.asked;
      xid_is = same_int c.args.xid c.in-Some.pending.now.xid own fits (sym c.if-pending-xid.false);
      stored = c.in_ok-stored.stored;
      spelled = subst (λ (shape : Shape). SpellsReply shape c.in_ok-stored.stored c.args.body.now) c.shape_of.ensures read;
      admits = c.in_ok-told.ensures.admitted;
      ending_is = c.ending_by-ending.ensures;
    })
