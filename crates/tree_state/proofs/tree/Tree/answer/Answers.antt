use Rattle.std.proofs.Common.{◌≡◌, ℤ, true, false, Option, None, subst, rules, w32}
use Rattle.std.specs.Int.RustNames.{FitsSigned}
use Rattle.std.proofs.lemmas.Int.{to_z-of_z}
use Rattle.zk_messages.specs.Refuses.{Refuses}
use Rattle.zk_messages.specs.declared.request.Request.{Request}
use Rattle.tree_state.specs.Changes.{Naming}
use Rattle.tree_state.proofs.EveryCommand.{some_asked}
use Rattle.tree_state.proofs.RoomLeft.{left_room, room_or_held, answers_leave_room, stays_means}
use Rattle.tree_state.proofs.Answering.{refused_answers, asked_plain, create_answers, multi_answers, other}
use Rattle.zk_messages.proofs.ShortParts.{request_judged}
use Rattle.tree_state.proofs.Shorts.{short_create, short_multi}
use Rattle.tree_state.proofs.tree.Tree.answer.Goals as goal

pub refusal_of-requires : goal.refusal_of-requires
refusal_of-requires g c = request_judged c.args.request.now c.requires.short

pub make-requires : goal.make-requires
make-requires g c =
    let short = short_create c.args.request.now false c.in-Create.asked c.in-Create.is c.requires.short in
    record { path = short.0; content = short.1 }

pub make-requires-in-Create2 : goal.make-requires-in-Create2
make-requires-in-Create2 g c =
    let short = short_create c.args.request.now true c.in-Create2.asked c.in-Create2.is c.requires.short in
    record { path = short.0; content = short.1 }

pub multi-requires : goal.multi-requires
multi-requires g c = record { short = short_multi c.args.request.now _ c.in-Multi.is c.requires.short }

-- what is not created needs no names
no_names : Naming
no_names p n i = None

-- what no rule refuses
not_refused : (r : Request) (found : Option ℤ) → found ≡ None → Refuses r found → Refuses r None
not_refused r found e h = subst (Refuses r) e h

pub returns-in-Some-clause-answers : goal.returns-in-Some-clause-answers
returns-in-Some-clause-answers g c = λ naming s x command m im live on room nm a.
    let f : FitsSigned w32 c.in-Some.code = search rules in
    simp to_z-of_z (refused_answers naming c.args.at.now c.args.connection s c.args.self.now.held c.args.outputs.now c.args.request.now command c.in-Some.code m room c.in-Some.ensures a)

pub returns-in-Some-clause-kept : goal.returns-in-Some-clause-kept
returns-in-Some-clause-kept g c = λ s x m im live on room. left_room s c.args.self.now.held c.args.outputs.now _ room

pub returns-in-Create-clause-answers : goal.returns-in-Create-clause-answers
returns-in-Create-clause-answers g c = λ naming s x command m im live on room nm a.
    create_answers naming c.args.at.now c.args.connection s c.make.new.self c.args.outputs.now _ c.args.request.now false c.in-Create.asked command _ c.in-Create.is (not_refused _ _ c.in_default.is c.refusal_of.ensures) a
    (λ p n d q e h. c.alone.ensures.answers s _ _ c.args.outputs.now _ room c.make.ensures.room (c.make.ensures.performs naming s p n d q e m im nm h))

pub returns-in-Create-clause-kept : goal.returns-in-Create-clause-kept
returns-in-Create-clause-kept g c = λ s x m im live on room.
    c.alone.ensures.kept s c.make.new.self c.args.outputs.now _ room c.make.ensures.room (stays_means c.make.result s c.args.self.now.held _ m c.make.ensures.kept) c.make.ensures.quiet

pub returns-in-Create2-clause-answers : goal.returns-in-Create2-clause-answers
returns-in-Create2-clause-answers g c = λ naming s x command m im live on room nm a.
    create_answers naming c.args.at.now c.args.connection s c.make-in-Create2.new.self c.args.outputs.now _ c.args.request.now true c.in-Create2.asked command _ c.in-Create2.is (not_refused _ _ c.in_default.is c.refusal_of.ensures) a
    (λ p n d q e h. c.alone-in-Create2.ensures.answers s _ _ c.args.outputs.now _ room c.make-in-Create2.ensures.room (c.make-in-Create2.ensures.performs naming s p n d q e m im nm h))

pub returns-in-Create2-clause-kept : goal.returns-in-Create2-clause-kept
returns-in-Create2-clause-kept g c = λ s x m im live on room.
    c.alone-in-Create2.ensures.kept s c.make-in-Create2.new.self c.args.outputs.now _ room c.make-in-Create2.ensures.room (stays_means c.make-in-Create2.result s c.args.self.now.held _ m c.make-in-Create2.ensures.kept) c.make-in-Create2.ensures.quiet

pub returns-in-Multi-clause-answers : goal.returns-in-Multi-clause-answers
returns-in-Multi-clause-answers g c = λ naming s x command m im live on room nm a.
    multi_answers naming c.args.at.now c.args.connection s c.multi.new.self.held c.args.outputs.now _ c.args.request.now _ command _ c.in-Multi.is (not_refused _ _ c.in_default.is c.refusal_of.ensures) a
    (λ changes allowed asked. c.multi.ensures.answers naming c.args.connection s changes m im room nm allowed asked)

pub returns-in-Multi-clause-kept : goal.returns-in-Multi-clause-kept
returns-in-Multi-clause-kept g c = λ s x m im live on room. room_or_held s c.args.self.now.held _ c.args.outputs.now _ _ m room c.multi.ensures.room c.multi.ensures.memory

pub returns-in_default-request : goal.returns-in_default-request
returns-in_default-request g c = record {
  answers = λ naming s x command m im live on room nm a.
      let plain = not_refused _ _ c.in_default.is c.refusal_of.ensures in
      c.serve.ensures naming s x command m im live on room (other c.args.request.now c.in_default-request.not-Create c.in_default-request.not-Create2 c.in_default-request.not-Multi) plain (asked_plain c.args.request.now command plain a);
  kept = λ s x m im live on room.
      let plain = not_refused _ _ c.in_default.is c.refusal_of.ensures in
      let some = some_asked c.args.request.now plain in
      answers_leave_room s _ _ c.args.outputs.now _ _
      (c.serve.ensures no_names s x some.0 m im live on room (other c.args.request.now c.in_default-request.not-Create c.in_default-request.not-Create2 c.in_default-request.not-Multi) plain some.1);
  names = λ stem number text. (λ h. h, λ h. h);
}
