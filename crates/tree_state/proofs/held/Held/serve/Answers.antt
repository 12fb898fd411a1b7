use Rattle.std.proofs.Common.{true, false, rules, w32, inl, inr}
use Rattle.std.specs.Int.RustNames.{FitsSigned}
use Rattle.std.proofs.lemmas.Int.{to_z-of_z}
use Rattle.tree_state.specs.Commands.{get_acl}
use Rattle.zk_messages.specs.Short.{HasShortParts}
use Rattle.tree_state.proofs.Alone.{quiet_answers}
use Rattle.tree_state.proofs.Readings.{lent}
use Rattle.tree_state.proofs.Serving.{out_of_memory, told_row, serve_stat, serve_content, serve_acl, serve_names, serve_names_stat, serve_sync, serve_set_acl, serve_delete, serve_set_content, serve_set_watches, serve_ping, serve_close, synced, not_create, not_multi, not_auth, not_unknown}
use Rattle.tree_state.proofs.held.Held.serve.Goals as goal

pub set_content-requires : goal.set_content-requires
unfolding HasShortParts
set_content-requires c = record { short = (rw (c.in-SetContent.is) at c.requires.short).1 }

pub returns-in-Exists : goal.returns-in-Exists
returns-in-Exists c = λ naming s x command m im live on room ot rf a.
    serve_stat naming c.args.at.now c.args.connection s _ c.args.outputs.now c.args.outputs.now c.in-Exists.asked command _ (rw (c.in-Exists.is) at a)
    (λ p t. quiet_answers s _ c.stat_at.new.self c.args.outputs.now _ room (c.stat_at.ensures naming c.args.at.now s p m t))

pub returns-in-GetContent : goal.returns-in-GetContent
returns-in-GetContent c = λ naming s x command m im live on room ot rf a.
    serve_content naming c.args.at.now c.args.connection s _ c.args.outputs.now c.args.outputs.now c.in-GetContent.asked command _ (rw (c.in-GetContent.is) at a)
    (λ p t. quiet_answers s _ c.content_at.new.self c.args.outputs.now _ room (c.content_at.ensures naming c.args.at.now s p m t))

pub returns-in-GetAcl : goal.returns-in-GetAcl
returns-in-GetAcl c = λ naming s x command m im live on room ot rf a.
    serve_acl naming c.args.at.now c.args.connection s _ c.args.outputs.now c.args.outputs.now c.in-GetAcl.asked command _ (rw (c.in-GetAcl.is) at a)
    (λ p t. told_row get_acl _ naming c.args.at.now c.args.connection s c.args.self.now c.args.outputs.now p _ m room (lent _ _ p c.as_str.ensures t) c.acl_at.ensures)

pub returns-in-GetChildren : goal.returns-in-GetChildren
returns-in-GetChildren c = λ naming s x command m im live on room ot rf a.
    serve_names naming c.args.at.now c.args.connection s _ c.args.outputs.now c.args.outputs.now c.in-GetChildren.asked command _ (rw (c.in-GetChildren.is) at a)
    (λ p t. quiet_answers s _ c.children_at.new.self c.args.outputs.now _ room (c.children_at.ensures naming c.args.at.now s p m t))

pub returns-in-GetChildren2 : goal.returns-in-GetChildren2
returns-in-GetChildren2 c = λ naming s x command m im live on room ot rf a.
    serve_names_stat naming c.args.at.now c.args.connection s _ c.args.outputs.now c.args.outputs.now c.in-GetChildren2.asked command _ (rw (c.in-GetChildren2.is) at a)
    (λ p t. quiet_answers s _ c.children_at-in-GetChildren2.new.self c.args.outputs.now _ room (c.children_at-in-GetChildren2.ensures naming c.args.at.now s p m t))

pub returns-in-Sync : goal.returns-in-Sync
returns-in-Sync c = λ naming s x command m im live on room ot rf a.
    serve_sync naming c.args.at.now c.args.connection s _ c.args.outputs.now c.args.outputs.now c.in-Sync.asked command _ (rw (c.in-Sync.is) at a)
    (λ p t. synced naming c.args.at.now c.args.connection s c.args.self.now c.args.outputs.now p _ _ m room (lent _ _ p c.as_str-in-Sync.ensures t) c.sync_at.ensures)

pub returns-in-SetAcl : goal.returns-in-SetAcl
returns-in-SetAcl c = λ naming s x command m im live on room ot rf a.
    let f : FitsSigned w32 c.in-SetAcl.asked.version = search rules in
    serve_set_acl naming c.args.at.now c.args.connection s c.set_acl.new.self c.args.outputs.now c.args.outputs.now c.in-SetAcl.asked command _ (rw (c.in-SetAcl.is) at a)
    (λ p t. quiet_answers s _ c.set_acl.new.self c.args.outputs.now _ room (simp to_z-of_z at (c.set_acl.ensures naming c.args.connection s p m (lent _ _ p c.as_str-in-SetAcl.ensures t) im)))

pub returns-in-Delete : goal.returns-in-Delete
returns-in-Delete c = λ naming s x command m im live on room ot rf a.
    let f : FitsSigned w32 c.in-Delete.asked.version = search rules in
    serve_delete naming c.args.at.now c.args.connection s c.delete.new.self c.args.outputs.now _ c.in-Delete.asked command _ (rw (c.in-Delete.is) at rf) (rw (c.in-Delete.is) at a)
    (λ n p t. c.alone.ensures.answers s _ _ c.args.outputs.now _ room c.delete.ensures.room (simp to_z-of_z at (c.delete.ensures.performs naming s n p m (lent _ _ _ c.as_str-in-Delete.ensures t) im)))

pub returns-in-SetContent : goal.returns-in-SetContent
returns-in-SetContent c = λ naming s x command m im live on room ot rf a.
    serve_set_content naming c.args.at.now c.args.connection s c.set_content.new.self c.args.outputs.now _ c.in-SetContent.asked command _ (rw (c.in-SetContent.is) at a)
    (λ p t. c.alone-in-SetContent.ensures.answers s _ _ c.args.outputs.now _ room c.set_content.ensures.room (c.set_content.ensures.performs naming s p m t im))

pub returns-in-SetWatches : goal.returns-in-SetWatches
returns-in-SetWatches c = λ naming s x command m im live on room ot rf a.
    serve_set_watches naming c.args.at.now c.args.connection s c.set_watches.new.self c.args.outputs.now _ c.in-SetWatches.asked command _ (rw (c.in-SetWatches.is) at a)
    (λ p q r t u v. c.set_watches.ensures naming c.args.at.now s p q r m t u v)

pub returns-in-Ping : goal.returns-in-Ping
returns-in-Ping c = λ naming s x command m im live on room ot rf a.
    serve_ping naming c.args.at.now c.args.connection s c.args.self.now c.args.outputs.now command m room (rw (c.in-Ping.is) at a)

pub returns-in_ok-end_session-in-Close : goal.returns-in_ok-end_session-in-Close
returns-in_ok-end_session-in-Close c = λ naming s x command m im live on room ot rf a.
    serve_close naming c.args.at.now c.args.connection s x c.end_session.new.self c.args.outputs.now _ command live on (rw (c.in-Close.is) at a) (c.in_ok-end_session-in-Close.ensures.ended s x m im live) (c.in_ok-end_session-in-Close.ensures.events s x m im live) c.in_ok-end_session-in-Close.ensures.room

pub returns-in_err-end_session-in-Close : goal.returns-in_err-end_session-in-Close
returns-in_err-end_session-in-Close c = λ naming s x command m im live on room ot rf a.
    out_of_memory s _ c.args.self.now _ c.args.outputs.now _ _ _ m c.in_err-end_session-in-Close.ensures.memory c.from_residual.ensures.1

pub returns-in-Create : goal.returns-in-Create
returns-in-Create c = λ naming s x command m im live on room ot rf a.
    absurd (elim c.in-Create.is [
      | inl w ↦ not_create c.args.request.now false w.0 w.1 ot
      | inr u ↦ elim u [
        | inl w ↦ not_create c.args.request.now true w.0 w.1 ot
        | inr v ↦ elim v [
          | inl w ↦ not_multi c.args.request.now w.0 w.1 ot
          | inr y ↦ elim y [
            | inl w ↦ not_auth c.args.request.now w.0 w.1 rf
            | inr w ↦ not_unknown c.args.request.now w.0 w.1 w.2 rf
          ]
        ]
      ]
    ])
