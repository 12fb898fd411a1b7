use Rattle.std.proofs.Common.{◌≡◌, ◌∙◌, length}
use Rattle.tree_server.proofs.Framed.{length_room, frame_put}
use Rattle.tree_server.proofs.sending.put_frame.Goals as goal

pub set_int-requires : goal.set_int-requires
set_int-requires c =
    let start : c.len-start.result ≡ length c.args.into.now.items = c.len-start.ensures ∙ c.args.into.now.ok.0 in
    length_room _ _ _ _ _ start c.in_ok-put_int.ensures c.in_ok-write_message.ensures.ok

pub returns-clause-ok : goal.returns-clause-ok
returns-clause-ok c =
    let size = c.in-Ok.ensures in
    let start : c.len-start.result ≡ length c.args.into.now.items = c.len-start.ensures ∙ c.args.into.now.ok.0 in
    let body : c.len-body.result ≡ length c.put_int.new.into.items = c.len-body.ensures ∙ c.put_int.new.into.ok.0 in
    let end : c.len.result ≡ length c.write_message.new.into.items = c.len.ensures ∙ c.write_message.new.into.ok.0 in
    frame_put _ _ _ _ _ _ _ _ _ start c.in_ok-put_int.ensures body c.in_ok-write_message.ensures.ok end size.0 size.1 c.set_int.ensures
