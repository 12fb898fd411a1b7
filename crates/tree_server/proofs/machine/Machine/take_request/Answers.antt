use Rattle.std.proofs.Common.{sym, subst, rules, w32, w64, FitsSigned}
use Rattle.std.proofs.lemmas.Int.{to_z-of_z}
use Rattle.store_side.specs.Past.{Past, state_of}
use Rattle.tree_server.specs.declared.request.Origin.{Origin}
use Rattle.tree_server.specs.Machines.{Stands, Took}
use Rattle.tree_server.proofs.RequestRefused.{if_err, not_read, not_taken, short_parts}
use Rattle.tree_server.proofs.RequestTaken.{taken}
use Rattle.tree_server.proofs.machine.Machine.take_request.Goals as goal

pub returns-in_err-xid-clause-refused : goal.returns-in_err-xid-clause-refused
returns-in_err-xid-clause-refused g c =
    if_err c.from_residual.result c.in_err-xid.field-0.0 _ c.from_residual.ensures.1
    (λ past h on. (not_read past c.args.connection c.args.session c.args.now c.args.body.now _ on c.in_err-xid.ensures.refused, h))

pub may_take-requires : goal.may_take-requires
may_take-requires g c = short_parts c.in_ok-xid.xid c.in_ok-xid.request c.args.body.now c.requires.short c.in_ok-xid.ensures.read

pub returns-in_err-may_take-clause-refused : goal.returns-in_err-may_take-clause-refused
returns-in_err-may_take-clause-refused g c =
    if_err c.from_residual-in_err-may_take.result c.in_err-may_take.field-0.0 _ c.from_residual-in_err-may_take.ensures.1
    (λ past h on. (
      not_taken _ _ _ _ c.args.self.now.books past c.args.connection c.args.session c.in_ok-xid.xid c.args.now c.in_ok-xid.request
          c.args.body.now _ h on c.in_ok-xid.ensures.read
          (c.in_err-may_take.ensures.cannot (state_of past) h.means),
      h,
    ))

pub ask-requires-clause-short : goal.ask-requires-clause-short
ask-requires-clause-short g c = short_parts c.in_ok-xid.xid c.in_ok-xid.request c.args.body.now c.requires.short c.in_ok-xid.ensures.read

pub returns-clause-taken : goal.returns-clause-taken
returns-clause-taken g c = λ past h on.
    let e : FitsSigned w64 c.args.session = c.ranges.session in
    let f : FitsSigned w64 c.args.now = c.ranges.now in
    let x : FitsSigned w32 c.in_ok-xid.xid = search rules in
    let from : Origin = record { connection = c.args.connection; session = c.args.session; time = c.args.now; xid = c.in_ok-xid.xid } in
    let asked = simp to_z-of_z at c.in-Ok.ensures.asked in
    let kept = simp to_z-of_z at c.keep.ensures.kept in
    subst (λ t. (new : Past) × Took past c.args.connection c.args.now c.args.body.now c.keep.result.outputs c.keep.result.moved
    c.keep.result.ending new
    × Stands (g.N.Numberer.named t.numberer) (g.J.Keeping.keeps c.keep.new.self.journal) (g.J.Keeping.room c.keep.new.self.journal) t.held
    c.keep.new.self.books new)
    (sym c.keep.ensures.tree)
    (taken (g.N.Numberer.named c.args.self.now.tree.numberer) _ (g.J.Keeping.keeps c.args.self.now.journal)
    (g.J.Keeping.keeps c.ask.new.self.journal) (g.J.Keeping.keeps c.keep.new.self.journal)
    _ _ _ c.args.self.now.tree.held c.ask.new.self.tree.held c.args.self.now.books c.ask.new.self.books c.keep.new.self.books past from
    c.in_ok-xid.request c.args.body.now
    c.in-Ok.outputs _ _ _ h on c.requires.time (g.met.N.Numberer.keeps c.args.self.now.tree.numberer) c.ask.ensures.names
    c.in_ok-xid.ensures.read c.requires.short
    (c.in_ok-may_take.ensures.may (state_of past) h.means) (λ command a. asked past command h on a) c.ask.ensures.kept c.in-Ok.ensures.room
    kept c.keep.ensures.room
    (record {
      same_asked = c.ask.ensures.books;
      entries_are = c.keep.ensures.entries;
      closed = c.keep.ensures.closed;
      heard = c.keep.ensures.heard;
      same_kept = c.keep.ensures.books;
    }) c.keep.ensures.outputs c.keep.ensures.moved c.keep.ensures.ending)
