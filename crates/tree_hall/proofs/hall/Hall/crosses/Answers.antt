use Rattle.std.proofs.Common.{rules}
use denote.Param.{param}
use denote.Param.Send.{IsSend, IsSync, sendable, struct_sync_at, struct_send_at, recorded_send_of, recorded_send_at}
use denote.Struct.Struct.{Struct}
use denote.Struct.Declared.{shape, row}
use Rattle.atomic_table.specs.contracts.owned.Table as Table
use Rattle.std.specs.contracts.alloc.Global as global
use Rattle.std.specs.contracts.impls.GlobalAllocator.TheImpl as heap
use Rattle.std.specs.contracts.option.Option as Option
use Rattle.std.specs.contracts.snapshot.Snapshot as Snapshot
use Rattle.tree_hall.specs.contracts.hall.Hall as Hall
use Rattle.tree_hall.specs.contracts.sleepers.Sleepers as Sleepers
use Rattle.tree_hall.specs.contracts.turns.Turns as Turns
use Rattle.tree_hall.specs.contracts.turns.TurnsTableRuleOptionDeskViewSnapshot.TheImpl as rule
use Rattle.tree_hall.specs.contracts.view.Desk as Desk
use Rattle.tree_hall.specs.contracts.view.View as View
use Rattle.tree_hall.proofs.hall.Hall.crosses.Goals as goal

global_sync : IsSync global.the_row
global_sync = search sendable depth 12

global_send : IsSend global.the_row
global_send = search sendable depth 12

pub returns-clause-shares : goal.returns-clause-shares
returns-clause-shares g c =
    let T = Hall.the_type (param 0 g.row.S) (param 1 g.row.B) g.S.StoreSide in
    record {
      shared = λ d. struct_sync_at (shape T) (T.to d)
          (c.shares.ensures.shared d.table, (c.shares-2.ensures.shared d.sleepers, (c.type_bounds.sync-B.shared d.bells, (global_sync.shared d.alloc, tt))));
    }

pub returns-clause-moves : goal.returns-clause-moves
returns-clause-moves g c =
    let T = Hall.the_type (param 0 g.row.S) (param 1 g.row.B) g.S.StoreSide in
    let A = Table.the_type (Option.the_row (Desk.the_row (param 0 g.row.S))) View.the_row (Snapshot.the_row (param 0 g.row.S)) Turns.the_row global.the_row
    (rule.ghosts (param 0 g.row.S) g.S.StoreSide rule.no_dict) heap.ghosts in
    let Z = Sleepers.the_type in
    let a : IsSend (row A) = search rules in
    let z : IsSend (row Z) = search rules in
    let s = c.type_bounds.send-B in
    recorded_send_of (Struct (shape T)) T.D T.to T.to_one (λ d. struct_send_at (shape T) (T.to d) (
      recorded_send_at (Struct (shape A)) A.D A.to A.to_one a d.table,
      (
        recorded_send_at (Struct (shape Z)) Z.D Z.to Z.to_one z d.sleepers,
        ((s.owned d.bells, λ k. s.leaving k d.bells), ((global_send.owned d.alloc, λ k. global_send.leaving k d.alloc), tt)),
      ),
    ))
