-- With too little room the outcome is ROOM; with room enough the plan at used_size comes to it.
use Rattle.std.proofs.Common.{arith}
use Rattle.edit.proofs.Laws.{admitted, decides_refused, no_room, at_end_formed, at_end-decided}
use Rattle.edit.proofs.decide.Admitted.at_end.Goals as goal

pub overflow_sub-room : goal.overflow_sub-room
overflow_sub-room c =
    let m = admitted _ _ _ c.args.self.list.read c.args.self.admitted in
    rw m.header m.sound.header.sizes.used

pub returns-then-room-padding : goal.returns-then-room-padding
returns-then-room-padding c =
    let m = admitted _ _ _ c.args.self.list.read c.args.self.admitted in
    let d = decides_refused _ _ _ _ _ (no_room _ _ _ m _ _ _ _ (omega arith)) in
    record { decides = d.0; value = d.1 }

pub with_checksum-requires : goal.with_checksum-requires
with_checksum-requires c =
    let m = admitted _ _ _ c.args.self.list.read c.args.self.admitted in
    rw c.at_end-p.ensures (at_end_formed _ _ _ m _ _ _ _ c.requires.0 (omega arith) c.requires.2 (omega arith))

pub returns : goal.returns
returns c =
    let m = admitted _ _ _ c.args.self.list.read c.args.self.admitted in
    let d = at_end-decided _ _ _ m c.args.self.bytes _ _ _ _ c.requires.0 (omega arith) c.requires.2 (omega arith) in
    record {
      decides = rw (c.with_checksum.ensures, c.at_end-p.ensures) d.0;
      value = rw (c.with_checksum.ensures, c.at_end-p.ensures) d.1;
    }
