use Rattle.std.proofs.Common.{refl}
use Rattle.replay.specs.Private.{latest_as}
use Rattle.replay.proofs.Carrying.{put-done, put_late}
use Rattle.replay.proofs.desk.Desk.put.Goals as goal

pub returns-in-Ok : goal.returns-in-Ok
returns-in-Ok c =
    (refl, λ i. record { latest = latest_as c.args.self.now.latest; board = put-done c.args.self.now.board.rows c.args.o c.carry_out-self.result c.in-Ok.is c.carry_out-self.ensures i })

pub returns-in_default : goal.returns-in_default
returns-in_default c = (refl, λ i. record { latest = latest_as c.args.self.now.latest; board = put_late c.args.self.now.board.rows c.args.o c.in_default.is i })
