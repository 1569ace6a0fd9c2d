-- A request is carried out: the image is written as its act asks, and the reply says so.
-- Assumes nothing.
use Rattle.slave.proofs.Acts.{read_done, one_done, run_done}
use Rattle.slave.proofs.decide.Request.carry_out.Goals as goal
use Rattle.slave.proofs.decide.Request.carry_out.Goals.{in-Read, in-WriteOne, in-WriteRun}

pub returns : goal.returns
returns c =
    let a = c.args in
    let told = c.reply_length.ensures in
    elim c.match-self.branch [
      | in-Read w ↦ read_done c.requires a.own a.image.now a.reply.now _ _ _ told w.in-Read.is (rw w.reply-is w.read.ensures) w.image-is
      | in-WriteOne w ↦
          one_done c.requires a.own a.image.now a.reply.now _ _ _ told w.in-WriteOne.is
          (rw (w.image-is, ← w.number_at.ensures) w.store_one.ensures) (rw w.reply-is w.echo_whole.ensures)
      | in-WriteRun w ↦
          run_done c.requires a.own a.image.now a.reply.now _ _ _ told w.in-WriteRun.is
          (rw w.image-is w.store_run.ensures) (rw w.reply-is w.echo.ensures)
    ]
